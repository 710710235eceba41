-- One byte less than 2,318 is too few to know the answer to an order sheet (OrderBytes): a text of 127 of the
-- longest lines and one of 22 bytes, whose m is no width, is refused 3; without its last byte, 11. Assumes
-- nothing.
use Prim.Native.Nat.{ℕ, zero, suc, ◌+◌, ◌≤◌, ◌<◌}
use Rattle.std.specs.Prelude.{◌≡◌, ◌≢◌, true, length, take, pos, negsuc}
use Rattle.std.proofs.Math.Path.{refl, ap}
use Rattle.std.proofs.Common.{sym, subst, ◌∙◌, zero-add}
use mathlib.Core.List.{List, [], ◌∷◌, ◌++◌, append_assoc, append-nil}
use native.Mathlib.Omega.{arith}
use Rattle.std.proofs.Math.ListN.{length-append}
use Rattle.std.proofs.Math.Seq.{take-append-add, take-append_seam}
use Rattle.rules.specs.declared.OrderRead.{OrderRead}
use Rattle.rules.specs.Tables.{cleared}
use Rattle.rules.specs.Text.{none, then, word, space, line_feed, order_word, is_digit, is_label_byte, run, is_plain, value_from, number, spell, numeral, signed_numeral}
use Rattle.rules.specs.Sheet.{is_row, Line, wrong, right, last_field}
use Rattle.rules.specs.Writing.{label_of, join_from, count_text}
use Rattle.rules.specs.Grid.{order_line, order_step, order_line_text}
use Rattle.rules.specs.Calls.{Left, order_reading}
use Rattle.table_laws.specs.Tables.{cleared_length, cleared_at}
use Rattle.sheet_laws.specs.Texts.{All, word_trip, label_trip}
use Rattle.sheet_laws.specs.Writes.{count_length, good_label}
use Rattle.sheet_laws.specs.Lines.{order_ill, order_width}
use Rattle.demands.specs.RoundTrip.{label_all}
use Rattle.demands.specs.LongestSheet.{longest_labels, longest_network, longest_starts, longest_writable, eight_bytes, join_exact}
use Rattle.demands.specs.OnLines.{FirstRight, start, more}
use Rattle.demands.specs.Orderable.{OrderTables}
use Rattle.demands.specs.LongestOrder.{longest_orderable, longest_line}
use Rattle.demands.specs.OrderForms.{ordered_line, order_trip, signed_trip}
use Rattle.demands.specs.OnOrderLines.{line_wrong}
use Rattle.demands.specs.OrderTrip.{laid, line_back}
use Rattle.demands.specs.OrderBack.{join_snoc}
use Rattle.demands.specs.OnOrdering.{ordering_halt}

-- lines that lead from one state of the tables to the next are right
first_back : {T : Type 0} (step : ℕ → T → List ℕ → Line T) (n : ℕ) (state : ℕ → T) (text : ℕ → List ℕ)
    → ((k : ℕ) → k < n → (l : List ℕ) → step k (state k) (text k ++ l) ≡ right (state (suc k)) l)
    → (k : ℕ) → k ≤ n → (l : List ℕ) → FirstRight step (state 0) (join_from k 0 text ++ l) k (state k) l
unfolding join_from
first_back step n state text h zero b l = start
first_back step n state text h (suc k) b l =
    let e : join_from (suc k) 0 text ++ l ≡ join_from k 0 text ++ (text k ++ l)
    = ap (λ (u : List ℕ). u ++ l) (join_snoc k 0 text ∙ ap (λ (i : ℕ). join_from k 0 text ++ text i) (zero-add k)) ∙ append_assoc (join_from k 0 text) (text k) l in
    subst (λ (u : List ℕ). FirstRight step (state 0) u (suc k) (state (suc k)) l) (sym e)
    (more k (state k) (text k ++ l) (state (suc k)) l (first_back step n state text h k (omega arith) (text k ++ l)) (h k (omega arith) l))

-- the lines of paths 0 to 126, and the last one, with its line feed and without
lines127 : List ℕ
lines127 = join_from 127 0 (order_line_text (pos 1024) longest_labels (cleared 128 64) longest_starts)

name : List ℕ
name = label_of longest_labels 127

unended : List ℕ
unended = name ++ 32 ∷ (signed_numeral (negsuc 99998) ++ 32 ∷ numeral 12345)

under : List ℕ
under = cleared 128 0

tables : OrderTables (pos 1024) 128 longest_labels longest_network under
unfolding under
tables = let t = longest_orderable.tables in record { network = t.network; labels_size = t.labels_size; starts_size = cleared_length 128 0; anchored = t.anchored }

text : List ℕ → List ℕ
text last = count_text order_word 128 ++ (lines127 ++ last)

-- a last line that is wrong is the first line at fault
halts_last : (last : List ℕ) (x : ℕ) → order_step (pos 1024) longest_labels (cleared 128 64) 127 (laid 127 longest_starts under) last ≡ wrong x
    → (order_reading (pos 1024) (text last) 128 longest_labels longest_network under).answer.number ≡ x
unfolding text lines127
halts_last last x e =
    ap (λ (r : Left OrderRead (List ℕ)). r.answer.number)
    (ordering_halt (pos 1024) (text last) 128 longest_labels longest_network under tables x (2 + 127)
    (line_wrong (lines127 ++ last) (record { number = omega arith; text = refl }) 127 (laid 127 longest_starts under) last x (omega arith)
    (first_back (order_step (pos 1024) longest_labels (cleared 128 64)) 128 (λ k. laid k longest_starts under) (order_line_text (pos 1024) longest_labels (cleared 128 64) longest_starts)
    (line_back (pos 1024) 128 longest_labels longest_network longest_starts longest_orderable under tables.starts_size) 127 (omega arith) last) e))

good : (0 < length name) × (is_row longest_labels name 127 ≡ true)
unfolding name
good = good_label longest_labels 127 (longest_writable.formed 127 (omega arith))

all_bytes : All is_label_byte name
unfolding name
all_bytes = label_all longest_labels 127

eight : length name ≡ 8
unfolding name
eight = eight_bytes 127 (omega arith)

-- with its line feed it has the form, and an m that is no width
whole_line : order_step (pos 1024) longest_labels (cleared 128 64) 127 (laid 127 longest_starts under) (ordered_line name (negsuc 99998) 12345) ≡ wrong 3
whole_line =
    order_width (pos 1024) longest_labels (cleared 128 64) 127 (laid 127 longest_starts under) (ordered_line name (negsuc 99998) 12345) name (negsuc 99998) 12345 []
    (ap order_line (sym (append-nil (ordered_line name (negsuc 99998) 12345))) ∙ order_trip name (negsuc 99998) 12345 [] all_bytes good.0 (omega (arith, eight)) (omega arith) (omega arith))
    good.1 (λ e. omega (arith, cleared_at 128 64 127 (omega arith)))

-- without it, it has not the form
no_feed : last_field (32 ∷ numeral 12345) ≡ none
unfolding last_field then word number run is_digit is_plain value_from numeral spell
no_feed = refl

cut_line : order_step (pos 1024) longest_labels (cleared 128 64) 127 (laid 127 longest_starts under) unended ≡ wrong 11
cut_line = order_ill (pos 1024) longest_labels (cleared 128 64) 127 (laid 127 longest_starts under) unended ill
  where
    ill : order_line unended ≡ none
    ill = unfold unended order_line then is_label_byte is_digit in
        (let s : List ℕ = 32 ∷ numeral 12345 in
        rw (label_trip name 32 (signed_numeral (negsuc 99998) ++ s) all_bytes good.0 (omega (arith, eight)) refl, word_trip space (signed_numeral (negsuc 99998) ++ s), signed_trip (negsuc 99998) s (omega arith) refl, no_feed))

-- the first 2,317 bytes are all but that line feed
digits : (length (signed_numeral (negsuc 99998)) ≡ 6) × (length (numeral 12345) ≡ 5) × (length (numeral 128) ≡ 3)
unfolding signed_numeral numeral spell
digits = (refl, refl, refl)

cut_off : take 2317 (text (ordered_line name (negsuc 99998) 12345)) ≡ text unended
unfolding text
cut_off =
    ap (λ (k : ℕ). take k (C ++ (lines127 ++ last))) a ∙ take-append-add C (lines127 ++ last) 2307
    ∙ ap (λ (u : List ℕ). C ++ u) (ap (λ (k : ℕ). take k (lines127 ++ last)) b ∙ take-append-add lines127 last 21
    ∙ ap (λ (u : List ℕ). lines127 ++ u) ((λ i. take (c i) (d i)) ∙ take-append_seam unended line_feed))
  where
    C : List ℕ
    C = count_text order_word 128

    last : List ℕ
    last = ordered_line name (negsuc 99998) 12345

    a : 2317 ≡ length C + 2307
    a = omega (arith, count_length order_word 128, digits.2)

    b : 2307 ≡ length lines127 + 21
    b = unfold lines127 in (omega (arith, join_exact 18 127 0 (order_line_text (pos 1024) longest_labels (cleared 128 64) longest_starts) (λ k l. longest_line k (omega arith))))

    c : 21 ≡ length unended
    c = unfold unended in (omega (
      arith,
      length-append name (32 ∷ (signed_numeral (negsuc 99998) ++ 32 ∷ numeral 12345)),
      length-append (signed_numeral (negsuc 99998)) (32 ∷ numeral 12345),
      eight,
      digits.0,
      digits.1,
    ))

    d : last ≡ unended ++ line_feed
    d = unfold unended in (sym (append_assoc name (32 ∷ (signed_numeral (negsuc 99998) ++ 32 ∷ numeral 12345)) line_feed ∙ ap (λ (u : List ℕ). name ++ 32 ∷ u) (append_assoc (signed_numeral (negsuc 99998)) (32 ∷ numeral 12345) line_feed)))

pub one_byte_less : (t : List ℕ)
    × ((order_reading (pos 1024) t 128 longest_labels longest_network (cleared 128 0)).answer.number ≢ (order_reading (pos 1024) (take 2317 t) 128 longest_labels longest_network (cleared 128 0)).answer.number)
unfolding under
one_byte_less =
    let t = text (ordered_line name (negsuc 99998) 12345) in (
      t,
      λ e. omega (
        arith,
        e,
        halts_last (ordered_line name (negsuc 99998) 12345) 3 whole_line,
        halts_last unended 11 cut_line,
        ap (λ (u : List ℕ). (order_reading (pos 1024) u 128 longest_labels longest_network (cleared 128 0)).answer.number) cut_off,
      ),
    )
