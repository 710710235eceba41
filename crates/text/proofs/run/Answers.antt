use Rattle.std.proofs.Common.{◌≡◌, ◌∙◌, sym, ap, ℕ, length, drop, rules}
use Rattle.std.proofs.lemmas.Iterator.{YieldsList-from_slice}
use Rattle.std.proofs.lemmas.Iterator.Consumers.{count_from_yields_List}
use Rattle.std.proofs.lemmas.Iterator.Search.{YieldsList-from_take_while}
use Rattle.std.proofs.lemmas.List.Folds.{length-prefix_len}
use Rattle.rules.specs.Text.{run}
use Rattle.sheet_laws.specs.Texts.{run_take}
use Rattle.text.proofs.Fields.{run_length}
use Rattle.text.proofs.run.Goals as goal

pub returns : goal.returns
returns g c = λ p says.
    let s = c.args.text.now in
    let end : c.count-end.result ≡ length (run p s) = count_from_yields_List c.take_while.result _ c.count-end.ensures.ran
    (YieldsList-from_take_while _ p (YieldsList-from_slice s (cc)) c.take_while.ensures.closure c.take_while.ensures.done (λ x b q k. search (rules, says)))
    ∙ length-prefix_len p s ∙ sym (run_length p s) in
    (c.split_at.ensures.front ∙ rw end (sym (run_take p s)), c.split_at.ensures.back ∙ ap (λ (n : ℕ). drop n s) end)
