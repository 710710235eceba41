-- What the arguments of the ask program ask for (RULES 26). Assumes nothing.
use Rattle.std.specs.Prelude.{ℕ, ◌≤◌, ◌<◌, ◌≡◌, List, length}
use Rattle.rules.specs.Tables.{Lent}
use Rattle.rules.specs.Text.{signed}
use Rattle.rules.specs.Program.{refusal_text, on_sheet}
use Rattle.rules.specs.Asking.{why_text, judge_text, ordered_text, no_label_text, bad_label_text, no_anchor_text, bad_anchor_text, words_text, order_asked, asked}
use Rattle.sheet_laws.specs.Grid.{lowered}
use Rattle.questions.specs.declared.Topic.{Topic}
use Rattle.questions.specs.declared.Topic.TheVariants.{Reason, Verdict, Order}
use Rattle.questions.specs.declared.Question.{Question}
use Rattle.questions.specs.declared.Question.TheVariants.{Sheet, NoLabel, BadLabel, NoAnchor, BadAnchor, NoWord}

-- what is made of a sheet that was read, where the second argument is given
abbrev pub topic_text : List ℕ → Topic → ℕ → List ℕ → Lent → List ℕ → List ℕ
topic_text second Reason = why_text second
topic_text second Verdict = judge_text
topic_text second (Order anchor) = ordered_text (lowered anchor)

-- the label of a path has at most 8 bytes, and an anchor is counted from -100,000
abbrev pub Fit : List ℕ → Topic → Type 0
Fit second Reason = length second ≤ 8
Fit second Verdict = Unit {0}
Fit second (Order anchor) = anchor < 200000

-- a question is what is asked: for every input the answer is that of the question
abbrev pub Asks : ℕ → List ℕ → List ℕ → Question → Type 0
Asks count first second (Sheet topic) = ((input : List ℕ) → asked count first second input ≡ on_sheet refusal_text (topic_text second topic) input) × Fit second topic
Asks count first second NoLabel = (input : List ℕ) → asked count first second input ≡ no_label_text
Asks count first second BadLabel = (input : List ℕ) → asked count first second input ≡ bad_label_text
Asks count first second NoAnchor = (input : List ℕ) → asked count first second input ≡ no_anchor_text
Asks count first second BadAnchor = (input : List ℕ) → asked count first second input ≡ bad_anchor_text
Asks count first second NoWord = (input : List ℕ) → asked count first second input ≡ words_text

-- what an anchor asks for, as an argument: something of a sheet, or it is none
abbrev pub AsksOrder : List ℕ → Question → Type 0
AsksOrder second (Sheet topic) = ((input : List ℕ) → order_asked (signed second) input ≡ on_sheet refusal_text (topic_text second topic) input) × Fit second topic
AsksOrder second BadAnchor = (input : List ℕ) → order_asked (signed second) input ≡ bad_anchor_text
AsksOrder second NoLabel = ⊥
AsksOrder second BadLabel = ⊥
AsksOrder second NoAnchor = ⊥
AsksOrder second NoWord = ⊥
