use Rattle.std.proofs.Common.{arith}
use Rattle.rules.specs.Asking.{no_label_text, bad_label_text, no_anchor_text, bad_anchor_text, words_text}
use Rattle.questions.specs.Asks.{topic_text}
use Rattle.asking.proofs.Making.{made_asked, made_said}
use Rattle.asking.proofs.answer.Goals as goal
use Rattle.asking.proofs.answer.Goals.{in-NoLabel, in-BadLabel, in-NoAnchor, in-BadAnchor, in-NoWord}

pub returns-in-Sheet : goal.returns-in-Sheet
returns-in-Sheet c =
    made_asked _ _ _ _ _ _ _ c.requires.4 (omega (arith, c.sheet_answer.auto)) (topic_text c.args.second.now c.in-Sheet.topic) c.in-Sheet.ensures.0 c.sheet_answer.ensures.upper_bound c.sheet_answer.ensures.wrote

pub returns : goal.returns
unfolding no_label_text bad_label_text no_anchor_text bad_anchor_text words_text
returns c =
    elim c.match-asked_for.branch [
      | in-NoLabel w ↦ made_said _ _ _ _ _ _ _ c.requires.4 (omega (arith, c.put_text.auto)) no_label_text w.in-NoLabel.ensures (omega arith) (rw w.said-is at c.put_text.ensures)
      | in-BadLabel w ↦ made_said _ _ _ _ _ _ _ c.requires.4 (omega (arith, c.put_text.auto)) bad_label_text w.in-BadLabel.ensures (omega arith) (rw w.said-is at c.put_text.ensures)
      | in-NoAnchor w ↦ made_said _ _ _ _ _ _ _ c.requires.4 (omega (arith, c.put_text.auto)) no_anchor_text w.in-NoAnchor.ensures (omega arith) (rw w.said-is at c.put_text.ensures)
      | in-BadAnchor w ↦ made_said _ _ _ _ _ _ _ c.requires.4 (omega (arith, c.put_text.auto)) bad_anchor_text w.in-BadAnchor.ensures (omega arith) (rw w.said-is at c.put_text.ensures)
      | in-NoWord w ↦ made_said _ _ _ _ _ _ _ c.requires.4 (omega (arith, c.put_text.auto)) words_text w.in-NoWord.ensures (omega arith) (rw w.said-is at c.put_text.ensures)
    ]
