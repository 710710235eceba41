use Rattle.std.proofs.Common.{◌∙◌}
use Rattle.questions.proofs.Arguments.{same_bytes}
use Rattle.questions.proofs.is_word.Goals as goal

pub returns : goal.returns
returns c = c.eq.ensures ∙ same_bytes c.args.arg.now c.args.w.now
