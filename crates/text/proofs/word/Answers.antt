use Rattle.text.proofs.Fields.{word_is}
use Rattle.text.proofs.word.Goals as goal

pub returns : goal.returns
returns c = word_is _ _ _ c.strip_prefix.ensures.cases
