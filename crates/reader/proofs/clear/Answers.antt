use Rattle.rules.specs.Tables.{cleared}
use Rattle.reader.proofs.clear.Goals as goal

pub returns : goal.returns
unfolding cleared
returns c = record {
  blank_labels = rw c.requires.labels_size_lem at (c.fill.ensures.after (λ y e. e));
  blank_widths = rw c.requires.widths_size_lem at (c.fill-2.ensures.after (λ y e. e));
  blank_guards = rw c.requires.guards_size_lem at (c.fill-3.ensures.after (λ y e. e));
  blank_starts = rw c.requires.starts_size_lem at (c.fill-4.ensures.after (λ y e. e));
}
