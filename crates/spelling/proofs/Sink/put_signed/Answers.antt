use Rattle.sheet_laws.specs.Grid.{spelled_below}
use Rattle.spelling.proofs.Sink.put_signed.Goals as goal

pub returns-then-u-lt-ZERO : goal.returns-then-u-lt-ZERO
returns-then-u-lt-ZERO g c = rw (spelled_below c.args.u c.if-u-lt-ZERO.true) (g.met.Self.Sink.laws.both c.put_word.ensures c.put_number.ensures)
