use Rattle.console.specs.Kept.{Came, Took}
use Rattle.console.proofs.read_all.Given as goal

abbrev pub invariant-turns : goal.invariant-turns
invariant-turns g l = record {
  came : Came l.initial.text l.length l.text;
  took : Took (g.R.Read.remaining l.initial.input) (g.R.Read.remaining l.input) l.length l.text;
}
