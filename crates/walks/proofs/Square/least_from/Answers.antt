use Rattle.std.proofs.Common.{◌≡◌, ◌*◌, ◌^◌, ◌%◌, arith, eq-eqb, ne_eqb}
use Rattle.std.proofs.lemmas.Nat.{one_shl}
use Rattle.walks.specs.Sets.{alone, has_not, has_set, alone_le}
use Rattle.walks.specs.Filled.{least_from}
use Rattle.walks.proofs.Square.least_from.Goals as goal
use Rattle.walks.proofs.Square.least_from.Goals.{Start}

-- the set of position j alone
own : (c : Start) → 1 * 2 ^ c.args.j % 2 ^ 64 ≡ alone c.args.j
own c = one_shl c.args.j 64 (omega arith)

pub returns-then-s-j-eq0 : goal.returns-then-s-j-eq0
unfolding least_from
returns-then-s-j-eq0 c = rw (has_not c.args.s c.args.j c.if-s-j-eq0.true)

pub overflow_sub-rest : goal.overflow_sub-rest
overflow_sub-rest c =
    rw (own (goal.at.overflow_sub-rest c).Start) (alone_le c.args.s c.args.j (has_set c.args.s c.args.j c.if-s-j-eq0.false))

pub returns-then-rest-eq0 : goal.returns-then-rest-eq0
unfolding least_from
returns-then-rest-eq0 c =
    rw (has_set c.args.s c.args.j c.if-s-j-eq0.false, ← own (goal.at.returns-then-rest-eq0 c).Start, eq-eqb _ 0 c.if-rest-eq0.true)

pub returns-else-rest-eq0 : goal.returns-else-rest-eq0
unfolding least_from
returns-else-rest-eq0 c =
    rw (has_set c.args.s c.args.j c.if-s-j-eq0.false, ← own (goal.at.returns-else-rest-eq0 c).Start, ne_eqb _ 0 c.if-rest-eq0.false) c.onward.ensures
