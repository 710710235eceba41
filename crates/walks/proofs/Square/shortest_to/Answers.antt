use Rattle.std.proofs.Common.{◌≡◌, ◌-◌, ◌*◌, ◌≤◌, ◌<◌, ◌^◌, ◌%◌, length, refl, arith, ◌∙◌}
use Rattle.std.proofs.lemmas.Nat.{one_shl, pow_pos}
use Rattle.walks.specs.Sets.{alone, sets_few}
use Rattle.walks.specs.Square.{row_at, guard_in}
use Rattle.walks.specs.Filled.{filled_none, filled_more}
use Rattle.walks.specs.Joined.{shortest_joined}
use Rattle.walks.proofs.Square.shortest_to.Goals as goal
use Rattle.walks.proofs.Square.shortest_to.Goals.{Start}

few : (c : Start) → c.args.last < 8
few c = omega (arith, c.requires.inside, c.args.self.now.sized.1)

room : (c : Start) → alone c.args.last ≤ length c.args.walks.now
room c = omega (arith, c.requires.room, sets_few c.args.last (c.args.self.now.size - 1) (omega (arith, c.requires.inside)))

-- so many sets
sets : (c : Start) → 1 * 2 ^ c.args.last % 2 ^ 64 ≡ alone c.args.last
sets c = one_shl c.args.last 64 (omega (arith, few c))

pub loop-s-init : goal.loop-s-init
loop-s-init c = (refl, filled_none (guard_in c.args.self.now.guards) _ c.args.walks.now c.requires.blank (omega (arith, room (goal.at.loop-s-init c).Start, pow_pos c.args.last)))

pub fill_set-requires : goal.fill_set-requires
fill_set-requires c =
    let start = (goal.at.fill_set-requires c).Start in
    let here : c.loop-s.s < length c.loop-s.walks = omega (arith, room start, sets start, c.loop-s.invariant.0) in
    (few start, here, c.loop-s.invariant.1.left.rows c.loop-s.s (omega arith) here)

pub loop-s-preserved : goal.loop-s-preserved
loop-s-preserved c =
    (c.fill_set.ensures.long ∙ c.loop-s.invariant.0, filled_more (guard_in c.args.self.now.guards) _ c.loop-s.s c.args.self.now.guards c.loop-s.walks _ (λ j i h l. refl) c.loop-s.invariant.1 (omega (arith, few (goal.at.loop-s-preserved c).Start)) c.fill_set.ensures)

pub least_joined-requires : goal.least_joined-requires
least_joined-requires c =
    let start = (goal.at.least_joined-requires c).Start in
    (few start, omega (arith, sets start, pow_pos c.args.last), omega (arith, room start, sets start, c.loop-s.invariant.0))

pub returns : goal.returns
returns c =
    let square = c.args.self.now.guards in
    let start = (goal.at.returns c).Start in
    shortest_joined (guard_in square) (row_at square c.args.last) c.loop-s.walks c.args.last c.args.self.now.size c.loop-s.s _ _ c.args.self.now.walkable c.requires.inside (few start) c.loop-s.invariant.1 (λ i h. refl) c.loop-s-test.false (sets start) c.least_joined.ensures
