use Rattle.std.proofs.Common.{pos, w64, to_z, ◌≡◌, arith}
use Rattle.std.proofs.lemmas.Int.{ints}
use Rattle.dcel_refinement.proofs.Steps.{below_steps}
use Rattle.dcel_refinement.proofs.tangents.are_below.Goals as goal

pub returns-in-Some : goal.returns-in-Some
returns-in-Some c =
    let steps = c.args.steps in
    let held : to_z w64 steps ≡ pos steps = omega (arith, ints, c.requires) in
    below_steps c.in-Some.angle c.args.degrees (to_z w64 steps) steps held c.requires c.in-Some.ensures
