use Rattle.std.proofs.Common.{◌≡◌, ◌<◌, arith}
use Rattle.std.proofs.lemmas.Grind.{common_steps}
use Rattle.dcel_convenience.proofs.WaysOut.{unconnected}
use Rattle.dcel_convenience.proofs.anywhere.way_out.Goals as goal
use Rattle.dcel_maps.specs.Removals.{Closed}

pub returns-in-Nothing-clause-way : goal.returns-in-Nothing-clause-way
returns-in-Nothing-clause-way g c =
    let s = c.args.dcel.now.shape in
    let closed : s.removal ≡ Closed = grind (arith, common_steps) in
    let below : c.args.vertex < s.vertices = grind (arith, common_steps) in
    (closed, unconnected s c.args.vertex closed below c.in-Nothing.ensures)
