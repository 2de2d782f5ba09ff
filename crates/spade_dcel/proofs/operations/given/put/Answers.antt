use Rattle.std.proofs.Common.{◌<◌, length, slice_index, arith}
use Rattle.spade_dcel.proofs.Linked.{origins_below, sides_below}
use Rattle.spade_dcel.proofs.operations.given.put.Goals as goal

pub put_mesh-requires-clause-vertices_below : goal.put_mesh-requires-clause-vertices_below
put_mesh-requires-clause-vertices_below g c =
    λ h below.
    let inside : slice_index c.args.links.origin.now h < length c.args.given.vertices.items = origins_below _ c.args.prev.now c.requires.mesh h below in
    omega (arith, c.args.given.vertices.ok)

pub put_mesh-requires-clause-faces_below : goal.put_mesh-requires-clause-faces_below
put_mesh-requires-clause-faces_below g c =
    λ h below.
    let inside : slice_index c.args.links.face.now h < length c.args.given.faces.items = sides_below _ c.args.prev.now c.requires.mesh h below in
    omega (arith, c.args.given.faces.ok)
