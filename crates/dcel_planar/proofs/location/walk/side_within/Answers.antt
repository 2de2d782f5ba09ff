use Rattle.std.proofs.Common.{refl}
use Rattle.spade_dcel.specs.Handles.{mesh_behind, number_of}
use Rattle.dcel_planar.proofs.OnEdges.{crossing, told}
use Rattle.dcel_planar.proofs.location.walk.side_within.Goals as goal

pub returns-then-is_on_right_side-clause-beyond : goal.returns-then-is_on_right_side-clause-beyond
returns-then-is_on_right_side-clause-beyond g c =
    let m = c.args.dcel.now in
    let e = number_of c.args.edge in
    crossing m c.every_mesh.ensures c.args.point e c.side-found.result c.requires.live c.requires.inner
    (told m c.every_mesh.ensures (mesh_behind c.args.edge) c.args.point e e c.side-found.result c.requires.mesh refl c.side-found.ensures.lies)
    (c.is_on_right_side.ensures.0 c.if-is_on_right_side.true)

pub returns-clause-lies : goal.returns-clause-lies
returns-clause-lies g c =
    let m = c.args.dcel.now in
    let e = number_of c.args.edge in
    told m c.every_mesh.ensures (mesh_behind c.args.edge) c.args.point e e c.side-found.result c.requires.mesh refl c.side-found.ensures.lies
