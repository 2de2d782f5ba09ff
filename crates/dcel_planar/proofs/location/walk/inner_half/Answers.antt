use Rattle.std.proofs.Common.{◌≡◌, rules}
use Rattle.dcel_maps.specs.Shapes.{face_of}
use Rattle.spade_dcel.specs.Handles.{number_of}
use Rattle.dcel_planar.proofs.Hull.{inner_rev}
use Rattle.dcel_planar.proofs.location.walk.inner_half.Goals as goal

pub returns-then-is_outer_edge-clause-inner : goal.returns-then-is_outer_edge-clause-inner
returns-then-is_outer_edge-clause-inner g c =
    let m = c.args.dcel.now in
    let h = number_of c.args.edge in
    let outer : face_of m.shape h ≡ 0 = search rules in
    rw (c.rev.ensures.number) (inner_rev m c.every_mesh.ensures c.requires.triangulated c.requires.hull h c.requires.live outer)
