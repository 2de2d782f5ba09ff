use Rattle.std.proofs.Common.{◌≡◌, refl, arith}
use Rattle.dcel_maps.specs.Examples.{two_triangles}
use Rattle.dcel_maps.specs.Maps.{count, starts_edge}
use Rattle.dcel_maps.specs.Removals.{gives_up_edge, gives_up_face}
use Rattle.dcel_maps.specs.Shapes.{edge_is_live, face_is_live, face_count, map_of}
use Rattle.dcel_maps.proofs.laws.two_triangles_are_no_sphere.Goals as goal

pub returns : goal.returns
unfolding gives_up_edge gives_up_face starts_edge
returns c sphere =
    let formula = sphere.euler 0 refl in
    let vertices : count (starts_edge (map_of two_triangles)) 6 ≡ 6 = refl in
    let edges : count (edge_is_live two_triangles) 6 ≡ 6 = refl in
    let faces : count (face_is_live two_triangles) (face_count two_triangles) ≡ 4 = refl in
    absurd (omega (arith, formula, vertices, edges, faces))
