use Rattle.std.proofs.Common.{◌≡◌, ◌≢◌, arith}
use Rattle.dcel_maps.specs.Shapes.{face_count}
use Rattle.dcel_planar.proofs.Whole.{either_outside, flat_alone, hull_more}
use Rattle.dcel_delaunay.proofs.Lost.{inside_from}
use Rattle.dcel_delaunay.proofs.remove.remove_vertex.Goals as goal

pub remove_from_line-requires-clause-flat : goal.remove_from_line-requires-clause-flat
remove_from_line-requires-clause-flat g c =
    let m = c.args.mesh.now.dcel in
    let one : face_count m.shape ≡ 1 = omega (arith, c.num_faces.ensures.count) in
    flat_alone m c.requires.hull one

pub cut_out_corner-requires-clause-hull : goal.cut_out_corner-requires-clause-hull
cut_out_corner-requires-clause-hull g c =
    let m = c.args.mesh.now.dcel in
    let more : face_count m.shape ≢ 1 = λ one. omega (arith, c.num_faces.ensures.count, one) in
    hull_more m c.requires.hull more

pub cut_out-requires-clause-hull : goal.cut_out-requires-clause-hull
cut_out-requires-clause-hull g c =
    let m = c.args.mesh.now.dcel in
    let more : face_count m.shape ≢ 1 = λ one. omega (arith, c.num_faces.ensures.count, one) in
    hull_more m c.requires.hull more

pub cut_out-requires-clause-inside : goal.cut_out-requires-clause-inside
cut_out-requires-clause-inside g c = inside_from c.args.mesh.now.dcel c.args.vertex c.in-None.ensures.none

pub invariant_of-mesh-in-Some : goal.invariant_of-mesh-in-Some
invariant_of-mesh-in-Some g c =
    let out = c.cut_out_corner in
    record { triangulated = out.ensures.sound.triangulated; outlined = ∣ either_outside out.new.dcel out.new.due.items out.ensures.hull ∣₁ }
