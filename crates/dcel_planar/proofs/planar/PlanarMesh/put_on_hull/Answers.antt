use Rattle.std.proofs.Common.{append_assoc, subst, sym, inl, inr, refl, ◌++◌}
use Rattle.dcel_maps.specs.edits.Split.{half_edge_split}
use Rattle.dcel_maps.specs.Conditions.{IsTriangle}
use Rattle.dcel_maps.specs.Shapes.{Mesh, face_of}
use Rattle.dcel_predicates.specs.declared.point.Point.{Point}
use Rattle.dcel_plane.specs.Edges.{edges_half_split}
use Rattle.dcel_planar.specs.Growing.{HasHull, IsTriangleMesh, IsInsertionReason}
use Rattle.dcel_planar.proofs.Growth.{half_split-keeps}
use Rattle.dcel_planar.proofs.Hull.{half_split-hull, inner_side}
use Rattle.dcel_planar.proofs.OnEdges.{on_edge_across}
use Rattle.dcel_planar.proofs.Puts.{put_back, put_gains, put_holds, put_lists, stays_hull, stays_listed, stays_triangulated}
use Rattle.dcel_planar.proofs.Sound.{half_split-lists, same_triangle, half_split-triangulated}
use Rattle.dcel_planar.proofs.Ends.{half_is_split, put_data}
use Rattle.dcel_plane.specs.Plane.{point_at}
use Rattle.dcel_plane.specs.star.Star.{HasEmptyCirclesBut}
use Rattle.dcel_planar.proofs.OthersEmpty.{half_split-empty}
use Rattle.dcel_planar.proofs.planar.PlanarMesh.put_on_hull.Goals as goal

pub returns-in_default-clause-refused : goal.returns-in_default-clause-refused
returns-in_default-clause-refused g c = (
  subst (IsInsertionReason c.args.self.now.dcel.shape) (sym c.take_back.ensures.answer) tt,
  record {
    mesh = (put_back c.args.self.now.dcel _ _ _ c.args.point _ c.every_mesh.ensures c.args.self.now.triangulated.closed c.in_ok-vertex.ensures.edit
        c.in_ok-vertex.ensures.answer c.in_default.ensures.refused c.take_back.ensures.edit);
    due = c.reserve.ensures.items;
  },
)

pub returns-in_default-clause-lists : goal.returns-in_default-clause-lists
returns-in_default-clause-lists g c = stays_listed c.args.self.now.dcel _ c.args.self.now.due.items _ (put_back c.args.self.now.dcel _ _ _ c.args.point _ c.every_mesh.ensures c.args.self.now.triangulated.closed c.in_ok-vertex.ensures.edit
    c.in_ok-vertex.ensures.answer c.in_default.ensures.refused c.take_back.ensures.edit) c.reserve.ensures.items

pub returns-clause-edge_data : goal.returns-clause-edge_data
returns-clause-edge_data g c =
    put_data (λ m v h e f. half_edge_split m c.args.edge v h e f) (λ m v h e f. refl) _ _ _ 2 1 c.args.self.now.dcel _ _ c.args.point _
    c.in_ok-vertex.ensures.edit c.in-Ok.ensures.edit

pub returns-clause-lists : goal.returns-clause-lists
returns-clause-lists g c =
    let inside = inner_side c.args.self.now.dcel c.every_mesh.ensures c.args.self.now.triangulated c.requires.hull c.args.edge c.requires.place.0 c.requires.outer in
    let near = on_edge_across c.args.self.now.dcel c.every_mesh.ensures c.args.self.now.triangulated.triangles c.args.self.now.triangulated.plane c.args.edge c.requires.place.0 inside c.args.point c.requires.place.1 in
    let old = c.args.self.now.dcel in
    let due = c.args.self.now.due.items in
    put_lists (λ m v h e f. half_edge_split m c.args.edge v h e f) _ _ _ 2 1 old _ _ c.args.point _ due (edges_half_split old.shape c.args.edge) _
    (λ lacking h e f mid done. half_split-lists old c.every_mesh.ensures c.args.point mid h e f c.args.edge (due ++ lacking) c.requires.place.0 near.triangle inside c.requires.outer done)
    c.in_ok-vertex.ensures.edit c.in_ok-vertex.ensures.answer c.in-Ok.ensures.edit c.in_ok-vertex.ensures.mesh c.split_half_edge.ensures.mesh
    (rw (
      c.push_reserved-5.ensures.items,
      c.push_reserved-4.ensures.items,
      c.push_reserved-3.ensures.items,
      c.push_reserved-2.ensures.items,
      c.push_reserved.ensures.items,
      c.reserve.ensures.items,
      c.new-2.ensures,
      c.new.ensures,
      c.as_undirected.ensures,
      c.num_undirected_edges-count.ensures.count,
      c.edges_next_to-sides.ensures,
    ) (simp append_assoc))

pub returns-clause-gains : goal.returns-clause-gains
returns-clause-gains g c =
    put_gains (λ m v h e f. half_edge_split m c.args.edge v h e f) (λ m closed v h e f. half_split-keeps m closed c.args.edge v h e f) _ _ _ 2 1 c.args.self.now.dcel _ _ c.args.point _
    c.args.self.now.triangulated.closed c.in_ok-vertex.ensures.edit c.in_ok-vertex.ensures.answer c.in-Ok.ensures.edit

pub returns-clause-split : goal.returns-clause-split
returns-clause-split g c =
    half_is_split _ _ c.args.self.now.dcel _ _ c.args.point c.args.edge _ c.every_mesh.ensures c.args.self.now.triangulated.closed c.requires.place.0 c.in_ok-vertex.ensures.edit _ c.in-Ok.ensures.edit

pub returns-clause-hull : goal.returns-clause-hull
returns-clause-hull g c =
    let inside = inner_side c.args.self.now.dcel c.every_mesh.ensures c.args.self.now.triangulated c.requires.hull c.args.edge c.requires.place.0 c.requires.outer in
    let near = on_edge_across c.args.self.now.dcel c.every_mesh.ensures c.args.self.now.triangulated.triangles c.args.self.now.triangulated.plane c.args.edge c.requires.place.0 inside c.args.point c.requires.place.1 in
    let old = c.args.self.now.dcel in
    put_holds (λ m. HasHull m) (λ m v h e f. half_edge_split m c.args.edge v h e f) _ _ _ 2 1 old _ _ c.args.point _
    (λ h e f mid done.
    half_split-hull old c.every_mesh.ensures c.args.point c.args.self.now.triangulated c.requires.hull mid h e f c.args.edge c.requires.place.0 near.triangle inside c.requires.outer
    near.across c.requires.place.1 done)
    c.in_ok-vertex.ensures.edit c.in_ok-vertex.ensures.answer c.in-Ok.ensures.edit c.in_ok-vertex.ensures.mesh c.split_half_edge.ensures.mesh

pub invariant_of-self-in_default-clause-triangulated : goal.invariant_of-self-in_default-clause-triangulated
invariant_of-self-in_default-clause-triangulated g c =
    stays_triangulated c.args.self.now.dcel _
    (put_back c.args.self.now.dcel _ _ _ c.args.point _ c.every_mesh.ensures c.args.self.now.triangulated.closed c.in_ok-vertex.ensures.edit
    c.in_ok-vertex.ensures.answer c.in_default.ensures.refused c.take_back.ensures.edit)
    c.args.self.now.triangulated

pub invariant_of-self-in_default-clause-outlined : goal.invariant_of-self-in_default-clause-outlined
invariant_of-self-in_default-clause-outlined g c = ∣ inr (inl (stays_hull c.args.self.now.dcel _
    (put_back c.args.self.now.dcel _ _ _ c.args.point _ c.every_mesh.ensures c.args.self.now.triangulated.closed c.in_ok-vertex.ensures.edit
    c.in_ok-vertex.ensures.answer c.in_default.ensures.refused c.take_back.ensures.edit)
    c.requires.hull)) ∣₁

pub invariant_of-self-2-clause-triangulated : goal.invariant_of-self-2-clause-triangulated
invariant_of-self-2-clause-triangulated g c =
    let inside = inner_side c.args.self.now.dcel c.every_mesh.ensures c.args.self.now.triangulated c.requires.hull c.args.edge c.requires.place.0 c.requires.outer in
    let near = on_edge_across c.args.self.now.dcel c.every_mesh.ensures c.args.self.now.triangulated.triangles c.args.self.now.triangulated.plane c.args.edge c.requires.place.0 inside c.args.point c.requires.place.1 in
    let old = c.args.self.now.dcel in
    put_holds (λ m. IsTriangleMesh m) (λ m v h e f. half_edge_split m c.args.edge v h e f) _ _ _ 2 1 old _ _ c.args.point _
    (λ h e f mid done.
    half_split-triangulated old c.every_mesh.ensures c.args.point mid h e f c.args.edge c.args.self.now.triangulated c.requires.place.0 near.triangle inside c.requires.outer
    near.across)
    c.in_ok-vertex.ensures.edit c.in_ok-vertex.ensures.answer c.in-Ok.ensures.edit c.in_ok-vertex.ensures.mesh c.split_half_edge.ensures.mesh

pub invariant_of-self-2-clause-outlined : goal.invariant_of-self-2-clause-outlined
invariant_of-self-2-clause-outlined g c =
    let inside = inner_side c.args.self.now.dcel c.every_mesh.ensures c.args.self.now.triangulated c.requires.hull c.args.edge c.requires.place.0 c.requires.outer in
    let near = on_edge_across c.args.self.now.dcel c.every_mesh.ensures c.args.self.now.triangulated.triangles c.args.self.now.triangulated.plane c.args.edge c.requires.place.0 inside c.args.point c.requires.place.1 in
    let old = c.args.self.now.dcel in
    ∣ inr (inl (put_holds (λ m. HasHull m) (λ m v h e f. half_edge_split m c.args.edge v h e f) _ _ _ 2 1 old _ _ c.args.point _
    (λ h e f mid done.
    half_split-hull old c.every_mesh.ensures c.args.point c.args.self.now.triangulated c.requires.hull mid h e f c.args.edge c.requires.place.0 near.triangle inside c.requires.outer
    near.across c.requires.place.1 done)
    c.in_ok-vertex.ensures.edit c.in_ok-vertex.ensures.answer c.in-Ok.ensures.edit c.in_ok-vertex.ensures.mesh c.split_half_edge.ensures.mesh)) ∣₁

pub split_half_edge-requires-clause-triangle : goal.split_half_edge-requires-clause-triangle
split_half_edge-requires-clause-triangle g c =
    let inside = inner_side c.args.self.now.dcel c.every_mesh.ensures c.args.self.now.triangulated c.requires.hull c.args.edge c.requires.place.0 c.requires.outer in
    let near = on_edge_across c.args.self.now.dcel c.every_mesh.ensures c.args.self.now.triangulated.triangles c.args.self.now.triangulated.plane c.args.edge c.requires.place.0 inside c.args.point c.requires.place.1 in
    let old = c.args.self.now.dcel in
    subst (λ (m : Mesh Point (Unit {0}) g.row.UE.Denot (Unit {0})). IsTriangle m.shape (face_of m.shape c.args.edge)) (sym c.in_ok-vertex.ensures.edit)
    (same_triangle old c.every_mesh.ensures c.args.point (face_of old.shape c.args.edge) near.triangle)

pub returns-clause-circles : goal.returns-clause-circles
returns-clause-circles g c = λ empty.
    let inside = inner_side c.args.self.now.dcel c.every_mesh.ensures c.args.self.now.triangulated c.requires.hull c.args.edge c.requires.place.0 c.requires.outer in
    let near = on_edge_across c.args.self.now.dcel c.every_mesh.ensures c.args.self.now.triangulated.triangles c.args.self.now.triangulated.plane c.args.edge c.requires.place.0 inside c.args.point c.requires.place.1 in
    let old = c.args.self.now.dcel in
    put_holds (λ m. HasEmptyCirclesBut (point_at m) m.shape c.args.self.now.dcel.shape.vertices) (λ m v h e f. half_edge_split m c.args.edge v h e f) _ _ _ 2 1 old _ _ c.args.point _
    (λ h e f mid done.
    half_split-empty old c.every_mesh.ensures c.args.point empty mid h e f c.args.edge c.args.self.now.triangulated.plane c.requires.place.0 near.triangle inside c.requires.outer
    near.across c.requires.place.1)
    c.in_ok-vertex.ensures.edit c.in_ok-vertex.ensures.answer c.in-Ok.ensures.edit c.in_ok-vertex.ensures.mesh c.split_half_edge.ensures.mesh
