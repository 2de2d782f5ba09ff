use Rattle.std.proofs.Common.{append_assoc, arith, subst, sym, inl, inr, refl, ◌++◌}
use Rattle.std.proofs.lemmas.Grind.{common_steps}
use Rattle.dcel_maps.specs.edits.Triangle.{vertex_inserted}
use Rattle.dcel_plane.specs.Edges.{edges_inserted}
use Rattle.dcel_planar.specs.Growing.{HasHull, IsTriangleMesh, IsInsertionReason}
use Rattle.dcel_planar.proofs.Growth.{inserted-keeps}
use Rattle.dcel_planar.proofs.Hull.{inserted-hull}
use Rattle.dcel_planar.proofs.Puts.{put_back, put_gains, put_holds, put_lists, stays_hull, stays_listed, stays_triangulated}
use Rattle.dcel_planar.proofs.Sound.{inserted-lists, inserted-triangulated}
use Rattle.dcel_planar.proofs.Ends.{put_edges}
use Rattle.dcel_plane.specs.Plane.{point_at}
use Rattle.dcel_plane.specs.star.Star.{HasEmptyCirclesBut}
use Rattle.dcel_planar.proofs.OthersEmpty.{inserted-empty}
use Rattle.dcel_planar.proofs.planar.PlanarMesh.put_in_face.Goals as goal

pub returns-in_default-clause-refused : goal.returns-in_default-clause-refused
returns-in_default-clause-refused g c = (
  subst (IsInsertionReason c.args.self.now.dcel.shape) (sym c.take_back.ensures.answer) tt,
  record {
    mesh = (put_back c.args.self.now.dcel _ _ _ c.args.point _ c.every_mesh.ensures c.args.self.now.triangulated.closed c.in_ok-vertex.ensures.edit
        c.in_ok-vertex.ensures.answer c.in_default.ensures.refused c.take_back.ensures.edit);
    due = c.reserve.ensures.items;
  },
)

pub returns-in_default-clause-lists : goal.returns-in_default-clause-lists
returns-in_default-clause-lists g c = stays_listed c.args.self.now.dcel _ c.args.self.now.due.items _ (put_back c.args.self.now.dcel _ _ _ c.args.point _ c.every_mesh.ensures c.args.self.now.triangulated.closed c.in_ok-vertex.ensures.edit
    c.in_ok-vertex.ensures.answer c.in_default.ensures.refused c.take_back.ensures.edit) c.reserve.ensures.items

pub returns-clause-edges : goal.returns-clause-edges
returns-clause-edges g c =
    put_edges (λ m v h e f. vertex_inserted m v c.args.face h e f) (λ m v. _) (λ m v h e f. (refl, refl)) _ _ _ 3 2 c.args.self.now.dcel _ _ c.args.point _ c.every_mesh.ensures
    c.in_ok-vertex.ensures.edit c.in-Ok.ensures.edit

pub returns-clause-lists : goal.returns-clause-lists
returns-clause-lists g c =
    let old = c.args.self.now.dcel in
    let due = c.args.self.now.due.items in
    put_lists (λ m v h e f. vertex_inserted m v c.args.face h e f) _ _ _ 3 2 old _ _ c.args.point _ due (edges_inserted old c.args.face) _
    (λ lacking h e f mid done. inserted-lists old c.every_mesh.ensures c.args.point mid h e f c.args.face (due ++ lacking) c.requires.place.1 c.requires.place.2 done)
    c.in_ok-vertex.ensures.edit c.in_ok-vertex.ensures.answer c.in-Ok.ensures.edit c.in_ok-vertex.ensures.mesh c.insert_into_triangle.ensures.mesh
    (rw (
      c.push_reserved-3.ensures.items,
      c.push_reserved-2.ensures.items,
      c.push_reserved.ensures.items,
      c.reserve.ensures.items,
      c.edges_of-sides.ensures,
    ) (simp append_assoc))

pub returns-clause-gains : goal.returns-clause-gains
returns-clause-gains g c =
    put_gains (λ m v h e f. vertex_inserted m v c.args.face h e f) (λ m closed v h e f. inserted-keeps m closed v c.args.face h e f) _ _ _ 3 2 c.args.self.now.dcel _ _ c.args.point _
    c.args.self.now.triangulated.closed c.in_ok-vertex.ensures.edit c.in_ok-vertex.ensures.answer c.in-Ok.ensures.edit

pub push_reserved-requires-3 : goal.push_reserved-requires-3
push_reserved-requires-3 g c = grind (arith, common_steps)

pub returns-clause-hull : goal.returns-clause-hull
returns-clause-hull g c =
    put_holds (λ m. HasHull m) (λ m v h e f. vertex_inserted m v c.args.face h e f) _ _ _ 3 2 c.args.self.now.dcel _ _ c.args.point _
    (λ h e f mid done.
    inserted-hull c.args.self.now.dcel c.every_mesh.ensures c.args.point c.args.self.now.triangulated c.requires.hull mid h e f c.args.face c.requires.place.0 c.requires.place.1 c.requires.place.2 done)
    c.in_ok-vertex.ensures.edit c.in_ok-vertex.ensures.answer c.in-Ok.ensures.edit c.in_ok-vertex.ensures.mesh c.insert_into_triangle.ensures.mesh

pub invariant_of-self-in_default-clause-triangulated : goal.invariant_of-self-in_default-clause-triangulated
invariant_of-self-in_default-clause-triangulated g c =
    stays_triangulated c.args.self.now.dcel _
    (put_back c.args.self.now.dcel _ _ _ c.args.point _ c.every_mesh.ensures c.args.self.now.triangulated.closed c.in_ok-vertex.ensures.edit
    c.in_ok-vertex.ensures.answer c.in_default.ensures.refused c.take_back.ensures.edit)
    c.args.self.now.triangulated

pub invariant_of-self-in_default-clause-outlined : goal.invariant_of-self-in_default-clause-outlined
invariant_of-self-in_default-clause-outlined g c = ∣ inr (inl (stays_hull c.args.self.now.dcel _
    (put_back c.args.self.now.dcel _ _ _ c.args.point _ c.every_mesh.ensures c.args.self.now.triangulated.closed c.in_ok-vertex.ensures.edit
    c.in_ok-vertex.ensures.answer c.in_default.ensures.refused c.take_back.ensures.edit)
    c.requires.hull)) ∣₁

pub invariant_of-self-2-clause-triangulated : goal.invariant_of-self-2-clause-triangulated
invariant_of-self-2-clause-triangulated g c =
    put_holds (λ m. IsTriangleMesh m) (λ m v h e f. vertex_inserted m v c.args.face h e f) _ _ _ 3 2 c.args.self.now.dcel _ _ c.args.point _
    (λ h e f mid done.
    inserted-triangulated c.args.self.now.dcel c.every_mesh.ensures c.args.point mid h e f c.args.face c.args.self.now.triangulated c.requires.place.0 c.requires.place.1 c.requires.place.2)
    c.in_ok-vertex.ensures.edit c.in_ok-vertex.ensures.answer c.in-Ok.ensures.edit c.in_ok-vertex.ensures.mesh c.insert_into_triangle.ensures.mesh

pub invariant_of-self-2-clause-outlined : goal.invariant_of-self-2-clause-outlined
invariant_of-self-2-clause-outlined g c = ∣ inr (inl (put_holds (λ m. HasHull m) (λ m v h e f. vertex_inserted m v c.args.face h e f) _ _ _ 3 2 c.args.self.now.dcel _ _ c.args.point _
    (λ h e f mid done.
    inserted-hull c.args.self.now.dcel c.every_mesh.ensures c.args.point c.args.self.now.triangulated c.requires.hull mid h e f c.args.face c.requires.place.0 c.requires.place.1 c.requires.place.2 done)
    c.in_ok-vertex.ensures.edit c.in_ok-vertex.ensures.answer c.in-Ok.ensures.edit c.in_ok-vertex.ensures.mesh c.insert_into_triangle.ensures.mesh)) ∣₁

pub returns-clause-circles : goal.returns-clause-circles
returns-clause-circles g c = λ empty.
    let old = c.args.self.now.dcel in
    put_holds (λ m. HasEmptyCirclesBut (point_at m) m.shape c.args.self.now.dcel.shape.vertices) (λ m v h e f. vertex_inserted m v c.args.face h e f) _ _ _ 3 2 old _ _ c.args.point _
    (λ h e f mid done.
    inserted-empty old c.every_mesh.ensures c.args.point empty mid h e f c.args.face c.args.self.now.triangulated.plane c.requires.place.0 c.requires.place.1 c.requires.place.2)
    c.in_ok-vertex.ensures.edit c.in_ok-vertex.ensures.answer c.in-Ok.ensures.edit c.in_ok-vertex.ensures.mesh c.insert_into_triangle.ensures.mesh
