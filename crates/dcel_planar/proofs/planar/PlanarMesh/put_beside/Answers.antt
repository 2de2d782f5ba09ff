use Rattle.std.proofs.Common.{append_assoc, subst, sym, inr, refl, ◌++◌}
use mathlib.Core.Logic.{∥∥₁_map}
use Rattle.dcel_maps.specs.edits.Outside.{face_put_beside}
use Rattle.dcel_plane.specs.Edges.{edges_put_beside}
use Rattle.dcel_planar.specs.Growing.{IsTriangleMesh, IsInsertionReason}
use Rattle.dcel_planar.proofs.GoingOn.{some_listed}
use Rattle.dcel_planar.proofs.Growth.{beside-keeps}
use Rattle.dcel_planar.proofs.Opening.{put_open}
use Rattle.dcel_planar.proofs.Puts.{put_back, put_gains, put_holds, put_lists, stays_listed, stays_outside, stays_triangulated}
use Rattle.dcel_planar.proofs.Sound.{beside-lists, beside-triangulated}
use Rattle.dcel_planar.proofs.Ends.{put_edges}
use Rattle.dcel_plane.specs.Plane.{point_at}
use Rattle.dcel_plane.specs.star.Star.{HasEmptyCirclesBut}
use Rattle.dcel_planar.proofs.OthersEmpty.{beside-empty}
use Rattle.dcel_planar.proofs.planar.PlanarMesh.put_beside.Goals as goal

pub returns-in_default-clause-refused : goal.returns-in_default-clause-refused
returns-in_default-clause-refused g c = (
  subst (IsInsertionReason c.args.self.now.dcel.shape) (sym c.take_back.ensures.answer) tt,
  record {
    mesh = (put_back c.args.self.now.dcel _ _ _ c.args.point _ c.every_mesh.ensures c.args.self.now.triangulated.closed c.in_ok-vertex.ensures.edit
        c.in_ok-vertex.ensures.answer c.in_default.ensures.refused c.take_back.ensures.edit);
    due = c.reserve.ensures.items;
  },
)

pub returns-in_default-clause-lists : goal.returns-in_default-clause-lists
returns-in_default-clause-lists g c = stays_listed c.args.self.now.dcel _ c.args.self.now.due.items _ (put_back c.args.self.now.dcel _ _ _ c.args.point _ c.every_mesh.ensures c.args.self.now.triangulated.closed c.in_ok-vertex.ensures.edit
    c.in_ok-vertex.ensures.answer c.in_default.ensures.refused c.take_back.ensures.edit) c.reserve.ensures.items

pub returns-clause-edges : goal.returns-clause-edges
returns-clause-edges g c =
    put_edges (λ m v h e f. face_put_beside m c.args.edge v h e f) (λ m v. _) (λ m v h e f. (refl, refl)) _ _ _ 2 1 c.args.self.now.dcel _ _ c.args.point _ c.every_mesh.ensures
    c.in_ok-vertex.ensures.edit c.in-Ok.ensures.edit

pub returns-clause-lists : goal.returns-clause-lists
returns-clause-lists g c =
    let old = c.args.self.now.dcel in
    let due = c.args.self.now.due.items in
    put_lists (λ m v h e f. face_put_beside m c.args.edge v h e f) _ _ _ 2 1 old _ _ c.args.point _ due (edges_put_beside old.shape c.args.edge) _
    (λ lacking h e f mid done. beside-lists old c.every_mesh.ensures c.args.point mid h e f c.args.edge (due ++ lacking) c.requires.place.0 c.requires.place.1 done)
    c.in_ok-vertex.ensures.edit c.in_ok-vertex.ensures.answer c.in-Ok.ensures.edit c.in_ok-vertex.ensures.mesh c.create_new_face_adjacent_to_edge.ensures.mesh
    (rw (
      c.push_reserved-3.ensures.items,
      c.push_reserved-2.ensures.items,
      c.push_reserved.ensures.items,
      c.reserve.ensures.items,
      c.new-2.ensures,
      c.new.ensures,
      c.as_undirected.ensures,
      c.num_undirected_edges-count.ensures.count,
    ) (simp append_assoc))

pub returns-clause-gains : goal.returns-clause-gains
returns-clause-gains g c =
    put_gains (λ m v h e f. face_put_beside m c.args.edge v h e f) (λ m closed v h e f. beside-keeps m closed c.args.edge v h e f) _ _ _ 2 1 c.args.self.now.dcel _ _ c.args.point _
    c.args.self.now.triangulated.closed c.in_ok-vertex.ensures.edit c.in_ok-vertex.ensures.answer c.in-Ok.ensures.edit

pub returns-clause-open : goal.returns-clause-open
returns-clause-open g c =
    put_open _ _ _ 2 1 c.args.self.now.dcel _ _ c.args.point _ c.args.edge c.every_mesh.ensures c.args.self.now.triangulated c.requires.hull c.requires.place.0
    c.requires.place.1 c.requires.place.2 c.in_ok-vertex.ensures.edit c.in_ok-vertex.ensures.answer c.in-Ok.ensures.edit c.in_ok-vertex.ensures.mesh
    c.create_new_face_adjacent_to_edge.ensures.mesh

pub invariant_of-self-in_default-clause-triangulated : goal.invariant_of-self-in_default-clause-triangulated
invariant_of-self-in_default-clause-triangulated g c =
    stays_triangulated c.args.self.now.dcel _
    (put_back c.args.self.now.dcel _ _ _ c.args.point _ c.every_mesh.ensures c.args.self.now.triangulated.closed c.in_ok-vertex.ensures.edit
    c.in_ok-vertex.ensures.answer c.in_default.ensures.refused c.take_back.ensures.edit)
    c.args.self.now.triangulated

pub invariant_of-self-in_default-clause-outlined : goal.invariant_of-self-in_default-clause-outlined
invariant_of-self-in_default-clause-outlined g c =
    ∥∥₁_map c.args.self.now.outlined
    (stays_outside c.args.self.now.dcel _ c.args.self.now.due.items _
    (put_back c.args.self.now.dcel _ _ _ c.args.point _ c.every_mesh.ensures c.args.self.now.triangulated.closed c.in_ok-vertex.ensures.edit
    c.in_ok-vertex.ensures.answer c.in_default.ensures.refused c.take_back.ensures.edit)
    c.reserve.ensures.items)

pub invariant_of-self-2-clause-triangulated : goal.invariant_of-self-2-clause-triangulated
invariant_of-self-2-clause-triangulated g c =
    let old = c.args.self.now.dcel in
    put_holds (λ m. IsTriangleMesh m) (λ m v h e f. face_put_beside m c.args.edge v h e f) _ _ _ 2 1 old _ _ c.args.point _
    (λ h e f mid done.
    beside-triangulated old c.every_mesh.ensures c.args.point mid h e f c.args.edge c.args.self.now.triangulated c.requires.place.0 c.requires.place.1 c.requires.place.2)
    c.in_ok-vertex.ensures.edit c.in_ok-vertex.ensures.answer c.in-Ok.ensures.edit c.in_ok-vertex.ensures.mesh c.create_new_face_adjacent_to_edge.ensures.mesh

pub invariant_of-self-2-clause-outlined : goal.invariant_of-self-2-clause-outlined
invariant_of-self-2-clause-outlined g c =
    ∣ inr
    (inr (
      some_listed _ _ _ _ c.push_reserved-3.ensures.items,
      (
        c.in_ok-vertex.vertex,
        put_open _ _ _ 2 1 c.args.self.now.dcel _ _ c.args.point _ c.args.edge c.every_mesh.ensures c.args.self.now.triangulated c.requires.hull c.requires.place.0
            c.requires.place.1 c.requires.place.2 c.in_ok-vertex.ensures.edit c.in_ok-vertex.ensures.answer c.in-Ok.ensures.edit c.in_ok-vertex.ensures.mesh
            c.create_new_face_adjacent_to_edge.ensures.mesh,
      ),
    )) ∣₁

pub invariant_of-self-clause-outlined : goal.invariant_of-self-clause-outlined
invariant_of-self-clause-outlined g c =
    ∥∥₁_map c.args.self.now.outlined (stays_outside c.args.self.now.dcel c.args.self.now.dcel c.args.self.now.due.items _ refl c.reserve.ensures.items)

pub returns-clause-listed : goal.returns-clause-listed
returns-clause-listed g c = some_listed _ _ _ _ c.push_reserved-3.ensures.items

pub returns-clause-circles : goal.returns-clause-circles
returns-clause-circles g c = λ empty.
    let old = c.args.self.now.dcel in
    put_holds (λ m. HasEmptyCirclesBut (point_at m) m.shape c.args.self.now.dcel.shape.vertices) (λ m v h e f. face_put_beside m c.args.edge v h e f) _ _ _ 2 1 old _ _ c.args.point _
    (λ h e f mid done. beside-empty old c.every_mesh.ensures c.args.point empty mid h e f c.args.edge c.requires.hull c.requires.place.0 c.requires.place.1)
    c.in_ok-vertex.ensures.edit c.in_ok-vertex.ensures.answer c.in-Ok.ensures.edit c.in_ok-vertex.ensures.mesh c.create_new_face_adjacent_to_edge.ensures.mesh
