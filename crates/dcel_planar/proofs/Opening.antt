-- A vertex put beside an edge of a hull, or of a line: the hull is open then, round that vertex.
use Rattle.std.proofs.Common.{◌≡◌, ◌⊎◌, ◌∙◌, inl, inr, ℕ, ◌+◌, ◌<◌, List, refl, sym, ap, subst, arith}
use Rattle.dcel_maps.specs.edits.Create.{vertex_appended}
use Rattle.dcel_maps.specs.edits.DefaultData.{AddsEdgesAndFaces}
use Rattle.dcel_maps.specs.edits.Outside.{face_put_beside}
use Rattle.dcel_maps.specs.Shapes.{IsLive, IsMesh, Mesh, face_count, face_of}
use Rattle.dcel_maps.proofs.removal.Inserted.{replaced-count}
use Rattle.dcel_predicates.specs.declared.point.Point.{Point}
use Rattle.dcel_plane.specs.Plane.{IsLeftOf, point_at}
use Rattle.dcel_plane.proofs.edits.Moved.{appended_plane}
use Rattle.dcel_plane.proofs.covering.Starts.{inner_half}
use Rattle.dcel_plane.proofs.hull.PutBeside.{beside_closing, beside_hull, beside_thick, beside_thin, straight_convex}
use Rattle.dcel_planar.specs.Growing.{HasHull, IsFlat, IsOpen, IsTriangleMesh}
use Rattle.dcel_planar.proofs.Appended.{appended_convex, appended_hull, appended_straight}
use Rattle.dcel_planar.proofs.Sound.{left_after}

module _ {DE UE F : Type 0} where
  module _ (m : Mesh Point DE UE F) (mesh : IsMesh m) (p : Point) (sound : IsTriangleMesh m) (x : ℕ) (live : IsLive m.shape x) (outer : face_of m.shape x ≡ 0)
      (left : IsLeftOf (point_at m) m.shape p x) (after : IsMesh (vertex_appended m p)) (h : List DE) (e : List UE) (g : List F)
      (done : IsMesh (face_put_beside (vertex_appended m p) x m.shape.vertices h e g)) where
    abbrev n : Mesh Point DE UE F
    n = vertex_appended m p

    abbrev v : ℕ
    v = m.shape.vertices

    abbrev q : Mesh Point DE UE F
    q = face_put_beside n x v h e g

    left_there : IsLeftOf (point_at n) n.shape (point_at n v) x
    left_there = left_after m mesh p x live left

    some_inner : 1 < face_count q.shape
    some_inner = let more : face_count q.shape ≡ face_count m.shape + 1 = replaced-count m.shape.words _ _ _ in omega (arith, more, mesh.sized.outer)

    beside_line : IsFlat m → IsOpen q v
    beside_line flat =
        let straight = appended_straight m mesh p flat.straight in
        let convex = straight_convex (point_at n) n.shape straight in
        record {
          inner = some_inner;
          last = refl;
          closing = beside_closing n after (point_at n) convex x v live outer left_there h e g done;
          from = inr (beside_thin n after (point_at n) convex x v live outer left_there h e g done straight);
        }

    beside_the_hull : HasHull m → IsOpen q v
    beside_the_hull has =
        let convex = appended_convex m mesh p has.convex in
        let hull = appended_hull m mesh p has.hull in
        let plane = appended_plane m mesh p sound.plane in
        let inner = inner_half m mesh sound.closed has.inner in
        record {
          inner = some_inner;
          last = refl;
          closing = beside_closing n after (point_at n) convex x v live outer left_there h e g done;
          from = inl (
            beside_hull n after (point_at n) convex x v live outer left_there h e g done hull,
            beside_thick n after (point_at n) convex x v live outer left_there h e g done hull sound.triangles plane inner.0 inner.1 inner.2,
          );
        }

    beside_open : IsFlat m ⊎ HasHull m → IsOpen q v
    beside_open (inl flat) = beside_line flat
    beside_open (inr has) = beside_the_hull has

  -- the same of the calls, whatever data are put at the new edges and the new face
  pub put_open : (is_half : DE → Type 0) (is_edge : UE → Type 0) (is_face : F → Type 0) (k j : ℕ) (old mid new : Mesh Point DE UE F) (p : Point) (v x : ℕ)
      → IsMesh old → IsTriangleMesh old → IsFlat old ⊎ HasHull old → IsLive old.shape x → face_of old.shape x ≡ 0 → IsLeftOf (point_at old) old.shape p x
      → mid ≡ vertex_appended old p → v ≡ old.shape.vertices → AddsEdgesAndFaces is_half is_edge is_face k j new (face_put_beside mid x v) → IsMesh mid → IsMesh new
      → IsOpen new v
  put_open is_half is_edge is_face k j old mid new p v x mesh sound hull live outer left is last adds mesh_mid mesh_new =
      let h = adds.directed_data in
      let e = adds.undirected_data in
      let g = adds.face_data in
      let at_end : new ≡ face_put_beside (vertex_appended old p) x old.shape.vertices h e g =
      adds.is ∙ ap (λ (m : Mesh Point DE UE F). face_put_beside m x v h e g) is ∙ ap (λ (w : ℕ). face_put_beside (vertex_appended old p) x w h e g) last in
      subst (λ (w : ℕ). IsOpen new w) (sym last)
      (subst (λ (m : Mesh Point DE UE F). IsOpen m old.shape.vertices) (sym at_end)
      (beside_open old mesh p sound x live outer left (subst (λ (m : Mesh Point DE UE F). IsMesh m) is mesh_mid) h e g
      (subst (λ (m : Mesh Point DE UE F). IsMesh m) at_end mesh_new) hull))
