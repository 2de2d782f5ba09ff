-- What the writes leave that put a vertex into a triangle holds the mesh with it.
use Rattle.std.proofs.Common.{◌≡◌, ℕ, List, slice_index_or, Some, None, append-nil, refl, ◌∙◌}
use Rattle.std.proofs.Math.Nat.{sub-zero}
use Rattle.dcel_store.specs.Lists.{HasPlaces, Lists}
use Rattle.dcel_maps.specs.edits.DefaultData.{AddsEdgesAndFaces}
use Rattle.dcel_maps.specs.Conditions.{HasRoom, IsTriangle, IsUnconnected}
use Rattle.dcel_maps.specs.edits.Triangle.{vertex_inserted}
use Rattle.dcel_maps.specs.Removals.{Removal}
use Rattle.dcel_maps.specs.Shapes.{IsMesh, Mesh, face_anchor, map_of, next_of, prev_of}
use Rattle.dcel_maps.proofs.edits.Inserts.{anchored_triangle, inserted, inserted_is, inserted_is_edit}
use Rattle.dcel_maps.proofs.maps.Triangles.{IsTriangleOf}
use Rattle.dcel_edits.specs.Triangle.{CanInsert, insertion_stored}
use Rattle.dcel_edits.proofs.stored.Changes.{HoldsAdded, edit_holds, held_edges, held_face_anchor, held_faces, held_mesh, held_space, held_vertex, written}
use Rattle.dcel_edits.proofs.stored.Halves.{HoldsHalf, holds_half}
use Rattle.dcel_edits.proofs.stored.Holding.{Holds}

module _ {V DE UE F : Type 0} {s : Lists V DE UE F} {r : Removal} {m : Mesh V DE UE F} (held : Holds s r m) (f tip a : ℕ)
    (triangle : IsTriangle m.shape f) (unconnected : IsUnconnected m.shape tip) (room : HasRoom m.shape 0 3 2)
    (anchored : slice_index_or s.face_anchors f None ≡ Some a) where
  mesh : IsMesh m
  mesh = held_mesh s r m held

  anchor : face_anchor m f ≡ Some a
  anchor = held_face_anchor s r m held f ∙ anchored

  at : IsTriangleOf (map_of m.shape) f a (next_of m.shape a) (prev_of m.shape a)
  at = anchored_triangle m mesh f a triangle anchor

  first : HoldsHalf s m a
  first = holds_half held a at.live_x

  pub insert_can : HasPlaces s 0 3 2 → CanInsert s a tip
  insert_can places = record {
    space = held_space s r m held room places;
    first_in = first.within.edge_in;
    second_in = first.within.next_in;
    third_in = first.within.prev_in;
    tip_in = held_vertex s r m held tip unconnected.live;
  }

  -- the numbers that are read are those of the mesh
  read : (halves : List DE) (edges : List UE) (faces : List F)
      → insertion_stored s a tip halves edges faces ≡ written s (inserted m mesh f a triangle anchor tip halves edges faces)
  read halves edges faces =
      rw (held_edges s r m held, held_faces s r m held, first.next, first.prev, first.face ∙ at.face_x, first.origin, first.next_origin, first.prev_origin)
      (simp (append-nil, sub-zero) refl)

  pub inserted_holds : {is_half : DE → Type 0} {is_edge : UE → Type 0} {is_face : F → Type 0} {t : Lists V DE UE F}
      → AddsEdgesAndFaces is_half is_edge is_face 3 2 t (insertion_stored s a tip)
      → HoldsAdded is_half is_edge is_face 3 2 t r (vertex_inserted m tip f)
  inserted_holds added =
      edit_holds held (inserted m mesh f a triangle anchor tip) (vertex_inserted m tip f) read
      (λ halves edges faces six three two. (
        inserted_is m mesh f a triangle anchor tip halves edges faces,
        inserted_is_edit m mesh f a triangle anchor tip halves edges faces unconnected room six three two,
      ))
      added
