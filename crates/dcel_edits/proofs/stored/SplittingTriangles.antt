-- What the writes leave that put a vertex into an edge of triangles holds the mesh with it.
use Rattle.std.proofs.Common.{◌≡◌, ℕ, List, slice_index, append-nil, refl, ◌∙◌}
use Rattle.std.proofs.Math.Nat.{sub-zero}
use Rattle.dcel_fixed.specs.HalfEdges.{rev}
use Rattle.dcel_store.specs.Lists.{HasPlaces, Lists}
use Rattle.dcel_maps.specs.Conditions.{HasRoom, IsTriangle, IsUnconnected}
use Rattle.dcel_maps.specs.edits.DefaultData.{AddsEdgesAndFaces}
use Rattle.dcel_maps.specs.edits.Split.{edge_split, half_edge_split}
use Rattle.dcel_maps.specs.Removals.{Removal}
use Rattle.dcel_maps.specs.Shapes.{IsLive, IsMesh, Mesh, end_of, face_of, map_of, next_of}
use Rattle.dcel_maps.proofs.edits.EdgeSplits.{edge_splitting, edge_splitting_is, edge_splitting_is_edit}
use Rattle.dcel_maps.proofs.edits.HalfSplits.{half_edge_splitting, half_edge_splitting_is, half_edge_splitting_is_edit}
use Rattle.dcel_maps.proofs.maps.Soundness.{rev_live}
use Rattle.dcel_edits.specs.SplitTriangles.{CanPutMiddle, both_stored, one_stored}
use Rattle.dcel_edits.proofs.stored.Changes.{HoldsAdded, edit_holds, held_edges, held_faces, held_mesh, held_space, held_vertex, written}
use Rattle.dcel_edits.proofs.stored.Halves.{HoldsHalf, holds_half}
use Rattle.dcel_edits.proofs.stored.Holding.{Holds}

module _ {V DE UE F : Type 0} {s : Lists V DE UE F} {r : Removal} {m : Mesh V DE UE F} (held : Holds s r m) (e tip : ℕ) (live : IsLive m.shape e) where
  abbrev t : ℕ
  t = rev e

  mesh : IsMesh m
  mesh = held_mesh s r m held

  edge : HoldsHalf s m e
  edge = holds_half held e live

  twin : HoldsHalf s m t
  twin = holds_half held t (rev_live (map_of m.shape) e live)

  end : slice_index s.origin (next_of m.shape e) ≡ end_of m.shape e
  end = edge.next_origin ∙ mesh.sound.joined e live

  pub split_can : IsUnconnected m.shape tip → {k l : ℕ} → HasRoom m.shape 0 k l → HasPlaces s 0 k l → CanPutMiddle k l s e tip
  split_can unconnected room places = record {
    space = held_space s r m held room places;
    edge = edge.within;
    twin = twin.within;
    middle_in = held_vertex s r m held tip unconnected.live;
  }

  -- the numbers that are read are those of the mesh
  both_read : (halves : List DE) (edges : List UE) (faces : List F)
      → both_stored s e tip halves edges faces ≡ written s (edge_splitting m e tip halves edges faces)
  both_read halves edges faces =
      rw (held_edges s r m held, held_faces s r m held, edge.next, edge.prev, edge.face, twin.next, twin.prev, twin.face, end, edge.prev_origin, twin.prev_origin)
      (simp (append-nil, sub-zero) refl)

  one_read : (halves : List DE) (edges : List UE) (faces : List F)
      → one_stored s e tip halves edges faces ≡ written s (half_edge_splitting m e tip halves edges faces)
  one_read halves edges faces =
      rw (held_edges s r m held, held_faces s r m held, edge.next, edge.prev, edge.face, twin.prev, twin.face, end, edge.prev_origin)
      (simp (append-nil, sub-zero) refl)

  module _ (unconnected : IsUnconnected m.shape tip) (triangle : IsTriangle m.shape (face_of m.shape e))
      {is_half : DE → Type 0} {is_edge : UE → Type 0} {is_face : F → Type 0} {u : Lists V DE UE F} where
    pub split_both : IsTriangle m.shape (face_of m.shape t) → HasRoom m.shape 0 3 2
        → AddsEdgesAndFaces is_half is_edge is_face 3 2 u (both_stored s e tip)
        → HoldsAdded is_half is_edge is_face 3 2 u r (edge_split m e tip)
    split_both facing room added =
        edit_holds held (edge_splitting m e tip) (edge_split m e tip) both_read
        (λ halves edges faces six three two. (
          edge_splitting_is m e tip halves edges faces,
          edge_splitting_is_edit m e tip halves edges faces mesh live triangle facing unconnected room six three two,
        ))
        added

    pub split_one : HasRoom m.shape 0 2 1
        → AddsEdgesAndFaces is_half is_edge is_face 2 1 u (one_stored s e tip)
        → HoldsAdded is_half is_edge is_face 2 1 u r (half_edge_split m e tip)
    split_one room added =
        edit_holds held (half_edge_splitting m e tip) (half_edge_split m e tip) one_read
        (λ halves edges faces four two one. (
          half_edge_splitting_is m e tip halves edges faces,
          half_edge_splitting_is_edit m e tip halves edges faces mesh live triangle unconnected room four two one,
        ))
        added
