-- What the writes leave that put a triangle beside a half edge holds the mesh with it.
use Rattle.std.proofs.Common.{◌≡◌, ℕ, List, append-nil, refl}
use Rattle.std.proofs.Math.Nat.{sub-zero}
use Rattle.dcel_store.specs.Lists.{HasPlaces, Lists}
use Rattle.dcel_maps.specs.edits.DefaultData.{AddsEdgesAndFaces}
use Rattle.dcel_maps.specs.edits.Outside.{face_put_beside}
use Rattle.dcel_maps.specs.Conditions.{HasRoom, IsUnconnected}
use Rattle.dcel_maps.specs.Removals.{Removal}
use Rattle.dcel_maps.specs.Shapes.{IsLive, IsMesh, Mesh}
use Rattle.dcel_maps.proofs.edits.Beside.{beside, beside_is, beside_is_edit}
use Rattle.dcel_edits.specs.Outside.{CanPutBeside, beside_stored}
use Rattle.dcel_edits.proofs.stored.Changes.{HoldsAdded, edit_holds, held_edges, held_faces, held_mesh, held_space, held_vertex, written}
use Rattle.dcel_edits.proofs.stored.Halves.{HoldsHalf, holds_half}
use Rattle.dcel_edits.proofs.stored.Holding.{Holds}

module _ {V DE UE F : Type 0} {s : Lists V DE UE F} {r : Removal} {m : Mesh V DE UE F} (held : Holds s r m) (e tip : ℕ)
    (live : IsLive m.shape e) (unconnected : IsUnconnected m.shape tip) (room : HasRoom m.shape 0 2 1) where
  edge : HoldsHalf s m e
  edge = holds_half held e live

  pub beside_can : HasPlaces s 0 2 1 → CanPutBeside s e tip
  beside_can places = record {
    space = held_space s r m held room places;
    edge_in = edge.within.edge_in;
    before_in = edge.within.prev_in;
    after_in = edge.within.next_in;
    face_in = edge.within.face_in;
    tip_in = held_vertex s r m held tip unconnected.live;
  }

  -- the numbers that are read are those of the mesh
  read : (halves : List DE) (edges : List UE) (faces : List F) → beside_stored s e tip halves edges faces ≡ written s (beside m e tip halves edges faces)
  read halves edges faces =
      rw (held_edges s r m held, held_faces s r m held, edge.prev, edge.next, edge.face, edge.origin, edge.next_origin)
      (simp (append-nil, sub-zero) refl)

  pub beside_holds : {is_half : DE → Type 0} {is_edge : UE → Type 0} {is_face : F → Type 0} {t : Lists V DE UE F}
      → AddsEdgesAndFaces is_half is_edge is_face 2 1 t (beside_stored s e tip)
      → HoldsAdded is_half is_edge is_face 2 1 t r (face_put_beside m e tip)
  beside_holds added =
      let mesh : IsMesh m = held_mesh s r m held in
      edit_holds held (beside m e tip) (face_put_beside m e tip) read
      (λ halves edges faces four two one.
      (beside_is m e tip halves edges faces mesh live, beside_is_edit m e tip halves edges faces mesh live unconnected room four two one))
      added
