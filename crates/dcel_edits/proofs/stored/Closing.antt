-- What the writes leave that close a face on the outer face holds the mesh with it.
use Rattle.std.proofs.Common.{◌≡◌, ◌+◌, ◌*◌, ℕ, List, length, append-nil, refl, arith}
use Rattle.std.proofs.Math.Nat.{sub-zero}
use Rattle.dcel_store.specs.Lists.{HasPlaces, Lists}
use Rattle.dcel_maps.specs.edits.DefaultData.{AddsEdgesAndFaces}
use Rattle.dcel_maps.specs.edits.Outside.{face_closed}
use Rattle.dcel_maps.specs.Conditions.{CanCloseOutside, HasRoom}
use Rattle.dcel_maps.specs.Removals.{Removal}
use Rattle.dcel_maps.specs.Shapes.{IsMesh, Mesh, next_of}
use Rattle.dcel_maps.proofs.edits.Closing.{closing, closing_is, closing_is_edit}
use Rattle.dcel_edits.specs.Outside.{CanClose, closed_stored}
use Rattle.dcel_edits.proofs.stored.Changes.{HoldsAdded, edit_holds, held_edges, held_face, held_faces, held_mesh, held_space, written}
use Rattle.dcel_edits.proofs.stored.Halves.{HoldsHalf, holds_half}
use Rattle.dcel_edits.proofs.stored.Holding.{Holds}

module _ {V DE UE F : Type 0} {s : Lists V DE UE F} {r : Removal} {m : Mesh V DE UE F} (held : Holds s r m) (e : ℕ)
    (can : CanCloseOutside m.shape e) (room : HasRoom m.shape 0 1 1) where
  mesh : IsMesh m
  mesh = held_mesh s r m held

  edge : HoldsHalf s m e
  edge = holds_half held e can.live

  second : HoldsHalf s m (next_of m.shape e)
  second = holds_half held (next_of m.shape e) edge.next_live

  pub closing_can : HasPlaces s 0 1 1 → CanClose s e
  closing_can places = record {
    space = held_space s r m held room places;
    edge_in = edge.within.edge_in;
    before_in = edge.within.prev_in;
    second_in = edge.within.next_in;
    after_in = rw edge.next second.within.next_in;
    outer_in = held_face s r m held 0 mesh.sized.outer;
  }

  -- the numbers that are read are those of the mesh
  read : (halves : List DE) (edges : List UE) (faces : List F) → closed_stored s e halves edges faces ≡ written s (closing m e halves edges faces)
  read halves edges faces =
      rw (held_edges s r m held, held_faces s r m held, edge.prev, edge.next, second.next, edge.origin, second.next_origin)
      (simp (append-nil, sub-zero) refl)

  -- the number that is answered is that of the new half edge on the outer face
  pub closing_answer : 2 * length s.undirected_data + 1 ≡ 2 * m.shape.edges + 1
  closing_answer = omega (arith, held_edges s r m held)

  pub closing_holds : {is_half : DE → Type 0} {is_edge : UE → Type 0} {is_face : F → Type 0} {t : Lists V DE UE F}
      → AddsEdgesAndFaces is_half is_edge is_face 1 1 t (closed_stored s e)
      → HoldsAdded is_half is_edge is_face 1 1 t r (face_closed m e)
  closing_holds added =
      edit_holds held (closing m e) (face_closed m e) read
      (λ halves edges faces two_halves one_edge one_face.
      (closing_is m e halves edges faces mesh can, closing_is_edit m e halves edges faces mesh can room two_halves one_edge one_face))
      added
