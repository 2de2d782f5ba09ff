-- What the writes leave that put a vertex into the middle of an edge holds the mesh with that vertex there.
use Rattle.std.proofs.Common.{◌≡◌, ◌*◌, ◌<◌, ℕ, List, append-nil, refl, arith}
use Rattle.std.proofs.Math.Nat.{sub-zero}
use Rattle.dcel_fixed.specs.HalfEdges.{rev}
use Rattle.dcel_store.specs.Lists.{Lists}
use Rattle.dcel_maps.specs.Conditions.{HasRoom, IsBridge, IsUnconnected}
use Rattle.dcel_maps.specs.edits.DefaultData.{AddsEdge}
use Rattle.dcel_maps.specs.edits.Split.{edge_split_on_line}
use Rattle.dcel_maps.specs.Removals.{Removal}
use Rattle.dcel_maps.specs.Shapes.{IsMesh, Mesh, end_of, face_of, map_of, next_of, prev_of}
use Rattle.dcel_maps.proofs.edits.Changes.{Change}
use Rattle.dcel_maps.proofs.edits.Splits.{middle, middle_is, middle_is_edit}
use Rattle.dcel_maps.proofs.maps.Soundness.{rev_live}
use Rattle.dcel_maps.proofs.maps.Updates.{put}
use Rattle.dcel_edits.specs.Split.{CanSplit, middle_stored}
use Rattle.dcel_edits.proofs.stored.Changes.{HoldsEdge, edge_holds, held_edges, held_mesh, held_vertex, written}
use Rattle.dcel_edits.proofs.stored.Halves.{HoldsHalf, holds_half}
use Rattle.dcel_edits.proofs.stored.Holding.{Holds}

module _ {V DE UE F : Type 0} {s : Lists V DE UE F} {r : Removal} {m : Mesh V DE UE F} (held : Holds s r m) (e tip : ℕ)
    (bridge : IsBridge m.shape e) (unconnected : IsUnconnected m.shape tip) (room : HasRoom m.shape 0 1 0) where
  abbrev t : ℕ
  t = rev e

  mesh : IsMesh m
  mesh = held_mesh s r m held

  edge : HoldsHalf s m e
  edge = holds_half held e bridge.live

  twin : HoldsHalf s m t
  twin = holds_half held t (rev_live (map_of m.shape) e bridge.live)

  pub split_can : 0 < s.edge_room → CanSplit s e tip
  split_can place = record {
    place = place;
    few = omega (arith, room.for_edges, held_edges s r m held);
    edge_in = edge.within.edge_in;
    twin_in = twin.within.edge_in;
    after_in = edge.within.next_in;
    before_in = twin.within.prev_in;
    end_in = twin.origin_in;
    middle_in = held_vertex s r m held tip unconnected.live;
  }

  abbrev change : List DE → List UE → Change V DE UE F
  change halves edges =
      middle m (2 * m.shape.edges) e t (next_of m.shape e) (prev_of m.shape t) (face_of m.shape e) (end_of m.shape e) tip halves edges

  -- the numbers that are read are those of the mesh
  read : (halves : List DE) (edges : List UE) → middle_stored s e tip halves edges ≡ written s (change halves edges)
  unfolding put
  read halves edges = rw (held_edges s r m held, edge.next, twin.prev, twin.origin, edge.face) (simp (append-nil, sub-zero) refl)

  pub split : {is_half : DE → Type 0} {is_edge : UE → Type 0} {u : Lists V DE UE F}
      → AddsEdge is_half is_edge u (middle_stored s e tip) → HoldsEdge is_half is_edge u r (edge_split_on_line m e tip)
  split added =
      edge_holds held change (edge_split_on_line m e tip) read
      (λ halves edges two one.
      (middle_is m mesh e tip bridge unconnected room halves edges two one, middle_is_edit m mesh e tip bridge unconnected room halves edges two one))
      added
