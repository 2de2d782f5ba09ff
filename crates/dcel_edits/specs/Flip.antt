-- What turning an edge between two triangles leaves in the stored lists, and where it can be turned.
use Rattle.std.specs.Prelude.{ℕ, ◌<◌, length, slice_index, slice_set, Some}
use Rattle.dcel_fixed.specs.HalfEdges.{rev}
use Rattle.dcel_store.specs.Lists.{Lists}
use Rattle.dcel_edits.specs.declared.flip.Side.{Side}
use Rattle.dcel_edits.specs.SplitTriangles.{IsHeld}
use Rattle.dcel_edits.specs.Triangle.{three_set}

module _ {V DE UE F : Type 0} where
  -- the side of the half edge e
  abbrev pub side_of : Lists V DE UE F → ℕ → Side
  side_of s e = record {
    edge = e;
    next = slice_index s.next e;
    prev = slice_index s.prev e;
    face = slice_index s.face e;
    origin = slice_index s.origin e;
    corner = slice_index s.origin (slice_index s.prev e);
  }

  -- one side turned: with (e, en, ep) its triangle and (t, tn, tp) that beyond, it has (e, tp, en)
  abbrev pub side_turned : Lists V DE UE F → Side → Side → Lists V DE UE F
  side_turned s side beyond = record s {
    next = three_set s.next side.edge beyond.prev beyond.prev side.next side.next side.edge;
    prev = three_set s.prev side.edge side.next beyond.prev side.edge side.next beyond.prev;
    origin = slice_set s.origin side.edge side.corner;
    face = slice_set s.face beyond.prev side.face;
  }

  -- its anchors: where e started, the half edge after t starts now, and its face has e
  abbrev pub side_anchored : Lists V DE UE F → Side → Side → Lists V DE UE F
  side_anchored s side beyond = record s {
    vertex_anchors = slice_set s.vertex_anchors side.origin (Some beyond.next);
    face_anchors = slice_set s.face_anchors side.face (Some side.edge);
  }

  -- where one side can be turned
  pub record CanTurn (s : Lists V DE UE F) (side beyond : Side) : Type 0 where
    pub edge_in : side.edge < length s.next
    pub next_in : side.next < length s.next
    pub last_in : beyond.prev < length s.next

  -- where its anchors can be written
  pub record CanAnchor (s : Lists V DE UE F) (side : Side) : Type 0 where
    pub origin_in : side.origin < length s.vertex_anchors
    pub face_in : side.face < length s.face_anchors

  -- both sides turned
  abbrev pub flip_stored : Lists V DE UE F → ℕ → Lists V DE UE F
  flip_stored s e =
      let near = side_of s e in
      let far = side_of s (rev e) in
      side_anchored (side_anchored (side_turned (side_turned s near far) far near) near far) far near

  -- where an edge can be turned
  pub record CanPutFlip (s : Lists V DE UE F) (e : ℕ) : Type 0 where
    pub edge : IsHeld s e
    pub twin : IsHeld s (rev e)
    pub start_in : slice_index s.origin e < length s.vertex_anchors
    pub end_in : slice_index s.origin (rev e) < length s.vertex_anchors
