-- What taking a vertex out of a degenerate mesh leaves in the stored lists, and where one can be taken out.
use Rattle.std.specs.Prelude.{◌≡◌, ◌≢◌, ℕ, ◌/◌, ◌<◌, ◌==◌, cond, length, slice_index, slice_index_or, slice_set, unwrap_or, Option, Some, None}
use Rattle.dcel_fixed.specs.HalfEdges.{rev}
use Rattle.dcel_store.specs.Lists.{Lists}
use Rattle.dcel_edits.specs.TakingOut.{CanLoseEdge, CanLoseVertex, edge_out, vertex_out}
use Rattle.dcel_maps.specs.edits.Degenerate.{anchor_off}

module _ {V DE UE F : Type 0} where
  -- the links lead past the half edge h
  abbrev pub unlinked : Lists V DE UE F → ℕ → Lists V DE UE F
  unlinked s h = record s {
    next = slice_set s.next (slice_index s.prev h) (slice_index s.next h);
    prev = slice_set s.prev (slice_index s.next h) (slice_index s.prev h);
  }

  pub record CanUnlink (s : Lists V DE UE F) (h : ℕ) : Type 0 where
    pub edge_in : h < length s.next
    pub next_in : slice_index s.next h < length s.next
    pub prev_in : slice_index s.prev h < length s.next

  -- the anchor of v, and the out edge whose edge goes
  abbrev pub anchor_at : Lists V DE UE F → ℕ → ℕ
  anchor_at s v = unwrap_or (slice_index_or s.vertex_anchors v None) 0

  abbrev pub going_from : Lists V DE UE F → ℕ → ℕ
  going_from s v = rev (slice_index s.prev (anchor_at s v))

  -- what a half of the edge of b becomes as an anchor, with `a` the anchor of the vertex that goes
  abbrev pub stand_in : Lists V DE UE F → ℕ → ℕ → Option ℕ
  stand_in s a b = cond (length s.vertex_data == 2) None (Some (cond (a == b) (slice_index s.next a) a))

  -- the vertex v of a path is given up, with the edge of b: the links lead past both its halves, a starts where b ended, and no anchor of
  -- another vertex, nor that of the outer face, is one of them
  abbrev pub path_stored : Lists V DE UE F → ℕ → Lists V DE UE F
  path_stored s v =
      let a = anchor_at s v in
      let b = going_from s v in
      let w = slice_index s.origin (rev b) in
      let off = anchor_off (b / 2) (stand_in s a b) in
      record (unlinked (unlinked s b) (rev b)) {
        origin = slice_set s.origin a w;
        vertex_anchors = slice_set (slice_set s.vertex_anchors w (off (slice_index_or s.vertex_anchors w None))) v None;
        face_anchors = slice_set s.face_anchors 0 (off (slice_index_or s.face_anchors 0 None));
      }

  -- the only vertex is taken out, or an edge of a path and then the vertex
  abbrev pub degenerate_out : Lists V DE UE F → ℕ → Lists V DE UE F
  degenerate_out s v = cond (length s.vertex_data == 1) (vertex_out s v) (vertex_out (edge_out (path_stored s v) (going_from s v / 2)) v)

  -- where a vertex of a path can be unlinked, with one of its edges
  pub record CanUnlinkOnPath (s : Lists V DE UE F) (v : ℕ) : Type 0 where
    pub vertex_in : v < length s.vertex_anchors
    pub anchored : slice_index_or s.vertex_anchors v None ≢ None
    pub anchor_in : anchor_at s v < length s.next
    pub going : CanUnlink s (going_from s v)
    pub coming : CanUnlink (unlinked s (going_from s v)) (rev (going_from s v))
    pub end_in : slice_index s.origin (rev (going_from s v)) < length s.vertex_anchors
    pub outer_in : 0 < length s.face_anchors

  -- where it can be taken out with its edge
  pub record CanLoseOnPath (s : Lists V DE UE F) (v : ℕ) : Type 0 where
    pub given_up : CanUnlinkOnPath s v
    pub edge : CanLoseEdge (path_stored s v) (going_from s v / 2)
    pub vertex : CanLoseVertex (edge_out (path_stored s v) (going_from s v / 2)) v

  -- where a vertex of a degenerate mesh can be taken out
  pub record CanLoseDegenerate (s : Lists V DE UE F) (v : ℕ) : Type 0 where
    pub alone : length s.vertex_data ≡ 1 → CanLoseVertex s v
    pub on_path : length s.vertex_data ≢ 1 → CanLoseOnPath s v
