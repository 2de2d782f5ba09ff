-- What the exchange of two vertices leaves in the stored lists, and which can be exchanged.
use Rattle.std.specs.Prelude.{◌≡◌, ℕ, ◌%◌, ◌<◌, List, length, slice_index, slice_index_or, swap, Option, None}
use Rattle.dcel_fixed.specs.HalfEdges.{rev}
use Rattle.dcel_store.specs.Lists.{Lists}
use Rattle.dcel_edits.specs.Rounds.{AnchorComesBack, all_set, round_from}

-- by the stored `prev`: the next half edge out of the same vertex
abbrev pub ccw_by : List ℕ → ℕ → ℕ
ccw_by prev h = rev (slice_index prev h)

-- by the stored `next`: the one before
abbrev pub cw_by : List ℕ → ℕ → ℕ
cw_by next h = slice_index next (rev h)

-- the half edges that turning leads through from an anchor on, where so many are stored
abbrev pub turn_by : List ℕ → ℕ → Option ℕ → List ℕ
turn_by prev halves anchor = round_from (ccw_by prev) halves anchor

module _ {V DE UE F : Type 0} where
  abbrev pub stored_anchor : Lists V DE UE F → ℕ → Option ℕ
  stored_anchor s v = slice_index_or s.vertex_anchors v None

  -- the half edges that turning leads through from the anchor of v on
  abbrev pub turn_of : Lists V DE UE F → ℕ → List ℕ
  turn_of s v = turn_by s.prev (length s.next) (stored_anchor s v)

  -- they start at v
  abbrev pub turn_renamed : Lists V DE UE F → ℕ → Lists V DE UE F
  turn_renamed s v = record s { origin = all_set s.origin (turn_of s v) v }

  -- the vertices a and b with each other's data, anchors and out edges
  abbrev pub vertices_exchanged : Lists V DE UE F → ℕ → ℕ → Lists V DE UE F
  vertices_exchanged s a b = record s {
    vertex_data = swap s.vertex_data a b;
    vertex_anchors = swap s.vertex_anchors a b;
    origin = all_set (all_set s.origin (turn_of s b) a) (turn_of s a) b;
  }

  -- where a vertex can have the half edges of its turn start at it, and two can be exchanged
  pub record CanTurn (s : Lists V DE UE F) (v : ℕ) : Type 0 where
    pub anchor_in : v < length s.vertex_anchors
    pub whole : length s.next % 2 ≡ 0
    pub turns : AnchorComesBack (ccw_by s.prev) (cw_by s.next) (length s.next) (stored_anchor s v)

  pub record CanExchange (s : Lists V DE UE F) (a b : ℕ) : Type 0 where
    pub first_in : a < length s.vertex_data
    pub second_in : b < length s.vertex_data
    pub first_turns : CanTurn s a
    pub second_turns : CanTurn s b
