-- What cutting a strip leaves in the stored lists, and where it can be cut.
use Rattle.std.specs.Prelude.{ℕ, ◌<◌, List, [], ◌∷◌, length, slice_index, slice_set, Some, None}
use Rattle.dcel_maps.specs.edits.Strip.{each_set}
use Rattle.dcel_maps.specs.Words.{count_of, last_of}
use Rattle.dcel_store.specs.Lists.{Lists}

-- `next` and `prev` once the links lead from `before` along the list
abbrev pub next_along : ℕ → List ℕ → List ℕ → List ℕ
next_along before [] xs = xs
next_along before (e ∷ es) xs = next_along e es (slice_set xs before e)

abbrev pub prev_along : ℕ → List ℕ → List ℕ → List ℕ
prev_along before [] xs = xs
prev_along before (e ∷ es) xs = prev_along e es (slice_set xs e before)

module _ {V DE UE F : Type 0} where
  -- the links lead from `before` along the list, each half edge of which becomes the anchor of its origin
  abbrev pub led_along : Lists V DE UE F → ℕ → List ℕ → Lists V DE UE F
  led_along s before list = record s {
    next = next_along before list s.next;
    prev = prev_along before list s.prev;
    vertex_anchors = each_set (λ e. slice_index s.origin e) (λ e. Some e) s.vertex_anchors list;
  }

  -- where they can
  pub record CanLeadAlong (s : Lists V DE UE F) (before : ℕ) (list : List ℕ) : Type 0 where
    pub before_in : before < length s.next
    pub edge_in : (e : ℕ) → 0 < count_of e list → e < length s.next
    pub origin_in : (e : ℕ) → 0 < count_of e list → slice_index s.origin e < length s.vertex_anchors

  -- a half edge moves to the outer face, and its face loses its anchor; so do those of a list
  abbrev pub moved_out : Lists V DE UE F → ℕ → Lists V DE UE F
  moved_out s e = record s { face_anchors = slice_set s.face_anchors (slice_index s.face e) None; face = slice_set s.face e 0 }

  abbrev pub all_moved_out : Lists V DE UE F → List ℕ → Lists V DE UE F
  all_moved_out s [] = s
  all_moved_out s (e ∷ es) = all_moved_out (moved_out s e) es

  abbrev pub CanMoveOut : Lists V DE UE F → List ℕ → Type 0
  CanMoveOut s [] = Unit {0}
  CanMoveOut s (e ∷ es) = (e < length s.next) × (slice_index s.face e < length s.face_anchors) × CanMoveOut (moved_out s e) es

  -- the outer face has another anchor
  abbrev pub rooted : Lists V DE UE F → ℕ → Lists V DE UE F
  rooted s e = record s { face_anchors = slice_set s.face_anchors 0 (Some e) }

  -- the strip (items, last) cut: with h the half edge before `last`, the outer face leads from what comes before the half edge before h
  -- along the strip, and the vertex where h starts has no anchor
  abbrev pub strip_stored : Lists V DE UE F → List ℕ → ℕ → Lists V DE UE F
  strip_stored s items last =
      let h = slice_index s.prev last in
      let before = slice_index s.prev (slice_index s.prev h) in
      let along = led_along (all_moved_out (rooted s last) items) before items in
      let led = led_along along (last_of before items) (last ∷ []) in
      record led { vertex_anchors = slice_set led.vertex_anchors (slice_index s.origin h) None }

  -- where a strip can be cut
  pub record CanCutStrip (s : Lists V DE UE F) (items : List ℕ) (last : ℕ) : Type 0 where
    pub last_in : last < length s.next
    pub half_in : slice_index s.prev last < length s.next
    pub inner_in : slice_index s.prev (slice_index s.prev last) < length s.next
    pub before_in : slice_index s.prev (slice_index s.prev (slice_index s.prev last)) < length s.next
    pub vertex_in : slice_index s.origin (slice_index s.prev last) < length s.vertex_anchors
    pub end_in : slice_index s.origin last < length s.vertex_anchors
    pub outer_in : 0 < length s.face_anchors
    pub edge_in : (e : ℕ) → 0 < count_of e items → e < length s.next
    pub origin_in : (e : ℕ) → 0 < count_of e items → slice_index s.origin e < length s.vertex_anchors
    pub face_in : (e : ℕ) → 0 < count_of e items → slice_index s.face e < length s.face_anchors
