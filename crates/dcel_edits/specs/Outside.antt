-- What writing a face beside an edge leaves in the stored lists, and where it can be written.
use Rattle.std.specs.Prelude.{ℕ, ◌+◌, ◌<◌, List, [], ◌∷◌, ◌++◌, length, slice_index, slice_set, Some}
use Rattle.dcel_store.specs.Lists.{Lists}
use Rattle.dcel_edits.specs.Adding.{HasSpace, adding}
use Rattle.dcel_edits.specs.Around.{stored_around}

-- two items of a list replaced
abbrev pub two_set : List ℕ → ℕ → ℕ → ℕ → ℕ → List ℕ
two_set l i a j b = slice_set (slice_set l i a) j b

module _ {V DE UE F : Type 0} (s : Lists V DE UE F) (e : ℕ) where
  open (stored_around s e) use {n, l, f, before, after, start}

  -- a triangle beside the half edge e: 2m leads from its end to the vertex `tip` and 2m + 2 back to its start, on a new face; 2m + 1 and
  -- 2m + 3 take its place on the old one
  abbrev pub beside_stored : ℕ → List DE → List UE → List F → Lists V DE UE F
  beside_stored tip halves edges faces = record (adding s 2 1 halves edges faces) {
    next = two_set s.next before (n + 3) e n ++ (n + 2) ∷ after ∷ e ∷ (n + 1) ∷ [];
    prev = two_set s.prev e (n + 2) after (n + 1) ++ e ∷ (n + 3) ∷ n ∷ before ∷ [];
    origin = s.origin ++ slice_index s.origin after ∷ tip ∷ tip ∷ start ∷ [];
    face = slice_set s.face e l ++ l ∷ f ∷ l ∷ f ∷ [];
    vertex_anchors = slice_set s.vertex_anchors tip (Some (n + 2));
    face_anchors = slice_set s.face_anchors f (Some (n + 3)) ++ Some e ∷ [];
  }

  -- a face closed between the half edge e and the next one: 2m leads back from the end of the second to the start of e, and 2m + 1 takes
  -- the place of both on the outer face
  abbrev pub closed_stored : List DE → List UE → List F → Lists V DE UE F
  closed_stored halves edges faces = record (adding s 1 1 halves edges faces) {
    next = two_set s.next before (n + 1) after n ++ e ∷ slice_index s.next after ∷ [];
    prev = two_set s.prev e n (slice_index s.next after) (n + 1) ++ after ∷ before ∷ [];
    origin = s.origin ++ slice_index s.origin (slice_index s.next after) ∷ start ∷ [];
    face = two_set s.face e l after l ++ l ∷ 0 ∷ [];
    face_anchors = slice_set s.face_anchors 0 (Some (n + 1)) ++ Some n ∷ [];
  }

module _ {V DE UE F : Type 0} where
  -- where a triangle can be put beside a half edge
  pub record CanPutBeside (s : Lists V DE UE F) (e tip : ℕ) : Type 0 where
    pub space : HasSpace s 2 1
    pub edge_in : e < length s.next
    pub before_in : slice_index s.prev e < length s.next
    pub after_in : slice_index s.next e < length s.next
    pub face_in : slice_index s.face e < length s.face_anchors
    pub tip_in : tip < length s.vertex_anchors

  -- where a face can be closed
  pub record CanClose (s : Lists V DE UE F) (e : ℕ) : Type 0 where
    pub space : HasSpace s 1 1
    pub edge_in : e < length s.next
    pub before_in : slice_index s.prev e < length s.next
    pub second_in : slice_index s.next e < length s.next
    pub after_in : slice_index s.next (slice_index s.next e) < length s.next
    pub outer_in : 0 < length s.face_anchors
