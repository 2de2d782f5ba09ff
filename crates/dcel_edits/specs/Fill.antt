-- What cutting a ring into ears leaves in the stored lists, ear by ear, and where it can be cut.
use Rattle.std.specs.Prelude.{◌≡◌, ℕ, ◌+◌, ◌-◌, ◌*◌, ◌<◌, List, [], ◌∷◌, ◌++◌, length, slice_index, slice_set, Option, Some, None, IfSome}
use Rattle.dcel_maps.specs.edits.DefaultData.{AddsEdgesAndFaces}
use Rattle.dcel_maps.specs.edits.Strip.{each_set}
use Rattle.dcel_maps.specs.Words.{count_of}
use Rattle.dcel_store.specs.Lists.{Lists}
use Rattle.dcel_edits.specs.Adding.{HasSpace, adding}
use Rattle.dcel_edits.specs.Outside.{two_set}

-- the half edge that closes the first ear of a ring (p, q, r, ..): the new one of edge m, or r where there is none
abbrev pub closing : ℕ → ℕ → List ℕ → ℕ
closing m r [] = r
closing m r (x ∷ rest) = 2 * m

-- a vertex, if there is one, has no anchor
abbrev pub without_anchor : List (Option ℕ) → Option ℕ → List (Option ℕ)
without_anchor anchors None = anchors
without_anchor anchors (Some v) = slice_set anchors v None

module _ {V DE UE F : Type 0} where
  -- the half edge `first` begins an ear of a new face
  abbrev pub begun_stored : Lists V DE UE F → ℕ → ℕ → ℕ → Lists V DE UE F
  begun_stored s first second third = record s {
    next = slice_set s.next first second;
    prev = slice_set s.prev first third;
    face = slice_set s.face first (length s.face_data);
  }

  -- the ear (p, q, 2m), and 2m + 1, which begins the one that `third` closes; the ears meet at the vertex `apex`
  abbrev pub ear_stored : Lists V DE UE F → ℕ → ℕ → ℕ → ℕ → ℕ → List DE → List UE → List F → Lists V DE UE F
  ear_stored s apex p q r third halves edges faces =
      let n = 2 * length s.undirected_data in
      let l = length s.face_data in
      record (adding s 1 1 halves edges faces) {
        next = slice_set s.next q n ++ p ∷ r ∷ [];
        prev = slice_set s.prev q p ++ q ∷ third ∷ [];
        origin = s.origin ++ slice_index s.origin r ∷ apex ∷ [];
        face = slice_set s.face q l ++ l ∷ (l + 1) ∷ [];
        vertex_anchors = slice_set s.vertex_anchors (slice_index s.origin q) (Some q);
        face_anchors = s.face_anchors ++ Some n ∷ [];
      }

  -- the last ear, (p, q, r)
  abbrev pub last_ear_stored : Lists V DE UE F → ℕ → ℕ → ℕ → ℕ → F → Lists V DE UE F
  last_ear_stored s apex p q r datum =
      let l = length s.face_data in
      record s {
        next = two_set s.next q r r p;
        prev = two_set s.prev q p r q;
        face = two_set s.face q l r l;
        vertex_anchors = slice_set (slice_set (slice_set s.vertex_anchors (slice_index s.origin r) (Some r)) (slice_index s.origin q) (Some q)) apex (Some p);
        face_anchors = s.face_anchors ++ Some p ∷ [];
        face_data = s.face_data ++ datum ∷ [];
        face_room = s.face_room - 1;
      }

  -- u is s with the ring (p, q, r, ..) cut into ears, of which p begins the first; their data are default
  abbrev pub EarsPut : (DE → Type 0) → (UE → Type 0) → (F → Type 0) → ℕ → Lists V DE UE F → ℕ → ℕ → ℕ → List ℕ → Lists V DE UE F → Type 0
  EarsPut is_half is_edge is_face apex s p q r [] u = (datum : F) × is_face datum × (u ≡ last_ear_stored s apex p q r datum)
  EarsPut is_half is_edge is_face apex s p q r (x ∷ rest) u =
      (t : Lists V DE UE F) × AddsEdgesAndFaces is_half is_edge is_face 1 1 t (ear_stored s apex p q r (closing (length s.undirected_data + 1) x rest))
      × EarsPut is_half is_edge is_face apex t (2 * length s.undirected_data + 1) r x rest u

  -- where a half edge can be put into an ear
  pub record IsRingItem (s : Lists V DE UE F) (h : ℕ) : Type 0 where
    pub edge_in : h < length s.next
    pub origin_in : h < length s.origin
    pub start_in : slice_index s.origin h < length s.vertex_anchors

  -- where one ear can be put, and the one after it
  pub record CanPutEar (s : Lists V DE UE F) (q r : ℕ) : Type 0 where
    pub space : HasSpace s 1 2
    pub second : IsRingItem s q
    pub third : IsRingItem s r

  pub record CanPutLastEar (s : Lists V DE UE F) (apex q r : ℕ) : Type 0 where
    pub space : HasSpace s 0 1
    pub second : IsRingItem s q
    pub third : IsRingItem s r
    pub apex_in : apex < length s.vertex_anchors

  -- where the ring (first, second, third, ..), whose other half edges stand in `left` from its end on, can be cut into ears
  pub record CanPutEars (s : Lists V DE UE F) (first second third : ℕ) (left : List ℕ) : Type 0 where
    pub space : HasSpace s (length left) (length left + 1)
    pub first_in : IsRingItem s first
    pub second_in : IsRingItem s second
    pub third_in : IsRingItem s third
    pub items : (h : ℕ) → 0 < count_of h left → IsRingItem s h

  -- faces lose their anchors, and so does a vertex, if there is one
  abbrev pub faces_dropped : Lists V DE UE F → List ℕ → Lists V DE UE F
  faces_dropped s faces = record s { face_anchors = each_set (λ f. f) (λ f. None) s.face_anchors faces }

  abbrev pub given_up : Lists V DE UE F → Option ℕ → List ℕ → Lists V DE UE F
  given_up s v faces = record (faces_dropped s faces) { vertex_anchors = without_anchor s.vertex_anchors v }

  -- where they can
  abbrev pub AreFaces : Lists V DE UE F → List ℕ → Type 0
  AreFaces s faces = (f : ℕ) → 0 < count_of f faces → f < length s.face_anchors

  pub record CanGiveUp (s : Lists V DE UE F) (v : Option ℕ) (faces : List ℕ) : Type 0 where
    pub vertex_in : IfSome v (λ w. w < length s.vertex_anchors)
    pub faces_in : AreFaces s faces
