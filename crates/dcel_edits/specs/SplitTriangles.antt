-- What putting a vertex into an edge of triangles leaves in the stored lists, and where it can be put.
use Rattle.std.specs.Prelude.{◌≡◌, ℕ, ◌+◌, ◌<◌, List, [], ◌∷◌, ◌++◌, length, slice_index, slice_set, Some}
use Rattle.dcel_fixed.specs.HalfEdges.{rev}
use Rattle.dcel_store.specs.Lists.{Lists}
use Rattle.dcel_edits.specs.Adding.{HasSpace, adding}
use Rattle.dcel_edits.specs.declared.sectors.Sector.{Sector}
use Rattle.dcel_edits.specs.Triangle.{three_set}
use Rattle.dcel_edits.specs.Around.{stored_around}

module _ {V DE UE F : Type 0} where
  -- the sector of a half edge that stands already, on a face and with these two beside it
  abbrev pub sector : Lists V DE UE F → ℕ → ℕ → ℕ → ℕ → Sector
  sector s e face next prev = record { edge = e; origin = slice_index s.origin e; face = face; next = next; prev = prev }

module _ {V DE UE F : Type 0} (s : Lists V DE UE F) (e : ℕ) where
  open (stored_around s e) use {n, l, t, f, g, after as a, before as b, t_after as c, t_before as d}

  -- with (e, a, b) and (t, c, d) round the edge of e: the new vertex has 2m + 1 to where d starts, 2m + 3 to where e ended and 2m + 5 to
  -- where b starts, with 2m, 2m + 2 and 2m + 4 back, and t
  abbrev pub both_stored : ℕ → List DE → List UE → List F → Lists V DE UE F
  both_stored middle halves edges faces = record (adding s 3 2 halves edges faces) {
    next = slice_set (slice_set (three_set s.next c n d (n + 2) a (n + 4)) b e) e (n + 5)
        ++ t ∷ d ∷ (n + 1) ∷ a ∷ (n + 3) ∷ b ∷ [];
    prev = slice_set (slice_set (three_set s.prev c t d (n + 1) a (n + 3)) b (n + 5)) t n
        ++ c ∷ (n + 2) ∷ d ∷ (n + 4) ∷ a ∷ e ∷ [];
    origin = slice_set s.origin t middle
        ++ slice_index s.origin d ∷ middle ∷ slice_index s.origin a ∷ middle ∷ slice_index s.origin b ∷ middle ∷ [];
    face = slice_set (three_set s.face c g d l a (l + 1)) b f ++ g ∷ l ∷ l ∷ (l + 1) ∷ (l + 1) ∷ f ∷ [];
    vertex_anchors = slice_set (slice_set s.vertex_anchors (slice_index s.origin a) (Some (n + 2))) middle (Some t);
    face_anchors = slice_set (slice_set s.face_anchors f (Some e)) g (Some n) ++ Some (n + 2) ∷ Some (n + 4) ∷ [];
  }

  -- with (e, a, b) round the edge of e, and t the other half: the new vertex has 2m + 1 to where b starts and 2m + 2 to where e ended,
  -- with 2m and 2m + 3 back, and t
  abbrev pub one_stored : ℕ → List DE → List UE → List F → Lists V DE UE F
  one_stored middle halves edges faces = record (adding s 2 1 halves edges faces) {
    next = slice_set (three_set s.next a n b e e (n + 1)) d (n + 3) ++ (n + 2) ∷ b ∷ a ∷ t ∷ [];
    prev = three_set s.prev a (n + 2) b (n + 1) t (n + 3) ++ a ∷ e ∷ n ∷ d ∷ [];
    origin = slice_set s.origin t middle ++ slice_index s.origin b ∷ middle ∷ middle ∷ slice_index s.origin a ∷ [];
    face = slice_set (slice_set s.face a l) b f ++ l ∷ f ∷ l ∷ g ∷ [];
    vertex_anchors = slice_set (slice_set s.vertex_anchors (slice_index s.origin a) (Some (n + 3))) middle (Some (n + 2));
    face_anchors = slice_set s.face_anchors f (Some e) ++ Some (n + 2) ∷ [];
  }

module _ {V DE UE F : Type 0} where
  -- a half edge whose links are stored, and the ends of those beside it
  pub record IsHeld (s : Lists V DE UE F) (e : ℕ) : Type 0 where
    pub edge_in : e < length s.next
    pub next_in : slice_index s.next e < length s.next
    pub prev_in : slice_index s.prev e < length s.next
    pub face_in : slice_index s.face e < length s.face_anchors
    pub end_in : slice_index s.origin (slice_index s.next e) < length s.vertex_anchors
    pub twin_in : rev e < length s.next
    pub next_starts : slice_index s.origin (slice_index s.next e) ≡ slice_index s.origin (rev e)

  -- where a vertex can be put into an edge, with so many new edges and faces
  pub record CanPutMiddle (edges faces : ℕ) (s : Lists V DE UE F) (e middle : ℕ) : Type 0 where
    pub space : HasSpace s edges faces
    pub edge : IsHeld s e
    pub twin : IsHeld s (rev e)
    pub middle_in : middle < length s.vertex_anchors

  -- where a vertex can be put between two triangles
  abbrev pub CanSplitBoth : Lists V DE UE F → ℕ → ℕ → Type 0
  CanSplitBoth = CanPutMiddle 3 2

  -- where a vertex can be put beside one triangle
  abbrev pub CanSplitOne : Lists V DE UE F → ℕ → ℕ → Type 0
  CanSplitOne = CanPutMiddle 2 1
