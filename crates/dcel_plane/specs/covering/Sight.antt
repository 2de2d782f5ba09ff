-- What is seen from a triangle where some edges hide what is behind them.
use Rattle.std.specs.Prelude.{◌≡◌, ℕ, ◌<◌, ◌/◌, Bool, false, List, [], ◌∷◌, pos, ◌<ℤ◌}
use Rattle.dcel_fixed.specs.HalfEdges.{rev}
use Rattle.dcel_predicates.specs.declared.point.Point.{Point}
use Rattle.dcel_predicates.specs.Determinants.{orient2d_of}
use Rattle.dcel_maps.specs.Shapes.{IsLive, Shape, end_of, face_of, origin_of}

-- the half edge h of the face f hides nothing, has an inner face behind it, and the vertex v on that side
pub record LeadsTowards (hides : ℕ → Bool) (at : ℕ → Point) (s : Shape) (f v h : ℕ) : Type 0 where
  pub live : IsLive s h
  pub face : face_of s h ≡ f
  pub behind : 0 < face_of s (rev h)
  pub clear : hides (h / 2) ≡ false
  pub beyond : orient2d_of (at (origin_of s h)) (at (end_of s h)) (at v) <ℤ pos 0

-- The vertex v is seen from the face f over the half edges in the list: each leads towards v, from f on, and v is a corner of the face behind
-- the last one. A segment from a place in f to v that meets neither another vertex nor an edge that hides crosses such half edges, one after
-- the other.
abbrev pub SeesOver : (ℕ → Bool) → (ℕ → Point) → Shape → ℕ → ℕ → List ℕ → Type 0
SeesOver hides at s f v [] = (h : ℕ) × IsLive s h × (face_of s h ≡ f) × (origin_of s h ≡ v)
SeesOver hides at s f v (h ∷ list) = LeadsTowards hides at s f v h × SeesOver hides at s (face_of s (rev h)) v list
