-- Lists of half edges that a segment crosses, and what flips leave of them.
use Rattle.std.specs.Prelude.{◌≡◌, ℕ, suc, ◌<◌, ◌/◌, List, ◌++◌, take, drop, Some, ◌<ℤ◌, ◌≤ℤ◌}
use Rattle.std.specs.List.{slice_get}
use Rattle.dcel_predicates.specs.declared.point.Point.{Point}
use Rattle.dcel_maps.specs.edits.Flip.{edge_flipped}
use Rattle.dcel_maps.specs.Shapes.{IsLive, Mesh, Shape}
use Rattle.dcel_maps.specs.Words.{count_of}
use Rattle.dcel_plane.specs.Plane.{point_at}
use Rattle.dcel_plane.specs.removal.Wheels.{CanFlipInPlane}
use Rattle.dcel_plane.specs.segments.Segments.{BecomesCrossing, width}

-- both are vertices
pub record HasVertices (s : Shape) (v w : ℕ) : Type 0 where
  pub from : v < s.vertices
  pub to : w < s.vertices

-- the items of a list but for a gap: those before the place, and those that are left once `gap` items are skipped there
abbrev pub around : List ℕ → ℕ → ℕ → List ℕ
around items place gap = take place items ++ drop gap (drop place items)

abbrev pub AreLive : Shape → List ℕ → Type 0
AreLive s list = (h : ℕ) → 0 < count_of h list → IsLive s h

-- the half edge before the one at a place of the list is narrower
abbrev pub IsNarrowerBefore : (ℕ → Point) → Shape → ℕ → ℕ → List ℕ → ℕ → Type 0
IsNarrowerBefore at s v w list place = (i k h : ℕ) → suc i ≡ place → slice_get list i ≡ Some k → slice_get list place ≡ Some h
    → width at s v w k <ℤ width at s v w h

-- and the one after it isn't wider
abbrev pub IsNotWiderAfter : (ℕ → Point) → Shape → ℕ → ℕ → List ℕ → ℕ → Type 0
IsNotWiderAfter at s v w list place = (h k : ℕ) → slice_get list place ≡ Some h → slice_get list (suc place) ≡ Some k
    → width at s v w k ≤ℤ width at s v w h

-- the edge of the half edge at a place of the list is flipped, and in its place stands what crosses the segment then
pub record IsLeftAt {DE UE F : Type 0} (old new : Mesh Point DE UE F) (v w : ℕ) (before after : List ℕ) (place : ℕ) : Type 0 where
  pub half : ℕ
  pub there : slice_get before place ≡ Some half
  pub can : CanFlipInPlane (point_at old) old.shape (half / 2)
  pub flipped : new ≡ edge_flipped old (half / 2)
  pub rest : List ℕ
  pub becomes : BecomesCrossing (point_at old) old.shape v w half rest
  pub list : after ≡ take place before ++ (rest ++ drop (suc place) before)
