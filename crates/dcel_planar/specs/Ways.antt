-- Where the half edges of an outer face lead and turn.
use Rattle.std.specs.Prelude.{◌≡◌, ℕ, ◌<◌, pos, ◌≤ℤ◌}
use Rattle.dcel_fixed.specs.HalfEdges.{rev}
use Rattle.dcel_predicates.specs.declared.point.Point.{Point}
use Rattle.dcel_predicates.specs.Determinants.{orient2d_of}
use Rattle.dcel_maps.specs.Shapes.{Shape, end_of, face_of, next_of, origin_of}
use Rattle.dcel_plane.specs.covering.Round.{Begins, LeadsLeft, LeadsRight}
use Rattle.dcel_planar.specs.declared.rounds.Way.{Way}
use Rattle.dcel_planar.specs.declared.rounds.Way.TheVariants.{Right, Left}

abbrev pub leads_to : Way → (ℕ → Point) → Shape → ℕ → Type 0
leads_to Right = LeadsRight
leads_to Left = LeadsLeft

-- if h is on the outer face, its other half isn't, and the next one turns right or goes straight on
abbrev pub TurnsRight : (ℕ → Point) → Shape → ℕ → Type 0
TurnsRight at s h =
    face_of s h ≡ 0 → (0 < face_of s (rev h)) × (orient2d_of (at (origin_of s h)) (at (end_of s h)) (at (end_of s (next_of s h))) ≤ℤ pos 0)

-- no two half edges of the outer face begin to lead there
abbrev pub BeginsOnce : (ℕ → Type 0) → Shape → Type 0
BeginsOnce leads s = (h k : ℕ) → Begins leads s h → Begins leads s k → h ≡ k
