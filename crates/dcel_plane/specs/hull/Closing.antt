-- A mesh while its hull is closed after the vertex t was put beside one edge of it. A vertex is old if it isn't t.
use Rattle.std.specs.Prelude.{◌≡◌, ◌≢◌, ℕ, ◌<◌, pos, ◌<ℤ◌, ◌≤ℤ◌}
use Rattle.dcel_predicates.specs.declared.point.Point.{Point}
use Rattle.dcel_predicates.specs.Determinants.{orient2d_of}
use Rattle.dcel_maps.specs.Shapes.{IsLive, Shape, end_of, face_of, next_of, origin_of, prev_of}
use Rattle.dcel_plane.specs.covering.Covering.{HasDistinctPoints, Supports, dot}
use Rattle.dcel_plane.specs.hull.Straight.{dot_of_steps}

-- a half edge of an inner face leads from a to b: it has t on its left, and supports the old vertices
pub record Sees (at : ℕ → Point) (s : Shape) (t a b : ℕ) : Type 0 where
  pub seen : pos 0 <ℤ orient2d_of (at a) (at b) (at t)
  pub supports : (k : ℕ) → IsLive s k → origin_of s k ≢ t → Supports (at a) (at b) (at (origin_of s k))
  pub side : ℕ
  pub live_side : IsLive s side
  pub inner_side : 0 < face_of s side
  pub from : origin_of s side ≡ a
  pub to : end_of s side ≡ b

-- one that leads to u
pub record SeesAfter (at : ℕ → Point) (s : Shape) (t u : ℕ) : Type 0 where
  pub a : ℕ
  pub sees : Sees at s t a u
  pub open sees use *

-- one that leads from v
pub record SeesBefore (at : ℕ → Point) (s : Shape) (t v : ℕ) : Type 0 where
  pub b : ℕ
  pub sees : Sees at s t v b
  pub open sees use *

-- The hull is closed: outer half edges between old vertices are as in a convex hull. Beside the outer half edge that leads out of t there is a
-- half edge to its end that sees t, and so for the one that leads to t: the hull was between these two. The outer face turns out at t.
pub record IsClosing (at : ℕ → Point) (s : Shape) (t : ℕ) : Type 0 where
  pub supports : (h k : ℕ) → IsLive s h → face_of s h ≡ 0 → origin_of s h ≢ t → end_of s h ≢ t → IsLive s k → origin_of s k ≢ t
      → Supports (at (origin_of s h)) (at (end_of s h)) (at (origin_of s k))
  pub after : (h : ℕ) → IsLive s h → face_of s h ≡ 0 → origin_of s h ≡ t → SeesAfter at s t (end_of s h)
  pub before : (h : ℕ) → IsLive s h → face_of s h ≡ 0 → end_of s h ≡ t → SeesBefore at s t (origin_of s h)
  pub tip : (h k : ℕ) → IsLive s h → face_of s h ≡ 0 → origin_of s h ≡ t → IsLive s k → face_of s k ≡ 0 → end_of s k ≡ t
      → orient2d_of (at (origin_of s k)) (at t) (at (end_of s h)) <ℤ pos 0
  pub stands : (h : ℕ) × IsLive s h × (face_of s h ≡ 0) × (origin_of s h ≡ t)

-- the old vertices don't all lie on one line
pub record IsThick (at : ℕ → Point) (s : Shape) (t : ℕ) : Type 0 where
  pub i : ℕ
  pub j : ℕ
  pub k : ℕ
  pub live_i : IsLive s i
  pub live_j : IsLive s j
  pub live_k : IsLive s k
  pub old_i : origin_of s i ≢ t
  pub old_j : origin_of s j ≢ t
  pub old_k : origin_of s k ≢ t
  pub turn : pos 0 <ℤ orient2d_of (at (origin_of s i)) (at (origin_of s j)) (at (origin_of s k))

-- the corners beside t don't turn in
pub record IsClosedBeside (at : ℕ → Point) (s : Shape) (t : ℕ) : Type 0 where
  pub after : (h : ℕ) → IsLive s h → face_of s h ≡ 0 → origin_of s h ≡ t → orient2d_of (at (end_of s h)) (at (end_of s (next_of s h))) (at t) ≤ℤ pos 0
  pub before : (h : ℕ) → IsLive s h → face_of s h ≡ 0 → end_of s h ≡ t → orient2d_of (at (origin_of s (prev_of s h))) (at (origin_of s h)) (at t) ≤ℤ pos 0

-- the same of the old vertices, while the hull is closed after t was put beside such a mesh; no half edge from t leads beyond the corners beside it
pub record IsThin (at : ℕ → Point) (s : Shape) (t : ℕ) : Type 0 where
  pub distinct : HasDistinctPoints at s
  pub line : (h k : ℕ) → IsLive s h → origin_of s h ≢ t → end_of s h ≢ t → IsLive s k → origin_of s k ≢ t
      → orient2d_of (at (origin_of s h)) (at (end_of s h)) (at (origin_of s k)) ≡ pos 0
  pub once : (h k : ℕ) → IsLive s h → IsLive s k → origin_of s h ≢ t → end_of s h ≢ t → end_of s k ≢ t → origin_of s h ≡ origin_of s k
      → pos 0 <ℤ dot (at (end_of s h)) (at (end_of s k)) (at (origin_of s h)) → h ≡ k
  pub onward : (h k : ℕ) → IsLive s h → origin_of s h ≢ t → end_of s h ≢ t → IsLive s k → origin_of s k ≢ t
      → pos 0 <ℤ dot_of_steps (at (origin_of s h)) (at (end_of s h)) (at (origin_of s k))
      → (g : ℕ) × IsLive s g × (origin_of s g ≡ end_of s h) × (end_of s g ≢ t) × (pos 0 <ℤ dot_of_steps (at (origin_of s h)) (at (end_of s h)) (at (end_of s g)))
  pub fan_after : (h i : ℕ) → IsLive s h → face_of s h ≡ 0 → origin_of s h ≡ t → IsLive s i → origin_of s i ≡ t
      → orient2d_of (at t) (at (end_of s h)) (at (end_of s i)) ≤ℤ pos 0
  pub fan_before : (h i : ℕ) → IsLive s h → face_of s h ≡ 0 → end_of s h ≡ t → IsLive s i → origin_of s i ≡ t
      → orient2d_of (at (origin_of s h)) (at t) (at (end_of s i)) ≤ℤ pos 0
  pub once_t : (h k : ℕ) → IsLive s h → IsLive s k → face_of s h ≡ 0 → face_of s k ≡ 0 → origin_of s h ≡ t → origin_of s k ≡ t → h ≡ k
