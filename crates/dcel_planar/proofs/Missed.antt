-- A point of a triangulation is missed beside some half edge alone.
use Rattle.std.proofs.Common.{◌≡◌, ℕ, ◌*◌, ◌<◌, ◌/◌, sym, subst, pos, ◌<ℤ◌, ◌≤ℤ◌, arith}
use Rattle.std.proofs.lemmas.Int.{by_lt_z}
use Rattle.dcel_predicates.specs.declared.point.Point.{Point}
use Rattle.dcel_predicates.specs.Determinants.{orient2d_of}
use Rattle.dcel_predicates.proofs.Signs.{ordered}
use Rattle.dcel_maps.specs.Removals.{gives_up_edge}
use Rattle.dcel_maps.specs.Shapes.{IsLive, IsMesh, Mesh, Shape, end_of, face_of, next_of, origin_of, prev_of}
use Rattle.dcel_maps.specs.Triangulations.{AllTriangles}
use Rattle.dcel_maps.proofs.Liveness.{is_live-parts}
use Rattle.dcel_plane.specs.Plane.{TrianglesTurnLeft, point_at}
use Rattle.dcel_plane.specs.covering.Places.{IsIn, orient_at}
use Rattle.dcel_plane.proofs.covering.Inside.{as_place, place_of}
use Rattle.dcel_plane.proofs.covering.Triangles.{at_word, same_face}
use Rattle.dcel_plane.specs.location.Locating.{HasBeyond}
use Rattle.dcel_plane.proofs.segments.Wholly.{plane_covers}
use Rattle.dcel_planar.specs.Missing.{IsMissed}

module _ {DE UE F : Type 0} (m : Mesh Point DE UE F) (mesh : IsMesh m) (triangles : AllTriangles m.shape) (p : Point) where
  abbrev s : Shape
  s = m.shape

  abbrev q : ℕ → Point
  q h = point_at m (origin_of s h)

  -- the point isn't in the triangle
  abbrev IsOut : ℕ → ℕ → ℕ → Type 0
  IsOut x y z = ¬ IsIn (q x) (q y) (q z) (place_of p)

  turned_out : (x y z : ℕ) → IsOut x y z → IsOut y z x
  turned_out x y z out lies = out (lies.2, lies.0, lies.1)

  out_beyond : (k : ℕ) → HasBeyond (point_at m) s p k → IsOut k (next_of s k) (prev_of s k)
  out_beyond k beyond lies =
      let to : end_of s k ≡ origin_of s (next_of s k) = sym (mesh.sound.joined k beyond.live) in
      let right : orient2d_of (q k) (q (next_of s k)) p <ℤ pos 0 = subst (λ (v : ℕ). orient2d_of (q k) (point_at m v) p <ℤ pos 0) to beyond.right in
      let is = as_place (q k) (q (next_of s k)) p in
      let first = lies.0 in
      omega (arith, ordered, first, is, right)

  out_beside : (h : ℕ) → IsLive s h → 0 < face_of s h → IsMissed m p h → IsOut h (next_of s h) (prev_of s h)
  out_beside h live inner missed =
      let side = missed.inner inner in
      same_face m mesh triangles IsOut turned_out side.0 h side.2.live side.2.inner live inner side.1 (out_beyond side.0 side.2)

  not_left : (k : ℕ) → IsLive s k → face_of s k ≡ 0 → IsMissed m p k → orient_at (q k) (point_at m (end_of s k)) (place_of p) ≤ℤ pos 0
  not_left k live outer missed =
      let is = as_place (q k) (point_at m (end_of s k)) p in
      by_lt_z (pos 0) (orient2d_of (q k) (point_at m (end_of s k)) p) (λ left. absurd (missed.outer outer left)) (λ not. omega (arith, ordered, is, not))

  pub not_all_missed : TrianglesTurnLeft (point_at m) s → (i : ℕ) × IsLive s i × (0 < face_of s i) → ((h : ℕ) → h < 2 * s.edges → IsMissed m p h) → ⊥
  not_all_missed plane half missed =
      (plane_covers (point_at m) m mesh triangles plane).covered (place_of p) half.0 half.1 half.2 (λ k live outer. not_left k live outer (at_live k live))
      (at_word m mesh triangles IsOut turned_out (λ h live inner. out_beside h live inner (at_live h live)))
    where
      at_live : (h : ℕ) → IsLive s h → IsMissed m p h
      at_live h live = missed h (let below = (is_live-parts (gives_up_edge s.removal) s.edges (h / 2) live).0 in omega (arith, below))
