-- A triangle alone is a Delaunay triangulation, and its outer face is a convex hull.
use Rattle.std.proofs.Common.{◌≡◌, ℕ, zero, suc, ◌*◌, ◌<◌, List, [], ◌∷◌, slice_index, refl, sym, ap, ◌∙◌, pos, ◌<ℤ◌, arith}
use Rattle.dcel_fixed.specs.HalfEdges.{rev}
use Rattle.dcel_predicates.specs.Determinants.{orient2d_of}
use Rattle.dcel_predicates.specs.declared.point.Point.{Point}
use Rattle.dcel_predicates.proofs.Points.{orient2d-first_swapped, orient2d-turned}
use Rattle.dcel_predicates.proofs.Ring.{by_terms, num}
use Rattle.dcel_predicates.proofs.Signs.{ordered}
use Rattle.dcel_predicates.proofs.Terms.{orient, spot}
use Rattle.dcel_maps.specs.Conditions.{IsUnconnected}
use Rattle.dcel_maps.specs.Removals.{Closed, gives_up_edge, gives_up_face}
use Rattle.dcel_maps.specs.Shapes.{Shape, face_of}
use Rattle.dcel_maps.specs.Triangulations.{AllTriangles}
use Rattle.dcel_maps.specs.Words.{face_in}
use Rattle.dcel_maps.specs.edits.Triangle.{triangle_alone}
use Rattle.dcel_maps.proofs.Liveness.{closed-half_live, is_live-parts}
use Rattle.dcel_maps.proofs.walks.Links.{half-below}
use Rattle.dcel_plane.specs.Plane.{TurnsLeft}
use Rattle.dcel_plane.proofs.edits.Alone.{alone_in_plane}
use Rattle.dcel_plane.specs.covering.Covering.{IsConvex, IsHull, Supports}
use Rattle.dcel_plane.specs.covering.Delaunay.{IsDelaunayTriangulation}
use Rattle.dcel_plane.proofs.hull.Beside.{supports_end, supports_right, supports_start}

pub no_turn : (a b c : Point) → a.x ≡ b.x → a.y ≡ b.y → orient2d_of a b c ≡ pos 0
no_turn a b c ex ey = rw (ex, ey) (by_terms (b.x ∷ b.y ∷ c.x ∷ c.y ∷ []) (orient (spot 0) (spot 0) (spot 1)) (num (pos 0)) refl)

abbrev words_alone : List (List ℕ)
words_alone = (0 ∷ 2 ∷ 4 ∷ []) ∷ (1 ∷ 5 ∷ 3 ∷ []) ∷ []

abbrev origins_alone : List ℕ
origins_alone = 0 ∷ 1 ∷ 1 ∷ 2 ∷ 2 ∷ 0 ∷ []

-- the outer half edges lead from 0 to 1, from 1 to 2 and from 2 to 0
outer_alone : (P : ℕ → ℕ → Type 0) → P 0 1 → P 1 2 → P 2 0 → (h : ℕ) → h < 6 → face_in words_alone h ≡ 0 → P (slice_index origins_alone h) (slice_index origins_alone (rev h))
unfolding face_in rev
outer_alone P first second third zero below on = first
outer_alone P first second third (suc zero) below on = absurd (omega (arith, on))
outer_alone P first second third (suc (suc zero)) below on = second
outer_alone P first second third (suc (suc (suc zero))) below on = absurd (omega (arith, on))
outer_alone P first second third (suc (suc (suc (suc zero)))) below on = third
outer_alone P first second third (suc (suc (suc (suc (suc zero))))) below on = absurd (omega (arith, on))
outer_alone P first second third (suc (suc (suc (suc (suc (suc h)))))) below on = absurd (omega (arith, below))

starts_alone : (P : ℕ → Type 0) → P 0 → P 1 → P 2 → (k : ℕ) → k < 6 → P (slice_index origins_alone k)
starts_alone P first second third zero below = first
starts_alone P first second third (suc zero) below = second
starts_alone P first second third (suc (suc zero)) below = second
starts_alone P first second third (suc (suc (suc zero))) below = third
starts_alone P first second third (suc (suc (suc (suc zero)))) below = third
starts_alone P first second third (suc (suc (suc (suc (suc zero))))) below = first
starts_alone P first second third (suc (suc (suc (suc (suc (suc k)))))) below = absurd (omega (arith, below))

outer_double : (h : ℕ) → h < 6 → face_in words_alone h ≡ 0 → h ≡ 2 * slice_index origins_alone h
unfolding face_in
outer_double zero below on = refl
outer_double (suc zero) below on = absurd (omega (arith, on))
outer_double (suc (suc zero)) below on = refl
outer_double (suc (suc (suc zero))) below on = absurd (omega (arith, on))
outer_double (suc (suc (suc (suc zero)))) below on = refl
outer_double (suc (suc (suc (suc (suc zero))))) below on = absurd (omega (arith, on))
outer_double (suc (suc (suc (suc (suc (suc h)))))) below on = absurd (omega (arith, below))

module _ {V DE UE F : Type 0} (at : ℕ → Point) (vertices : V × V × V) (halves : List DE) (edges : List UE) (faces : List F) (left : TurnsLeft (at 1) (at 0) (at 2)) where
  abbrev s : Shape
  s = (triangle_alone vertices halves edges faces).shape

  right_01 : orient2d_of (at 0) (at 1) (at 2) <ℤ pos 0
  right_01 = let e = orient2d-first_swapped (at 1) (at 0) (at 2) in omega (arith, ordered, e, left)

  right_12 : orient2d_of (at 1) (at 2) (at 0) <ℤ pos 0
  right_12 = let e = orient2d-turned (at 0) (at 1) (at 2) in let r = right_01 in omega (arith, ordered, e, r)

  right_20 : orient2d_of (at 2) (at 0) (at 1) <ℤ pos 0
  right_20 = let e = orient2d-turned (at 1) (at 2) (at 0) in let r = right_12 in omega (arith, ordered, e, r)

  all_beside : (h k : ℕ) → h < 6 → k < 6 → face_in words_alone h ≡ 0
      → Supports (at (slice_index origins_alone h)) (at (slice_index origins_alone (rev h))) (at (slice_index origins_alone k))
  all_beside h k below_h below_k on =
      outer_alone (λ a b. Supports (at a) (at b) (at (slice_index origins_alone k)))
      (starts_alone (λ c. Supports (at 0) (at 1) (at c)) (supports_start (at 0) (at 1)) (supports_end (at 0) (at 1)) (supports_right (at 0) (at 1) (at 2) right_01) k below_k)
      (starts_alone (λ c. Supports (at 1) (at 2) (at c)) (supports_right (at 1) (at 2) (at 0) right_12) (supports_start (at 1) (at 2)) (supports_end (at 1) (at 2)) k below_k)
      (starts_alone (λ c. Supports (at 2) (at 0) (at c)) (supports_end (at 2) (at 0)) (supports_right (at 2) (at 0) (at 1) right_20) (supports_start (at 2) (at 0)) k below_k)
      h below_h on

  pub alone_convex : IsConvex at s
  alone_convex = record {
    supports = λ h k live on live_k. all_beside h k (half-below s h live) (half-below s k live_k) on;
  }

  abbrev Same : ℕ → ℕ → Type 0
  Same a b = (at a).x ≡ (at b).x → (at a).y ≡ (at b).y → a ≡ b

  -- two corners of three that don't lie on a line
  differ : (a b c : ℕ) → orient2d_of (at a) (at b) (at c) <ℤ pos 0 → Same a b
  differ a b c turns ex ey = absurd (let z = no_turn (at a) (at b) (at c) ex ey in omega (arith, ordered, z, turns))

  back : (a b : ℕ) → Same a b → Same b a
  back a b same ex ey = sym (same (sym ex) (sym ey))

  all_distinct : (h k : ℕ) → h < 6 → k < 6 → Same (slice_index origins_alone h) (slice_index origins_alone k)
  all_distinct h k below_h below_k =
      starts_alone (λ a. Same a (slice_index origins_alone k))
      (starts_alone (λ b. Same 0 b) (λ ex ey. refl) (differ 0 1 2 right_01) (back 2 0 (differ 2 0 1 right_20)) k below_k)
      (starts_alone (λ b. Same 1 b) (back 0 1 (differ 0 1 2 right_01)) (λ ex ey. refl) (differ 1 2 0 right_12) k below_k)
      (starts_alone (λ b. Same 2 b) (differ 2 0 1 right_20) (back 1 2 (differ 1 2 0 right_12)) (λ ex ey. refl) k below_k)
      h below_h

  pub alone_hull : IsHull at s
  alone_hull = record {
    distinct = λ h k live_h live_k. all_distinct h k (half-below s h live_h) (half-below s k live_k);
    once = λ h k live_h live_k on_h on_k same.
        outer_double h (half-below s h live_h) on_h ∙ ap (λ i. 2 * i) same ∙ sym (outer_double k (half-below s k live_k) on_k);
  }

  no_inner_edge : (u : ℕ) → u < 3 → 0 < face_of s (2 * u) → ⊥
  unfolding face_in
  no_inner_edge zero below inner = omega (arith, inner)
  no_inner_edge (suc zero) below inner = omega (arith, inner)
  no_inner_edge (suc (suc zero)) below inner = omega (arith, inner)
  no_inner_edge (suc (suc (suc u))) below inner = omega (arith, below)

  all_triangles : AllTriangles s
  all_triangles zero inner live = absurd (omega (arith, inner))
  all_triangles (suc zero) inner live = refl
  all_triangles (suc (suc f)) inner live = absurd (let below = (is_live-parts (gives_up_face Closed) 2 (suc (suc f)) live).0 in omega (arith, below))

  none_unconnected : (v : ℕ) → v < 3 → ¬ IsUnconnected s v
  none_unconnected zero below none = none.bare 0 (closed-half_live s refl 0 (omega arith)) refl
  none_unconnected (suc zero) below none = none.bare 2 (closed-half_live s refl 2 (omega arith)) refl
  none_unconnected (suc (suc zero)) below none = none.bare 4 (closed-half_live s refl 4 (omega arith)) refl
  none_unconnected (suc (suc (suc v))) below none = omega (arith, below)

  pub alone_triangulates : IsDelaunayTriangulation at s
  alone_triangulates = record {
    closed = refl;
    inner = omega arith;
    triangles = all_triangles;
    connected = none_unconnected;
    delaunay = record {
      plane = alone_in_plane at vertices halves edges faces left;
      empty = λ u inner circled. no_inner_edge u (is_live-parts (gives_up_edge Closed) 3 u inner.live).0 inner.inner;
    };
    convex = alone_convex;
    hull = alone_hull;
  }
