-- The first edge is a straight line.
use Rattle.std.proofs.Common.{◌≡◌, ◌≢◌, ℕ, zero, suc, ◌<◌, List, [], ◌∷◌, slice_index, refl, sym, ap, pos, ◌-ℤ◌, ◌<ℤ◌, ◌≤ℤ◌, arith}
use Rattle.dcel_fixed.specs.HalfEdges.{rev}
use Rattle.dcel_predicates.specs.Determinants.{orient2d_of}
use Rattle.dcel_predicates.specs.declared.point.Point.{Point}
use Rattle.dcel_predicates.proofs.Ring.{by_terms, minus, num, plus, times as by}
use Rattle.dcel_predicates.proofs.Signs.{ordered, square}
use Rattle.dcel_predicates.proofs.Terms.{spot}
use Rattle.dcel_maps.specs.Shapes.{Mesh, Shape}
use Rattle.dcel_maps.specs.edits.Create.{first_edge_added}
use Rattle.dcel_maps.proofs.walks.Links.{half-below}
use Rattle.dcel_plane.specs.covering.Covering.{dot}
use Rattle.dcel_plane.proofs.covering.Inside.{apart_end, apart_start, on_end, on_start}
use Rattle.dcel_plane.specs.hull.Straight.{IsStraight, dot_of_steps}
use Rattle.dcel_plane.proofs.hull.Thin.{back_dot}

ends_of : (P : ℕ → ℕ → ℕ → Type 0) (a b : ℕ) → P 0 a b → P 1 b a → (h : ℕ) → h < 2 → P h (slice_index (a ∷ b ∷ []) h) (slice_index (a ∷ b ∷ []) (rev h))
unfolding rev
ends_of P a b first second zero below = first
ends_of P a b first second (suc zero) below = second
ends_of P a b first second (suc (suc h)) below = absurd (omega (arith, below))

not_beyond_start : (a b : Point) → pos 0 <ℤ dot_of_steps a b a → ⊥
not_beyond_start a b more =
    let e = back_dot a b a in
    let sx = square (a.x -ℤ b.x) in
    let sy = square (a.y -ℤ b.y) in
    omega (arith, ordered, e, sx, sy, more)

not_beyond_end : (a b : Point) → pos 0 <ℤ dot_of_steps a b b → ⊥
not_beyond_end a b more =
    let e : dot_of_steps a b b ≡ pos 0 =
    by_terms (a.x ∷ a.y ∷ b.x ∷ b.y ∷ [])
    (plus (by (minus (spot 1).x (spot 0).x) (minus (spot 1).x (spot 1).x)) (by (minus (spot 1).y (spot 0).y) (minus (spot 1).y (spot 1).y))) (num (pos 0)) refl in
    omega (arith, ordered, e, more)

module _ {V DE UE F : Type 0} (m : Mesh V DE UE F) (at : ℕ → Point) (a b : ℕ) (halves : List DE) (edges : List UE) (differ : (at a).x ≡ (at b).x → (at a).y ≡ (at b).y → ⊥) where
  abbrev s : Shape
  s = (first_edge_added m a b halves edges).shape

  abbrev two : List ℕ
  two = a ∷ b ∷ []

  unlike : a ≢ b
  unlike is = differ (ap (λ i. (at i).x) is) (ap (λ i. (at i).y) is)

  pub first_straight : IsStraight at s
  first_straight = record {
    distinct = λ h k live_h live_k.
        ends_of (λ i v w. (at v).x ≡ (at (slice_index two k)).x → (at v).y ≡ (at (slice_index two k)).y → v ≡ slice_index two k) a b
        (ends_of (λ i v w. (at a).x ≡ (at v).x → (at a).y ≡ (at v).y → a ≡ v) a b (λ ex ey. refl) (λ ex ey. absurd (differ ex ey)) k (half-below s k live_k))
        (ends_of (λ i v w. (at b).x ≡ (at v).x → (at b).y ≡ (at v).y → b ≡ v) a b (λ ex ey. absurd (differ (sym ex) (sym ey))) (λ ex ey. refl) k (half-below s k live_k))
        h (half-below s h live_h);
    line = λ h k live_h live_k.
        ends_of (λ i v w. orient2d_of (at v) (at w) (at (slice_index two k)) ≡ pos 0) a b
        (ends_of (λ i v w. orient2d_of (at a) (at b) (at v) ≡ pos 0) a b (on_end (at a) (at b)) (on_start (at a) (at b)) k (half-below s k live_k))
        (ends_of (λ i v w. orient2d_of (at b) (at a) (at v) ≡ pos 0) a b (on_start (at b) (at a)) (on_end (at b) (at a)) k (half-below s k live_k))
        h (half-below s h live_h);
    between = λ h k live_h live_k.
        ends_of (λ i v w. pos 0 ≤ℤ dot (at v) (at w) (at (slice_index two k))) a b
        (ends_of (λ i v w. pos 0 ≤ℤ dot (at a) (at b) (at v)) a b (let e = apart_start (at a) (at b) in omega (arith, ordered, e)) (let e = apart_end (at a) (at b) in omega (arith, ordered, e)) k (half-below s k live_k))
        (ends_of (λ i v w. pos 0 ≤ℤ dot (at b) (at a) (at v)) a b (let e = apart_end (at b) (at a) in omega (arith, ordered, e)) (let e = apart_start (at b) (at a) in omega (arith, ordered, e)) k (half-below s k live_k))
        h (half-below s h live_h);
    once = λ h k live_h live_k same side.
        ends_of (λ i v w. v ≡ slice_index two k → i ≡ k) a b
        (ends_of (λ i v w. a ≡ v → 0 ≡ i) a b (λ is. refl) (λ is. absurd (unlike is)) k (half-below s k live_k))
        (ends_of (λ i v w. b ≡ v → 1 ≡ i) a b (λ is. absurd (unlike (sym is))) (λ is. refl) k (half-below s k live_k))
        h (half-below s h live_h) same;
    onward = λ h k live_h live_k more.
        absurd
        (ends_of (λ i v w. pos 0 <ℤ dot_of_steps (at v) (at w) (at (slice_index two k)) → ⊥) a b
        (ends_of (λ i v w. pos 0 <ℤ dot_of_steps (at a) (at b) (at v) → ⊥) a b (not_beyond_start (at a) (at b)) (not_beyond_end (at a) (at b)) k (half-below s k live_k))
        (ends_of (λ i v w. pos 0 <ℤ dot_of_steps (at b) (at a) (at v) → ⊥) a b (not_beyond_end (at b) (at a)) (not_beyond_start (at b) (at a)) k (half-below s k live_k))
        h (half-below s h live_h) more);
  }
