-- Where a corner of the hull goes, and the hull along its neighbors turns left nowhere: what lies in none of its triangles is on the right.
use Rattle.std.proofs.Common.{◌≡◌, ◌⊎◌, inl, inr, ℕ, zero, suc, ◌+◌, ◌-◌, ◌<◌, ◌≤◌, [], ◌∷◌, pos, ◌+ℤ◌, ◌*ℤ◌, ◌<ℤ◌, ◌≤ℤ◌, refl, subst, arith}
use Rattle.std.proofs.lemmas.Bool.{cases_lt}
use Rattle.std.proofs.lemmas.Int.{by_lt_z}
use Rattle.dcel_predicates.specs.declared.point.Point.{Point}
use Rattle.dcel_predicates.specs.Determinants.{orient2d_of}
use Rattle.dcel_predicates.proofs.Points.{orient2d-last_swapped}
use Rattle.dcel_predicates.proofs.Signs.{both_negative, ordered, times, times_negative, times_positive}
use Rattle.dcel_plane.specs.removal.Wheels.{IsHollow}
use Rattle.dcel_predicates.proofs.Ring.{by_terms, plus, times as by}
use Rattle.dcel_predicates.proofs.Terms.{orient, spot}
use Rattle.dcel_plane.proofs.removal.Wheels.{plucker, spans}
use Rattle.dcel_plane.proofs.covering.Products.{not_below_factor}

turned : (v a b c d : Point) → orient2d_of v b c *ℤ orient2d_of a b d ≡ (orient2d_of v a b *ℤ orient2d_of b c d) +ℤ (orient2d_of v b d *ℤ orient2d_of a b c)
turned v a b c d =
    by_terms (v.x ∷ v.y ∷ a.x ∷ a.y ∷ b.x ∷ b.y ∷ c.x ∷ c.y ∷ d.x ∷ d.y ∷ []) (by (orient (spot 0) (spot 2) (spot 3)) (orient (spot 1) (spot 2) (spot 4)))
    (plus (by (orient (spot 0) (spot 1) (spot 2)) (orient (spot 2) (spot 3) (spot 4))) (by (orient (spot 0) (spot 2) (spot 4)) (orient (spot 1) (spot 2) (spot 3)))) refl

module _ (v : Point) (u : ℕ → Point) (k : ℕ) (left : (i : ℕ) → i < k → pos 0 <ℤ orient2d_of v (u i) (u (i + 1))) (hollow : IsHollow v u k) (x : Point)
    (after : pos 0 ≤ℤ orient2d_of v (u 0) x) (before : pos 0 ≤ℤ orient2d_of v x (u k)) (some : 0 < k)
    (beyond : (j : ℕ) → j < k → pos 0 ≤ℤ orient2d_of v (u j) x → pos 0 ≤ℤ orient2d_of v x (u (j + 1)) → orient2d_of (u j) (u (j + 1)) x ≤ℤ pos 0) where
  Right : ℕ → Type 0
  Right i = orient2d_of (u i) (u (i + 1)) x ≤ℤ pos 0

  next_left : (i : ℕ) → i + 1 < k → pos 0 <ℤ orient2d_of v (u (i + 1)) (u (i + 2))
  next_left i less = subst (λ (n : ℕ). pos 0 <ℤ orient2d_of v (u (i + 1)) (u n)) (let e : (i + 1) + 1 ≡ i + 2 = omega arith in e) (left (i + 1) less)

  -- from one side to the one before, while x is ahead, and to the one after
  side_before : (i : ℕ) → i + 1 < k → pos 0 ≤ℤ orient2d_of v (u (i + 1)) x → Right (i + 1) → Right i
  unfolding Right
  side_before i less ahead is =
      let e = turned v (u i) (u (i + 1)) (u (i + 2)) x in
      let is' : orient2d_of (u (i + 1)) (u (i + 2)) x ≤ℤ pos 0 = subst (λ (n : ℕ). orient2d_of (u (i + 1)) (u n) x ≤ℤ pos 0) (let e' : (i + 1) + 1 ≡ i + 2 = omega arith in e') is in
      let ab = left i (omega (arith, less)) in
      let bc = next_left i less in
      let p = times_negative (orient2d_of v (u i) (u (i + 1))) (orient2d_of (u (i + 1)) (u (i + 2)) x) (omega (arith, ordered, ab)) is' in
      let q = times_negative (orient2d_of v (u (i + 1)) x) (orient2d_of (u i) (u (i + 1)) (u (i + 2))) ahead (hollow.flat i (omega (arith, less))) in
      by_lt_z (pos 0) (orient2d_of (u i) (u (i + 1)) x)
      (λ more. absurd (let t = times_positive (orient2d_of v (u (i + 1)) (u (i + 2))) (orient2d_of (u i) (u (i + 1)) x) bc more in omega (arith, ordered, e, p, q, t)))
      (λ not. not)

  side_after : (i : ℕ) → i + 1 < k → pos 0 ≤ℤ orient2d_of v x (u (i + 1)) → Right i → Right (i + 1)
  unfolding Right
  side_after i less behind is =
      let e = turned v (u i) (u (i + 1)) (u (i + 2)) x in
      let w = orient2d-last_swapped v (u (i + 1)) x in
      let ab = left i (omega (arith, less)) in
      let bc = next_left i less in
      let p = times_negative (orient2d_of v (u (i + 1)) (u (i + 2))) (orient2d_of (u i) (u (i + 1)) x) (omega (arith, ordered, bc)) is in
      let q = both_negative (orient2d_of v (u (i + 1)) x) (orient2d_of (u i) (u (i + 1)) (u (i + 2))) (omega (arith, ordered, w, behind)) (hollow.flat i (omega (arith, less))) in
      subst (λ (n : ℕ). orient2d_of (u (i + 1)) (u n) x ≤ℤ pos 0) (let e' : i + 2 ≡ (i + 1) + 1 = omega arith in e')
      (by_lt_z (pos 0) (orient2d_of (u (i + 1)) (u (i + 2)) x)
      (λ more. absurd (let t = times_positive (orient2d_of v (u i) (u (i + 1))) (orient2d_of (u (i + 1)) (u (i + 2)) x) ab more in omega (arith, ordered, e, p, q, t)))
      (λ not. not))

  -- the sides lead on by less than a half turn
  less_than_half : (i : ℕ) → i < k → pos 0 <ℤ orient2d_of v (u i) (u k)
  less_than_half i below =
      let w = λ (n : ℕ). u (i + n) in
      let over = (spans v w (k - i) (λ n less. subst (λ (j : ℕ). pos 0 <ℤ orient2d_of v (u (i + n)) (u j)) (let e : (i + n) + 1 ≡ i + (n + 1) = omega arith in e) (left (i + n) (omega (arith, less))))
      (k - i - 1) (omega (arith, below))
      (λ n less.
      subst (λ (j : ℕ). orient2d_of (u (i + n)) (u (i + (n + 1))) (u j) ≤ℤ pos 0) (let e : (i + n) + 2 ≡ i + (n + 2) = omega arith in e)
      (subst (λ (j : ℕ). orient2d_of (u (i + n)) (u j) (u (i + n + 2)) ≤ℤ pos 0) (let e : (i + n) + 1 ≡ i + (n + 1) = omega arith in e) (hollow.flat (i + n) (omega (arith, less)))))).less in
      subst (λ (j : ℕ). pos 0 <ℤ orient2d_of v (u i) (u j)) (let e : i + ((k - i - 1) + 1) ≡ k = omega (arith, below) in e)
      (subst (λ (j : ℕ). pos 0 <ℤ orient2d_of v (u j) (u (i + ((k - i - 1) + 1)))) (let e : i + 0 ≡ i = omega arith in e) over)

  behind_next : (i : ℕ) → i + 1 ≤ k → pos 0 ≤ℤ orient2d_of v x (u i) → pos 0 ≤ℤ orient2d_of v x (u (i + 1))
  behind_next i within here = elim (cases_lt (i + 1) k) [
    | inr last ↦ subst (λ (j : ℕ). pos 0 ≤ℤ orient2d_of v x (u j)) (let e : k ≡ i + 1 = omega (arith, last, within) in e) before
    | inl less ↦
        (let e = plucker v x (u i) (u (i + 1)) (u k) in
        let a = less_than_half (i + 1) less in
        let b = less_than_half i (omega (arith, less)) in
        let c = left i (omega (arith, less)) in
        let p = times (orient2d_of v x (u i)) (orient2d_of v (u (i + 1)) (u k)) here (omega (arith, ordered, a)) in
        let q = times (orient2d_of v x (u k)) (orient2d_of v (u i) (u (i + 1))) before (omega (arith, ordered, c)) in
        not_below_factor (orient2d_of v x (u (i + 1))) (orient2d_of v (u i) (u k)) b (omega (arith, ordered, e, p, q)))
  ]

  -- all sides after one that x lies beyond, and all before it
  all_after : (n i : ℕ) → i + n < k → pos 0 ≤ℤ orient2d_of v x (u (i + 1)) → Right i → Right (i + n)
  all_after zero i less behind is = subst Right (let e : i ≡ i + 0 = omega arith in e) is
  all_after (suc n) i less behind is =
      let e : (i + 1) + n ≡ i + suc n = omega arith in
      let e2 : (i + 1) + 1 ≡ i + 2 = omega arith in
      subst Right e (all_after n (i + 1) (omega (arith, less)) (behind_next (i + 1) (omega (arith, less)) behind) (side_after i (omega (arith, less)) behind is))

  all_before : (j i : ℕ) → i ≤ j → j < k → ((n : ℕ) → n ≤ j → pos 0 ≤ℤ orient2d_of v (u n) x) → Right j → Right i
  all_before zero i within less ahead is = subst Right (let e : 0 ≡ i = omega (arith, within) in e) is
  all_before (suc j) i within less ahead is = elim (cases_lt i (suc j)) [
    | inr last ↦ subst Right (let e : suc j ≡ i = omega (arith, within, last) in e) is
    | inl below ↦
        (let e : suc j ≡ j + 1 = omega arith in
        all_before j i (omega (arith, below)) (omega (arith, less)) (λ n few. ahead n (omega (arith, few)))
        (side_before j (omega (arith, less)) (ahead (j + 1) (omega arith)) (subst Right e is)))
  ]

  -- the side in whose angle x lies: x is ahead of all corners up to it
  pub record Faces : Type 0 where
    pub j : ℕ
    pub within : j < k
    pub ahead : (n : ℕ) → n ≤ j → pos 0 ≤ℤ orient2d_of v (u n) x
    pub behind : pos 0 ≤ℤ orient2d_of v x (u (j + 1))

  facing : (n : ℕ) → n < k → Faces ⊎ ((i : ℕ) → i ≤ n → pos 0 ≤ℤ orient2d_of v (u i) x)
  facing zero below = inr (λ i few. (let e : 0 ≡ i = omega (arith, few) in subst (λ (m : ℕ). pos 0 ≤ℤ orient2d_of v (u m) x) e after))
  facing (suc n) below = elim (facing n (omega (arith, below))) [
    | inl found ↦ inl found
    | inr ahead ↦
        by_lt_z (orient2d_of v (u (suc n)) x) (pos 0)
        (λ less.
        let w = orient2d-last_swapped v (u (suc n)) x in
        let e : suc n ≡ n + 1 = omega arith in
        inl (record { j = n; within = omega (arith, below); ahead = ahead; behind = subst (λ (m : ℕ). pos 0 ≤ℤ orient2d_of v x (u m)) e (omega (arith, ordered, w, less)) }))
        (λ not. inr (λ i few. elim (cases_lt i (suc n)) [
          | inl under ↦ ahead i (omega (arith, under))
          | inr same ↦ (let e : suc n ≡ i = omega (arith, few, same) in subst (λ (m : ℕ). pos 0 ≤ℤ orient2d_of v (u m) x) e not)
        ]))
  ]

  faces : Faces
  faces = elim (facing (k - 1) (omega (arith, some))) [
    | inl found ↦ found
    | inr ahead ↦
        (let e : k ≡ (k - 1) + 1 = omega (arith, some) in
        record { j = k - 1; within = omega (arith, some); ahead = ahead; behind = subst (λ (m : ℕ). pos 0 ≤ℤ orient2d_of v x (u m)) e before })
  ]

  pub right_of_all : (i : ℕ) → i < k → orient2d_of (u i) (u (i + 1)) x ≤ℤ pos 0
  unfolding Right
  right_of_all i below =
      let f = faces in
      let is = beyond f.j f.within (f.ahead f.j (omega arith)) f.behind in
      elim (cases_lt f.j i) [
        | inr low ↦ all_before f.j i low f.within f.ahead is
        | inl high ↦
            (let e : f.j + (i - f.j) ≡ i = omega (arith, high) in
            subst (λ (m : ℕ). orient2d_of (u m) (u (m + 1)) x ≤ℤ pos 0) e (all_after (i - f.j) f.j (omega (arith, high, below)) f.behind is))
      ]
