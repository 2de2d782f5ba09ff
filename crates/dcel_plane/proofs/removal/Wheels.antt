-- Of five or more triangles around a point, an edge between two can be flipped; of four too, or the point lies between two neighbors.
use Rattle.std.proofs.Common.{◌≡◌, ◌⊎◌, inl, inr, ℕ, zero, suc, ◌+◌, ◌-◌, ◌<◌, [], ◌∷◌, ℤ, pos, ◌+ℤ◌, ◌-ℤ◌, ◌*ℤ◌, ◌<ℤ◌, ◌≤ℤ◌, refl, sym, subst, arith}
use Rattle.std.proofs.lemmas.Bool.{cases_lt}
use Rattle.std.proofs.lemmas.Int.{by_lt_z}
use Rattle.dcel_predicates.specs.declared.point.Point.{Point}
use Rattle.dcel_predicates.specs.Determinants.{orient2d_of}
use Rattle.dcel_predicates.proofs.Points.{orient2d-last_swapped, orient2d-turned}
use Rattle.dcel_predicates.proofs.Signs.{both_negative, factor_positive, negative_times, ordered, times, times_negative, times_positive}
use Rattle.dcel_plane.specs.Plane.{TurnsLeft}
use Rattle.dcel_plane.specs.removal.Wheels.{IsFlippable, IsWheel, LiesBetween}
use Rattle.dcel_plane.proofs.covering.Along.{none_first, none_second}
use Rattle.dcel_plane.proofs.covering.Products.{below_times}
use Rattle.dcel_predicates.proofs.Ring.{by_terms, minus, num, plus, times as by}
use Rattle.dcel_predicates.proofs.Terms.{orient, spot}

-- the determinants of four points around v
pub plucker : (v a b c d : Point) → orient2d_of v a b *ℤ orient2d_of v c d ≡ (orient2d_of v a c *ℤ orient2d_of v b d) -ℤ (orient2d_of v a d *ℤ orient2d_of v b c)
plucker v a b c d =
    by_terms (v.x ∷ v.y ∷ a.x ∷ a.y ∷ b.x ∷ b.y ∷ c.x ∷ c.y ∷ d.x ∷ d.y ∷ []) (by (orient (spot 0) (spot 1) (spot 2)) (orient (spot 0) (spot 3) (spot 4)))
    (minus (by (orient (spot 0) (spot 1) (spot 3)) (orient (spot 0) (spot 2) (spot 4))) (by (orient (spot 0) (spot 1) (spot 4)) (orient (spot 0) (spot 2) (spot 3)))) refl

pub summed : (v a b c : Point) → orient2d_of a b c ≡ (orient2d_of v a b +ℤ orient2d_of v b c) -ℤ orient2d_of v a c
summed v a b c =
    by_terms (v.x ∷ v.y ∷ a.x ∷ a.y ∷ b.x ∷ b.y ∷ c.x ∷ c.y ∷ []) (orient (spot 1) (spot 2) (spot 3))
    (minus (plus (orient (spot 0) (spot 1) (spot 2)) (orient (spot 0) (spot 2) (spot 3))) (orient (spot 0) (spot 1) (spot 3))) refl

linked : (v a b c d : Point) → orient2d_of v b c *ℤ orient2d_of a c d ≡ (orient2d_of v a c *ℤ orient2d_of b c d) +ℤ (orient2d_of v c d *ℤ orient2d_of a b c)
linked v a b c d =
    by_terms (v.x ∷ v.y ∷ a.x ∷ a.y ∷ b.x ∷ b.y ∷ c.x ∷ c.y ∷ d.x ∷ d.y ∷ []) (by (orient (spot 0) (spot 2) (spot 3)) (orient (spot 1) (spot 3) (spot 4)))
    (plus (by (orient (spot 0) (spot 1) (spot 3)) (orient (spot 2) (spot 3) (spot 4))) (by (orient (spot 0) (spot 3) (spot 4)) (orient (spot 1) (spot 2) (spot 3)))) refl

-- corners that don't turn left span less than a half turn
module _ (v : Point) (w : ℕ → Point) (n : ℕ) (left : (i : ℕ) → i < n → TurnsLeft v (w i) (w (i + 1))) where
  pub record Spans (m : ℕ) : Type 0 where
    pub less : pos 0 <ℤ orient2d_of v (w 0) (w (m + 1))
    pub flat : orient2d_of (w 0) (w m) (w (m + 1)) ≤ℤ pos 0

  next_flat : (a b c d : Point) → pos 0 <ℤ orient2d_of v b c → pos 0 <ℤ orient2d_of v a c → pos 0 <ℤ orient2d_of v c d
      → orient2d_of b c d ≤ℤ pos 0 → orient2d_of a b c ≤ℤ pos 0 → orient2d_of a c d ≤ℤ pos 0
  next_flat a b c d bc ac cd bcd abc =
      let e = linked v a b c d in
      let p = times_negative (orient2d_of v a c) (orient2d_of b c d) (omega (arith, ordered, ac)) bcd in
      let q = times_negative (orient2d_of v c d) (orient2d_of a b c) (omega (arith, ordered, cd)) abc in
      by_lt_z (pos 0) (orient2d_of a c d)
      (λ more. absurd (let t = times_positive (orient2d_of v b c) (orient2d_of a c d) bc more in omega (arith, ordered, e, p, q, t)))
      (λ not. not)

  pub spans : (m : ℕ) → m < n → ((i : ℕ) → i < m → orient2d_of (w i) (w (i + 1)) (w (i + 2)) ≤ℤ pos 0) → Spans m
  spans zero within flat = record {
    less = left 0 within;
    flat = let z = by_terms ((w 0).x ∷ (w 0).y ∷ (w 1).x ∷ (w 1).y ∷ []) (orient (spot 0) (spot 0) (spot 1)) (num (pos 0)) refl in omega (arith, ordered, z);
  }
  spans (suc m) within flat =
      let before = spans m (omega (arith, within)) (λ i below. flat i (omega (arith, below))) in
      let c = w (m + 1) in
      let d = w (m + 2) in
      let cd : pos 0 <ℤ orient2d_of v (w (m + 1)) (w (m + 2)) = subst (λ (i : ℕ). pos 0 <ℤ orient2d_of v (w (m + 1)) (w i)) (let e : (m + 1) + 1 ≡ m + 2 = omega arith in e) (left (m + 1) (omega (arith, within))) in
      let bcd = flat m (omega arith) in
      let acd : orient2d_of (w 0) (w (m + 1)) (w (m + 2)) ≤ℤ pos 0 = next_flat (w 0) (w m) (w (m + 1)) (w (m + 2)) (left m (omega (arith, within))) before.less cd bcd before.flat in
      let s = summed v (w 0) (w (m + 1)) (w (m + 2)) in
      let ac = before.less in
      let there : m + 2 ≡ suc m + 1 = omega arith in
      let here : m + 1 ≡ suc m = omega arith in
      record {
        less = subst (λ (i : ℕ). pos 0 <ℤ orient2d_of v (w 0) (w i)) there (omega (arith, ordered, s, ac, cd, acd));
        flat = subst (λ (i : ℕ). orient2d_of (w 0) (w i) (w (suc m + 1)) ≤ℤ pos 0) here (subst (λ (i : ℕ). orient2d_of (w 0) (w (m + 1)) (w i) ≤ℤ pos 0) there acd);
      }

-- outside of an angle of at least a half turn
outside : (v a b c w : Point) → pos 0 <ℤ orient2d_of v a b → pos 0 <ℤ orient2d_of v b c → orient2d_of v a c ≤ℤ pos 0
    → (pos 0 ≤ℤ orient2d_of v a w → pos 0 ≤ℤ orient2d_of v w b → ⊥) → (pos 0 ≤ℤ orient2d_of v b w → pos 0 ≤ℤ orient2d_of v w c → ⊥)
    → (pos 0 <ℤ orient2d_of v w a) × (pos 0 <ℤ orient2d_of v c w)
outside v a b c w ab bc ac not_first not_second =
    let e = plucker v a b c w in
    let wa = orient2d-last_swapped v a w in
    let wb = orient2d-last_swapped v b w in
    let wc = orient2d-last_swapped v c w in
    let aw_less : orient2d_of v a w <ℤ pos 0 =
    by_lt_z (orient2d_of v a w) (pos 0) (λ less. less)
    (λ not. absurd
    (let b_less : orient2d_of v w b <ℤ pos 0 = by_lt_z (orient2d_of v w b) (pos 0) (λ is. is) (λ nor. absurd (not_first not nor)) in
    let bw : pos 0 <ℤ orient2d_of v b w = omega (arith, ordered, wb, b_less) in
    let c_less : orient2d_of v w c <ℤ pos 0 = by_lt_z (orient2d_of v w c) (pos 0) (λ is. is) (λ nor. absurd (not_second (omega (arith, ordered, bw)) nor)) in
    let p = times_positive (orient2d_of v a b) (orient2d_of v c w) ab (omega (arith, ordered, wc, c_less)) in
    let q = times (orient2d_of v a w) (orient2d_of v b c) not (omega (arith, ordered, bc)) in
    let r = negative_times (orient2d_of v a c) (orient2d_of v b w) ac (omega (arith, ordered, bw)) in
    omega (arith, ordered, e, p, q, r))) in
    let cw_more : pos 0 <ℤ orient2d_of v c w =
    by_lt_z (pos 0) (orient2d_of v c w) (λ more. more)
    (λ not. absurd
    (let bw : orient2d_of v b w <ℤ pos 0 =
    by_lt_z (orient2d_of v b w) (pos 0) (λ is. is) (λ nor. absurd (not_second nor (omega (arith, ordered, wc, not)))) in
    let p = times_negative (orient2d_of v a b) (orient2d_of v c w) (omega (arith, ordered, ab)) not in
    let q = below_times (orient2d_of v a w) (orient2d_of v b c) aw_less bc in
    let r = both_negative (orient2d_of v a c) (orient2d_of v b w) ac (omega (arith, ordered, bw)) in
    omega (arith, ordered, e, p, q, r))) in
    (omega (arith, ordered, wa, aw_less), cw_more)

-- the first i below n with P, or none
pub search_below : (P : ℕ → Type 0) → ((i : ℕ) → P i ⊎ (P i → ⊥)) → (n : ℕ) → ((i : ℕ) × (i < n) × P i) ⊎ ((i : ℕ) → i < n → P i → ⊥)
search_below P decide zero = inr (λ i below. absurd (omega (arith, below)))
search_below P decide (suc n) = elim (search_below P decide n) [
  | inl found ↦ (let below = found.1 in inl (found.0, omega (arith, below), found.2))
  | inr none ↦ elim (decide n) [
    | inl is ↦ inl (n, omega arith, is)
    | inr not ↦ inr (λ i below is. elim (cases_lt i n) [
      | inl less ↦ none i less is
      | inr past ↦ (let same : i ≡ n = omega (arith, below, past) in not (subst P same is))
    ])
  ]
]

module _ (v : Point) (u : ℕ → Point) (k : ℕ) (wheel : IsWheel v u k) where
  abbrev t : ℕ → ℕ → ℤ
  t i j = orient2d_of v (u i) (u j)

  abbrev o : ℕ → ℕ → ℕ → ℤ
  o h i j = orient2d_of (u h) (u i) (u j)

  -- the same at other numbers
  moved : (P : Point → Type 0) (i j : ℕ) → i ≡ j → P (u i) → P (u j)
  moved P i j is holds = subst (λ (n : ℕ). P (u n)) is holds

  around : (P : Point → Type 0) (i : ℕ) → P (u i) → P (u (i + k))
  around P i holds = subst P (sym (wheel.period i)) holds

  back_around : (P : Point → Type 0) (i : ℕ) → P (u (i + k)) → P (u i)
  back_around P i holds = subst P (wheel.period i) holds

  -- a neighbor whose direction is that of another one is that one: so none lies on the second side of an angle either
  closed_once : (i d : ℕ) → 1 < d → d < k → pos 0 ≤ℤ t i (i + d) → pos 0 ≤ℤ t (i + d) (i + 1) → ⊥
  closed_once i d more less after before =
      by_lt_z (pos 0) (t (i + d) (i + 1)) (λ strict. wheel.once i d (omega (arith, more)) less after strict)
      (λ not.
      let zero_wb : t (i + d) (i + 1) ≡ pos 0 = omega (arith, ordered, before, not) in
      let bw = orient2d-last_swapped v (u (i + d)) (u (i + 1)) in
      let ab = wheel.left i in
      let bc : pos 0 <ℤ t (i + 1) (i + 2) = moved (λ q. pos 0 <ℤ orient2d_of v (u (i + 1)) q) ((i + 1) + 1) (i + 2) (omega arith) (wheel.left (i + 1)) in
      let aw : pos 0 <ℤ t i (i + d) =
      by_lt_z (pos 0) (t i (i + d)) (λ is. is)
      (λ nor. absurd
      (let e = plucker v (u i) (u (i + 1)) (u (i + d)) (u (i + d + 1)) in
      let p = times_positive (t i (i + 1)) (t (i + d) (i + d + 1)) ab (wheel.left (i + d)) in
      let q = none_first (t i (i + d)) (t (i + 1) (i + d + 1)) (omega (arith, ordered, after, nor)) in
      let r = none_second (t i (i + d + 1)) (t (i + 1) (i + d)) (omega (arith, ordered, bw, zero_wb)) in
      omega (arith, ordered, e, p, q, r))) in
      let wc : pos 0 <ℤ t (i + d) (i + 2) =
      (let e = plucker v (u i) (u (i + 1)) (u (i + d)) (u (i + 2)) in
      let p = times_positive (t i (i + d)) (t (i + 1) (i + 2)) aw bc in
      let r = none_second (t i (i + 2)) (t (i + 1) (i + d)) (omega (arith, ordered, bw, zero_wb)) in
      factor_positive (t i (i + 1)) (t (i + d) (i + 2)) ab (omega (arith, ordered, e, p, r))) in
      one_on i d more less (omega (arith, ordered, bw, zero_wb)) wc)
    where
      -- it lies on the first side of the next angle
      one_on : (i d : ℕ) → 1 < d → d < k → pos 0 ≤ℤ t (i + 1) (i + d) → pos 0 <ℤ t (i + d) (i + 2) → ⊥
      one_on i zero more less after before = omega (arith, more)
      one_on i (suc d) more less after before =
          let same : i + suc d ≡ (i + 1) + d = omega arith in
          wheel.once (i + 1) d (omega (arith, more)) (omega (arith, less)) (moved (λ q. pos 0 ≤ℤ orient2d_of v (u (i + 1)) q) (i + suc d) ((i + 1) + d) same after)
          (moved (λ q. pos 0 <ℤ orient2d_of v (u ((i + 1) + d)) q) (i + 2) ((i + 1) + 1) (omega arith)
          (moved (λ q. pos 0 <ℤ orient2d_of v q (u (i + 2))) (i + suc d) ((i + 1) + d) same before))

  -- the other neighbors, where the angle from u i to u (i + 2) is at least a half turn
  beyond_wide : (i d : ℕ) → 2 < d → d < k → t i (i + 2) ≤ℤ pos 0 → (pos 0 <ℤ t (i + d) i) × (pos 0 <ℤ t (i + 2) (i + d))
  beyond_wide i d more less wide =
      outside v (u i) (u (i + 1)) (u (i + 2)) (u (i + d)) (wheel.left i) (moved (λ q. pos 0 <ℤ orient2d_of v (u (i + 1)) q) ((i + 1) + 1) (i + 2) (omega arith) (wheel.left (i + 1)))
      wide (closed_once i d (omega (arith, more)) less) (second d more less)
    where
      second : (d : ℕ) → 2 < d → d < k → pos 0 ≤ℤ t (i + 1) (i + d) → pos 0 ≤ℤ t (i + d) (i + 2) → ⊥
      second zero more less after before = omega (arith, more)
      second (suc d) more less after before =
          let same : i + suc d ≡ (i + 1) + d = omega arith in
          closed_once (i + 1) d (omega (arith, more)) (omega (arith, less)) (moved (λ q. pos 0 ≤ℤ orient2d_of v (u (i + 1)) q) (i + suc d) ((i + 1) + d) same after)
          (moved (λ q. pos 0 ≤ℤ orient2d_of v (u ((i + 1) + d)) q) (i + 2) ((i + 1) + 1) (omega arith)
          (moved (λ q. pos 0 ≤ℤ orient2d_of v q (u (i + 2))) (i + suc d) ((i + 1) + d) same before))

  -- so two such angles are beside each other, if there are five neighbors
  wide_beside : (i d : ℕ) → 4 < k → 1 < d → d + 1 < k → t i (i + 2) ≤ℤ pos 0 → t (i + d) (i + d + 2) ≤ℤ pos 0 → ⊥
  wide_beside i d five more less wide wide_too = elim (cases_lt 2 d) [
    | inr two ↦
        let is : d ≡ 2 = omega (arith, more, two) in
        let wide_2 : t (i + 2) ((i + 2) + 2) ≤ℤ pos 0 = subst (λ (n : ℕ). t (i + n) (i + n + 2) ≤ℤ pos 0) is wide_too in
        let r = (beyond_wide (i + 2) (k - 2) (omega (arith, five)) (omega (arith, five)) wide_2).0 in
        let r' : pos 0 <ℤ t i (i + 2) =
        back_around (λ q. pos 0 <ℤ orient2d_of v q (u (i + 2))) i (moved (λ q. pos 0 <ℤ orient2d_of v q (u (i + 2))) ((i + 2) + (k - 2)) (i + k) (omega (arith, five)) r) in
        omega (arith, ordered, r', wide)
    | inl three ↦ elim (cases_lt (d + 2) k) [
      | inl far ↦
          let one = (beyond_wide i d three (omega (arith, far)) wide).0 in
          let two = (beyond_wide (i + d) (k - d) (omega (arith, far)) (omega (arith, far, three)) wide_too).0 in
          let two' : pos 0 <ℤ t i (i + d) =
          back_around (λ q. pos 0 <ℤ orient2d_of v q (u (i + d))) i (moved (λ q. pos 0 <ℤ orient2d_of v q (u (i + d))) ((i + d) + (k - d)) (i + k) (omega (arith, far)) two) in
          let w = orient2d-last_swapped v (u i) (u (i + d)) in
          omega (arith, ordered, one, two', w)
      | inr near ↦
          let is : k ≡ d + 2 = omega (arith, near, less) in
          let r = (beyond_wide (i + d) 4 (omega arith) five wide_too).1 in
          let first : pos 0 <ℤ orient2d_of v (u i) (u ((i + d) + 4)) =
          back_around (λ q. pos 0 <ℤ orient2d_of v q (u ((i + d) + 4))) i
          (moved (λ q. pos 0 <ℤ orient2d_of v q (u ((i + d) + 4))) ((i + d) + 2) (i + k) (omega (arith, is)) r) in
          let both : pos 0 <ℤ t i (i + 2) =
          back_around (λ q. pos 0 <ℤ orient2d_of v (u i) q) (i + 2) (moved (λ q. pos 0 <ℤ orient2d_of v (u i) q) ((i + d) + 4) ((i + 2) + k) (omega (arith, is)) first) in
          omega (arith, ordered, both, wide)
    ]
  ]

  -- not all corners but two beside each other turn right, or lead straight on
  not_flat : (a : ℕ) → 2 < k → ((i : ℕ) → i + 2 < k → o (a + i) (a + i + 1) (a + i + 2) ≤ℤ pos 0) → ⊥
  not_flat a three flat =
      let w = λ (i : ℕ). u (a + i) in
      let over = (spans v w k (λ i below. moved (λ q. pos 0 <ℤ orient2d_of v (u (a + i)) q) ((a + i) + 1) (a + (i + 1)) (omega arith) (wheel.left (a + i))) (k - 2) (omega (arith, three))
      (λ i below. moved (λ q. orient2d_of (u (a + i)) (u (a + (i + 1))) q ≤ℤ pos 0) ((a + i) + 2) (a + (i + 2)) (omega arith)
      (moved (λ q. orient2d_of (u (a + i)) q (u (a + i + 2)) ≤ℤ pos 0) ((a + i) + 1) (a + (i + 1)) (omega arith) (flat i (omega (arith, below)))))).less in
      let one : pos 0 <ℤ t a (a + (k - 1)) =
      moved (λ q. pos 0 <ℤ orient2d_of v (u a) q) (a + ((k - 2) + 1)) (a + (k - 1)) (omega (arith, three))
      (moved (λ q. pos 0 <ℤ orient2d_of v q (u (a + ((k - 2) + 1)))) (a + 0) a (omega arith) over) in
      let two : pos 0 <ℤ t (a + (k - 1)) a =
      back_around (λ q. pos 0 <ℤ orient2d_of v (u (a + (k - 1))) q) a
      (moved (λ q. pos 0 <ℤ orient2d_of v (u (a + (k - 1))) q) ((a + (k - 1)) + 1) (a + k) (omega (arith, three)) (wheel.left (a + (k - 1)))) in
      let s = orient2d-last_swapped v (u a) (u (a + (k - 1))) in
      omega (arith, ordered, one, two, s)

  -- what holds of the first k holds of all
  everywhere : (P : ℕ → Type 0) → 0 < k → ((i : ℕ) → P i → P (i + k)) → ((i : ℕ) → i < k → P i) → (i : ℕ) → P i
  everywhere P more again first i = below i i (omega arith)
    where
      below : (n i : ℕ) → i < n + k → P i
      below zero i less = first i (omega (arith, less))
      below (suc n) i less = elim (cases_lt i (n + k)) [
        | inl under ↦ below n i under
        | inr past ↦ (let same : n + k ≡ i = omega (arith, less, past) in subst P same (again n (below n n (omega (arith, more)))))
      ]

  Flat : ℕ → Type 0
  Flat i = o i (i + 1) (i + 2) ≤ℤ pos 0

  Wide : ℕ → Type 0
  Wide i = t i (i + 2) ≤ℤ pos 0

  flat_or_wide : (i : ℕ) → (IsFlippable v u i → ⊥) → (Wide i → ⊥) → Flat i
  unfolding Flat Wide
  flat_or_wide i not narrow =
      by_lt_z (pos 0) (t i (i + 2))
      (λ more. by_lt_z (pos 0) (o i (i + 1) (i + 2)) (λ off. absurd (not (record { near = more; off = off }))) (λ is. is))
      (λ is. absurd (narrow is))

  wide-decided : (i : ℕ) → Wide i ⊎ (Wide i → ⊥)
  unfolding Wide
  wide-decided i = by_lt_z (pos 0) (t i (i + 2)) (λ more. inr (λ is. omega (arith, ordered, more, is))) (λ not. inl not)

  wide_again : (i : ℕ) → Wide (i + k) → Wide i
  unfolding Wide
  wide_again i is =
      back_around (λ q. orient2d_of v q (u (i + 2)) ≤ℤ pos 0) i
      (back_around (λ q. orient2d_of v (u (i + k)) q ≤ℤ pos 0) (i + 2) (moved (λ q. orient2d_of v (u (i + k)) q ≤ℤ pos 0) ((i + k) + 2) ((i + 2) + k) (omega arith) is))

  flip_again : (i : ℕ) → IsFlippable v u (i + k) → IsFlippable v u i
  flip_again i can = record {
    near =
        back_around (λ q. pos 0 <ℤ orient2d_of v q (u (i + 2))) i
        (back_around (λ q. pos 0 <ℤ orient2d_of v (u (i + k)) q) (i + 2) (moved (λ q. pos 0 <ℤ orient2d_of v (u (i + k)) q) ((i + k) + 2) ((i + 2) + k) (omega arith) can.near));
    off =
        back_around (λ q. pos 0 <ℤ orient2d_of q (u (i + 1)) (u (i + 2))) i
        (back_around (λ q. pos 0 <ℤ orient2d_of (u (i + k)) q (u (i + 2))) (i + 1)
        (moved (λ q. pos 0 <ℤ orient2d_of (u (i + k)) q (u (i + 2))) ((i + k) + 1) ((i + 1) + k) (omega arith)
        (back_around (λ q. pos 0 <ℤ orient2d_of (u (i + k)) (u (i + k + 1)) q) (i + 2)
        (moved (λ q. pos 0 <ℤ orient2d_of (u (i + k)) (u (i + k + 1)) q) ((i + k) + 2) ((i + 2) + k) (omega arith) can.off))));
  }

  -- none can be flipped: not so where there are five
  module _ (five : 4 < k) (none : (i : ℕ) → IsFlippable v u i → ⊥) where
    stuck : ⊥
    unfolding Flat Wide
    stuck = elim (search_below Wide wide-decided k) [
      | inr none_wide ↦
          let narrow = everywhere (λ i. Wide i → ⊥) (omega (arith, five)) (λ i not is. not (wide_again i is)) none_wide in
          not_flat 0 (omega (arith, five)) (λ i below. flat_or_wide (0 + i) (none (0 + i)) (narrow (0 + i)))
      | inl found ↦
          let i = found.0 in
          let wide = found.2 in
          elim (wide-decided (i + 1)) [
            | inr narrow ↦
                not_flat (i + 1) (omega (arith, five)) (λ j below. flat_or_wide ((i + 1) + j) (none ((i + 1) + j)) (after i wide narrow j below))
            | inl wide_too ↦
                not_flat (i + 2) (omega (arith, five)) (λ j below. flat_or_wide ((i + 2) + j) (none ((i + 2) + j)) (past i wide wide_too j below))
          ]
    ]
      where
        after : (i : ℕ) → Wide i → (Wide (i + 1) → ⊥) → (j : ℕ) → j + 2 < k → Wide ((i + 1) + j) → ⊥
        after i wide narrow zero below is = narrow (subst Wide (let e : (i + 1) + 0 ≡ i + 1 = omega arith in e) is)
        after i wide narrow (suc j) below is =
            let e : (i + 1) + suc j ≡ i + (j + 2) = omega arith in
            wide_beside i (j + 2) five (omega arith) (omega (arith, below)) wide (subst Wide e is)

        past : (i : ℕ) → Wide i → Wide (i + 1) → (j : ℕ) → j + 2 < k → Wide ((i + 2) + j) → ⊥
        past i wide wide_too j below is = elim (cases_lt (j + 3) k) [
          | inl far ↦ (let e : (i + 2) + j ≡ i + (j + 2) = omega arith in wide_beside i (j + 2) five (omega arith) (omega (arith, far)) wide (subst Wide e is))
          | inr near ↦
              (let e : (i + 2) + j ≡ (i + 1) + (j + 1) = omega arith in
              wide_beside (i + 1) (j + 1) five (omega (arith, near, five)) (omega (arith, below)) wide_too (subst Wide e is))
        ]

  flip-decided : (i : ℕ) → IsFlippable v u i ⊎ (IsFlippable v u i → ⊥)
  flip-decided i =
      by_lt_z (pos 0) (t i (i + 2))
      (λ more. by_lt_z (pos 0) (o i (i + 1) (i + 2)) (λ off. inl (record { near = more; off = off })) (λ not. inr (λ can. let c = can.off in omega (arith, ordered, c, not))))
      (λ not. inr (λ can. let c = can.near in omega (arith, ordered, c, not)))

  pub flippable : 4 < k → (i : ℕ) × (i < k) × IsFlippable v u i
  flippable five = elim (search_below (IsFlippable v u) flip-decided k) [
    | inl found ↦ found
    | inr none ↦ absurd (stuck five (everywhere (λ i. IsFlippable v u i → ⊥) (omega (arith, five)) (λ i not can. not (flip_again i can)) none))
  ]

-- four neighbors
module _ (v : Point) (u : ℕ → Point) (wheel : IsWheel v u 4) where
  back_four : (P : Point → Type 0) (i : ℕ) → P (u (i + 4)) → P (u i)
  back_four P i holds = subst P (wheel.period i) holds

  on_four : (P : Point → Type 0) (i : ℕ) → P (u i) → P (u (i + 4))
  on_four P i holds = subst P (sym (wheel.period i)) holds

  step : (i j : ℕ) → i + 1 ≡ j → pos 0 <ℤ orient2d_of v (u i) (u j)
  step i j is = subst (λ (n : ℕ). pos 0 <ℤ orient2d_of v (u i) (u n)) is (wheel.left i)

  last_step : (i : ℕ) → pos 0 <ℤ orient2d_of v (u (i + 3)) (u i)
  last_step i = back_four (λ q. pos 0 <ℤ orient2d_of v (u (i + 3)) q) i (step (i + 3) (i + 4) (omega arith))

  between_two : (i : ℕ) → orient2d_of v (u i) (u (i + 2)) ≡ pos 0 → LiesBetween v u i
  between_two i zero_turn =
      let a = summed v (u i) (u (i + 1)) (u (i + 2)) in
      let b = summed v (u (i + 2)) (u (i + 3)) (u i) in
      let w = orient2d-last_swapped v (u i) (u (i + 2)) in
      let one = step i (i + 1) refl in
      let two = step (i + 1) (i + 2) (omega arith) in
      let three = step (i + 2) (i + 3) (omega arith) in
      let four = last_step i in
      record { on = zero_turn; first = omega (arith, ordered, a, one, two, zero_turn); second = omega (arith, ordered, b, w, three, four, zero_turn) }

  module _ (none : (i : ℕ) → IsFlippable v u i → ⊥) where
    flat_at : (i : ℕ) → pos 0 <ℤ orient2d_of v (u i) (u (i + 2)) → orient2d_of (u i) (u (i + 1)) (u (i + 2)) ≤ℤ pos 0
    flat_at i near = by_lt_z (pos 0) (orient2d_of (u i) (u (i + 1)) (u (i + 2))) (λ off. absurd (none i (record { near = near; off = off }))) (λ not. not)

    not_both : (i : ℕ) → pos 0 <ℤ orient2d_of v (u i) (u (i + 2)) → pos 0 <ℤ orient2d_of v (u (i + 1)) (u (i + 3)) → ⊥
    not_both i one two = not_flat v u 4 wheel i (omega arith) (λ j below. at_two j below)
      where
        at_two : (j : ℕ) → j + 2 < 4 → orient2d_of (u (i + j)) (u (i + j + 1)) (u (i + j + 2)) ≤ℤ pos 0
        at_two zero below = subst (λ (n : ℕ). orient2d_of (u n) (u (n + 1)) (u (n + 2)) ≤ℤ pos 0) (let e : i ≡ i + 0 = omega arith in e) (flat_at i one)
        at_two (suc zero) below =
            flat_at (i + 1) (subst (λ (n : ℕ). pos 0 <ℤ orient2d_of v (u (i + 1)) (u n)) (let e : i + 3 ≡ (i + 1) + 2 = omega arith in e) two)
        at_two (suc (suc j)) below = absurd (omega (arith, below))

    stuck_four : (i : ℕ) × (i < 2) × LiesBetween v u i
    stuck_four =
        let w = orient2d-last_swapped v (u 0) (u 2) in
        let w' = orient2d-last_swapped v (u 1) (u 3) in
        by_lt_z (pos 0) (orient2d_of v (u 0) (u 2))
        (λ one. by_lt_z (pos 0) (orient2d_of v (u 1) (u 3))
        (λ two. absurd (not_both 0 one two))
        (λ not. by_lt_z (orient2d_of v (u 1) (u 3)) (pos 0)
        (λ less. absurd (not_both 3 (on_four (λ q. pos 0 <ℤ orient2d_of v (u 3) q) 1 (omega (arith, ordered, w', less)))
        (on_four (λ q. pos 0 <ℤ orient2d_of v q (u 6)) 0 (on_four (λ q. pos 0 <ℤ orient2d_of v (u 0) q) 2 one))))
        (λ nor. (1, omega arith, between_two 1 (omega (arith, ordered, not, nor))))))
        (λ not. by_lt_z (orient2d_of v (u 0) (u 2)) (pos 0)
        (λ less.
        let two' : pos 0 <ℤ orient2d_of v (u 2) (u 4) = on_four (λ q. pos 0 <ℤ orient2d_of v (u 2) q) 0 (omega (arith, ordered, w, less)) in
        by_lt_z (pos 0) (orient2d_of v (u 1) (u 3))
        (λ one. absurd (not_both 1 one two'))
        (λ nor. by_lt_z (orient2d_of v (u 1) (u 3)) (pos 0)
        (λ under. absurd (not_both 2 two' (on_four (λ q. pos 0 <ℤ orient2d_of v (u 3) q) 1 (omega (arith, ordered, w', under)))))
        (λ over. (1, omega arith, between_two 1 (omega (arith, ordered, nor, over))))))
        (λ nor. (0, omega arith, between_two 0 (omega (arith, ordered, not, nor)))))

  pub flippable_or_between : ((i : ℕ) × (i < 4) × IsFlippable v u i) ⊎ ((i : ℕ) × (i < 2) × LiesBetween v u i)
  flippable_or_between = elim (search_below (IsFlippable v u) (flip-decided v u 4 wheel) 4) [
    | inl found ↦ inl found
    | inr none ↦ inr (stuck_four (everywhere v u 4 wheel (λ i. IsFlippable v u i → ⊥) (omega arith) (λ i not can. not (flip_again v u 4 wheel i can)) none))
  ]

  -- so the neighbors make two triangles without v
  pub two_triangles : (i : ℕ) × (i < 4) × (pos 0 ≤ℤ orient2d_of v (u i) (u (i + 2))) × TurnsLeft (u i) (u (i + 1)) (u (i + 2)) × TurnsLeft (u (i + 2)) (u (i + 3)) (u i)
  two_triangles = elim flippable_or_between [
    | inr found ↦ (let b = found.2 in let z = b.on in let few = found.1 in (found.0, omega (arith, few), omega (arith, ordered, z), b.first, b.second))
    | inl found ↦
        (let i = found.0 in
        let can = found.2 in
        let b = summed v (u i) (u (i + 2)) (u (i + 3)) in
        let c = orient2d-turned (u i) (u (i + 2)) (u (i + 3)) in
        let w = orient2d-last_swapped v (u i) (u (i + 3)) in
        let near = can.near in
        let three = step (i + 2) (i + 3) (omega arith) in
        let four = last_step i in
        (i, found.1, omega (arith, ordered, near), can.off, omega (arith, ordered, b, c, w, near, three, four)))
  ]

-- three neighbors: they go round counterclockwise
pub three_left : (v : Point) (u : ℕ → Point) → IsWheel v u 3 → TurnsLeft (u 0) (u 1) (u 2)
three_left v u wheel =
    let a = summed v (u 0) (u 1) (u 2) in
    let one = wheel.left 0 in
    let two = wheel.left 1 in
    let three : pos 0 <ℤ orient2d_of v (u 2) (u 0) = subst (λ q. pos 0 <ℤ orient2d_of v (u 2) q) (wheel.period 0) (wheel.left 2) in
    let w = orient2d-last_swapped v (u 0) (u 2) in
    omega (arith, ordered, a, one, two, three, w)
