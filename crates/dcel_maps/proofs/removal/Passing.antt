-- The way past the edges, step by step: nothing is passed twice, so that it can be told by counting.
use Rattle.std.proofs.Common.{◌≡◌, ◌≢◌, ◌⊎◌, inl, inr, ◌/◌, ◌<◌, ◌≤◌, ℕ, zero, suc, true, false, List, [], ◌∷◌, length, map, sym, refl, ap, ◌∙◌, subst, arith, lt-ltb, le-ltb, ltb-true, ltb-false, ◌*◌, ◌+◌}
use Rattle.std.proofs.lemmas.Bool.{cases_eq, cases_lt, cond-true, cond-false}
use Rattle.std.proofs.lemmas.List.{length-append, length-map}
use Rattle.dcel_fixed.specs.HalfEdges.{rev}
use Rattle.dcel_maps.specs.Maps.{Live, Map}
use Rattle.dcel_maps.specs.theory.Cycles.{Path}
use Rattle.dcel_maps.specs.theory.Sound.{Sound}
use Rattle.dcel_maps.specs.Words.{count_of}
use Rattle.dcel_maps.proofs.maps.Halves.{rev-rev, rev_or_same}
use Rattle.dcel_maps.proofs.maps.Soundness.{rev_live}
use Rattle.dcel_maps.proofs.words.Counts.{count-append, count-later, count-none, count-other, count-same, first_or_later, split_at}
use Rattle.dcel_maps.proofs.words.Mapped.{mapped_from, mapped_once}
use Rattle.dcel_maps.proofs.words.Paths.{Path-split}
use Rattle.dcel_maps.specs.Regions.{LeadsPast}
use Rattle.dcel_maps.specs.Regions.LeadsPast.{on, past}
use Rattle.dcel_maps.specs.theory.RingTests.{StepsTo, past_listed, stands}
use Rattle.dcel_maps.proofs.removal.Linked.{left_out, left_out-length, left_out-other}

-- whether a number stands in a list, both ways
pub stands-true : (x : ℕ) (w : List ℕ) → stands x w ≡ true → 0 < count_of x w
stands-true x w is = ltb-true 0 (count_of x w) is

pub stands-false : (x : ℕ) (w : List ℕ) → stands x w ≡ false → count_of x w ≡ 0
stands-false x w is = let none = ltb-false 0 (count_of x w) is in omega (arith, none)

pub true-stands : (x : ℕ) (w : List ℕ) → 0 < count_of x w → stands x w ≡ true
true-stands x w found = lt-ltb 0 (count_of x w) found

pub false-stands : (x : ℕ) (w : List ℕ) → count_of x w ≡ 0 → stands x w ≡ false
false-stands x w none = le-ltb 0 (count_of x w) (omega (arith, none))

-- a relation that leads from each number to one
abbrev pub IsOneWay : (ℕ → ℕ → Type 0) → Type 0
IsOneWay R = (x y z : ℕ) → R x y → R x z → y ≡ z

-- there is one way to a number that isn't passed
same_path : (R : ℕ → ℕ → Type 0) → IsOneWay R → (x : ℕ) (r q : List ℕ) (e : ℕ) → Path R x r e → Path R x q e
    → count_of e r ≡ 0 → count_of e q ≡ 0 → r ≡ q
same_path R one x [] [] e p k off_r off_q = refl
same_path R one x [] (z ∷ q) e p k off_r off_q =
    let here = ap (λ v. count_of v (z ∷ q)) (one x e z p k.0) in absurd (omega (arith, here, off_q, count-same z q))
same_path R one x (y ∷ r) [] e p k off_r off_q =
    let here = ap (λ v. count_of v (y ∷ r)) (one x e y k p.0) in absurd (omega (arith, here, off_r, count-same y r))
same_path R one x (y ∷ r) (z ∷ q) e p k off_r off_q =
    let same : y ≡ z = one x y z p.0 k.0 in
    let rest : r ≡ q =
    same_path R one y r q e p.1 (subst (λ v. Path R v q e) (sym same) k.1) (omega (arith, off_r)) (omega (arith, off_q)) in
    ap (λ v. v ∷ r) same ∙ ap (λ w. z ∷ w) rest

-- so nothing is passed twice on the way
pub no_return : (R : ℕ → ℕ → Type 0) → IsOneWay R → (x : ℕ) (r : List ℕ) (e : ℕ) → Path R x r e → count_of e r ≡ 0
    → (y : ℕ) → count_of y (x ∷ r) ≤ 1
no_return R one x [] e p off y = elim (cases_eq y x) [
  | inl same ↦ let here = ap (λ v. count_of v (x ∷ [])) same in omega (arith, here, count-same x [])
  | inr other ↦ omega (arith, count-other y x [] other)
]
no_return R one x (z ∷ r) e p off y =
    let rest = no_return R one z r e p.1 (omega (arith, off)) in
    let fresh : count_of x (z ∷ r) ≡ 0 = elim (cases_lt 0 (count_of x (z ∷ r))) [
      | inl found ↦
          let (l, q, parts) = split_at x (z ∷ r) found in
          let again = (Path-split R x l x q e (subst (λ (w : List ℕ). Path R x w e) parts p)).1 in
          let counts = ap (count_of e) parts in
          let same : z ∷ r ≡ q = same_path R one x (z ∷ r) q e p again off (omega (arith, off, counts, count-append e l (x ∷ q))) in
          let long = ap length parts in
          let short = ap length same in
          absurd (omega (arith, long, short, length-append l (x ∷ q)))
      | inr none ↦ omega (arith, none)
    ] in
    elim (cases_eq y x) [
      | inl same ↦ let here = ap (λ v. count_of v (x ∷ z ∷ r)) same in omega (arith, here, count-same x (z ∷ r), fresh)
      | inr other ↦ omega (arith, rest y, count-other y x (z ∷ r) other)
    ]

-- a list whose items are different, and stand in another one, is no longer
pub no_longer : (d w : List ℕ) → ((k : ℕ) → count_of k d ≤ 1) → ((k : ℕ) → 0 < count_of k d → 0 < count_of k w) → length d ≤ length w
no_longer [] w once has = omega arith
no_longer (x ∷ d) w once has =
    let rest = no_longer d (left_out x w) (λ k. omega (arith, once k)) (λ k found.
    let apart : k ≢ x = λ same. let here = ap (λ v. count_of v d) same in omega (arith, here, found, once x, count-same x d) in
    omega (arith, has k (count-later k x d found), left_out-other x k w apart)) in
    omega (arith, rest, left_out-length x w, has x (omega (arith, count-same x d)))

-- the walk past the edges leads one way
pub leads-one_way : (next : ℕ → ℕ) (edges : List ℕ) → IsOneWay (LeadsPast next edges)
leads-one_way next edges x y z (on to none) (on at none') = sym to ∙ at
leads-one_way next edges x y z (on to none) (past {j = j} at found way) =
    absurd (let here = ap (λ v. count_of (v / 2) edges) (sym to ∙ at) in omega (arith, here, none, found))
leads-one_way next edges x y z (past {j = j} to found way) (on at none) =
    absurd (let here = ap (λ v. count_of (v / 2) edges) (sym to ∙ at) in omega (arith, here, none, found))
leads-one_way next edges x y z (past {j = j} to found way) (past {j = k} at found' way') =
    leads-one_way next edges (rev j) y z way (subst (λ v. LeadsPast next edges (rev v) z) (sym (sym to ∙ at)) way')

-- as many edges as are passed, and more, are enough fuel
module _ (next : ℕ → ℕ) (edges : List ℕ) where
  abbrev turn : ℕ → ℕ
  turn j = next (rev j)

  abbrev Turns : ℕ → ℕ → Type 0
  Turns j k = turn j ≡ k

  pub past-step : (fuel j : ℕ) → 0 < count_of (j / 2) edges → past_listed next edges (suc fuel) j ≡ past_listed next edges fuel (turn j)
  unfolding past_listed
  past-step fuel j found = cond-true (stands (j / 2) edges) (past_listed next edges fuel (turn j)) j (true-stands (j / 2) edges found)

  pub past-stays : (fuel j : ℕ) → count_of (j / 2) edges ≡ 0 → past_listed next edges fuel j ≡ j
  unfolding past_listed
  past-stays zero j none = refl
  past-stays (suc fuel) j none = cond-false (stands (j / 2) edges) (past_listed next edges fuel (turn j)) j (false-stands (j / 2) edges none)

  past-none : (j : ℕ) → past_listed next edges 0 j ≡ j
  unfolding past_listed
  past-none j = refl

  -- what the computation finds, if it is of no listed edge, is led to
  pub found-leads : (fuel x k : ℕ) → past_listed next edges fuel (next x) ≡ k → count_of (k / 2) edges ≡ 0 → LeadsPast next edges x k
  found-leads zero x k is none = on (sym (past-none (next x)) ∙ is) none
  found-leads (suc fuel) x k is none = elim (cases_lt 0 (count_of (next x / 2) edges)) [
    | inl found ↦ past refl found (found-leads fuel (rev (next x)) k (sym (past-step fuel (next x) found) ∙ is) none)
    | inr not ↦ on (sym (past-stays (suc fuel) (next x) (omega (arith, not))) ∙ is) none
  ]

  -- the halves that are passed
  pub record Passed (j k : ℕ) : Type 0 where
    pub rest : List ℕ
    pub path : Path Turns j rest k
    pub listed : (i : ℕ) → 0 < count_of i (j ∷ rest) → 0 < count_of (i / 2) edges

  pub leads-passed : (x k : ℕ) → LeadsPast next edges x k
      → ((next x ≡ k) × (count_of (k / 2) edges ≡ 0)) ⊎ (Passed (next x) k × (count_of (k / 2) edges ≡ 0))
  leads-passed x k (on to none) = inl (to, none)
  leads-passed x k (past {j = j} to found way) = elim (leads-passed (rev j) k way) [
    | inl last ↦
        inr (
          record {
            rest = [];
            path = ap turn to ∙ last.0;
            listed = λ i there. elim (first_or_later i (next x) [] there) [
              | inl same ↦ subst (λ v. 0 < count_of (v / 2) edges) (sym (same ∙ to)) found
              | inr none ↦ absurd (omega (arith, none))
            ];
          },
          last.1,
        )
    | inr more ↦
        inr (
          record {
            rest = next (rev j) ∷ more.0.rest;
            path = (ap turn to, more.0.path);
            listed = λ i there. elim (first_or_later i (next x) (next (rev j) ∷ more.0.rest) there) [
              | inl same ↦ subst (λ v. 0 < count_of (v / 2) edges) (sym (same ∙ to)) found
              | inr later ↦ more.0.listed i later
            ];
          },
          more.1,
        )
  ]

  enough : (fuel j : ℕ) (rest : List ℕ) (k : ℕ) → Path Turns j rest k → ((i : ℕ) → 0 < count_of i (j ∷ rest) → 0 < count_of (i / 2) edges)
      → count_of (k / 2) edges ≡ 0 → length (j ∷ rest) ≤ fuel → past_listed next edges fuel j ≡ k
  enough zero j rest k path listed none long = absurd (omega (arith, long))
  enough (suc fuel) j [] k path listed none long =
      past-step fuel j (listed j (omega (arith, count-same j []))) ∙ ap (past_listed next edges fuel) path ∙ past-stays fuel k none
  enough (suc fuel) j (i ∷ rest) k path listed none long =
      past-step fuel j (listed j (omega (arith, count-same j (i ∷ rest)))) ∙ ap (past_listed next edges fuel) path.0
      ∙ enough fuel i rest k path.1 (λ h there. listed h (count-later h j (i ∷ rest) there)) none (omega (arith, long))

-- round a vertex no more edges are passed than are listed
module _ (S : Map) (sound : Sound S) (edges : List ℕ) (live : (u : ℕ) → 0 < count_of u edges → S.edge u ≡ true) where
  one_start : (j : ℕ) (rest : List ℕ) (k : ℕ) → Path (Turns S.next edges) j rest k → ((i : ℕ) → 0 < count_of i (j ∷ rest) → 0 < count_of (i / 2) edges)
      → (i : ℕ) → 0 < count_of i (j ∷ rest) → S.origin i ≡ S.origin j
  one_start j [] k path listed i there = elim (first_or_later i j [] there) [ inl same ↦ ap S.origin same | inr none ↦ absurd (omega (arith, none)) ]
  one_start j (z ∷ rest) k path listed i there = elim (first_or_later i j (z ∷ rest) there) [
    | inl same ↦ ap S.origin same
    | inr later ↦
        let live_j : Live S j = live (j / 2) (listed j (omega (arith, count-same j (z ∷ rest)))) in
        one_start z rest k path.1 (λ h found. listed h (count-later h j (z ∷ rest) found)) i later
        ∙ ap S.origin (sym path.0) ∙ sound.origin-next (rev j) (rev_live S j live_j) ∙ ap S.origin (rev-rev j)
  ]

  few_passed : (j k : ℕ) (p : Passed S.next edges j k) → count_of (k / 2) edges ≡ 0 → length (j ∷ p.rest) ≤ length edges
  few_passed j k p none =
      let off : count_of k p.rest ≡ 0 = count-none k p.rest (λ i found same.
      let listed = p.listed i (count-later i j p.rest found) in
      let here = ap (λ v. count_of (v / 2) edges) same in omega (arith, here, listed, none)) in
      let once = no_return (Turns S.next edges) (λ x y z to at. sym to ∙ at) j p.rest k p.path off in
      let starts = one_start j p.rest k p.path p.listed in
      let apart = mapped_once (λ h. h / 2) (j ∷ p.rest) once (λ x y x_in y_in same. elim (rev_or_same x y same) [
        | inl is ↦ is
        | inr is ↦ absurd (sound.two_ends y (live (y / 2) (p.listed y y_in)) (starts y y_in ∙ sym (starts x x_in) ∙ ap S.origin is))
      ]) in
      let few = no_longer (map (λ h. h / 2) (j ∷ p.rest)) edges apart (λ u found.
      let (h, there, is) = mapped_from (λ h. h / 2) (j ∷ p.rest) u found in subst (λ v. 0 < count_of v edges) is (p.listed h there)) in
      omega (arith, few, length-map (j ∷ p.rest) (λ h. h / 2))

  -- so the computation and the walk agree
  pub steps-leads : (x k : ℕ) → StepsTo S.next edges x k → LeadsPast S.next edges x k
  steps-leads x k to = found-leads S.next edges (length edges) x k to.0 (stands-false (k / 2) edges to.1)

  pub leads-steps : (x k : ℕ) → LeadsPast S.next edges x k → StepsTo S.next edges x k
  leads-steps x k way = elim (leads-passed S.next edges x k way) [
    | inl last ↦
        (ap (past_listed S.next edges (length edges)) last.0 ∙ past-stays S.next edges (length edges) k last.1, false-stands (k / 2) edges last.1)
    | inr more ↦ (
      enough S.next edges (length edges) (S.next x) more.0.rest k more.0.path more.0.listed more.1 (few_passed (S.next x) k more.0 more.1),
      false-stands (k / 2) edges more.1,
    )
  ]

-- in any map the walk can be decided: no half of a listed edge is passed twice, and each edge has two
module _ (next : ℕ → ℕ) (edges : List ℕ) where
  abbrev halves_of : List ℕ → List ℕ
  halves_of [] = []
  halves_of (u ∷ us) = 2 * u ∷ (2 * u + 1) ∷ halves_of us

  length-halves_of : (us : List ℕ) → length (halves_of us) ≡ 2 * length us
  length-halves_of [] = refl
  length-halves_of (u ∷ us) = omega (arith, length-halves_of us)

  half_listed : (us : List ℕ) (h : ℕ) → 0 < count_of (h / 2) us → 0 < count_of h (halves_of us)
  half_listed [] h found = absurd (omega (arith, found))
  half_listed (u ∷ us) h found = elim (first_or_later (h / 2) u us found) [
    | inl same ↦ elim (cases_eq h (2 * u)) [
      | inl even ↦ let here = ap (λ v. count_of v (halves_of (u ∷ us))) even in omega (arith, here, count-same (2 * u) ((2 * u + 1) ∷ halves_of us))
      | inr other ↦
          let odd : h ≡ 2 * u + 1 = omega (arith, same, other) in
          let here = ap (λ v. count_of v (halves_of (u ∷ us))) odd in
          omega (arith, here, count-later (2 * u + 1) (2 * u) ((2 * u + 1) ∷ halves_of us) (omega (arith, count-same (2 * u + 1) (halves_of us))))
    ]
    | inr later ↦ count-later h (2 * u) ((2 * u + 1) ∷ halves_of us) (count-later h (2 * u + 1) (halves_of us) (half_listed us h later))
  ]

  within_halves : (j k : ℕ) (p : Passed next edges j k) → count_of (k / 2) edges ≡ 0 → length (j ∷ p.rest) ≤ 2 * length edges
  within_halves j k p none =
      let off : count_of k p.rest ≡ 0 = count-none k p.rest (λ i found same.
      let listed = p.listed i (count-later i j p.rest found) in
      let here = ap (λ v. count_of (v / 2) edges) same in omega (arith, here, listed, none)) in
      let once = no_return (Turns next edges) (λ x y z to at. sym to ∙ at) j p.rest k p.path off in
      let few = no_longer (j ∷ p.rest) (halves_of edges) once (λ h found. half_listed edges h (p.listed h found)) in
      omega (arith, few, length-halves_of edges)

  pub leads_or_not : (x k : ℕ) → LeadsPast next edges x k ⊎ (¬ LeadsPast next edges x k)
  leads_or_not x k = elim (cases_lt 0 (count_of (k / 2) edges)) [
    | inl listed ↦ inr (λ way. elim (leads-passed next edges x k way) [
      | inl last ↦ omega (arith, listed, last.1)
      | inr more ↦ omega (arith, listed, more.1)
    ])
    | inr not ↦ elim (cases_eq (past_listed next edges (2 * length edges) (next x)) k) [
      | inl is ↦ inl (found-leads next edges (2 * length edges) x k is (omega (arith, not)))
      | inr other ↦ inr (λ way. elim (leads-passed next edges x k way) [
        | inl last ↦ other (ap (past_listed next edges (2 * length edges)) last.0 ∙ past-stays next edges (2 * length edges) k last.1)
        | inr more ↦
            other (enough next edges (2 * length edges) (next x) more.0.rest k more.0.path more.0.listed more.1 (within_halves (next x) k more.0 more.1))
      ])
    ]
  ]
