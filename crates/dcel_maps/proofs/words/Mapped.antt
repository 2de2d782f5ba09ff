-- What stands in a list under a function, and in a list that is tested for a number.
use Rattle.std.proofs.Common.{◌≡◌, inl, inr, ◌<◌, ◌==◌, ℕ, zero, suc, true, List, [], ◌∷◌, length, map, slice_index_or, sym, ap, subst, arith, eqb-true, eq-eqb, ◌≤◌, ◌∙◌}
use Rattle.std.specs.List.{list_any}
use Rattle.std.proofs.lemmas.Bool.{false≢true, or_cases, or_left, or_right, cases_eq, cases_lt}
use Rattle.dcel_maps.specs.Words.{count_of}
use Rattle.dcel_maps.proofs.words.Counts.{count-later, count-same, first_or_later, count-other}

-- what stands in a list under a function comes from an item
pub count-mapped : (f : ℕ → ℕ) (w : List ℕ) (x : ℕ) → 0 < count_of x w → 0 < count_of (f x) (map f w)
count-mapped f [] x found = absurd (omega (arith, found))
count-mapped f (y ∷ w) x found = elim (first_or_later x y w found) [
  | inl same ↦ subst (λ z. 0 < count_of z (f y ∷ map f w)) (ap f (sym same)) (omega (arith, count-same (f y) (map f w)))
  | inr later ↦ count-later (f x) (f y) (map f w) (count-mapped f w x later)
]

pub mapped_from : (f : ℕ → ℕ) (w : List ℕ) (u : ℕ) → 0 < count_of u (map f w) → (x : ℕ) × (0 < count_of x w) × (f x ≡ u)
mapped_from f [] u found = absurd (omega (arith, found))
mapped_from f (y ∷ w) u found = elim (first_or_later u (f y) (map f w) found) [
  | inl same ↦ (y, omega (arith, count-same y w), sym same)
  | inr later ↦ let (x, there, is) = mapped_from f w u later in (x, count-later x y w there, is)
]

-- a list under a function that tells its items apart
pub mapped_once : (f : ℕ → ℕ) (w : List ℕ) → ((k : ℕ) → count_of k w ≤ 1) → ((x y : ℕ) → 0 < count_of x w → 0 < count_of y w → f x ≡ f y → x ≡ y)
    → (u : ℕ) → count_of u (map f w) ≤ 1
mapped_once f [] once apart u = omega arith
mapped_once f (y ∷ w) once apart u =
    let later : count_of u (map f w) ≤ 1 =
    mapped_once f w (λ k. omega (arith, once k)) (λ x z x_in z_in same. apart x z (count-later x y w x_in) (count-later z y w z_in) same) u in
    elim (cases_eq u (f y)) [
      | inr differs ↦ omega (arith, later, count-other u (f y) (map f w) differs)
      | inl is ↦ elim (cases_lt 0 (count_of u (map f w))) [
        | inl found ↦
            let (x, there, at) = mapped_from f w u found in
            let same : x ≡ y = apart x y (count-later x y w there) (omega (arith, count-same y w)) (at ∙ is) in
            let twice = subst (λ z. 0 < count_of z w) same there in
            absurd (omega (arith, once y, count-same y w, twice))
        | inr none ↦ rw is (omega (arith, count-same (f y) (map f w), rw is at none))
      ]
    ]

-- what stands at a place of a list stands in it
pub count-at : (w : List ℕ) (k other : ℕ) → k < length w → 0 < count_of (slice_index_or w k other) w
count-at [] k other within = absurd (omega (arith, within))
count-at (x ∷ w) zero other within = omega (arith, count-same x w)
count-at (x ∷ w) (suc k) other within = count-later (slice_index_or w k other) x w (count-at w k other (omega (arith, within)))

-- the test of a list for a number
pub any_stands : (u : ℕ) (w : List ℕ) → list_any (λ e. e == u) w ≡ true → 0 < count_of u w
any_stands u [] found = absurd (false≢true found)
any_stands u (x ∷ w) found = elim (or_cases (x == u) (list_any (λ e. e == u) w) found) [
  | inl same ↦ subst (λ z. 0 < count_of z (x ∷ w)) (eqb-true x u same) (omega (arith, count-same x w))
  | inr later ↦ count-later u x w (any_stands u w later)
]

pub stands_any : (u : ℕ) (w : List ℕ) → 0 < count_of u w → list_any (λ e. e == u) w ≡ true
stands_any u [] found = absurd (omega (arith, found))
stands_any u (x ∷ w) found = elim (first_or_later u x w found) [
  | inl same ↦ or_left (x == u) (list_any (λ e. e == u) w) (eq-eqb x u (sym same))
  | inr later ↦ or_right (x == u) (list_any (λ e. e == u) w) (stands_any u w later)
]
