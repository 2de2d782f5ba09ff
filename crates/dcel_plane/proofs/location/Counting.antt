-- A list of numbers that pass a test, none of them twice, is no longer than there are such numbers.
use Rattle.std.proofs.Common.{◌≡◌, ℕ, ◌+◌, ◌*◌, ◌/◌, ◌<◌, ◌≤◌, Bool, true, inl, inr, List, [], ◌∷◌, length, map, refl, subst, arith}
use Rattle.std.proofs.lemmas.Bool.{both_ways, cases_eq, cases_lt}
use Rattle.dcel_maps.specs.Maps.{count}
use Rattle.dcel_maps.specs.Words.{count_of}
use Rattle.dcel_maps.proofs.walks.Lengths.{length-le_twice}
use Rattle.dcel_maps.proofs.words.Counts.{count-equal, count-later, count-other, count-same}

-- both half edges of each edge of a list
doubled : List ℕ → List ℕ
doubled [] = []
doubled (u ∷ w) = 2 * u ∷ (2 * u + 1) ∷ doubled w

length-doubled : (w : List ℕ) → length (doubled w) ≡ 2 * length w
unfolding doubled
length-doubled [] = refl
length-doubled (u ∷ w) = omega (arith, length-doubled w)

count-doubled : (h : ℕ) (w : List ℕ) → count_of h (doubled w) ≡ count_of (h / 2) w
unfolding doubled
count-doubled h [] = refl
count-doubled h (u ∷ w) =
    let rest = count-doubled h w in
    elim (cases_eq (h / 2) u) [
      | inr differs ↦
          omega (
            arith,
            rest,
            count-other h (2 * u) ((2 * u + 1) ∷ doubled w) (λ is. differs (omega (arith, is))),
            count-other h (2 * u + 1) (doubled w) (λ is. differs (omega (arith, is))),
            count-other (h / 2) u w differs,
          )
      | inl is ↦ elim (cases_eq h (2 * u)) [
        | inl even ↦
            omega (
              arith,
              rest,
              count-equal h (2 * u) ((2 * u + 1) ∷ doubled w) even,
              count-other h (2 * u + 1) (doubled w) (λ odd. omega (arith, even, odd)),
              count-equal (h / 2) u w is,
            )
        | inr not_even ↦
            omega (
              arith,
              rest,
              count-other h (2 * u) ((2 * u + 1) ∷ doubled w) not_even,
              count-equal h (2 * u + 1) (doubled w) (omega (arith, is, not_even)),
              count-equal (h / 2) u w is,
            )
      ]
    ]

pub length-le_count : (p : ℕ → Bool) (n : ℕ) (w : List ℕ) → ((u : ℕ) → count_of u w ≤ 1) → ((u : ℕ) → 0 < count_of u w → (u < n) × (p u ≡ true)) → length w ≤ count p n
length-le_count p n w single has =
    omega (
      arith,
      length-doubled w,
      length-le_twice p n (doubled w) (λ h. omega (arith, count-doubled h w, single (h / 2)))
          (λ h found. let below = (has (h / 2) (omega (arith, count-doubled h w, found))).0 in omega (arith, below))
          (λ h dead. elim (cases_lt 0 (count_of (h / 2) w)) [
            | inl found ↦ absurd (both_ways (p (h / 2)) dead (has (h / 2) found).1)
            | inr none ↦ omega (arith, none, count-doubled h w)
          ]),
    )

-- what no item of a list is mapped to doesn't stand in the list mapped
pub count-unmapped : (g : ℕ → ℕ) (y : ℕ) (w : List ℕ) → ((x : ℕ) → 0 < count_of x w → g x ≡ y → ⊥) → count_of y (map g w) ≡ 0
count-unmapped g y [] none = refl
count-unmapped g y (x ∷ w) none =
    omega (
      arith,
      count-other y (g x) (map g w) (λ same. none x (omega (arith, count-same x w)) (omega (arith, same))),
      count-unmapped g y w (λ z found. none z (count-later z x w found)),
    )

-- and what holds of each item holds of each that is mapped to
pub mapped-all : (P : ℕ → Type 0) (g : ℕ → ℕ) (w : List ℕ) → ((x : ℕ) → 0 < count_of x w → P (g x)) → (y : ℕ) → 0 < count_of y (map g w) → P y
mapped-all P g [] holds y found = absurd (omega arith)
mapped-all P g (x ∷ w) holds y found = elim (cases_eq (g x) y) [
  | inl same ↦ subst P same (holds x (omega (arith, count-same x w)))
  | inr other ↦
      mapped-all P g w (λ z in_w. holds z (count-later z x w in_w)) y
      (omega (arith, found, count-other y (g x) (map g w) (λ same. other (omega (arith, same)))))
]

pub length-mapped : (g : ℕ → ℕ) (w : List ℕ) → length (map g w) ≡ length w
length-mapped g [] = refl
length-mapped g (x ∷ w) = omega (arith, length-mapped g w)
