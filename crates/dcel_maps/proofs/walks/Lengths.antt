-- A list of half edges of live edges, none of them twice, is at most twice as long as there are live edges.
use Rattle.std.proofs.Common.{◌≡◌, ℕ, zero, suc, ◌+◌, ◌*◌, ◌/◌, ◌<◌, ◌≤◌, Bool, true, false, inl, inr, List, [], ◌∷◌, length, refl, ap, ◌∙◌, arith}
use Rattle.std.proofs.lemmas.Bool.{cases_Bool, cases_eq}
use Rattle.dcel_maps.specs.Maps.{count}
use Rattle.dcel_maps.specs.Words.{count_of}
use Rattle.dcel_maps.proofs.words.Counts.{count-later, count-other, count-same}

-- how often the numbers below n stand in a list, together
abbrev tally : List ℕ → ℕ → ℕ
tally w zero = 0
tally w (suc n) = count_of n w + tally w n

tally-nil : (n : ℕ) → tally [] n ≡ 0
tally-nil zero = refl
tally-nil (suc n) = omega (arith, tally-nil n)

tally-past : (x : ℕ) (w : List ℕ) (n : ℕ) → n ≤ x → tally (x ∷ w) n ≡ tally w n
tally-past x w zero past = refl
tally-past x w (suc n) past = omega (arith, count-other n x w (λ same. omega arith), tally-past x w n (omega arith))

tally-cons : (x : ℕ) (w : List ℕ) (n : ℕ) → x < n → tally (x ∷ w) n ≡ 1 + tally w n
tally-cons x w zero below = absurd (omega arith)
tally-cons x w (suc n) below = elim (cases_eq x n) [
  | inl same ↦
      let counted : count_of n (x ∷ w) ≡ 1 + count_of n w = rw same (count-same n w) in
      omega (arith, counted, tally-past x w n (omega arith))
  | inr differs ↦ omega (arith, count-other n x w (λ same. omega arith), tally-cons x w n (omega arith))
]

length-tally : (w : List ℕ) (n : ℕ) → ((h : ℕ) → 0 < count_of h w → h < n) → length w ≡ tally w n
length-tally [] n below = omega (arith, tally-nil n)
length-tally (x ∷ w) n below =
    let rest = length-tally w n (λ h found. below h (count-later h x w found)) in
    omega (arith, rest, tally-cons x w n (below x (omega (arith, count-same x w))))

-- an edge has two half edges
tally-le : (p : ℕ → Bool) (n : ℕ) (w : List ℕ) → ((h : ℕ) → count_of h w ≤ 1) → ((h : ℕ) → p (h / 2) ≡ false → count_of h w ≡ 0)
    → tally w (2 * n) ≤ 2 * count p n
tally-le p zero w single none = omega arith
tally-le p (suc n) w single none =
    let rest = tally-le p n w single none in
    let pair : 2 * suc n ≡ suc (suc (2 * n)) = omega arith in
    let even : 2 * n / 2 ≡ n = omega arith in
    let odd : suc (2 * n) / 2 ≡ n = omega arith in
    rw pair (elim (cases_Bool (p n)) [
      | inl live ↦ rw live (omega (arith, rest, single (2 * n), single (suc (2 * n))))
      | inr dead ↦
          rw dead
          (omega (arith, rest, none (2 * n) (ap p even ∙ dead), none (suc (2 * n)) (ap p odd ∙ dead)))
    ])

pub length-le_twice : (p : ℕ → Bool) (n : ℕ) (w : List ℕ) → ((h : ℕ) → count_of h w ≤ 1)
    → ((h : ℕ) → 0 < count_of h w → h < 2 * n) → ((h : ℕ) → p (h / 2) ≡ false → count_of h w ≡ 0) → length w ≤ 2 * count p n
length-le_twice p n w single below none = omega (arith, length-tally w (2 * n) below, tally-le p n w single none)

-- and where each of them stands there, once, it is just as long
tally-is : (p : ℕ → Bool) (n : ℕ) (w : List ℕ) → ((h : ℕ) → p (h / 2) ≡ true → count_of h w ≡ 1) → ((h : ℕ) → p (h / 2) ≡ false → count_of h w ≡ 0)
    → tally w (2 * n) ≡ 2 * count p n
tally-is p zero w once none = omega arith
tally-is p (suc n) w once none =
    let rest = tally-is p n w once none in
    let pair : 2 * suc n ≡ suc (suc (2 * n)) = omega arith in
    let even : 2 * n / 2 ≡ n = omega arith in
    let odd : suc (2 * n) / 2 ≡ n = omega arith in
    rw pair (elim (cases_Bool (p n)) [
      | inl live ↦ rw live (omega (arith, rest, once (2 * n) (ap p even ∙ live), once (suc (2 * n)) (ap p odd ∙ live)))
      | inr dead ↦ rw dead (omega (arith, rest, none (2 * n) (ap p even ∙ dead), none (suc (2 * n)) (ap p odd ∙ dead)))
    ])

pub length-is_twice : (p : ℕ → Bool) (n : ℕ) (w : List ℕ) → ((h : ℕ) → p (h / 2) ≡ true → count_of h w ≡ 1)
    → ((h : ℕ) → 0 < count_of h w → h < 2 * n) → ((h : ℕ) → p (h / 2) ≡ false → count_of h w ≡ 0) → length w ≡ 2 * count p n
length-is_twice p n w once below none = length-tally w (2 * n) below ∙ tally-is p n w once none

-- no more numbers pass a test than are tried
pub count-le : (p : ℕ → Bool) (n : ℕ) → count p n ≤ n
count-le p zero = omega arith
count-le p (suc n) = elim (cases_Bool (p n)) [
  | inl passes ↦ rw passes (omega (arith, count-le p n))
  | inr fails ↦ rw fails (omega (arith, count-le p n))
]
