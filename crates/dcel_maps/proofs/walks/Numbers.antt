-- The numbers between two, what is left of them after one is taken from either end, and lists over those below a count.
use Rattle.std.proofs.Common.{◌≡◌, ℕ, ◌+◌, ◌-◌, ◌<◌, ◌≤◌, [], ◌∷◌, ◌++◌, List, length, map, slice_index, ◌∙◌, subst, arith}
use Rattle.std.proofs.iter.Rest.{range_with_len_first, range_with_len_last, range_with_len_none}
use Rattle.std.proofs.lemmas.List.{length-map}
use Rattle.std.proofs.lemmas.List.FromFn.{get_or-map-range_with_len, get_or-range_with_len, length-range_with_len}
use Rattle.std.specs.List.{All}
use Rattle.dcel_maps.specs.Numbers.{numbers_between}

pub numbers-first : (a b : ℕ) → a < b → numbers_between a b ≡ a ∷ numbers_between (a + 1) b
unfolding numbers_between
numbers-first a b less = range_with_len_first a b less

pub numbers-last : (a b : ℕ) → a < b → numbers_between a b ≡ numbers_between a (b - 1) ++ (b - 1) ∷ []
unfolding numbers_between
numbers-last a b less = range_with_len_last a b less

pub numbers-next : (a b : ℕ) → a ≤ b → numbers_between a (b + 1) ≡ numbers_between a b ++ b ∷ []
numbers-next a b above =
    let is : b + 1 - 1 ≡ b = omega arith in
    subst (λ k. numbers_between a (b + 1) ≡ numbers_between a k ++ k ∷ []) is (numbers-last a (b + 1) (omega (arith, above)))

pub numbers-none : (a b : ℕ) → b ≤ a → numbers_between a b ≡ []
unfolding numbers_between
numbers-none a b past = range_with_len_none a b past

pub length-numbers : (a b : ℕ) → length (numbers_between a b) ≡ b - a
unfolding numbers_between
length-numbers a b = length-range_with_len a (b - a)

-- from 0 on, they are below how many they are
pub numbers-below : (n : ℕ) → All (λ k. k < n) (numbers_between 0 n)
unfolding numbers_between
numbers-below n k d within =
    let few : k < n - 0 = omega (arith, length-range_with_len 0 (n - 0)) in
    omega (arith, get_or-range_with_len 0 (n - 0) k d few)

-- the list of what f makes of the numbers below n
abbrev pub listed : (ℕ → ℕ) → ℕ → List ℕ
listed f n = map f (numbers_between 0 n)

pub length-listed : (f : ℕ → ℕ) (n : ℕ) → length (listed f n) ≡ n
length-listed f n = length-map (numbers_between 0 n) f ∙ omega (arith, length-numbers 0 n)

pub listed-at : (f : ℕ → ℕ) (n h : ℕ) → h < n → slice_index (listed f n) h ≡ f h
unfolding numbers_between
listed-at f n h below = get_or-map-range_with_len f 0 (n - 0) h h 0 (omega arith) (omega arith)
