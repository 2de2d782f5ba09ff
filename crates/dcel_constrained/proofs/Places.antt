-- Items of a list and their places.
use Rattle.std.proofs.Common.{◌≡◌, ℕ, zero, suc, ◌<◌, List, [], ◌∷◌, ◌++◌, length, take, drop, slice_get, slice_set, slice_index_or, Some, inl, inr, refl, ap, sym, subst, ◌∙◌, ℤ, ◌<ℤ◌, ◌≤ℤ◌, arith}
use Rattle.std.proofs.lemmas.Bool.{cases_eq}
use Rattle.std.proofs.lemmas.Int.{by_lt_z}
use Rattle.std.proofs.lemmas.Option.{none-some}
use Rattle.dcel_maps.specs.Words.{count_of}
use Rattle.dcel_maps.proofs.words.Counts.{count-later, count-other, count-same}

some_same : {A : Type 0} (x y : A) → Some x ≡ Some y → x ≡ y
some_same x y same = cc

-- what is read at a place
pub get_there : (xs : List ℕ) (i h d : ℕ) → i < length xs → h ≡ slice_index_or xs i d → slice_get xs i ≡ Some h
get_there [] i h d below is = absurd (omega (arith, below))
get_there (x ∷ r) zero h d below is = ap Some (sym is)
get_there (x ∷ r) (suc i) h d below is = get_there r i h d (omega (arith, below)) is

pub one_there : (xs : List ℕ) (i h k : ℕ) → slice_get xs i ≡ Some h → slice_get xs i ≡ Some k → h ≡ k
one_there xs i h k first second = some_same h k (sym first ∙ second)

-- a number for each item, compared at two places
pub less_at : (f : ℕ → ℤ) (xs : List ℕ) (i j a b : ℕ) → slice_get xs i ≡ Some a → slice_get xs j ≡ Some b → f a <ℤ f b
    → (h k : ℕ) → slice_get xs i ≡ Some h → slice_get xs j ≡ Some k → f h <ℤ f k
less_at f xs i j a b at_i at_j less h k at_h at_k =
    subst (λ (x : ℕ). f x <ℤ f k) (one_there xs i a h at_i at_h) (subst (λ (x : ℕ). f a <ℤ f x) (one_there xs j b k at_j at_k) less)

pub not_less_at : (f : ℕ → ℤ) (xs : List ℕ) (i j a b : ℕ) → slice_get xs i ≡ Some a → slice_get xs j ≡ Some b → ¬ (f a <ℤ f b)
    → (h k : ℕ) → slice_get xs i ≡ Some h → slice_get xs j ≡ Some k → f k ≤ℤ f h
not_less_at f xs i j a b at_i at_j not h k at_h at_k =
    by_lt_z (f h) (f k)
    (λ less. absurd (not (subst (λ (x : ℕ). f x <ℤ f b) (sym (one_there xs i a h at_i at_h)) (subst (λ (x : ℕ). f h <ℤ f x) (sym (one_there xs j b k at_j at_k)) less))))
    (λ nor. nor)

-- the item at a place stands between those before it and those after it
pub parted : (xs : List ℕ) (i h : ℕ) → slice_get xs i ≡ Some h → xs ≡ take i xs ++ (h ∷ drop (suc i) xs)
parted [] i h at = absurd (none-some h at)
parted (x ∷ r) zero h at = ap (λ (k : ℕ). k ∷ r) (some_same x h at)
parted (x ∷ r) (suc i) h at = ap (λ (l : List ℕ). x ∷ l) (parted r i h at)

pub among : (xs : List ℕ) (i h : ℕ) → slice_get xs i ≡ Some h → 0 < count_of h xs
among [] i h at = absurd (none-some h at)
among (x ∷ r) zero h at = (let c = count-same x r in subst (λ (k : ℕ). 0 < count_of k (x ∷ r)) (some_same x h at) (omega (arith, c)))
among (x ∷ r) (suc i) h at = count-later h x r (among r i h at)

pub set_there : (xs : List ℕ) (i k : ℕ) → i < length xs → slice_set xs i k ≡ take i xs ++ (k ∷ drop (suc i) xs)
set_there [] i k below = absurd (omega (arith, below))
set_there (x ∷ r) zero k below = refl
set_there (x ∷ r) (suc i) k below = ap (λ (l : List ℕ). x ∷ l) (set_there r i k (omega (arith, below)))

-- the last of those before a place, and the first of those after it
pub last_before : (xs : List ℕ) (i : ℕ) (before : List ℕ) (k : ℕ) → i < length xs → take i xs ≡ before ++ (k ∷ []) → (j : ℕ) × (suc j ≡ i) × (slice_get xs j ≡ Some k)
last_before xs zero [] k below is = absurd (let n = ap length is in omega (arith, n))
last_before xs zero (b ∷ before) k below is = absurd (let n = ap length is in omega (arith, n))
last_before [] (suc i) before k below is = absurd (omega (arith, below))
last_before (x ∷ r) (suc zero) [] k below is = (0, refl, cc)
last_before (x ∷ r) (suc (suc i)) [] k below is = absurd (two r i (let e : take (suc i) r ≡ [] = cc in e) (omega (arith, below)))
  where
    two : (r : List ℕ) (i : ℕ) → take (suc i) r ≡ [] → suc i < length r → ⊥
    two [] i is below = omega (arith, below)
    two (y ∷ r) i is below = (let n = ap length is in omega (arith, n))
last_before (x ∷ r) (suc i) (b ∷ before) k below is =
    let rest = last_before r i before k (omega (arith, below)) (let e : take i r ≡ before ++ (k ∷ []) = cc in e) in
    (suc rest.0, ap suc rest.1, rest.2)

pub first_after : (xs : List ℕ) (i : ℕ) (k : ℕ) (after : List ℕ) → drop (suc i) xs ≡ k ∷ after → slice_get xs (suc i) ≡ Some k
first_after [] i k after is = absurd (let n = ap length is in omega (arith, n))
first_after (x ∷ []) zero k after is = absurd (let n = ap length is in omega (arith, n))
first_after (x ∷ (y ∷ r)) zero k after is = cc
first_after (x ∷ r) (suc i) k after is = first_after r i k after is

pub no_items : (xs : List ℕ) → length xs ≡ 0 → xs ≡ []
no_items [] none = refl
no_items (x ∷ r) none = absurd (omega (arith, none))

-- where an item stands
pub place_of : (xs : List ℕ) (h : ℕ) → 0 < count_of h xs → (i : ℕ) × (i < length xs) × (slice_get xs i ≡ Some h)
place_of [] h there = absurd (omega (arith, there))
place_of (x ∷ r) h there = elim (cases_eq h x) [
  | inl is ↦ (0, omega arith, ap Some (sym is))
  | inr not ↦
      (let rest = place_of r h (let c = count-other h x r not in omega (arith, there, c)) in
      let below = rest.1 in
      (suc rest.0, omega (arith, below), rest.2))
]
