-- Items of lists that grow, and of lists of which an item was replaced.
use Rattle.std.proofs.Common.{◌≡◌, ◌≢◌, ◌⊎◌, inl, inr, ℕ, zero, suc, ◌<◌, List, [], ◌∷◌, ◌++◌, length, refl, ap, arith, slice_get, set, Some}
use Rattle.std.proofs.lemmas.Option.{none-some, same_Some}

-- an item of a list that is longer by one
pub get_pushed : {A : Type 0} (xs : List A) (x y : A) (i : ℕ) → slice_get (xs ++ x ∷ []) i ≡ Some y → (slice_get xs i ≡ Some y) ⊎ ((i ≡ length xs) × (x ≡ y))
get_pushed [] x y zero at = inr (refl, same_Some x y at)
get_pushed [] x y (suc i) at = absurd (none-some y at)
get_pushed (z ∷ r) x y zero at = inl at
get_pushed (z ∷ r) x y (suc i) at = elim (get_pushed r x y i at) [ inl is ↦ inl is | inr (e, s) ↦ inr (ap suc e, s) ]

-- the item that was appended
pub get_appended : {A : Type 0} (xs : List A) (x : A) → slice_get (xs ++ x ∷ []) (length xs) ≡ Some x
get_appended [] x = refl
get_appended (y ∷ xs) x = get_appended xs x

-- an item stays where it is when more come after it
pub get_kept : {A : Type 0} (xs ys : List A) (i : ℕ) (x : A) → slice_get xs i ≡ Some x → slice_get (xs ++ ys) i ≡ Some x
get_kept [] ys i x at = absurd (none-some x at)
get_kept (y ∷ r) ys zero x at = at
get_kept (y ∷ r) ys (suc i) x at = get_kept r ys i x at

-- the item that was replaced
pub get_set : {A : Type 0} (xs : List A) (k : ℕ) (x : A) → k < length xs → slice_get (set xs k x) k ≡ Some x
get_set [] k x below = absurd (omega (arith, below))
get_set (y ∷ r) zero x below = refl
get_set (y ∷ r) (suc k) x below = get_set r k x (omega (arith, below))

-- and another one
pub get_other : {A : Type 0} (xs : List A) (k i : ℕ) (x : A) → i ≢ k → slice_get (set xs k x) i ≡ slice_get xs i
get_other [] k i x other = refl
get_other (y ∷ r) zero zero x other = absurd (other refl)
get_other (y ∷ r) zero (suc i) x other = refl
get_other (y ∷ r) (suc k) zero x other = refl
get_other (y ∷ r) (suc k) (suc i) x other = get_other r k i x (λ is. other (ap suc is))
