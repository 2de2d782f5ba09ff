-- A list with one item more.
use Rattle.std.proofs.Common.{◌≡◌, ℕ, zero, suc, List, [], ◌∷◌, ◌++◌, Some, length, slice_get, subst}
use Rattle.std.proofs.lemmas.Option.{none-some, same_Some}

pub pushed : {T : Type 0} (P : ℕ → T → Type 0) (xs : List T) (x : T) → ((i : ℕ) (y : T) → slice_get xs i ≡ Some y → P i y) → P (length xs) x
    → (i : ℕ) (y : T) → slice_get (xs ++ x ∷ []) i ≡ Some y → P i y
pushed P [] x all at zero y is = subst (P 0) (same_Some x y is) at
pushed P [] x all at (suc i) y is = absurd (none-some y is)
pushed P (z ∷ zs) x all at zero y is = all zero y is
pushed P (z ∷ zs) x all at (suc i) y is = pushed (λ j. P (suc j)) zs x (λ j w e. all (suc j) w e) at i y is
