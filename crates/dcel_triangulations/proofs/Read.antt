-- Points that are read one after another.
use Rattle.std.proofs.Common.{◌≡◌, inl, inr, ℕ, zero, suc, ◌+◌, ◌<◌, List, [], ◌∷◌, ◌++◌, map, take, ℤ, Some, slice_get, sym, ap, ◌∙◌, subst, arith}
use Rattle.std.proofs.lemmas.Bool.{cases_eq}
use Rattle.std.proofs.lemmas.List.{map-append}
use Rattle.std.proofs.lemmas.Option.{none-some, same_Some}

take_one : {A : Type 0} (xs : List A) (k : ℕ) (x : A) → slice_get xs k ≡ Some x → take (suc k) xs ≡ take k xs ++ x ∷ []
take_one [] k x at = absurd (none-some x at)
take_one (y ∷ r) zero x at = ap (λ z. z ∷ []) (same_Some y x at)
take_one (y ∷ r) (suc k) x at = ap (λ l. y ∷ l) (take_one r k x at)

-- one coordinate of the next point is that of the next item
pub read_more : {A B : Type 0} (f : A → ℤ) (g : B → ℤ) (points : List A) (given : List B) (k : ℕ) (p : A) (q : B) → slice_get given k ≡ Some q → f p ≡ g q
    → map f points ≡ map g (take k given) → map f (points ++ p ∷ []) ≡ map g (take (k + 1) given)
read_more f g points given k p q at same so_far =
    let next : suc k ≡ k + 1 = omega arith in
    map-append f points (p ∷ [])
    ∙ ap (λ (l : List ℤ). l ++ f p ∷ []) so_far
    ∙ ap (λ (z : ℤ). map g (take k given) ++ z ∷ []) same
    ∙ sym (map-append g (take k given) (q ∷ []))
    ∙ ap (map g) (sym (take_one given k q at))
    ∙ ap (λ (n : ℕ). map g (take n given)) next

-- what is made of the next item comes behind what was made of those before
pub made_more : {A B : Type 0} (f : A → B) (given : List A) (k : ℕ) (x : A) → slice_get given k ≡ Some x → map f (take k given) ++ f x ∷ [] ≡ map f (take (k + 1) given)
made_more f given k x at =
    let next : suc k ≡ k + 1 = omega arith in
    sym (map-append f (take k given) (x ∷ [])) ∙ ap (map f) (sym (take_one given k x at)) ∙ ap (λ (n : ℕ). map f (take n given)) next

-- what is so of the items before a place is so of the one there too
pub one_more : {A : Type 0} (P : A → Type 0) (given : List A) (k : ℕ) (x : A) → slice_get given k ≡ Some x → P x
    → ((i : ℕ) (g : A) → i < k → slice_get given i ≡ Some g → P g) → (i : ℕ) (g : A) → i < k + 1 → slice_get given i ≡ Some g → P g
one_more P given k x at holds before i g less there = elim (cases_eq i k) [
  | inl is ↦ subst P (same_Some x g (sym at ∙ ap (slice_get given) (sym is) ∙ there)) holds
  | inr differ ↦ before i g (omega (arith, less, differ)) there
]

-- and of none at first
pub none_yet : {A : Type 0} (P : A → Type 0) (given : List A) (i : ℕ) (g : A) → i < 0 → slice_get given i ≡ Some g → P g
none_yet P given i g less there = absurd (omega (arith, less))
