-- Points that are read one after another.
use Rattle.std.proofs.Common.{◌≡◌, ℕ, zero, suc, ◌+◌, List, [], ◌∷◌, ◌++◌, map, take, ℤ, Some, slice_get, sym, ap, ◌∙◌, arith}
use Rattle.std.proofs.lemmas.List.{map-append}
use Rattle.std.proofs.lemmas.Option.{none-some, same_Some}

take_one : {A : Type 0} (xs : List A) (k : ℕ) (x : A) → slice_get xs k ≡ Some x → take (suc k) xs ≡ take k xs ++ x ∷ []
take_one [] k x at = absurd (none-some x at)
take_one (y ∷ r) zero x at = ap (λ z. z ∷ []) (same_Some y x at)
take_one (y ∷ r) (suc k) x at = ap (λ l. y ∷ l) (take_one r k x at)

-- one coordinate of the next point is that of the next item
pub read_more : {A B : Type 0} (f : A → ℤ) (g : B → ℤ) (points : List A) (given : List B) (k : ℕ) (p : A) (q : B) → slice_get given k ≡ Some q → f p ≡ g q
    → map f points ≡ map g (take k given) → map f (points ++ p ∷ []) ≡ map g (take (k + 1) given)
read_more f g points given k p q at same so_far =
    let next : suc k ≡ k + 1 = omega arith in
    map-append f points (p ∷ [])
    ∙ ap (λ (l : List ℤ). l ++ f p ∷ []) so_far
    ∙ ap (λ (z : ℤ). map g (take k given) ++ z ∷ []) same
    ∙ sym (map-append g (take k given) (q ∷ []))
    ∙ ap (map g) (sym (take_one given k q at))
    ∙ ap (λ (n : ℕ). map g (take n given)) next
