-- Lists that have an item for each number below n, in order, all of one kind.
use Rattle.std.proofs.Common.{◌≡◌, ◌∙◌, ℕ, List, [], ◌∷◌, ◌++◌, ◌+◌, map, ap, subst, sym, arith}
use Rattle.std.proofs.lemmas.List.{map-append}
use Rattle.std.proofs.lemmas.List.Elements.{All-nil, All-push}
use Rattle.std.specs.Prelude.{All}
use Rattle.dcel_maps.specs.Numbers.{numbers_between}
use Rattle.dcel_maps.proofs.walks.Numbers.{numbers-next, numbers-none}

module _ {X : Type 0} where
  abbrev pub Lists : (X → ℕ) → (X → Type 0) → List X → ℕ → Type 0
  Lists number P xs n = (map number xs ≡ numbers_between 0 n) × All P xs

  pub lists_none : (number : X → ℕ) (P : X → Type 0) (xs : List X) → xs ≡ [] → Lists number P xs 0
  lists_none number P xs none = subst (λ zs. Lists number P zs 0) (sym none) (sym (numbers-none 0 0 (omega arith)), All-nil P)

  pub lists_more : (number : X → ℕ) (P : X → Type 0) (xs ys : List X) (x : X) (n : ℕ) → ys ≡ xs ++ x ∷ [] → Lists number P xs n → number x ≡ n → P x → Lists number P ys (n + 1)
  lists_more number P xs ys x n more listed is such =
      let numbers : map number (xs ++ x ∷ []) ≡ numbers_between 0 (n + 1) =
      map-append number xs (x ∷ []) ∙ ap (λ ns. ns ++ number x ∷ []) listed.0
      ∙ ap (λ k. numbers_between 0 n ++ k ∷ []) is ∙ sym (numbers-next 0 n (omega arith)) in
      subst (λ zs. Lists number P zs (n + 1)) (sym more) (numbers, All-push P xs x listed.1 such)
