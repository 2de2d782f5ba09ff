-- Numbers, each after a space.
use Rattle.std.proofs.Common.{◌≡◌, ℕ, List, [], ◌∷◌, ◌++◌, sym}
use Rattle.std.specs.Fmt.{decimal}
use Rattle.std.proofs.lemmas.List.{flat_map_more}
use Rattle.dcel_text.specs.Texts.{listed}

pub listed-push : (xs : List ℕ) (x : ℕ) → listed (xs ++ x ∷ []) ≡ listed xs ++ 32 ∷ decimal x
listed-push xs x = sym (flat_map_more (λ (y : ℕ). 32 ∷ decimal y) [] xs x)
