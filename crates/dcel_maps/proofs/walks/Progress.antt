-- A call that takes an item from either end of what is left of an iterator leaves one less.
use Rattle.std.proofs.Common.{◌≡◌, List, [], ◌∷◌, ◌++◌, length, Option, Some, None, MatchOption, ap, ◌∙◌, sym, arith}
use Rattle.std.proofs.lemmas.List.{length-append}
use Rattle.std.specs.Iterator.{MakesProgress, item_count}

module _ {S A B : Type 0} (rest : S → List B) {s t : S} {given : A} (item : B) where
  pub takes_first : rest s ≡ item ∷ rest t → MakesProgress (λ _. Unit {0}) (item_count rest) s (Some given) t
  takes_first is = record { on = λ finite. (tt, tt, omega (arith, ap length is)); keeps = tt; rests = λ finite. tt }

  pub takes_last : rest s ≡ rest t ++ item ∷ [] → MakesProgress (λ _. Unit {0}) (item_count rest) s (Some given) t
  takes_last is = record {
    on = λ finite. (tt, tt, omega (arith, ap length is ∙ length-append (rest t) (item ∷ [])));
    keeps = tt;
    rests = λ finite. tt;
  }

-- a call of `next` leaves what stands behind the first item
pub leaves_others : {A B : Type 0} (view : A → B) {s t : List B} (r : Option A) {item : B} {others : List B}
    → MatchOption r ((s ≡ []) × (t ≡ [])) (λ x. s ≡ view x ∷ t) → s ≡ item ∷ others → t ≡ others
leaves_others view None {item} {others} ends is = let none : [] ≡ item ∷ others = sym ends.0 ∙ is in absurd cc
leaves_others view {t = t} (Some x) {item} {others} steps is = let same : view x ∷ t ≡ item ∷ others = sym steps ∙ is in cc
