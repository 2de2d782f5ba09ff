-- Records that answer records place by place: what is read of them answers too, or stays.
use Rattle.std.proofs.Common.{◌≡◌, All, List, [], ◌∷◌, map, refl, subst}
use Rattle.std.proofs.lemmas.List.{get_or-map, length-map}
use Rattle.std.specs.List.{AllZip}

-- what holds of one part of each record
pub All-from_map : {X D : Type 0} (P : D → Type 0) (part : X → D) (xs : List X) → All P (map part xs) → All (λ x. P (part x)) xs
All-from_map P part xs all k x below =
    subst P (get_or-map part xs k x (part x) below) (all k (part x) (simp length-map below))

module _ {X Y : Type 0} {R : X → Y → Type 0} where
  -- a part that answers
  pub parts_answer : {D E : Type 0} (S : D → E → Type 0) (old : X → D) (new : Y → E) → ((x : X) (y : Y) → R x y → S (old x) (new y))
      → (xs : List X) (ys : List Y) → AllZip R xs ys → AllZip S (map old xs) (map new ys)
  parts_answer S old new part [] [] zips = tt
  parts_answer S old new part [] (y ∷ ys) zips = absurd zips
  parts_answer S old new part (x ∷ xs) [] zips = absurd zips
  parts_answer S old new part (x ∷ xs) (y ∷ ys) zips = (part x y zips.0, parts_answer S old new part xs ys zips.1)

  -- a part that stays
  pub parts_stay : {B : Type 0} (old : X → B) (new : Y → B) → ((x : X) (y : Y) → R x y → new y ≡ old x)
      → (xs : List X) (ys : List Y) → AllZip R xs ys → map new ys ≡ map old xs
  parts_stay old new part [] [] zips = refl
  parts_stay old new part [] (y ∷ ys) zips = absurd zips
  parts_stay old new part (x ∷ xs) [] zips = absurd zips
  parts_stay old new part (x ∷ xs) (y ∷ ys) zips = rw (part x y zips.0, parts_stay old new part xs ys zips.1)
