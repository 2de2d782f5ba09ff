-- Lines as they are written, one after another.
use Rattle.std.proofs.Common.{◌≡◌, ℕ, ◌+◌, ◌<◌, Bool, true, false, List, [], ◌∷◌, ◌++◌, ◌∙◌, Option, if◌then◌else◌, length, map, take, get_or, sym, ap, subst, append_assoc, arith}
use Rattle.std.specs.Io.KnownBytes.{Appends}
use Rattle.std.specs.List.{flat_map, zip}
use Rattle.std.proofs.KnownBytes.{Appends-trans}
use Rattle.std.proofs.lemmas.List.{flat_map_more, take_more}
use Rattle.std.proofs.lemmas.Slice.Zip.{get_or-zip, length-zip}
use Rattle.dcel_text.specs.Items.{spaced}
use Rattle.dcel_text.specs.Texts.{ended}

three : (a b c : List ℕ) → a ++ 32 ∷ (b ++ 32 ∷ (c ++ 10 ∷ [])) ≡ ended (spaced (a ∷ b ∷ c ∷ []))
three a b c = simp append_assoc

-- what belongs to three corners, each after the other, from one of them on
pub one_of_three : {T : Type 0} (say : T → List ℕ) (d : T) (p q : Bool) (a b c : T)
    → let xs : List T = if p then a ∷ b ∷ c ∷ [] else (if q then b ∷ c ∷ a ∷ [] else c ∷ a ∷ b ∷ []) in
    say (get_or xs 0 d) ++ 32 ∷ (say (get_or xs 1 d) ++ 32 ∷ (say (get_or xs 2 d) ++ 10 ∷ [])) ≡ ended (spaced (map say xs))
one_of_three say d true q a b c = three (say a) (say b) (say c)
one_of_three say d false true a b c = three (say b) (say c) (say a)
one_of_three say d false false a b c = three (say c) (say a) (say b)

-- the same in three parts
pub parted : (a b c : List ℕ) → ((a ++ 32 ∷ []) ++ (b ++ 32 ∷ [])) ++ (c ++ 10 ∷ []) ≡ a ++ 32 ∷ (b ++ 32 ∷ (c ++ 10 ∷ []))
parted a b c = simp append_assoc

-- two things on a line
pub two : (a b : List ℕ) → a ++ 32 ∷ (b ++ 10 ∷ []) ≡ ended (spaced (a ∷ b ∷ []))
two a b = simp append_assoc

-- the line of one more item was written
pub one_more : {X : Type 0} (line : X → List ℕ) (xs : List X) (i : ℕ) (x : X) (a b c : Option (List ℕ)) → i < length xs
    → Appends a b (flat_map line (take i xs)) → Appends b c (line (get_or xs i x)) → Appends a c (flat_map line (take (i + 1) xs))
one_more line xs i x a b c below p q =
    subst (Appends a c) (flat_map_more line [] (take i xs) (get_or xs i x) ∙ sym (ap (flat_map line) (take_more xs i x below)))
    (Appends-trans a b c (flat_map line (take i xs)) (line (get_or xs i x)) p q)

-- the line of one more pair
pub one_more_pair : {X Y : Type 0} (line : X × Y → List ℕ) (xs : List X) (ys : List Y) (i : ℕ) (x : X) (y : Y) (a b c : Option (List ℕ)) → i < length xs → i < length ys
    → x ≡ get_or xs i x → y ≡ get_or ys i y → Appends a b (flat_map line (take i (zip xs ys))) → Appends b c (line (x, y)) → Appends a c (flat_map line (take (i + 1) (zip xs ys)))
one_more_pair line xs ys i x y a b c below_xs below_ys is_x is_y p q =
    let both : (x, y) ≡ get_or (zip xs ys) i (x, y) = ap (λ (z : _). (z, y)) is_x ∙ ap (λ (z : _). (get_or xs i x, z)) is_y ∙ sym (get_or-zip xs ys i (x, y) below_xs below_ys) in
    one_more line (zip xs ys) i (x, y) a b c (let long = length-zip xs ys in omega (arith, below_xs, below_ys, long)) p (subst (λ (z : _). Appends b c (line z)) both q)
