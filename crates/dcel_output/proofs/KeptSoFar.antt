-- One item more is looked at, and kept or not.
use Rattle.std.proofs.Common.{◌≡◌, ◌∙◌, ℕ, zero, suc, ◌+◌, ◌<◌, Bool, false, List, [], ◌∷◌, ◌++◌, if◌then◌else◌, length, take, get_or, refl, sym, ap, append_assoc, append-nil, arith}
use Rattle.dcel_output.specs.Keeping.{kept}

kept_more : {T : Type 0} (flags : List Bool) (xs : List T) (i : ℕ) (x : T) → i < length xs
    → kept flags (take (suc i) xs) ≡ kept flags (take i xs) ++ (if get_or flags i false then get_or xs i x ∷ [] else [])
kept_more flags [] i x below = absurd (omega (arith, below))
kept_more [] (y ∷ ys) zero x below = refl
kept_more [] (y ∷ ys) (suc i) x below = refl
kept_more (f ∷ fs) (y ∷ []) zero x below = append-nil _
kept_more (f ∷ fs) (y ∷ z ∷ ys) zero x below = kept_first f fs y
  where
    kept_first : {T : Type 0} (f : Bool) (fs : List Bool) (y : T) → (if f then y ∷ [] else []) ++ kept fs [] ≡ (if f then y ∷ [] else [])
    kept_first f [] y = append-nil _
    kept_first f (g ∷ gs) y = append-nil _
kept_more (f ∷ fs) (y ∷ ys) (suc i) x below =
    ap (λ l. (if f then y ∷ [] else []) ++ l) (kept_more fs ys i x (omega (arith, below)))
    ∙ sym (append_assoc (if f then y ∷ [] else []) (kept fs (take i ys)) (if get_or fs i false then get_or ys i x ∷ [] else []))

pub kept_next : {T : Type 0} (flags : List Bool) (xs : List T) (i : ℕ) (x : T) (before after : List T) (b : Bool) → i < length xs → x ≡ get_or xs i x → b ≡ get_or flags i false
    → before ≡ kept flags (take i xs) → after ≡ before ++ (if b then x ∷ [] else []) → after ≡ kept flags (take (i + 1) xs)
kept_next flags xs i x before after b below at flag so_far is =
    let more : i + 1 ≡ suc i = omega arith in
    is ∙ ap (λ l. l ++ (if b then x ∷ [] else [])) so_far ∙ ap (λ c. kept flags (take i xs) ++ (if c then x ∷ [] else [])) flag
    ∙ ap (λ y. kept flags (take i xs) ++ (if get_or flags i false then y ∷ [] else [])) at
    ∙ sym (ap (λ n. kept flags (take n xs)) more ∙ kept_more flags xs i x below)
