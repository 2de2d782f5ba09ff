-- Each item of a list anchored at its half edge, one after another: the last one stays.
use Rattle.std.proofs.Common.{◌≡◌, ◌≢◌, ◌⊎◌, inl, inr, ℕ, zero, suc, ◌+◌, ◌<◌, List, [], ◌∷◌, length, replicate, slice_index, slice_index_or, slice_set, Option, Some, None, refl, sym, ap, ◌∙◌, subst, arith, get_or-set_same, get_or-set_other, length-set}
use Rattle.std.proofs.lemmas.Bool.{cases_eq}
use Rattle.std.proofs.lemmas.List.{length-replicate}
use Rattle.dcel_edits.specs.Given.{anchored_from}
use Rattle.dcel_maps.specs.Numbers.{IsLast}

pub length-anchored : (h : ℕ) (labels : List ℕ) (anchors : List (Option ℕ)) → length (anchored_from h labels anchors) ≡ length anchors
length-anchored h [] anchors = refl
length-anchored h (x ∷ rest) anchors = length-anchored (h + 1) rest (slice_set anchors x (Some h)) ∙ length-set anchors x (Some h)

-- no item is v, or this is the last one
abbrev NoneIs : ℕ → List ℕ → Type 0
NoneIs v labels = (k : ℕ) → k < length labels → slice_index labels k ≢ v

record LastIs (v : ℕ) (labels : List ℕ) (h : ℕ) (o : Option ℕ) : Type 0 where
  place : ℕ
  within : place < length labels
  is : slice_index labels place ≡ v
  last : (k : ℕ) → place < k → k < length labels → slice_index labels k ≢ v
  anchor : o ≡ Some (h + place)

none_more : (v x : ℕ) (rest : List ℕ) → x ≢ v → NoneIs v rest → NoneIs v (x ∷ rest)
none_more v x rest differs none zero below = differs
none_more v x rest differs none (suc k) below = none k (omega arith)

none_after : (v x : ℕ) (rest : List ℕ) → NoneIs v rest → (k : ℕ) → 0 < k → k < length (x ∷ rest) → slice_index (x ∷ rest) k ≢ v
none_after v x rest none zero some below = absurd (omega arith)
none_after v x rest none (suc k) some below = none k (omega arith)

last_more : (v x : ℕ) (rest : List ℕ) (place : ℕ) → ((k : ℕ) → place < k → k < length rest → slice_index rest k ≢ v)
    → (k : ℕ) → suc place < k → k < length (x ∷ rest) → slice_index (x ∷ rest) k ≢ v
last_more v x rest place last zero more below = absurd (omega arith)
last_more v x rest place last (suc k) more below = last k (omega arith) (omega arith)

anchored : (v : ℕ) (labels : List ℕ) (h : ℕ) (anchors : List (Option ℕ)) → v < length anchors
    → (NoneIs v labels × (slice_index_or (anchored_from h labels anchors) v None ≡ slice_index_or anchors v None))
    ⊎ LastIs v labels h (slice_index_or (anchored_from h labels anchors) v None)
anchored v [] h anchors below = inl ((λ k none. absurd (omega arith)), refl)
anchored v (x ∷ rest) h anchors below =
    let within : v < length (slice_set anchors x (Some h)) = omega (arith, length-set anchors x (Some h)) in
    elim (anchored v rest (h + 1) (slice_set anchors x (Some h)) within) [
      | inl (none, kept) ↦ elim (cases_eq v x) [
        | inl same ↦
            let here : slice_index_or (slice_set anchors x (Some h)) v None ≡ Some h =
            subst (λ y. slice_index_or (slice_set anchors y (Some h)) v None ≡ Some h) same (get_or-set_same anchors v (Some h) None below) in
            let first : h ≡ h + 0 = omega arith in
            inr record {
              place = 0;
              within = omega arith;
              is = sym same;
              last = none_after v x rest none;
              anchor = kept ∙ here ∙ ap (λ k. Some k) first;
            }
        | inr other ↦ inl (
          none_more v x rest (λ e. other (sym e)) none,
          kept ∙ get_or-set_other anchors x v (Some h) None other,
        )
      ]
      | inr later ↦
          let next : h + 1 + later.place ≡ h + suc later.place = omega arith in
          inr record {
            place = suc later.place;
            within = let l = later.within in omega arith;
            is = later.is;
            last = last_more v x rest later.place later.last;
            anchor = later.anchor ∙ ap (λ k. Some k) next;
          }
    ]

none_there : (n v : ℕ) → slice_index_or (replicate {A = Option ℕ} n None) v None ≡ None
none_there zero v = refl
none_there (suc n) zero = refl
none_there (suc n) (suc v) = none_there n v

is_last : (v : ℕ) (labels : List ℕ) (o : Option ℕ) → LastIs v labels 0 o → IsLast labels v o
is_last v labels o last =
    let at : 0 + last.place ≡ last.place = omega arith in
    subst (IsLast labels v) (sym (last.anchor ∙ ap (λ k. Some k) at)) (last.within, last.is, last.last)

-- where nothing was anchored before, each anchor is the last half edge that has its label
pub anchored_last : (labels : List ℕ) (n v : ℕ) → v < n → IsLast labels v (slice_index_or (anchored_from 0 labels (replicate n None)) v None)
anchored_last labels n v below =
    elim (anchored v labels 0 (replicate n None) (omega (arith, length-replicate {A = Option ℕ} n None))) [
      | inl (none, kept) ↦ subst (IsLast labels v) (sym (kept ∙ none_there n v)) none
      | inr last ↦ is_last v labels _ last
    ]
