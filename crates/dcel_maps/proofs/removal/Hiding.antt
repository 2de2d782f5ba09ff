-- What stands in a list where some items are hidden.
use Rattle.std.proofs.Common.{◌≡◌, ◌↔◌, inl, inr, ℕ, zero, suc, ◌+◌, ◌<◌, ◌==◌, Bool, true, false, cond, eq-eqb, ◌≤◌, List, [], ◌∷◌, ◌++◌, length, slice_index_or, slice_set, refl, sym, ap, ◌∙◌, arith, add-zero, add-suc, suc-add, zero-add}
use Rattle.std.proofs.lemmas.Bool.{cases_eq, cond_both, false_from_ne_true, ne_eqb}
use Rattle.std.proofs.lemmas.List.{ext_get_or, get_or-set_other, get_or-set_same, length-set}
use Rattle.dcel_maps.specs.edits.Strip.{each_set}
use Rattle.dcel_maps.specs.Hiding.{hiding, hiding_from}
use Rattle.dcel_maps.specs.Words.{count_of}
use Rattle.dcel_maps.proofs.words.EachSet.{each_set-cases, length-each_set}

module _ {A : Type 0} (test : ℕ → Bool) (other : A) where
  length-hiding_from : (n : ℕ) (items : List A) → length (hiding_from test other n items) ≡ length items
  length-hiding_from n [] = refl
  length-hiding_from n (x ∷ r) = ap suc (length-hiding_from (suc n) r)

  pub length-hiding : (items : List A) → length (hiding test other items) ≡ length items
  length-hiding = length-hiding_from 0

  index-hiding_from : (n : ℕ) (items : List A) (k : ℕ)
      → slice_index_or (hiding_from test other n items) k other ≡ cond (test (n + k)) other (slice_index_or items k other)
  index-hiding_from n [] k = cond_both (test (n + k)) other other (λ x. other ≡ x) (λ given. refl) (λ kept. refl)
  index-hiding_from n (x ∷ r) zero = rw add-zero refl
  index-hiding_from n (x ∷ r) (suc k) = rw (add-suc, ← suc-add) (index-hiding_from (suc n) r k)

  pub index-hiding : (items : List A) (k : ℕ)
      → slice_index_or (hiding test other items) k other ≡ cond (test k) other (slice_index_or items k other)
  index-hiding items k = index-hiding_from 0 items k ∙ rw zero-add refl

  pub hidden : (items : List A) (k : ℕ) → test k ≡ true → slice_index_or (hiding test other items) k other ≡ other
  hidden items k given = index-hiding items k ∙ rw given refl

  pub not_hidden : (items : List A) (k : ℕ) → test k ≡ false → slice_index_or (hiding test other items) k other ≡ slice_index_or items k other
  not_hidden items k kept = index-hiding items k ∙ rw kept refl

-- where one number passes, its item is replaced
pub hiding-one : {A : Type 0} (test : ℕ → Bool) (other : A) (v : ℕ) (items : List A) → ((k : ℕ) → test k ≡ (v == k))
    → slice_set items v other ≡ hiding test other items
hiding-one test other v items one =
    ext_get_or other (slice_set items v other) (hiding test other items) (length-set items v other ∙ sym (length-hiding test other items)) (λ k below.
    elim (cases_eq v k) [
      | inl same ↦
          ap (λ i. slice_index_or (slice_set items v other) i other) (sym same)
          ∙ get_or-set_same items v other other (omega (arith, below, same, length-set items v other))
          ∙ sym (hidden test other items k (one k ∙ eq-eqb v k same))
      | inr apart ↦
          get_or-set_other items v k other other (λ is. apart (sym is)) ∙ sym (not_hidden test other items k (one k ∙ ne_eqb v k apart))
    ])

-- where none passes, all stay
pub hiding-none : {A : Type 0} (test : ℕ → Bool) (other : A) (items : List A) → ((k : ℕ) → test k ≡ false) → items ≡ hiding test other items
hiding-none test other items none =
    ext_get_or other items (hiding test other items) (sym (length-hiding test other items)) (λ k below. sym (not_hidden test other items k (none k)))

-- where the places of a list pass, and no others, their items are replaced
pub hiding-each : {A : Type 0} (test : ℕ → Bool) (other : A) (place : ℕ → ℕ) (es : List ℕ) (items : List A)
    → ((k : ℕ) → (test k ≡ true) ↔ ((e : ℕ) × (0 < count_of e es) × (place e ≡ k))) → each_set place (λ e. other) items es ≡ hiding test other items
hiding-each test other place es items listed =
    ext_get_or other (each_set place (λ e. other) items es) (hiding test other items)
    (length-each_set place (λ e. other) es items ∙ sym (length-hiding test other items)) (λ k below.
    elim (each_set-cases place (λ e. other) es items k other (omega (arith, below, length-each_set place (λ e. other) es items))) [
      | inl put ↦ put.is ∙ sym (hidden test other items k ((listed k).1 (put.from, put.listed, put.at)))
      | inr (none, same) ↦
          same
          ∙ sym (not_hidden test other items k (false_from_ne_true (test k) (λ given. let (e, found, at) = (listed k).0 given in none e found at)))
    ])

-- items past those that are hidden stay
module _ {A : Type 0} (test : ℕ → Bool) (other : A) where
  hiding_from-append : (n : ℕ) (items more : List A) → ((k : ℕ) → n + length items ≤ k → test k ≡ false)
      → hiding_from test other n (items ++ more) ≡ hiding_from test other n items ++ more
  hiding_from-append n [] [] none = refl
  hiding_from-append n [] (x ∷ r) none =
      rw (none n (omega arith)) (ap (λ w. x ∷ w) (hiding_from-append (suc n) [] r (λ k past. none k (omega (arith, past)))))
  hiding_from-append n (x ∷ items) more none =
      ap (λ w. cond (test n) other x ∷ w) (hiding_from-append (suc n) items more (λ k past. none k (omega (arith, past))))

  pub hiding-append : (items more : List A) → ((k : ℕ) → length items ≤ k → test k ≡ false) → hiding test other (items ++ more) ≡ hiding test other items ++ more
  hiding-append items more none = hiding_from-append 0 items more (λ k past. none k (omega (arith, past)))
