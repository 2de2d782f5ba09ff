-- Lists without their last item, and items put at their places one after another.
use Rattle.std.proofs.Common.{◌≡◌, ◌≢◌, ◌⊎◌, inl, inr, ◌<◌, ℕ, List, [], ◌∷◌, ◌++◌, length, slice_index_or, slice_set, sym, refl, ap, ◌∙◌, subst, arith}
use Rattle.std.proofs.lemmas.Bool.{cases_eq}
use Rattle.std.proofs.lemmas.List.{get_or-set_other, get_or-set_same, length-set, set-get_or, set-set, set_comm}
use Rattle.dcel_maps.specs.Words.{count_of, last_of}
use Rattle.dcel_maps.specs.edits.Strip.{but_last, each_set}
use Rattle.dcel_maps.proofs.words.Counts.{count-later, count-same, first_or_later}

pub but_last-is : (es : List ℕ) (l : ℕ) → but_last (es ++ l ∷ []) ≡ es
but_last-is [] l = refl
but_last-is (x ∷ []) l = refl
but_last-is (x ∷ y ∷ es) l = ap (λ r. x ∷ r) (but_last-is (y ∷ es) l)

pub last_of-is : (x : ℕ) (es : List ℕ) (l : ℕ) → last_of x (es ++ l ∷ []) ≡ l
last_of-is x [] l = refl
last_of-is x (e ∷ es) l = last_of-is e es l

-- what was put at the place k
pub record IsPut {A : Type 0} (place : ℕ → ℕ) (value : ℕ → A) (es : List ℕ) (k : ℕ) (a : A) : Type 0 where
  pub from : ℕ
  pub listed : 0 < count_of from es
  pub at : place from ≡ k
  pub is : a ≡ value from

module _ {A : Type 0} (place : ℕ → ℕ) (value : ℕ → A) where
  -- the list stays as long as it was
  pub length-each_set : (es : List ℕ) (xs : List A) → length (each_set place value xs es) ≡ length xs
  length-each_set [] xs = refl
  length-each_set (e ∷ es) xs = length-each_set es (slice_set xs (place e) (value e)) ∙ length-set xs (place e) (value e)

  -- at each place stands what was put there last, or what stood there before
  pub each_set-cases : (es : List ℕ) (xs : List A) (k : ℕ) (z : A) → k < length xs
      → IsPut place value es k (slice_index_or (each_set place value xs es) k z)
      ⊎ (((e : ℕ) → 0 < count_of e es → place e ≢ k) × (slice_index_or (each_set place value xs es) k z ≡ slice_index_or xs k z))
  each_set-cases [] xs k z below = inr (λ e found. absurd (omega (arith, found)), refl)
  each_set-cases (e ∷ es) xs k z below =
      let after = slice_set xs (place e) (value e) in
      elim (each_set-cases es after k z (omega (arith, below, length-set xs (place e) (value e)))) [
        | inl p ↦ inl record { from = p.from; listed = count-later p.from e es p.listed; at = p.at; is = p.is }
        | inr (none, same) ↦ elim (cases_eq k (place e)) [
          | inl i ↦ inl record {
            from = e;
            listed = omega (arith, count-same e es);
            at = sym i;
            is = same ∙ subst (λ j. slice_index_or (slice_set xs (place e) (value e)) j z ≡ value e) (sym i)
                (get_or-set_same xs (place e) (value e) z (omega (arith, below, i)));
          }
          | inr d ↦ inr (
            λ j found. elim (first_or_later j e es found) [
              | inl i ↦ λ at. d (sym at ∙ ap place i)
              | inr later ↦ none j later
            ],
            same ∙ get_or-set_other xs (place e) k (value e) z d,
          )
        ]
      ]

  -- what is put in after the others
  pub each_set-append : (es : List ℕ) (l : ℕ) (xs : List A) → each_set place value xs (es ++ l ∷ []) ≡ slice_set (each_set place value xs es) (place l) (value l)
  each_set-append [] l xs = refl
  each_set-append (e ∷ es) l xs = each_set-append es l (slice_set xs (place e) (value e))

-- places that are the same for the items of a list
pub each_set-same : {A : Type 0} (place other : ℕ → ℕ) (value : ℕ → A) (es : List ℕ) (xs : List A)
    → ((e : ℕ) → 0 < count_of e es → place e ≡ other e) → each_set place value xs es ≡ each_set other value xs es
each_set-same place other value [] xs same = refl
each_set-same place other value (e ∷ es) xs same =
    ap (λ k. each_set place value (slice_set xs k (value e)) es) (same e (omega (arith, count-same e es)))
    ∙ each_set-same place other value es (slice_set xs (other e) (value e)) (λ k found. same k (count-later k e es found))

-- two items of a list replaced
abbrev pub two_set : {A : Type 0} → List A → ℕ → A → ℕ → A → List A
two_set l i p j q = slice_set (slice_set l i p) j q

module _ {A : Type 0} (l : List A) (i j : ℕ) where
  pub length-two_set : (p q : A) → length (two_set l i p j q) ≡ length l
  length-two_set p q = length-set (slice_set l i p) j q ∙ length-set l i p

  pub first-two_set : (p q d : A) → i ≢ j → i < length l → slice_index_or (two_set l i p j q) i d ≡ p
  first-two_set p q d differ i_in = get_or-set_other (slice_set l i p) j i q d differ ∙ get_or-set_same l i p d i_in

  pub second-two_set : (p q d : A) → j < length l → slice_index_or (two_set l i p j q) j d ≡ q
  second-two_set p q d j_in = get_or-set_same (slice_set l i p) j q d (omega (arith, j_in, length-set l i p))

  pub other-two_set : (p q d : A) (k : ℕ) → k ≢ i → k ≢ j → slice_index_or (two_set l i p j q) k d ≡ slice_index_or l k d
  other-two_set p q d k not_i not_j = get_or-set_other (slice_set l i p) j k q d not_j ∙ get_or-set_other l i k p d not_i

  -- the same two again, and the two that were there
  pub two_set-again : (p q v w : A) → i ≢ j → two_set (two_set l i p j q) i v j w ≡ two_set l i v j w
  two_set-again p q v w differ =
      ap (λ k. two_set k i v j w) (set_comm l i j p q differ) ∙ ap (λ k. slice_set k j w) (set-set (slice_set l j q) i p v)
      ∙ ap (λ k. slice_set k j w) (sym (set_comm l i j v q differ)) ∙ set-set (slice_set l i v) j q w

  pub two_set-back : (d : A) → two_set l i (slice_index_or l i d) j (slice_index_or l j d) ≡ l
  two_set-back d = ap (λ k. slice_set k j (slice_index_or l j d)) (set-get_or l i d) ∙ set-get_or l j d
