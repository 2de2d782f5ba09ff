-- Exceptions counted one after another.
use Rattle.std.proofs.Common.{◌≡◌, inl, inr, ℕ, ◌+◌, ◌*◌, ◌<◌, ◌≤◌, List, [], ◌∷◌, length, refl, sym, ◌∙◌, subst, arith}
use Rattle.std.proofs.lemmas.Bool.{cases_eq}
use Rattle.dcel_predicates.specs.declared.point.Point.{Point}
use Rattle.dcel_maps.specs.Shapes.{Mesh}
use Rattle.dcel_maps.specs.Words.{count_of}
use Rattle.dcel_maps.proofs.words.Counts.{count-other, count-same, first_or_later, stands_or_not}
use Rattle.dcel_regions.specs.declared.mark.Mark.{Mark}
use Rattle.dcel_refinement.specs.Quality.{HasExceptions, IsExcepted}
use Rattle.dcel_refinement.specs.declared.parameters.RefinementParameters.{RefinementParameters}
use Rattle.dcel_refinement.proofs.Judged.{live_below}

module _ {DE F : Type 0} (m : Mesh Point DE Mark F) (p : RefinementParameters) where
  -- so many of the half edges below n are exceptions
  pub record CountedTo (n many : ℕ) : Type 0 where
    pub list : List ℕ
    pub once : (h : ℕ) → h < n → IsExcepted m p h → count_of h list ≡ 1
    pub no_other : (h : ℕ) → 0 < count_of h list → (h < n) × IsExcepted m p h
    pub counted : many ≡ length list
    pub few : many ≤ n

  pub counted_none : CountedTo 0 0
  counted_none = record {
    list = [];
    once = λ h below excepted. absurd (omega (arith, below));
    no_other = λ h found. absurd (omega (arith, found));
    counted = refl;
    few = omega arith;
  }

  pub counted_one : (n many : ℕ) → CountedTo n many → IsExcepted m p n → CountedTo (n + 1) (many + 1)
  counted_one n many before excepted = record {
    list = n ∷ before.list;
    once = λ h below is. elim (cases_eq h n) [
      | inl same ↦ subst (λ (k : ℕ). count_of k (n ∷ before.list) ≡ 1) (sym same) (let none = absent in omega (arith, count-same n before.list, none))
      | inr differs ↦ count-other h n before.list differs ∙ before.once h (omega (arith, below, differs)) is
    ];
    no_other = λ h found. elim (first_or_later h n before.list found) [
      | inl same ↦ (omega (arith, same), subst (IsExcepted m p) (sym same) excepted)
      | inr later ↦ (let there = before.no_other h later in let less = there.0 in (omega (arith, less), there.1))
    ];
    counted = (let e = before.counted in omega (arith, e));
    few = (let less = before.few in omega (arith, less));
  }
    where
      absent : count_of n before.list ≡ 0
      absent = elim (stands_or_not n before.list) [
        | inl there ↦ absurd (let less = (before.no_other n there).0 in omega (arith, less))
        | inr none ↦ none
      ]

  pub counted_not : (n many : ℕ) → CountedTo n many → ¬ IsExcepted m p n → CountedTo (n + 1) many
  counted_not n many before not = record {
    list = before.list;
    once = λ h below is. elim (cases_eq h n) [
      | inl same ↦ absurd (not (subst (IsExcepted m p) same is))
      | inr differs ↦ before.once h (omega (arith, below, differs)) is
    ];
    no_other = λ h found. (let there = before.no_other h found in let less = there.0 in (omega (arith, less), there.1));
    counted = before.counted;
    few = (let less = before.few in omega (arith, less));
  }

  pub counted_all : (n many : ℕ) → 2 * m.shape.edges ≤ n → CountedTo n many → HasExceptions m p many
  counted_all n many all counted = record {
    list = counted.list;
    once = λ h is. counted.once h (let below = live_below m.shape h is.live in omega (arith, below, all)) is;
    no_other = λ h found. (counted.no_other h found).1;
    counted = counted.counted;
  }
