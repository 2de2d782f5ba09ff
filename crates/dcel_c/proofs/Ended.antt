-- How calls end that are done or refused.
use Rattle.std.proofs.Common.{◌≡◌, ◌≢◌, ◌∙◌, Bool, false, ℕ, None, Some, refl, ap, sym, subst, arith, true≢false}
use Rattle.std.specs.Prelude.{is_some}
use Rattle.dcel_convenience.specs.declared.collapsing.WhyNotCollapsed.{WhyNotCollapsed}
use Rattle.dcel_convenience.specs.declared.collapsing.WhyNotCollapsed.TheVariants as collapsing
use Rattle.dcel_convenience.specs.declared.inserting.WhyNotInserted.{WhyNotInserted}
use Rattle.dcel_convenience.specs.declared.inserting.WhyNotInserted.TheVariants as inserting
use Rattle.dcel_convenience.specs.declared.removing.WhyNotRemoved.{WhyNotRemoved}
use Rattle.dcel_convenience.specs.declared.removing.WhyNotRemoved.TheVariants as removing
use Rattle.dcel_c.specs.Convenience.{EndsSo, status_of_collapse, status_of_insertion, status_of_removal}
use Rattle.dcel_c.specs.Held.{Kept, State}

module _ {Told Why : Type 0} (Holds : State → State → Told → Type 0) (MayNot : State → Why → Type 0) (status_of : Why → ℕ) where
  pub carried_out : (old : Kept) (was is : State) (before after : Told) → Some was ≡ old → Holds was is after → EndsSo Holds MayNot status_of old (Some is) before after 0
  carried_out old was is before after at holds =
      subst (λ (kept : Kept). EndsSo Holds MayNot status_of kept (Some is) before after 0) at
      (record { done = λ _. holds; refused = λ wrong. absurd (wrong refl); same = λ wrong. absurd (wrong refl) })

  pub refused_so : (old : Kept) (was now : State) (before : Told) (why : Why) (status : ℕ) → Some was ≡ old → now ≡ was → MayNot was why → status ≡ status_of why → status_of why ≢ 0
      → EndsSo Holds MayNot status_of old (Some now) before before status
  refused_so old was now before why status at stays may_not is counts =
      subst (λ (kept : Kept). EndsSo Holds MayNot status_of kept (Some now) before before status) at
      (record {
        done = λ none. absurd (counts (subst (λ (n : ℕ). n ≡ 0) is none));
        refused = λ _. (why, may_not, is);
        same = λ _. (ap (λ (m : State). Some m) stays, refl);
      })

  pub no_mesh : (old : Kept) (before : Told) → old ≡ None → EndsSo Holds MayNot status_of old old before before 21
  no_mesh old before none =
      subst (λ (kept : Kept). EndsSo Holds MayNot status_of kept kept before before 21) (sym none)
      (record { done = λ is. absurd (omega (arith, is)); refused = λ _. refl; same = λ _. (refl, refl) })

-- a mesh that isn't open is none
pub is_none : (kept : Kept) (is_open : Bool) → is_open ≡ is_some kept → is_open ≡ false → kept ≡ None
is_none None is_open agrees closed = refl
is_none (Some mesh) is_open agrees closed = absurd (true≢false (sym agrees ∙ closed))

pub collapse_counts : (why : WhyNotCollapsed) → status_of_collapse why ≢ 0
collapse_counts collapsing.RemovalOpen = λ none. absurd (omega (arith, none))
collapse_counts collapsing.NotInside = λ none. absurd (omega (arith, none))
collapse_counts collapsing.SecondEdge = λ none. absurd (omega (arith, none))
collapse_counts collapsing.NoRoom = λ none. absurd (omega (arith, none))
collapse_counts collapsing.OutOfMemory = λ none. absurd (omega (arith, none))

pub insertion_counts : (why : WhyNotInserted) → status_of_insertion why ≢ 0
insertion_counts inserting.RemovalOpen = λ none. absurd (omega (arith, none))
insertion_counts inserting.NoTriangle = λ none. absurd (omega (arith, none))
insertion_counts inserting.NoRoom = λ none. absurd (omega (arith, none))
insertion_counts inserting.OutOfMemory = λ none. absurd (omega (arith, none))

pub removal_counts : (why : WhyNotRemoved) → status_of_removal why ≢ 0
removal_counts removing.RemovalOpen = λ none. absurd (omega (arith, none))
removal_counts removing.NotInside = λ none. absurd (omega (arith, none))
removal_counts removing.NoVertex = λ none. absurd (omega (arith, none))
removal_counts removing.LongFace = λ none. absurd (omega (arith, none))
removal_counts removing.CutVertex = λ none. absurd (omega (arith, none))
removal_counts removing.ShortBorder = λ none. absurd (omega (arith, none))
removal_counts removing.SecondEdge = λ none. absurd (omega (arith, none))
removal_counts removing.NoRoom = λ none. absurd (omega (arith, none))
removal_counts removing.OutOfMemory = λ none. absurd (omega (arith, none))
