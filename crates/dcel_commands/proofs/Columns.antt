-- The first condition of a list that isn't met.
use Rattle.std.proofs.Common.{◌≡◌, ◌⊎◌, ℕ, zero, suc, ◌+◌, ◌<◌, ◌≤◌, ◌&&◌, Bool, true, nat_lt, ltb-true, List, [], ◌∷◌, inl, inr, length, get_or, arith, subst, sym, refl, ap, ◌∙◌}
use Rattle.std.specs.List.Sorted.{IsNonDecreasingBy}
use Rattle.std.proofs.lemmas.Bool.{and_parts}
use Rattle.dcel_commands.specs.declared.refusal.Refusal.{Refusal}
use Rattle.dcel_commands.specs.Conditions.{Entry, Meets, AllMet, FirstUnmet, IsLeast, IsReason, IsRefused, entry_number}
use Rattle.dcel_commands.specs.Refusal.{refusal_number}
use Rattle.dcel_maps.specs.Shapes.{Shape}
use Rattle.dcel_commands.proofs.Decided.{meets}

-- it is one that isn't met
pub FirstUnmet-not_met : (s : Shape) (xs : List Entry) (why : Refusal) → FirstUnmet s xs why → ¬ AllMet s xs
FirstUnmet-not_met s [] why unmet met = unmet
FirstUnmet-not_met s (x ∷ r) why (inl first) met = first.0 met.0
FirstUnmet-not_met s (x ∷ r) why (inr later) met = FirstUnmet-not_met s r why later.1 met.1

-- where the numbers ascend, its number is the least
least_at : (s : Shape) (xs : List Entry) (why : Refusal)
    → IsNonDecreasingBy entry_number xs
    → FirstUnmet s xs why
    → (k : ℕ) (d : Entry) → k < length xs → ¬ Meets s (get_or xs k d).1 → refusal_number why ≤ entry_number (get_or xs k d)
least_at s [] why ascend unmet k d below not_met = absurd unmet
least_at s (x ∷ r) why ascend (inl first) k d below not_met =
    let least : entry_number x ≤ entry_number (get_or (x ∷ r) k d) = ascend 0 k d (omega arith) below in
    rw first.1 least
least_at s (x ∷ r) why ascend (inr later) zero d below not_met = absurd (not_met later.0)
least_at s (x ∷ r) why ascend (inr later) (suc k) d below not_met =
    least_at s r why (λ i j e i≤j j<l. ascend (suc i) (suc j) e (omega arith) (omega arith)) later.1 k d (omega arith) not_met

pub FirstUnmet-least : (s : Shape) (xs : List Entry) (why : Refusal) → IsNonDecreasingBy entry_number xs → FirstUnmet s xs why → IsLeast s xs why
FirstUnmet-least s xs why ascend unmet refusal condition contains not_met =
    let P : Entry → Type 0 = λ x. ¬ Meets s x.1 → refusal_number why ≤ entry_number x in
    subst P contains.2 (least_at s xs why ascend unmet contains.0 (refusal, condition) contains.1) not_met

-- there is one, or all are met
all_met_or_first : (s : Shape) (xs : List Entry) → AllMet s xs ⊎ ((why : Refusal) × FirstUnmet s xs why)
all_met_or_first s [] = inl tt
all_met_or_first s (x ∷ r) = elim (meets s x.1) [
  | inr not ↦ inr (x.0, inl (not, refl))
  | inl met ↦ elim (all_met_or_first s r) [
    | inl all ↦ inl (met, all)
    | inr later ↦ inr (later.0, inr (met, later.1))
  ]
]

-- no two refusals are its own
FirstUnmet-one : (s : Shape) (xs : List Entry) (why other : Refusal) → FirstUnmet s xs why → FirstUnmet s xs other → other ≡ why
FirstUnmet-one s [] why other one two = absurd one
FirstUnmet-one s (x ∷ r) why other (inl one) (inl two) = two.1 ∙ sym one.1
FirstUnmet-one s (x ∷ r) why other (inl one) (inr two) = absurd (one.0 two.0)
FirstUnmet-one s (x ∷ r) why other (inr one) (inl two) = absurd (two.0 one.0)
FirstUnmet-one s (x ∷ r) why other (inr one) (inr two) = FirstUnmet-one s r why other one.1 two.1

-- it is asked, and isn't met
pub FirstUnmet-reason : (s : Shape) (xs : List Entry) (why : Refusal) → FirstUnmet s xs why → IsReason s xs why
FirstUnmet-reason s [] why unmet = absurd unmet
FirstUnmet-reason s (x ∷ r) why (inl first) =
    record { condition = x.1; asked = (0, omega arith, ap (λ (w : Refusal). (w, x.1)) (sym first.1)); unmet = first.0 }
FirstUnmet-reason s (x ∷ r) why (inr later) =
    let is = FirstUnmet-reason s r why later.1 in
    record { condition = is.condition; asked = (suc is.asked.0, omega (arith, is.asked.1), is.asked.2); unmet = is.unmet }

pub all_met_or_refused : (s : Shape) (xs : List Entry) → AllMet s xs ⊎ IsRefused s xs
all_met_or_refused s xs = elim (all_met_or_first s xs) [
  | inl all ↦ inl all
  | inr unmet ↦ inr (record {
    why = unmet.0;
    first = unmet.1;
    no_other = λ other. FirstUnmet-one s xs unmet.0 other unmet.1;
    reason = FirstUnmet-reason s xs unmet.0 unmet.1;
  })
]

-- ---- columns: the numbers ascend from `least` on, and are below that of want of memory, which is the last

unfoldable pub is_column : ℕ → List Entry → Bool
is_column least [] = true
is_column least (x ∷ r) = nat_lt least (entry_number x + 1) && (nat_lt (entry_number x) 20 && is_column (entry_number x) r)

-- what that says of the first entry, and of the others
parts : (least : ℕ) (x : Entry) (r : List Entry) → is_column least (x ∷ r) ≡ true
    → (least ≤ entry_number x) × (entry_number x < 20) × (is_column (entry_number x) r ≡ true)
unfolding is_column
parts least x r column =
    let first = and_parts (nat_lt least (entry_number x + 1)) (nat_lt (entry_number x) 20 && is_column (entry_number x) r) column in
    let second = and_parts (nat_lt (entry_number x) 20) (is_column (entry_number x) r) first.1 in
    (omega (arith, ltb-true least (entry_number x + 1) first.0), ltb-true (entry_number x) 20 second.0, second.1)

at_least : (least : ℕ) (xs : List Entry) → is_column least xs ≡ true → (j : ℕ) (d : Entry) → j < length xs → least ≤ entry_number (get_or xs j d)
at_least least [] column j d below = absurd (omega arith)
at_least least (x ∷ r) column zero d below = (parts least x r column).0
at_least least (x ∷ r) column (suc j) d below =
    let here = parts least x r column in omega (arith, here.0, at_least (entry_number x) r here.2 j d (omega arith))

pub ascends : (least : ℕ) (xs : List Entry) → is_column least xs ≡ true → IsNonDecreasingBy entry_number xs
ascends least [] column i j d le below = absurd (omega arith)
ascends least (x ∷ r) column zero zero d le below = omega arith
ascends least (x ∷ r) column zero (suc j) d le below = at_least (entry_number x) r (parts least x r column).2 j d (omega arith)
ascends least (x ∷ r) column (suc i) zero d le below = absurd (omega arith)
ascends least (x ∷ r) column (suc i) (suc j) d le below = ascends (entry_number x) r (parts least x r column).2 i j d (omega arith) (omega arith)

pub first-below : (s : Shape) (least : ℕ) (xs : List Entry) (why : Refusal) → is_column least xs ≡ true → FirstUnmet s xs why → refusal_number why < 20
first-below s least [] why column unmet = absurd unmet
first-below s least (x ∷ r) why column (inl first) = omega (arith, (parts least x r column).1, ap refusal_number first.1)
first-below s least (x ∷ r) why column (inr later) = first-below s (entry_number x) r why (parts least x r column).2 later.1
