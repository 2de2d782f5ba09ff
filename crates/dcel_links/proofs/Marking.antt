-- One more mark.
use Rattle.std.proofs.Common.{◌≡◌, ◌⊎◌, inl, inr, ℕ, ◌+◌, ◌<◌, Bool, true, false, cond, not, List, length, get_or, set, sym, ap, ◌∙◌, subst, arith, get_or-set_same, get_or-set_other}
use Rattle.std.proofs.lemmas.Bool.{cases_eq, cases_lt, false≢true}
use Rattle.std.proofs.lemmas.List.{get_or_past}
use Rattle.std.proofs.lemmas.List.Sums.{sum_by-set}
use Rattle.std.specs.List.{count_by}
use Rattle.dcel_links.specs.Marks.{Marked}

-- what is marked is in range
pub marked_below : (marks : List Bool) (x : ℕ) → Marked marks x → x < length marks
marked_below marks x m = elim (cases_lt x (length marks)) [
  | inl below ↦ below
  | inr past ↦ absurd (false≢true (sym (get_or_past marks x false past) ∙ m))
]

pub marked_new : (marks : List Bool) (i : ℕ) → i < length marks → Marked (set marks i true) i
marked_new marks i below = get_or-set_same marks i true false below

pub marked_kept : (marks : List Bool) (i x : ℕ) → Marked marks x → Marked (set marks i true) x
marked_kept marks i x m = elim (cases_eq x i) [
  | inl e ↦ let below : i < length marks = subst (λ k. k < length marks) e (marked_below marks x m) in
      subst (Marked (set marks i true)) (sym e) (marked_new marks i below)
  | inr d ↦ get_or-set_other marks i x true false d ∙ m
]

-- what is marked then is the new one, or was
pub marked_cases : (marks : List Bool) (i x : ℕ) → Marked (set marks i true) x → (x ≡ i) ⊎ Marked marks x
marked_cases marks i x m = elim (cases_eq x i) [
  | inl e ↦ inl e
  | inr d ↦ inr (sym (get_or-set_other marks i x true false d) ∙ m)
]

-- fewer are left without a mark
pub marks_fall : (marks : List Bool) (i : ℕ) → i < length marks → get_or marks i false ≡ false
    → count_by not (set marks i true) < count_by not marks
marks_fall marks i below unmarked =
    let e : count_by not (set marks i true) + cond {A = ℕ} (not (get_or marks i false)) 1 0 ≡ count_by not marks + 0 = sum_by-set (λ b. cond (not b) 1 0) marks i true false below in
    let one : cond {A = ℕ} (not (get_or marks i false)) 1 0 ≡ 1 = ap (λ b. cond {A = ℕ} (not b) 1 0) unmarked in
    omega arith
