use Rattle.std.proofs.Common.{◌≡◌, ◌↔◌, ℕ, Bool, false, [], ◌∷◌, inl, inr, Ok, Err, IsTrue, refl, sym, subst, ap, ◌∙◌}
use Rattle.std.specs.Prelude.{Result, MatchResult}
use Rattle.std.proofs.lemmas.Bool.{false≢true}
use Rattle.dcel_commands.specs.declared.refusal.Refusal.{Refusal}
use Rattle.dcel_commands.specs.declared.refusal.Refusal.TheVariants.{RemovalOpen, VertexInUse}
use Rattle.dcel_commands.specs.Conditions.{AllMet, FirstUnmet, LeavesAtMost, NoOtherOpen, Removable}
use Rattle.dcel_maps.specs.Conditions.{CanSwapRemove}
use Rattle.dcel_maps.specs.Removals.{Removal, Closed, Isolated, Cleaned}
use Rattle.dcel_maps.specs.Shapes.{Shape}
use Rattle.dcel_commands.proofs.request.remove.ask_removable.Goals as goal

-- an open removal that leaves the vertex at most is cleaned up
left_is_cleaned : (r : Removal) (v : ℕ) → ¬ (r ≡ Closed) → LeavesAtMost v r → r ≡ Cleaned v
left_is_cleaned Closed v is_open left = absurd (is_open refl)
left_is_cleaned (Isolated edges faces vertex) v is_open left = absurd left
left_is_cleaned (Cleaned w) v is_open left = ap (λ (x : ℕ). Cleaned x) left

cleaned_is_left : (s : Shape) (v : ℕ) → ¬ (s.removal ≡ Closed) → CanSwapRemove s v → LeavesAtMost v s.removal
cleaned_is_left s v is_open (inl closed) = absurd (is_open closed.0)
cleaned_is_left s v is_open (inr clean) = subst (LeavesAtMost v) (sym clean) refl

asked : (s : Shape) (v : ℕ) (can : Bool) (result : Result (Unit {0}) Refusal) → ¬ (s.removal ≡ Closed) → IsTrue can ↔ CanSwapRemove s v
    → MatchResult result (λ _. IsTrue can) (λ why. (can ≡ false) × (why ≡ RemovalOpen))
    → MatchResult result (λ _. AllMet s ((RemovalOpen, NoOtherOpen v) ∷ (VertexInUse, Removable v) ∷ [])) (λ why. FirstUnmet s ((RemovalOpen, NoOtherOpen v) ∷ (VertexInUse, Removable v) ∷ []) why)
asked s v can (Ok _) is_open tells met = let removable = tells.0 met in (cleaned_is_left s v is_open removable, (removable, tt))
asked s v can (Err why) is_open tells refused =
    inl (λ left. false≢true (sym refused.0 ∙ tells.1 (inr (left_is_cleaned s.removal v is_open left))), refused.1)

pub returns : goal.returns
returns g c =
    asked c.args.dcel.now.shape c.args.vertex c.can_swap_remove-2.result _ (λ e. false≢true (sym c.if-is_closed.false ∙ c.is_closed.ensures.1 e))
    c.can_swap_remove-2.ensures c.ask-2.ensures
