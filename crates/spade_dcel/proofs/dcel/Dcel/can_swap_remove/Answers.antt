use Rattle.std.proofs.Common.{◌≡◌, ◌↔◌, ℕ, IsTrue, inl, inr, refl, sym, ap, ◌∙◌, eq-eqb, eqb-true}
use Rattle.dcel_record.specs.declared.RemovalState.TheVariants as states
use Rattle.dcel_record.specs.Record.{state_of}
use Rattle.dcel_maps.specs.Conditions.{CanSwapRemove}
use Rattle.dcel_maps.specs.Removals.{Removal, Closed, Isolated, Cleaned, gives_up_vertex}
use Rattle.dcel_maps.specs.Shapes.{Shape}
use Rattle.spade_dcel.proofs.dcel.Dcel.can_swap_remove.Goals as goal

same_vertex : (w v : ℕ) → Cleaned w ≡ Cleaned v → w ≡ v
same_vertex w v e = cc

not_closed : (w : ℕ) → ¬ (Cleaned w ≡ Closed)
not_closed w e = absurd cc

-- once a removal is cleaned up, its vertex alone can go
cleaned_removes : (s : Shape) (r : Removal) (v : ℕ) → s.removal ≡ r → state_of r ≡ states.Cleaned → IsTrue (gives_up_vertex r v) ↔ CanSwapRemove s v
unfolding gives_up_vertex
cleaned_removes s Closed v is state = absurd cc
cleaned_removes s (Isolated edges faces vertex) v is state = absurd cc
cleaned_removes s (Cleaned w) v is state = (
  λ same. inr (is ∙ ap (λ (x : ℕ). Cleaned x) (eqb-true w v same)),
  λ can. elim can [
    | inl closed ↦ absurd (not_closed w (sym is ∙ closed.0))
    | inr cleaned ↦ eq-eqb w v (same_vertex w v (sym is ∙ cleaned))
  ],
)

pub returns-in-Cleaned : goal.returns-in-Cleaned
returns-in-Cleaned g c =
    rw (← c.self.view_is, c.gives_up_vertex.ensures)
    (cleaned_removes _ c.self.inside.removal c.args.handle refl (sym c.state.ensures ∙ c.in-Cleaned.is))
