use Rattle.std.proofs.Common.{◌≡◌, refl, sym, ◌∙◌}
use Rattle.std.proofs.lemmas.Bool.{false≢true}
use Rattle.dcel_record.specs.declared.RemovalState.TheVariants as states
use Rattle.dcel_record.specs.Record.{state_of}
use Rattle.dcel_maps.specs.Removals.{Removal, Closed, Isolated, Cleaned}
use Rattle.dcel_planar.proofs.triangulations.is_closed.Goals as goal

closed_by : (r : Removal) → state_of r ≡ states.Closed → r ≡ Closed
closed_by Closed is = refl
closed_by (Isolated edges faces vertex) is = absurd cc
closed_by (Cleaned vertex) is = absurd cc

not_isolated : (r : Removal) → state_of r ≡ states.Isolated → r ≡ Closed → ⊥
not_isolated Closed is closed = absurd cc
not_isolated (Isolated edges faces vertex) is closed = absurd cc
not_isolated (Cleaned vertex) is closed = absurd cc

not_cleaned : (r : Removal) → state_of r ≡ states.Cleaned → r ≡ Closed → ⊥
not_cleaned Closed is closed = absurd cc
not_cleaned (Isolated edges faces vertex) is closed = absurd cc
not_cleaned (Cleaned vertex) is closed = absurd cc

pub returns-in-Closed : goal.returns-in-Closed
returns-in-Closed g c = (λ yes. closed_by c.args.dcel.now.shape.removal (sym c.removal_state.ensures ∙ c.in-Closed.is), λ closed. refl)

pub returns-in-Isolated : goal.returns-in-Isolated
returns-in-Isolated g c = (
  λ no. absurd (false≢true no),
  λ closed. absurd (not_isolated c.args.dcel.now.shape.removal (sym c.removal_state.ensures ∙ c.in-Isolated.is) closed),
)

pub returns-in-Cleaned : goal.returns-in-Cleaned
returns-in-Cleaned g c = (
  λ no. absurd (false≢true no),
  λ closed. absurd (not_cleaned c.args.dcel.now.shape.removal (sym c.removal_state.ensures ∙ c.in-Cleaned.is) closed),
)
