-- Laws of the steps that walks go by.
use Rattle.std.proofs.Common.{ℕ, ap, ◌∙◌}
use Rattle.dcel_fixed.proofs.Halves.{rev-half, rev-rev}
use Rattle.dcel_fixed.specs.HalfEdges.{rev}
use Rattle.dcel_maps.specs.Shapes.{Shape, edge_is_live, next_of, prev_of}
use Rattle.dcel_maps.specs.Walking.{IsLawful, ccw_of, cw_of}

-- a step and the step back change places
pub back_lawful : (s : Shape) (step step_back : ℕ → ℕ) → IsLawful s step step_back → IsLawful s step_back step
back_lawful s step step_back law = record {
  stays = law.stays_back;
  stays_back = law.stays;
  back-step = law.step-back;
  step-back = law.back-step;
}

-- where `next` and `prev` undo each other, so do the two ways to turn round a vertex
pub ccw_lawful : (s : Shape) → IsLawful s (next_of s) (prev_of s) → IsLawful s (ccw_of s) (cw_of s)
ccw_lawful s links = record {
  stays = λ h live. ap (edge_is_live s) (rev-half (prev_of s h)) ∙ links.stays_back h live;
  stays_back = λ h live. links.stays (rev h) (ap (edge_is_live s) (rev-half h) ∙ live);
  back-step = λ h live. ap (next_of s) (rev-rev (prev_of s h)) ∙ links.step-back h live;
  step-back = λ h live. ap rev (links.back-step (rev h) (ap (edge_is_live s) (rev-half h) ∙ live)) ∙ rev-rev h;
}
