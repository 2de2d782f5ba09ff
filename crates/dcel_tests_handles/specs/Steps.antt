-- Laws of the steps of a caller's own.
use Rattle.std.proofs.Common.{ap, ◌∙◌}
use Rattle.dcel_fixed.proofs.Halves.{rev-half, rev-rev}
use Rattle.dcel_fixed.specs.HalfEdges.{rev}
use Rattle.dcel_maps.specs.Shapes.{Shape, edge_is_live}
use Rattle.dcel_maps.specs.Walking.{IsLawful}

-- turning a half edge round twice leads back to it
pub rev_lawful : (s : Shape) → IsLawful s rev rev
rev_lawful s = record {
  stays = λ h live. ap (edge_is_live s) (rev-half h) ∙ live;
  stays_back = λ h live. ap (edge_is_live s) (rev-half h) ∙ live;
  back-step = λ h live. rev-rev h;
  step-back = λ h live. rev-rev h;
}
