use Rattle.dcel_drawn.proofs.Listing.{Lists}
use Rattle.dcel_drawn.specs.Drawn.{IsPatch}
use Rattle.dcel_drawn.proofs.picture.patches_of.Given as goal

abbrev pub invariant-loop-number : goal.invariant-loop-number
invariant-loop-number g l = Lists (λ d. d.number) (IsPatch l.mesh) l.patches.items l.number
