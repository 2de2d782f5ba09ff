use Rattle.dcel_drawn.proofs.Listing.{Lists}
use Rattle.dcel_drawn.specs.Drawn.{IsDot}
use Rattle.dcel_drawn.proofs.picture.dots_of.Given as goal

abbrev pub invariant-loop-number : goal.invariant-loop-number
invariant-loop-number g l = Lists (λ d. d.number) (IsDot l.mesh l.places.vertices.items) l.dots.items l.number
