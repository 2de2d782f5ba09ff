use Rattle.dcel_drawn.proofs.Listing.{Lists}
use Rattle.dcel_drawn.specs.Drawn.{IsStroke}
use Rattle.dcel_drawn.proofs.picture.strokes_of.Given as goal

abbrev pub invariant-loop-number : goal.invariant-loop-number
invariant-loop-number g l = Lists (λ d. d.number) (IsStroke l.mesh l.places.vertices.items) l.strokes.items l.number
