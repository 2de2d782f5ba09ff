use Rattle.std.proofs.Common.{◌≡◌, ◌⊎◌, Some}
use Rattle.dcel_convenience.specs.Surrounding.{IsInTriangle}
use Rattle.dcel_convenience.proofs.Passes.{Passes}
use Rattle.dcel_convenience.proofs.surrounding.odd_spoke.Given as goal

abbrev pub invariant-loop-edge : goal.invariant-loop-edge
invariant-loop-edge g l =
    Passes l.fn.dcel l.fn.vertex (λ h. (l.fn.skipped ≡ Some h) ⊎ IsInTriangle l.fn.dcel.shape h) l.edge-iterator.items
