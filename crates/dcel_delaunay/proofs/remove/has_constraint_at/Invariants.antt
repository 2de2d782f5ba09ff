use Rattle.std.proofs.Common.{◌/◌, length}
use Rattle.dcel_planar.specs.Legalization.{HasToStay}
use Rattle.dcel_planar.proofs.Searching.{IsSearching}
use Rattle.dcel_delaunay.proofs.remove.has_constraint_at.Given as goal

abbrev pub invariant-loop-edge : goal.invariant-loop-edge
invariant-loop-edge g l = IsSearching (λ h. HasToStay g.UE.EdgeConstraint.is_constraint l.mesh.dcel (h / 2)) l.mesh.dcel l.fn.vertex l.edges.items

abbrev pub decreases-loop-edge : goal.decreases-loop-edge
decreases-loop-edge g l = length l.edges.items
