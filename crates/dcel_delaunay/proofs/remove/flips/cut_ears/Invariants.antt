use Rattle.std.proofs.Common.{vec_capacity, vec_len}
use Rattle.dcel_delaunay.specs.Thinning.{HasPlaces, IsThinning, with_spokes}
use Rattle.dcel_delaunay.proofs.remove.flips.cut_ears.Given as goal

abbrev pub invariant-loop-step : goal.invariant-loop-step
invariant-loop-step g l =
    IsThinning g.UE.EdgeConstraint.is_constraint l.fn.dcel l.dcel l.fn.vertex (with_spokes l.fn.dcel l.fn.vertex l.fn.due.items) l.due.items
    × HasPlaces l.dcel l.fn.vertex (vec_len l.due) (vec_capacity l.due)
