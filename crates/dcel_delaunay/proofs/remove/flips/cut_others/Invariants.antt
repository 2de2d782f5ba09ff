use Rattle.std.proofs.Common.{length, vec_capacity, vec_len}
use Rattle.dcel_maps.specs.Walking.{out_edges_of}
use Rattle.dcel_delaunay.specs.Thinning.{HasPlaces, IsThinning, with_spokes}
use Rattle.dcel_delaunay.proofs.remove.flips.cut_others.Given as goal

abbrev pub invariant-loop-edge : goal.invariant-loop-edge
invariant-loop-edge g l =
    IsThinning g.UE.EdgeConstraint.is_constraint l.fn.dcel l.dcel l.fn.vertex (with_spokes l.fn.dcel l.fn.vertex l.fn.due.items) l.due.items
    × HasPlaces l.dcel l.fn.vertex (vec_len l.due) (vec_capacity l.due)

-- a flip takes one edge from the vertex
abbrev pub decreases-loop-edge : goal.decreases-loop-edge
decreases-loop-edge g l = length (out_edges_of l.dcel l.fn.vertex)
