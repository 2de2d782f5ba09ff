use Rattle.std.proofs.Common.{◌≡◌, Some, map, take}
use Rattle.delaunay.proofs.drawn.each_there.Given as goal

abbrev pub invariant-loop-vertex : goal.invariant-loop-vertex
invariant-loop-vertex l = l.all.items ≡ map Some (take l.vertex-index l.vertices)
