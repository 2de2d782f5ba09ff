use Rattle.std.proofs.Common.{◌≡◌, ◌++◌, map, take}
use Rattle.delaunay.specs.Segments.{segment_of}
use Rattle.delaunay.proofs.segments.add_segments.Given as goal

abbrev pub invariant-loop-join : goal.invariant-loop-join
invariant-loop-join l = l.list.items ≡ l.fn.list.items ++ map segment_of (take l.join-index l.joins)
