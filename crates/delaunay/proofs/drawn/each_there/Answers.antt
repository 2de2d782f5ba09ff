use Rattle.std.proofs.Common.{arith}
use Rattle.std.proofs.lemmas.List.{take_all}
use Rattle.delaunay.proofs.drawn.each_there.Goals as goal

pub returns : goal.returns
returns c = rw (take_all c.loop-vertex.vertex-index c.args.vertices.now (omega (arith, c.loop-vertex-test.false))) at c.loop-vertex.invariant
