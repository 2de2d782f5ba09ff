use Rattle.std.proofs.Common.{arith}
use Rattle.std.proofs.lemmas.List.{take_all}
use Rattle.delaunay.proofs.segments.add_segments.Goals as goal

pub returns : goal.returns
returns c = rw (take_all c.loop-join.join-index c.args.joins.now (omega (arith, c.loop-join-test.false))) at c.loop-join.invariant
