use Rattle.std.proofs.Common.{refl, arith}
use Rattle.dcel_convenience.proofs.OnlyEdges.{simple_of-even}
use Rattle.dcel_convenience.proofs.edges.is_simple.Goals as goal

pub returns : goal.returns
returns g c = (
  λ yes. simple_of-even c.args.dcel.now.shape c.loop-number.number (omega (arith, c.loop-number-test.false, c.num_undirected_edges-number-end.ensures.count)) c.loop-number.invariant,
  λ simple. refl,
)
