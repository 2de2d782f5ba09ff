use Rattle.std.proofs.Common.{◌-◌, sym, arith}
use Rattle.dcel_maps.proofs.renumbering.Moves.{moved-other}
use Rattle.dcel_delaunay.proofs.Renaming.{moved_hit}
use Rattle.dcel_constrained.proofs.rejoin.number_after.Goals as goal

pub returns-then-index-vertices : goal.returns-then-index-vertices
returns-then-index-vertices c = moved_hit (c.args.vertices - 1) c.args.removed c.args.vertex (omega (arith, c.index.ensures.value, c.if-index-vertices.true))

pub returns : goal.returns
returns c = sym (moved-other (c.args.vertices - 1) c.args.removed c.args.vertex (λ is. omega (arith, c.index.ensures.value, c.if-index-vertices.false, is)))
