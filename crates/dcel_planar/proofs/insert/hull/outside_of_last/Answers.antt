use Rattle.std.proofs.Common.{arith}
use Rattle.dcel_planar.proofs.Seeking.{last_none, last_some}
use Rattle.dcel_planar.proofs.insert.hull.outside_of_last.Goals as goal

pub returns-clause-some : goal.returns-clause-some
returns-clause-some g c =
    last_some _ c.args.dcel.now c.new.result (omega (arith, c.new.ensures, c.num_vertices-vertices.ensures.count, c.if-vertices-eq0.false)) c.outside_of.ensures.some

pub returns-clause-none : goal.returns-clause-none
returns-clause-none g c =
    last_none _ c.args.dcel.now c.new.result (omega (arith, c.new.ensures, c.num_vertices-vertices.ensures.count, c.if-vertices-eq0.false)) c.outside_of.ensures.none
