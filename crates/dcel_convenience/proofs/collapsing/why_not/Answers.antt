use Rattle.std.proofs.Common.{arith}
use Rattle.std.proofs.lemmas.Grind.{common_steps}
use Rattle.dcel_convenience.proofs.collapsing.why_not.Goals as goal

pub returns-clause-can : goal.returns-clause-can
returns-clause-can g c = λ none. record {
  closed = grind (arith, common_steps);
  disc = c.starts_in_disc.ensures.0 c.if-not-starts_in_disc.false;
  link = c.meets_link_condition.ensures.0 c.if-not-meets_link_condition.false;
}
