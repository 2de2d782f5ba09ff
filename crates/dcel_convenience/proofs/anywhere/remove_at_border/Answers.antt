use Rattle.dcel_convenience.specs.declared.anywhere.WayOut.TheVariants.{Border}
use Rattle.dcel_convenience.proofs.anywhere.remove_at_border.Goals as goal

pub returns-clause-outcome : goal.returns-clause-outcome
returns-clause-outcome g c = record {
  way = Border c.args.outside;
  leaves = (c.requires.closed, c.requires.around);
  is = c.in-Ok.ensures.edit;
  simple = c.in-Ok.ensures.simple;
  returned = c.in-Ok.ensures.returned;
}

pub returns-in_default-clause-outcome : goal.returns-in_default-clause-outcome
returns-in_default-clause-outcome g c = ((Border c.args.outside, (c.requires.closed, c.requires.around), tt), c.in_default.ensures.refused)
