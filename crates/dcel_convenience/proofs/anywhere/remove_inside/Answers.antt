use Rattle.dcel_convenience.proofs.WaysOut.{inside_refused, inside_removed}
use Rattle.dcel_convenience.proofs.anywhere.remove_inside.Goals as goal

pub returns-in-Ok-clause-outcome : goal.returns-in-Ok-clause-outcome
returns-in-Ok-clause-outcome g c =
    inside_removed g.DE.Default.is_default g.UE.Default.is_default g.F.Default.is_default c.args.dcel.now c.collapse_edge.new.dcel c.args.vertex c.args.half c.in-Ok.taken
    c.requires c.in-Ok.ensures.edit c.in-Ok.ensures.simple c.in-Ok.ensures.returned

pub returns-in-Err : goal.returns-in-Err
returns-in-Err g c = record {
  outcome = (
    rw c.reason_of.ensures (inside_refused c.args.dcel.now c.args.vertex c.args.half c.in-Err.why c.requires c.in-Err.ensures.why),
    c.in-Err.ensures.refused,
  );
  mesh = c.in-Err.ensures.mesh;
}
