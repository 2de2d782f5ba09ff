use Rattle.std.proofs.Common.{inr, refl}
use Rattle.dcel_programs.proofs.fault.Fault.of_line.Goals as goal

pub returns-in-Ok : goal.returns-in-Ok
returns-in-Ok g c = inr (c.in-Ok.path, c.in-Ok.ensures.ok, refl)
