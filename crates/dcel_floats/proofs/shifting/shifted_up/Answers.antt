use Rattle.std.proofs.Common.{arith}
use Rattle.dcel_floats.proofs.shifting.shifted_up.Goals as goal
use Rattle.dcel_floats.proofs.Steps.{far_up}

pub returns-then-power-gt53 : goal.returns-then-power-gt53
returns-then-power-gt53 c = far_up c.args.number c.args.power (omega arith) c.if-power-gt53.true
