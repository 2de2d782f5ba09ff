use Rattle.std.proofs.Common.{◌^◌}
use Rattle.dcel_floats.proofs.shifting.shifted_down.Goals as goal
use Rattle.dcel_floats.proofs.Roundings.{rounds_off}
use Rattle.dcel_floats.proofs.Steps.{far_down}

pub returns-then-power-gt54-clause-value : goal.returns-then-power-gt54-clause-value
returns-then-power-gt54-clause-value c = rounds_off (2 ^ c.args.power) c.args.number (far_down c.args.number c.args.power c.requires.number c.if-power-gt54.true)
