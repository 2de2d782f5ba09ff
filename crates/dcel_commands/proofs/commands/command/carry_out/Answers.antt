use Rattle.dcel_commands.proofs.commands.command.carry_out.Goals as goal

pub returns-in-Degenerate : goal.returns-in-Degenerate
returns-in-Degenerate g c = rw c.in-Degenerate.is (c.carry_out-in-Degenerate.ensures c.args.limit)
