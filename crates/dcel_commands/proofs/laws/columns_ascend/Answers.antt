use Rattle.dcel_commands.proofs.Rows.{command-ascends}
use Rattle.dcel_commands.proofs.laws.columns_ascend.Goals as goal

pub returns-clause-commands : goal.returns-clause-commands
returns-clause-commands g c = command-ascends
