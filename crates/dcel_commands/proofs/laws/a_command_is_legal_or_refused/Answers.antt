use Rattle.dcel_commands.specs.Queries.{query_asks}
use Rattle.dcel_commands.specs.Steps.{asks}
use Rattle.dcel_commands.proofs.Columns.{all_met_or_refused}
use Rattle.dcel_commands.proofs.Refusing.{memory_refuses_the_legal}
use Rattle.dcel_commands.proofs.laws.a_command_is_legal_or_refused.Goals as goal

pub returns-clause-commands : goal.returns-clause-commands
returns-clause-commands g c = λ s limit command. all_met_or_refused s (asks limit command)

pub returns-clause-memory : goal.returns-clause-memory
returns-clause-memory g c = memory_refuses_the_legal

pub returns-clause-queries : goal.returns-clause-queries
returns-clause-queries g c = λ s query. all_met_or_refused s (query_asks query)
