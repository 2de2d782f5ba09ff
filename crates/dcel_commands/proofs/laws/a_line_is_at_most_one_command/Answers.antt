use Rattle.dcel_commands.proofs.Spelling.{one_spelling}
use Rattle.dcel_commands.proofs.laws.a_line_is_at_most_one_command.Goals as goal

pub returns : goal.returns
returns c = one_spelling
