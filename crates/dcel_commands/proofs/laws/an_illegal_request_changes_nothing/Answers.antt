use Rattle.dcel_commands.proofs.Refusing.{refused_so}
use Rattle.dcel_commands.proofs.laws.an_illegal_request_changes_nothing.Goals as goal

pub returns : goal.returns
returns c = refused_so
