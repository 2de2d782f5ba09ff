use Rattle.dcel_commands.proofs.Edits.{run_edits, step_edits}
use Rattle.dcel_commands.proofs.laws.commands_are_lists_of_edits.Goals as goal

pub returns-clause-command : goal.returns-clause-command
returns-clause-command g c =
    λ limit old new command reply small mesh takes. step_edits _ _ _ limit small old mesh command takes.legal reply new takes.step

pub returns-clause-run : goal.returns-clause-run
returns-clause-run g c = λ limit old new commands replies small mesh run. run_edits _ _ _ limit small old new commands replies mesh run
