use Rattle.std.proofs.Common.{subst}
use Rattle.dcel_commands.specs.Instructions.{instruction}
use Rattle.dcel_c.specs.Edits.{Refuses}
use Rattle.dcel_c.specs.Held.{Kept}
use Rattle.dcel_c.proofs.edits.edit.Goals as goal

pub returns-in-Err-clause-refused : goal.returns-in-Err-clause-refused
returns-in-Err-clause-refused c =
    subst (λ (kept : Kept). Refuses kept (instruction c.args.command) c.number.result) c.as_mut.ensures.value
    (c.in-Err.refused, c.in-Err.ensures.refused, c.number.ensures)
