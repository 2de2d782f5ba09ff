use Rattle.dcel_commands.specs.Responses.{response}
use Rattle.dcel_c.proofs.legalize.dcel_legalize_by_number.Goals as goal

pub returns-in-Ok-edit-clause-told : goal.returns-in-Ok-edit-clause-told
returns-in-Ok-edit-clause-told c = λ _. record {
  reply = response c.in-Ok-edit.reply;
  carried = rw (← c.in-Ok.ensures) c.in-Ok-edit.ensures.carried;
  said = c.flips_in.ensures;
}
