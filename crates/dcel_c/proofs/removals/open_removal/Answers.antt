use Rattle.std.proofs.Common.{refl}
use Rattle.dcel_commands.specs.Responses.{response}
use Rattle.dcel_c.proofs.removals.open_removal.Goals as goal

pub returns-in-Ok-clause-told : goal.returns-in-Ok-clause-told
returns-in-Ok-clause-told c = λ _. record {
  reply = response c.in-Ok.reply;
  carried = c.in-Ok.ensures.carried;
  said = rw (c.opened_in.ensures, c.put_lists.ensures.edges, c.put_lists.ensures.faces) refl;
}
