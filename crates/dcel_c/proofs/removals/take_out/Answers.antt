use Rattle.dcel_commands.specs.Responses.{response}
use Rattle.dcel_c.proofs.removals.take_out.Goals as goal

pub returns-in-Ok-clause-told : goal.returns-in-Ok-clause-told
returns-in-Ok-clause-told c = λ _. record { reply = response c.in-Ok.reply; carried = c.in-Ok.ensures.carried; said = c.removed_in.ensures }
