use Rattle.std.proofs.Common.{◌∙◌, ap, Some}
use Rattle.dcel_commands.specs.Facts.{Half}
use Rattle.dcel_commands.proofs.commands.query.tell_between.Goals as goal

pub returns-in-Some : goal.returns-in-Some
returns-in-Some g c = (
  c.in_ok-ask_live_vertices.ensures,
  ap (λ h. Half (Some h)) c.fix.ensures.value ∙ ap Half c.in-Some.ensures.first,
)
