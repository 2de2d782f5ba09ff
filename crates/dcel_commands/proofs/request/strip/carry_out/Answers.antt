use Rattle.std.proofs.Common.{refl, rules}
use Rattle.dcel_commands.specs.request.Strip.{strip}
use Rattle.dcel_commands.proofs.WithoutMemory.{no_memory}
use Rattle.dcel_commands.proofs.request.strip.carry_out.Goals as goal

pub returns-in_err-opened : goal.returns-in_err-opened
returns-in_err-opened g c = λ limit.
    no_memory g.DE.Default.is_default g.UE.Default.is_default g.F.Default.is_default limit c.args.dcel.now _ (strip c.args.list.items) _ c.from_residual-in_err-opened.ensures.1 (search rules) refl refl c.in_err-opened.ensures.refused
