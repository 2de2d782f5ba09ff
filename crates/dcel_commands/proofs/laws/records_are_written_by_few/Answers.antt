use Rattle.dcel_commands.proofs.OneRemoval.{step-record}
use Rattle.dcel_commands.proofs.laws.records_are_written_by_few.Goals as goal

pub returns : goal.returns
returns g c = λ limit old new command reply takes.
    step-record g.DE.Default.is_default g.UE.Default.is_default g.F.Default.is_default limit old command takes.legal reply new takes.step
