use Rattle.dcel_commands.proofs.Triangles.{whole-triangles}
use Rattle.dcel_commands.proofs.laws.runs_keep_triangles.Goals as goal

pub returns : goal.returns
returns g c = λ limit old new commands replies mesh run.
    whole-triangles g.DE.Default.is_default g.UE.Default.is_default g.F.Default.is_default limit old new commands replies mesh run
