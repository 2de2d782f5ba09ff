use Rattle.dcel_constrained.proofs.Settled.{outlined_of}
use Rattle.dcel_constrained.proofs.triangulation.ConstrainedTriangulation.locate.Goals as goal

pub locate-requires : goal.locate-requires
locate-requires g c = record { hull = outlined_of c.args.self.now c.requires.whole }
