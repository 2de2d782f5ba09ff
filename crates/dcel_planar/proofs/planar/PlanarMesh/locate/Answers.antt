use Rattle.std.proofs.Common.{arith}
use Rattle.dcel_planar.proofs.Whole.{flat_alone}
use Rattle.dcel_planar.proofs.planar.PlanarMesh.locate.Goals as goal

pub locate_on_line-requires-clause-flat : goal.locate_on_line-requires-clause-flat
locate_on_line-requires-clause-flat g c = flat_alone c.args.self.now.dcel c.requires.hull (omega (arith, c.num_faces.ensures.count, c.if-num_faces-eq1.true))
