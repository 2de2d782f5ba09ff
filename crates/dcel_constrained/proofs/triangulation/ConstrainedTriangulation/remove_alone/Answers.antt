use Rattle.std.proofs.Common.{inl}
use Rattle.dcel_constrained.proofs.Rejoined.{leaves_none}
use Rattle.dcel_constrained.proofs.triangulation.ConstrainedTriangulation.remove_alone.Goals as goal

pub returns-in-Ok-clause-constraints : goal.returns-in-Ok-clause-constraints
returns-in-Ok-clause-constraints g c = inl (c.requires.none, c.in-Ok.ensures.constraints)

pub returns-in-Err-clause-fails : goal.returns-in-Err-clause-fails
returns-in-Err-clause-fails g c = (c.in-Err.ensures.refuses, c.in-Err.ensures.left, leaves_none c.args.self.now.planar.dcel c.args.vertex c.in-Err.error c.requires.none)
