use Rattle.std.proofs.Common.{subst}
use Rattle.dcel_maps.specs.Shapes.{IsMesh}
use Rattle.dcel_constrained.specs.Constrained.{marked_mesh}
use Rattle.dcel_constrained.proofs.Many.{splits_same}
use Rattle.dcel_refinement.proofs.refining.add_one.Goals as goal

pub returns-in_err-placement-clause-splits : goal.returns-in_err-placement-clause-splits
returns-in_err-placement-clause-splits g c =
    splits_same (marked_mesh c.args.triangulation.now) (subst IsMesh c.dcel.ensures.mesh c.every_mesh.ensures) c.dcel.ensures.closed

pub returns-in_default-clause-splits : goal.returns-in_default-clause-splits
returns-in_default-clause-splits g c =
    splits_same (marked_mesh c.args.triangulation.now) (subst IsMesh c.dcel.ensures.mesh c.every_mesh.ensures) c.dcel.ensures.closed
