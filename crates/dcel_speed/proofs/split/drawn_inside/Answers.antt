use Rattle.std.proofs.Common.{arith}
use Rattle.dcel_speed.proofs.Growing.{half_live, some_edge}
use Rattle.dcel_speed.proofs.split.drawn_inside.Goals as goal

pub below-requires-clause-some : goal.below-requires-clause-some
below-requires-clause-some g c = omega (arith, some_edge c.args.dcel.now.shape c.every_mesh.ensures.sound c.requires)

pub is_inside-requires : goal.is_inside-requires
is_inside-requires g c = half_live c.args.dcel.now.shape c.requires _ (omega arith)
