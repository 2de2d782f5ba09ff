use Rattle.dcel_speed.proofs.Growing.{alone_triangulated}
use Rattle.dcel_speed.proofs.workloads.triangle_with_numbers_left.Goals as goal

pub returns-clause-triangulated : goal.returns-clause-triangulated
returns-clause-triangulated g c = alone_triangulated c.in_ok-dcel.dcel _ c.in_ok-dcel.ensures.triangle
