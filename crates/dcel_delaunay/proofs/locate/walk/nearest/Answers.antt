use Rattle.dcel_delaunay.proofs.Theorem.{nearest_of_all}
use Rattle.dcel_delaunay.proofs.locate.walk.nearest.Goals as goal

pub returns-clause-nearest : goal.returns-clause-nearest
returns-clause-nearest g c = nearest_of_all c.args.dcel.now c.every_mesh.ensures c.requires c.args.point c.walk.result c.walk.ensures.vertex c.walk.ensures.end
