use Rattle.dcel_speed.proofs.Growing.{some_vertex}
use Rattle.dcel_speed.proofs.neighbors.drawn_pairs.Goals as goal

pub drawn_pair-requires : goal.drawn_pair-requires
drawn_pair-requires g c = some_vertex c.args.dcel.now.shape c.every_mesh.ensures.sound c.requires
