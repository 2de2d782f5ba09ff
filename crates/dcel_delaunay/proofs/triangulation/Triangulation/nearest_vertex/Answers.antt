use Rattle.dcel_delaunay.proofs.Listed.{settled}
use Rattle.dcel_delaunay.proofs.triangulation.Triangulation.nearest_vertex.Goals as goal

pub nearest-requires : goal.nearest-requires
nearest-requires g c =
    settled c.args.self.now.planar c.args.self.now.listed c.requires.whole
