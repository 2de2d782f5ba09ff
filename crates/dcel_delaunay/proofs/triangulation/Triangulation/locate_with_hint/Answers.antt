use Rattle.dcel_delaunay.proofs.Listed.{settled}
use Rattle.dcel_delaunay.proofs.triangulation.Triangulation.locate_with_hint.Goals as goal

pub locate-requires : goal.locate-requires
locate-requires g c = record { hull = (settled c.args.self.now.planar c.args.self.now.listed c.requires.whole).hull }
