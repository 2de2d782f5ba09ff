use Rattle.dcel_planar.proofs.Counting.{joined_all}
use Rattle.dcel_delaunay.proofs.Listed.{settled}
use Rattle.dcel_delaunay.proofs.Theorem.{circles_empty, faces_apart, hull_covered, hull_round, points_single}
use Rattle.dcel_delaunay.proofs.triangulation.Triangulation.dcel.Goals as goal

pub returns-clause-joined : goal.returns-clause-joined
returns-clause-joined g c =
    joined_all c.args.self.now.planar.dcel c.every_mesh.ensures c.args.self.now.planar.triangulated.closed c.args.self.now.planar.triangulated.joined

pub returns-clause-circles : goal.returns-clause-circles
returns-clause-circles g c done =
    circles_empty c.args.self.now.planar.dcel c.every_mesh.ensures (settled c.args.self.now.planar c.args.self.now.listed done)

pub returns-clause-apart : goal.returns-clause-apart
returns-clause-apart g c done =
    faces_apart c.args.self.now.planar.dcel c.every_mesh.ensures (settled c.args.self.now.planar c.args.self.now.listed done)

pub returns-clause-covers : goal.returns-clause-covers
returns-clause-covers g c done =
    hull_covered c.args.self.now.planar.dcel c.every_mesh.ensures (settled c.args.self.now.planar c.args.self.now.listed done)

pub returns-clause-single : goal.returns-clause-single
returns-clause-single g c done =
    points_single c.args.self.now.planar.dcel c.every_mesh.ensures (settled c.args.self.now.planar c.args.self.now.listed done)

pub returns-clause-hull : goal.returns-clause-hull
returns-clause-hull g c done =
    hull_round c.args.self.now.planar.dcel c.every_mesh.ensures (settled c.args.self.now.planar c.args.self.now.listed done)
