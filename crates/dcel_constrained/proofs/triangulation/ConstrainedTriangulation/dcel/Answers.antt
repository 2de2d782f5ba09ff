use Rattle.dcel_planar.proofs.Counting.{joined_all}
use Rattle.dcel_delaunay.proofs.Outline.{all_inside, all_single}
use Rattle.dcel_constrained.proofs.Outlined.{delaunay_then, faces_apart, hull_covered}
use Rattle.dcel_constrained.proofs.Sight.{in_sight}
use Rattle.dcel_constrained.proofs.Settled.{outlined_of, sound_of}
use Rattle.dcel_constrained.proofs.triangulation.ConstrainedTriangulation.dcel.Goals as goal

pub returns-clause-joined : goal.returns-clause-joined
returns-clause-joined g c = joined_all c.args.self.now.planar.dcel c.every_mesh.ensures c.args.self.now.planar.triangulated.closed c.args.self.now.planar.triangulated.joined

pub returns-clause-apart : goal.returns-clause-apart
returns-clause-apart g c whole =
    let m = c.args.self.now.planar.dcel in
    faces_apart m c.every_mesh.ensures c.args.self.now.planar.due.items (sound_of c.args.self.now) (outlined_of c.args.self.now whole)

pub returns-clause-covers : goal.returns-clause-covers
returns-clause-covers g c whole =
    let m = c.args.self.now.planar.dcel in
    hull_covered m c.every_mesh.ensures c.args.self.now.planar.due.items (sound_of c.args.self.now) (outlined_of c.args.self.now whole)

pub returns-clause-single : goal.returns-clause-single
returns-clause-single g c whole =
    let m = c.args.self.now.planar.dcel in
    all_single m c.every_mesh.ensures (outlined_of c.args.self.now whole) c.args.self.now.planar.triangulated.closed c.args.self.now.planar.triangulated.joined

pub returns-clause-hull : goal.returns-clause-hull
returns-clause-hull g c whole =
    let m = c.args.self.now.planar.dcel in
    all_inside m c.every_mesh.ensures (outlined_of c.args.self.now whole) c.args.self.now.planar.triangulated.closed c.args.self.now.planar.triangulated.joined

pub returns-clause-constrained : goal.returns-clause-constrained
returns-clause-constrained g c = delaunay_then c.args.self.now.planar.dcel c.every_mesh.ensures c.args.self.now.planar.due.items (sound_of c.args.self.now)

pub returns-clause-visible : goal.returns-clause-visible
returns-clause-visible g c whole =
    let m = c.args.self.now.planar.dcel in
    let sound = sound_of c.args.self.now in
    in_sight m c.every_mesh.ensures sound.triangles sound.plane (delaunay_then m c.every_mesh.ensures c.args.self.now.planar.due.items sound whole)
