use Rattle.dcel_plane.specs.Plane.{point_at}
use Rattle.dcel_delaunay.proofs.Distances.{falls}
use Rattle.dcel_delaunay.proofs.locate.walk.walk.Goals as goal

pub loop-nearer-smaller : goal.loop-nearer-smaller
loop-nearer-smaller g c =
    let m = c.args.dcel.now in
    falls (point_at m c.in-Some.nearer) (point_at m c.loop-nearer.vertex) c.args.point c.in-Some.ensures.nearer
