use Rattle.dcel_plane.proofs.laws.segments.crossed_edges_lead_on.Goals as goal
use Rattle.std.proofs.Common.{sym}
use Rattle.dcel_plane.proofs.segments.Onward.{crosses_after, crosses_before, on_line}

pub returns-clause-right : goal.returns-clause-right
returns-clause-right g c = λ at m v w h mesh triangles plane convex hull ends crosses side.
    crosses_before m mesh triangles at plane convex hull v w ends h crosses side

pub returns-clause-left : goal.returns-clause-left
returns-clause-left g c = λ at m v w h mesh triangles plane convex hull ends crosses side.
    crosses_after m mesh triangles at plane convex hull v w ends h crosses side

pub returns-clause-end : goal.returns-clause-end
returns-clause-end g c = λ at m v w h mesh triangles plane convex hull ends crosses zero apart.
    sym (on_line m mesh triangles at plane convex hull v w ends h crosses zero apart)
