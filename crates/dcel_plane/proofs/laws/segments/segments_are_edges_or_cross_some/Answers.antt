use Rattle.dcel_plane.proofs.laws.segments.segments_are_edges_or_cross_some.Goals as goal
use Rattle.std.proofs.Common.{inl, inr}
use Rattle.dcel_plane.proofs.segments.Starting.{joins_or_crosses}

pub returns : goal.returns
returns g c = λ at m v w h mesh triangles plane convex hull differ ends clear live inner.
    elim (joins_or_crosses m mesh triangles at plane convex hull v w differ ends clear h live inner) [
      | inl edge ↦ inl (edge.edge, edge.live, edge.from, edge.to)
      | inr channel ↦ inr channel
    ]
