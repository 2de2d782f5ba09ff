use Rattle.dcel_plane.proofs.laws.segments.segments_can_become_edges.Goals as goal
use Rattle.std.proofs.Common.{[], inl, inr, sym, subst, append-nil, arith}
use Rattle.dcel_plane.specs.Plane.{ListsCircled}
use Rattle.dcel_plane.proofs.segments.Becoming.{made_of}
use Rattle.dcel_plane.proofs.segments.Channels.{all_cross}
use Rattle.dcel_plane.proofs.segments.Starting.{joins_or_crosses}

pub returns : goal.returns
returns g c = λ at m v w h planar differ ends clear live inner.
    elim (joins_or_crosses m planar.mesh planar.triangles at planar.plane planar.convex planar.hull v w differ ends clear h live inner) [
      | inl edge ↦ (
        [],
        tt,
        planar,
        (edge.edge, edge.live, edge.from, edge.to),
        λ u there. absurd (omega (arith, there)),
        λ due lists. subst (λ l. ListsCircled at m.shape l) (sym (append-nil due)) lists,
      )
      | inr channel ↦
          let done = made_of at v w differ m planar channel.0 channel.1 in (
            done.edges,
            done.can,
            done.whole,
            (done.joins.edge, done.joins.live, done.joins.from, done.joins.to),
            λ u there.
                (let found = done.only u there in
                (found.0, all_cross at m.shape v w channel.1.first channel.1.last channel.0 channel.1.leads found.0 found.1, found.2)),
            done.lists,
          )
    ]
