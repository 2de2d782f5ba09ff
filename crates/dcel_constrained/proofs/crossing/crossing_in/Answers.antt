use Rattle.std.proofs.Common.{◌≡◌, ◌/◌, arith, refl, subst, sym}
use Rattle.dcel_maps.proofs.Liveness.{closed-live}
use Rattle.dcel_plane.specs.Plane.{point_at}
use Rattle.dcel_plane.specs.segments.Segments.{Crosses}
use Rattle.dcel_constrained.proofs.Blocked.{blocks_other}
use Rattle.dcel_constrained.proofs.Intersected.{at_edge, at_edge_back}
use Rattle.dcel_constrained.proofs.Marking.{marked_below}
use Rattle.dcel_constrained.proofs.crossing.crossing_in.Goals as goal

pub returns-then-not-blocks-clause-crosses : goal.returns-then-not-blocks-clause-crosses
returns-then-not-blocks-clause-crosses g c = (
  λ so. absurd (let no = so in cc),
  λ blocks. absurd (let so = c.blocks-2.ensures.1 blocks in let not = c.if-not-blocks.true in cc),
)

pub crosses-requires-clause-live : goal.crosses-requires-clause-live
crosses-requires-clause-live g c =
    let m = c.args.dcel.now in
    let below = marked_below m c.every_mesh.ensures c.args.edge (c.blocks-2.ensures.0 c.if-not-blocks.false).marked in
    closed-live m.shape c.requires.closed (c.fix-half.result / 2) (omega (arith, below, c.fix-half.ensures.value, c.as_directed.ensures.number, c.undirected_edge.ensures.number))

pub crossed_at-requires-clause-crosses : goal.crossed_at-requires-clause-crosses
crossed_at-requires-clause-crosses g c = c.crosses.ensures.0 c.if-crosses.true

pub returns-then-crosses-clause-crosses : goal.returns-then-crosses-clause-crosses
returns-then-crosses-clause-crosses g c = (λ so. c.blocks-2.ensures.0 c.if-not-blocks.false, λ blocks. refl)

pub returns-then-crosses-clause-place : goal.returns-then-crosses-clause-place
returns-then-crosses-clause-place g c =
    at_edge c.args.dcel.now c.args.from c.args.to c.args.edge c.fix-half.result c.crossed_at.result
    (omega (arith, c.fix-half.ensures.value, c.as_directed.ensures.number, c.undirected_edge.ensures.number)) c.crossed_at.ensures

pub crossed_at-requires-2-clause-crosses : goal.crossed_at-requires-2-clause-crosses
crossed_at-requires-2-clause-crosses g c =
    let m = c.args.dcel.now in
    let edge : c.fix-half.result / 2 ≡ c.args.edge = omega (arith, c.fix-half.ensures.value, c.as_directed.ensures.number, c.undirected_edge.ensures.number) in
    subst (Crosses (point_at m) m.shape c.args.from c.args.to) (sym c.rev.ensures)
    (blocks_other m c.args.from c.args.to c.args.edge c.fix-half.result edge (λ is. (let so = c.crosses.ensures.1 is in let no = c.if-crosses.false in cc))
    (c.blocks-2.ensures.0 c.if-not-blocks.false))

pub returns-clause-crosses : goal.returns-clause-crosses
returns-clause-crosses g c = (λ so. c.blocks-2.ensures.0 c.if-not-blocks.false, λ blocks. refl)

pub returns-clause-place : goal.returns-clause-place
returns-clause-place g c =
    at_edge_back c.args.dcel.now c.args.from c.args.to c.args.edge c.fix-half.result c.rev.result c.crossed_at-2.result
    (omega (arith, c.fix-half.ensures.value, c.as_directed.ensures.number, c.undirected_edge.ensures.number)) c.rev.ensures c.crossed_at-2.ensures
