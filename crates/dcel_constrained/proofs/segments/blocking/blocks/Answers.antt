use Rattle.std.proofs.Common.{◌≡◌, ◌/◌, ◌∙◌, ℕ, ap, arith, subst, sym}
use Rattle.dcel_fixed.proofs.Halves.{rev-half}
use Rattle.dcel_maps.specs.Shapes.{IsLive, map_of}
use Rattle.dcel_maps.proofs.Liveness.{closed-live}
use Rattle.dcel_maps.proofs.maps.Soundness.{rev_live}
use Rattle.dcel_plane.specs.Plane.{point_at}
use Rattle.dcel_plane.specs.segments.Segments.{Crosses}
use Rattle.dcel_constrained.proofs.Blocked.{blocks_by, blocks_other}
use Rattle.dcel_constrained.proofs.Marking.{marked_below}
use Rattle.dcel_constrained.proofs.segments.blocking.blocks.Goals as goal

pub crosses-requires-clause-live : goal.crosses-requires-clause-live
crosses-requires-clause-live g c =
    let m = c.args.dcel.now in
    let below = marked_below m c.every_mesh.ensures c.args.edge (c.is_marked.ensures.0 c.if-not-is_marked.false) in
    closed-live m.shape c.requires.closed (c.fix-half.result / 2) (omega (arith, below, c.fix-half.ensures.value, c.as_directed.ensures.number, c.undirected_edge.ensures.number))

pub crosses-requires-2-clause-live : goal.crosses-requires-2-clause-live
crosses-requires-2-clause-live g c =
    let m = c.args.dcel.now in
    let below = marked_below m c.every_mesh.ensures c.args.edge (c.is_marked.ensures.0 c.if-not-is_marked.false) in
    let live : IsLive m.shape c.fix-half.result =
    closed-live m.shape c.requires.closed (c.fix-half.result / 2) (omega (arith, below, c.fix-half.ensures.value, c.as_directed.ensures.number, c.undirected_edge.ensures.number)) in
    subst (IsLive m.shape) (sym c.rev.ensures) (rev_live (map_of m.shape) c.fix-half.result live)

pub returns : goal.returns
returns g c =
    let m = c.args.dcel.now in
    let edge : c.fix-half.result / 2 ≡ c.args.edge = omega (arith, c.fix-half.ensures.value, c.as_directed.ensures.number, c.undirected_edge.ensures.number) in (
      λ yes.
          blocks_by m c.args.from c.args.to c.args.edge c.rev.result (ap (λ (h : ℕ). h / 2) c.rev.ensures ∙ rev-half c.fix-half.result ∙ edge)
          (c.is_marked.ensures.0 c.if-not-is_marked.false) (c.crosses-2.ensures.0 yes),
      λ blocks. c.crosses-2.ensures.1
          (subst (Crosses (point_at m) m.shape c.args.from c.args.to) (sym c.rev.ensures)
          (blocks_other m c.args.from c.args.to c.args.edge c.fix-half.result edge (λ is. (let so = c.crosses.ensures.1 is in let no = c.if-crosses.false in cc)) blocks)),
    )
