use Rattle.std.proofs.Common.{ℕ, ℤ, pos, ◌<ℤ◌, inr, subst, refl, arith}
use Rattle.std.proofs.lemmas.Int.{ints}
use Rattle.dcel_predicates.proofs.Machine.{in_128}
use Rattle.dcel_plane.specs.Plane.{point_at}
use Rattle.dcel_plane.specs.segments.Segments.{orient2d_by}
use Rattle.dcel_constrained.proofs.Widths.{offset_held}
use Rattle.dcel_constrained.proofs.Opening.{live_back}
use Rattle.dcel_constrained.proofs.segments.walk.met_after.Goals as goal

pub next-requires : goal.next-requires
next-requires g c =
    live_back c.args.dcel.now c.args.edge c.directed_edge.result.dcel.now c.directed_edge.result.number c.rev-back.result.dcel.now c.rev-back.result.number
    c.requires.live c.directed_edge.ensures.mesh c.directed_edge.ensures.number c.rev-back.ensures.live

pub prev-requires : goal.prev-requires
prev-requires g c =
    live_back c.args.dcel.now c.args.edge c.directed_edge.result.dcel.now c.directed_edge.result.number c.rev-back.result.dcel.now c.rev-back.result.number
    c.requires.live c.directed_edge.ensures.mesh c.directed_edge.ensures.number c.rev-back.ensures.live

pub returns : goal.returns
returns g c =
    let m = c.args.dcel.now in
    let at = point_at m in
    let side = c.offset_of-side.result in
    let below : in_128 side <ℤ pos 0 = omega (arith, ints, c.if-side-eq0.false, c.if-side-gt0.false) in
    let held = offset_held side (at c.args.from) (at c.args.to) (at c.far_corner-corner.result) c.offset_of-side.ensures in
    inr (
      subst (λ (y : ℕ). orient2d_by at c.args.from c.args.to y <ℤ pos 0) c.far_corner-corner.ensures.value (subst (λ (z : ℤ). z <ℤ pos 0) held below),
      rw (c.fix-2.ensures.value, c.prev.ensures.number, c.rev-back.ensures.mesh, c.rev-back.ensures.number, c.directed_edge.ensures.mesh, c.directed_edge.ensures.number) refl,
    )
