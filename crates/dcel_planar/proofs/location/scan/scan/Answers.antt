use Rattle.std.proofs.Common.{◌≡◌, ◌∙◌, inl, inr, subst, sym, arith}
use Rattle.std.proofs.lemmas.Bool.{cases_lt}
use Rattle.dcel_maps.proofs.Liveness.{closed-half_live}
use Rattle.dcel_plane.proofs.covering.Starts.{inner_half}
use Rattle.spade_dcel.specs.Handles.{number_of}
use Rattle.dcel_planar.specs.Missing.{IsMissed}
use Rattle.dcel_planar.proofs.Missed.{not_all_missed}
use Rattle.dcel_planar.proofs.location.scan.scan.Goals as goal

pub look_beside-requires-clause-live : goal.look_beside-requires-clause-live
look_beside-requires-clause-live g c =
    closed-half_live c.args.dcel.now.shape c.requires.triangulated.closed (number_of c.directed_edge-edge.result)
    (omega (arith, c.directed_edge-edge.ensures.number, c.new.ensures, c.loop-number-test.true, c.num_directed_edges-number-end.ensures.count))

pub loop-number-preserved : goal.loop-number-preserved
loop-number-preserved g c h below = elim (cases_lt h c.loop-number.number) [
  | inl before ↦ c.loop-number.invariant h before
  | inr not ↦
      let is : h ≡ c.loop-number.number = omega (arith, not, below) in
      subst (IsMissed c.args.dcel.now c.args.point) (c.directed_edge-edge.ensures.number ∙ c.new.ensures ∙ sym is) c.in-None.ensures.missed
]

pub unreachable-requires : goal.unreachable-requires
unreachable-requires g c =
    let m = c.args.dcel.now in
    not_all_missed m c.every_mesh.ensures c.requires.triangulated.triangles c.args.point c.requires.triangulated.plane
    (inner_half m c.every_mesh.ensures c.requires.triangulated.closed c.requires.hull.inner)
    (λ h below. c.loop-number.invariant h (omega (arith, below, c.loop-number-test.false, c.num_directed_edges-number-end.ensures.count)))
