use Rattle.std.proofs.Common.{arith, refl}
use Rattle.std.proofs.lemmas.Bool.{false≢true}
use Rattle.dcel_maps.proofs.Liveness.{closed-half_live}
use Rattle.dcel_maps.proofs.walks.Links.{half-below}
use Rattle.dcel_plane.specs.Plane.{point_at}
use Rattle.dcel_planar.specs.Ways.{TurnsRight}
use Rattle.dcel_planar.proofs.Begun.{one_further}
use Rattle.dcel_planar.proofs.rounds.turns_right.Goals as goal

pub turns_right_after-requires : goal.turns_right_after-requires
turns_right_after-requires g c =
    let s = c.args.dcel.now.shape in
    let many = c.num_directed_edges-number-end.ensures.count in
    let more = c.loop-number-test.true in
    rw c.new.ensures (closed-half_live s c.requires c.loop-number.number (omega arith))

pub returns-then-not-turns_right_after : goal.returns-then-not-turns_right_after
returns-then-not-turns_right_after g c = (
  λ no. absurd (false≢true no),
  λ all.
      let s = c.args.dcel.now.shape in
      let many = c.num_directed_edges-number-end.ensures.count in
      let more = c.loop-number-test.true in
      let told = rw c.new.ensures at c.turns_right_after.ensures in
      let yes = told.1 (all c.loop-number.number (closed-half_live s c.requires c.loop-number.number (omega arith))) in
      let no = c.if-not-turns_right_after.true in
      cc,
)

pub loop-number-preserved : goal.loop-number-preserved
loop-number-preserved g c =
    let told = rw c.new.ensures at c.turns_right_after.ensures in
    one_further (TurnsRight (point_at c.args.dcel.now) c.args.dcel.now.shape) c.loop-number.number c.loop-number.invariant (told.0 c.if-not-turns_right_after.false)

pub returns : goal.returns
returns g c = (
  λ yes h live.
      let below = half-below c.args.dcel.now.shape h live in
      let many = c.num_directed_edges-number-end.ensures.count in
      let end = c.loop-number-test.false in
      c.loop-number.invariant h (omega (arith, below)),
  λ all. refl,
)
