use Rattle.std.proofs.Common.{arith, refl}
use Rattle.std.proofs.lemmas.Bool.{false≢true}
use Rattle.dcel_maps.specs.Conditions.{IsUnconnected}
use Rattle.dcel_planar.proofs.Begun.{one_further}
use Rattle.dcel_planar.proofs.triangulations.has_unconnected.Goals as goal

pub returns-then-is_unconnected : goal.returns-then-is_unconnected
returns-then-is_unconnected g c = (
  λ yes.
      let told = rw c.new.ensures at c.is_unconnected.ensures in
      let many = c.num_vertices-number-end.ensures.count in
      let more = c.loop-number-test.true in
      (c.loop-number.number, omega arith, told.0 c.if-is_unconnected.true),
  λ some. refl,
)

pub loop-number-preserved : goal.loop-number-preserved
loop-number-preserved g c =
    let told = rw c.new.ensures at c.is_unconnected.ensures in
    one_further (λ v. ¬ IsUnconnected c.args.dcel.now.shape v) c.loop-number.number c.loop-number.invariant
    (λ bare. let yes = told.1 bare in let no = c.if-is_unconnected.false in cc)

pub returns : goal.returns
returns g c = (
  λ no. absurd (false≢true no),
  λ some.
      let (v, below, bare) = some in
      let many = c.num_vertices-number-end.ensures.count in
      let end = c.loop-number-test.false in
      absurd (c.loop-number.invariant v (omega (arith, below)) bare),
)
