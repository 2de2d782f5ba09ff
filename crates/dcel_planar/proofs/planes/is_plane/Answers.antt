use Rattle.std.proofs.Common.{◌<◌, arith, refl}
use Rattle.std.proofs.lemmas.Bool.{false≢true}
use Rattle.dcel_plane.specs.Plane.{point_at}
use Rattle.dcel_planar.proofs.Faces.{each_face}
use Rattle.dcel_planar.proofs.planes.is_plane.Goals as goal

pub returns-then-not-goes_left : goal.returns-then-not-goes_left
returns-then-not-goes_left g c = (
  λ no. absurd (false≢true no),
  λ plane.
      let told = rw c.new.ensures at c.goes_left.ensures in
      let inner : 0 < c.loop-number.number = omega arith in
      let yes = told.1 (λ x y z is. plane.left c.loop-number.number x y z inner is) in
      let no = c.if-not-goes_left.true in
      cc,
)

pub returns : goal.returns
returns g c = (
  λ yes.
      each_face (point_at c.args.dcel.now) c.args.dcel.now.shape c.loop-number.number
      (let many = c.num_faces-number-end.ensures.count in let end = c.loop-number-test.false in omega arith) c.loop-number.invariant,
  λ plane. refl,
)
