use Rattle.std.proofs.Common.{◌≡◌, inl, inr, ◌<◌, true, sym, subst, ap, ◌∙◌, arith, refl}
use Rattle.std.proofs.lemmas.Bool.{cases_eq, false≢true}
use Rattle.dcel_maps.specs.Removals.{gives_up_face}
use Rattle.dcel_maps.specs.Shapes.{face_count, face_is_live}
use Rattle.dcel_maps.specs.Conditions.{IsTriangle}
use Rattle.dcel_maps.proofs.Liveness.{gives_up_face-closed, is_live-from, is_live-parts}
use Rattle.dcel_planar.proofs.triangulations.has_triangles.Goals as goal

pub returns-then-not-is_triangle : goal.returns-then-not-is_triangle
returns-then-not-is_triangle g c = (
  λ no. absurd (false≢true no),
  λ all.
      let s = c.args.dcel.now.shape in
      let f = c.loop-number.number in
      let told = rw c.new-face.ensures at c.is_triangle.ensures in
      let many = c.num_faces-number-end.ensures.count in
      let more = c.loop-number-test.true in
      let inner : 0 < f = omega arith in
      let live : face_is_live s f ≡ true = is_live-from (gives_up_face s.removal) (face_count s) f (omega arith) (ap (λ r. gives_up_face r f) c.requires ∙ gives_up_face-closed f) in
      let yes = told.1 record { live = live; three = all f inner live } in
      let no = c.if-not-is_triangle.true in
      cc,
)

pub loop-number-preserved : goal.loop-number-preserved
loop-number-preserved g c =
    let told = rw c.new-face.ensures at c.is_triangle.ensures in
    λ f inner below. elim (cases_eq f c.loop-number.number) [
      | inl last ↦ subst (IsTriangle c.args.dcel.now.shape) (sym last) (told.0 c.if-not-is_triangle.false)
      | inr before ↦ c.loop-number.invariant f inner (omega (arith, below, before))
    ]

pub returns : goal.returns
returns g c = (
  λ yes f inner live.
      let s = c.args.dcel.now.shape in
      let below = (is_live-parts (gives_up_face s.removal) (face_count s) f live).0 in
      let many = c.num_faces-number-end.ensures.count in
      let end = c.loop-number-test.false in
      (c.loop-number.invariant f inner (omega (arith, below))).three,
  λ all. refl,
)
