use Rattle.std.proofs.Common.{◌≡◌, ◌≢◌, [], arith, subst, sym}
use Rattle.std.proofs.lemmas.Bool.Decides.{nat_tests}
use Rattle.dcel_maps.specs.Shapes.{face_count}
use Rattle.dcel_planar.proofs.Whole.{flat_alone, hull_more}
use Rattle.dcel_constrained.specs.Constraints.{IsFreeWay}
use Rattle.dcel_constrained.proofs.Lays.{free_none}
use Rattle.dcel_constrained.proofs.Outlined.{line_free}
use Rattle.dcel_constrained.proofs.Settled.{outlined_of, sound_of}
use Rattle.dcel_constrained.proofs.triangulation.ConstrainedTriangulation.add_if_free.Goals as goal

pub lay_on_line-requires-clause-flat : goal.lay_on_line-requires-clause-flat
lay_on_line-requires-clause-flat g c =
    let t = c.args.self.now in
    let one : face_count t.planar.dcel.shape ≡ 1 = omega (arith, c.num_faces.ensures.count, c.if-num_faces-eq1.true) in
    flat_alone t.planar.dcel (outlined_of t c.requires.whole) one

pub lay_on_line-requires-clause-can : goal.lay_on_line-requires-clause-can
lay_on_line-requires-clause-can g c =
    let t = c.args.self.now in
    let differ : c.args.from ≢ c.args.to = grind (arith, nat_tests, c.eq.ensures, c.if-eq.false) in
    let one : face_count t.planar.dcel.shape ≡ 1 = omega (arith, c.num_faces.ensures.count, c.if-num_faces-eq1.true) in
    record {
      from = c.requires.ends.from;
      to = c.requires.ends.to;
      free =
          line_free t.planar.dcel c.every_mesh.ensures t.planar.due.items (sound_of t) (flat_alone t.planar.dcel (outlined_of t c.requires.whole) one) c.args.from c.args.to differ
          c.requires.ends.from c.requires.ends.to;
    }

pub lay_if_free-requires-clause-hull : goal.lay_if_free-requires-clause-hull
lay_if_free-requires-clause-hull g c =
    let t = c.args.self.now in
    let more : face_count t.planar.dcel.shape ≢ 1 = λ one. omega (arith, c.num_faces.ensures.count, c.if-num_faces-eq1.false, one) in
    hull_more t.planar.dcel (outlined_of t c.requires.whole) more

pub returns-then-eq-clause-laid : goal.returns-then-eq-clause-laid
returns-then-eq-clause-laid g c =
    let m = c.args.self.now.planar.dcel in
    let same : c.args.from ≡ c.args.to = grind (arith, nat_tests, c.eq.ensures, c.if-eq.true) in (
      ([], same),
      (λ so. absurd (let e = so in cc), λ another. absurd (another.2 another.1)),
      subst (λ x. IsFreeWay m x c.args.to) (sym same) (free_none m c.args.to),
    )

pub returns-then-num_faces-eq1-clause-laid : goal.returns-then-num_faces-eq1-clause-laid
returns-then-num_faces-eq1-clause-laid g c =
    let t = c.args.self.now in
    let differ : c.args.from ≢ c.args.to = grind (arith, nat_tests, c.eq.ensures, c.if-eq.false) in
    let one : face_count t.planar.dcel.shape ≡ 1 = omega (arith, c.num_faces.ensures.count, c.if-num_faces-eq1.true) in (
      c.lay_on_line.ensures.laid,
      c.lay_on_line.ensures.added,
      line_free t.planar.dcel c.every_mesh.ensures t.planar.due.items (sound_of t) (flat_alone t.planar.dcel (outlined_of t c.requires.whole) one) c.args.from c.args.to differ
          c.requires.ends.from c.requires.ends.to,
    )
