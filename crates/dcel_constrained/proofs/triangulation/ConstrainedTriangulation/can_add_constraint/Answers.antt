use Rattle.std.proofs.Common.{◌≡◌, ◌≢◌, ◌<◌, refl, arith, subst, sym}
use Rattle.std.proofs.lemmas.Bool.Decides.{nat_tests}
use Rattle.dcel_maps.specs.Shapes.{face_count}
use Rattle.dcel_planar.proofs.Whole.{flat_alone, hull_more}
use Rattle.dcel_constrained.specs.Constraints.{IsFreeWay}
use Rattle.dcel_constrained.proofs.Lays.{free_none}
use Rattle.dcel_constrained.proofs.Outlined.{ends_of, inner_one, line_free, planar}
use Rattle.dcel_constrained.proofs.Settled.{outlined_of, sound_of}
use Rattle.dcel_constrained.proofs.triangulation.ConstrainedTriangulation.can_add_constraint.Goals as goal

pub returns-then-eq : goal.returns-then-eq
returns-then-eq g c =
    let m = c.args.self.now.planar.dcel in
    let same : c.args.from ≡ c.args.to = grind (arith, nat_tests, c.eq.ensures, c.if-eq.true) in (
      λ so. record {
        from = omega (arith, c.index.ensures.value, c.num_vertices-vertices.ensures.count, c.if-index-vertices.false);
        to = omega (arith, c.index-2.ensures.value, c.num_vertices-vertices.ensures.count, c.if-index-vertices-2.false);
        free = subst (λ x. IsFreeWay m x c.args.to) (sym same) (free_none m c.args.to);
      },
      λ can. refl,
    )

pub returns-then-num_faces-eq1 : goal.returns-then-num_faces-eq1
returns-then-num_faces-eq1 g c =
    let t = c.args.self.now in
    let differ : c.args.from ≢ c.args.to = grind (arith, nat_tests, c.eq.ensures, c.if-eq.false) in
    let from : c.args.from < t.planar.dcel.shape.vertices = omega (arith, c.index.ensures.value, c.num_vertices-vertices.ensures.count, c.if-index-vertices.false) in
    let to : c.args.to < t.planar.dcel.shape.vertices = omega (arith, c.index-2.ensures.value, c.num_vertices-vertices.ensures.count, c.if-index-vertices-2.false) in
    let one : face_count t.planar.dcel.shape ≡ 1 = omega (arith, c.num_faces.ensures.count, c.if-num_faces-eq1.true) in (
      λ so. record {
        from = from;
        to = to;
        free = line_free t.planar.dcel c.every_mesh.ensures t.planar.due.items (sound_of t) (flat_alone t.planar.dcel (outlined_of t c.requires.whole) one) c.args.from c.args.to differ from to;
      },
      λ can. refl,
    )

pub is_free_way-requires-clause-planar : goal.is_free_way-requires-clause-planar
is_free_way-requires-clause-planar g c =
    let t = c.args.self.now in
    let more : face_count t.planar.dcel.shape ≢ 1 = λ one. omega (arith, c.num_faces.ensures.count, c.if-num_faces-eq1.false, one) in
    planar t.planar.dcel c.every_mesh.ensures t.planar.due.items (sound_of t) (hull_more t.planar.dcel (outlined_of t c.requires.whole) more)

pub is_free_way-requires-clause-inner : goal.is_free_way-requires-clause-inner
is_free_way-requires-clause-inner g c =
    let t = c.args.self.now in
    let more : face_count t.planar.dcel.shape ≢ 1 = λ one. omega (arith, c.num_faces.ensures.count, c.if-num_faces-eq1.false, one) in
    inner_one t.planar.dcel c.every_mesh.ensures t.planar.due.items (sound_of t) (hull_more t.planar.dcel (outlined_of t c.requires.whole) more)

pub is_free_way-requires-clause-ends : goal.is_free_way-requires-clause-ends
is_free_way-requires-clause-ends g c =
    let t = c.args.self.now in
    let differ : c.args.from ≢ c.args.to = grind (arith, nat_tests, c.eq.ensures, c.if-eq.false) in
    ends_of t.planar.dcel c.every_mesh.ensures t.planar.due.items (sound_of t) c.args.from c.args.to differ
    (omega (arith, c.index.ensures.value, c.num_vertices-vertices.ensures.count, c.if-index-vertices.false))
    (omega (arith, c.index-2.ensures.value, c.num_vertices-vertices.ensures.count, c.if-index-vertices-2.false))

pub returns : goal.returns
returns g c = (
  λ so. record {
    from = omega (arith, c.index.ensures.value, c.num_vertices-vertices.ensures.count, c.if-index-vertices.false);
    to = omega (arith, c.index-2.ensures.value, c.num_vertices-vertices.ensures.count, c.if-index-vertices-2.false);
    free = c.is_free_way.ensures.0 so;
  },
  λ can. c.is_free_way.ensures.1 can.free,
)
