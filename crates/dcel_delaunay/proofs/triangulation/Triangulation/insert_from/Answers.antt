use Rattle.std.proofs.Common.{◌≡◌, ◌≢◌, ◌∙◌, ◌++◌, ◌∷◌, ℕ, List, [], ap, inr, refl, rules, subst, sym}
use Rattle.std.proofs.lemmas.Result.{err_from_is_err_and}
use Rattle.dcel_plane.specs.Plane.{point_at}
use Rattle.dcel_plane.specs.star.Star.{HasEmptyCirclesBut}
use Rattle.dcel_predicates.specs.declared.point.Point.{Point}
use Rattle.dcel_planar.specs.declared.planar.PlanarMesh.{PlanarMesh}
use Rattle.dcel_planar.proofs.Refused.{insertion_fails}
use Rattle.dcel_delaunay.proofs.Listed.{lists_after, new_vertex, put_inserts, settled, settled_inserts}
use Rattle.dcel_delaunay.proofs.Theorem.{no_circle}
use Rattle.dcel_delaunay.proofs.Taking.{takes_has, takes_points, takes_same}
use Rattle.dcel_delaunay.proofs.triangulation.Triangulation.insert_from.Goals as goal

pub locate-position-requires : goal.locate-position-requires
locate-position-requires g c = let mid = c.finish.new.self in record { hull = (settled mid.planar mid.listed c.in_ok-finish.ensures.whole).hull }

pub put_at-requires-clause-hull : goal.put_at-requires-clause-hull
put_at-requires-clause-hull g c = let mid = c.finish.new.self in (settled mid.planar mid.listed c.in_ok-finish.ensures.whole).hull

pub invariant_of-self : goal.invariant_of-self
invariant_of-self g c = record { listed = lists_after c.finish.new.self.planar c.put_at.new.self c.put_at.ensures.lists c.finish.new.self.listed }

pub invariant_of-self-then-is_whole : goal.invariant_of-self-then-is_whole
invariant_of-self-then-is_whole g c = record { listed = lists_after c.finish.new.self.planar c.put_at.new.self c.put_at.ensures.lists c.finish.new.self.listed }

pub invariant_of-self-2 : goal.invariant_of-self-2
invariant_of-self-2 g c =
    let put = lists_after c.finish.new.self.planar c.put_at.new.self c.put_at.ensures.lists c.finish.new.self.listed in
    record { listed = c.legalize_star.ensures.lists put }

pub legalize_star-requires-clause-circles : goal.legalize_star-requires-clause-circles
legalize_star-requires-clause-circles g c =
    let mid = c.finish.new.self in
    let put = c.put_at.new.self.dcel in
    let v = c.in_ok-vertex.vertex in
    let some : c.put_at.new.self.due.items ≢ [] = search rules in
    let last = new_vertex mid.planar c.put_at.new.self c.locate-position.result c.args.point v c.in_ok-finish.ensures.whole c.in_ok-vertex.ensures.put some in
    let empty = no_circle mid.planar.dcel c.every_mesh.ensures (settled mid.planar mid.listed c.in_ok-finish.ensures.whole) in
    subst (λ (w : ℕ). HasEmptyCirclesBut (point_at put) put.shape w) (sym last) (c.in_ok-vertex.ensures.circles empty)

pub returns-then-is_whole-clause-inserts : goal.returns-then-is_whole-clause-inserts
returns-then-is_whole-clause-inserts g c =
    let mid = c.finish.new.self in
    let v = c.in_ok-vertex.vertex in
    let inserts = put_inserts mid.planar c.put_at.new.self c.locate-position.result c.args.point v c.locate-position.ensures c.in_ok-vertex.ensures.put in
    let last : c.begin_at.new.self.planar.dcel ≡ c.put_at.new.self.dcel = ap (λ (m : PlanarMesh (Unit {0}) g.row.A.Denot). m.dcel) c.begin_at.ensures in
    record {
      has = takes_has mid.planar.dcel c.put_at.new.self.dcel _ c.args.point v c.every_mesh.ensures inserts last;
      points = takes_points _ mid.planar.dcel c.put_at.new.self.dcel _ c.args.point v c.finish.ensures.points inserts last;
    }

pub returns-then-is_whole-clause-same : goal.returns-then-is_whole-clause-same
returns-then-is_whole-clause-same g c = λ whole stay.
    let mid = c.finish.new.self in
    let v = c.in_ok-vertex.vertex in
    let inserts = put_inserts mid.planar c.put_at.new.self c.locate-position.result c.args.point v c.locate-position.ensures c.in_ok-vertex.ensures.put in
    let last : c.begin_at.new.self.planar.dcel ≡ c.put_at.new.self.dcel = ap (λ (m : PlanarMesh (Unit {0}) g.row.A.Denot). m.dcel) c.begin_at.ensures in
    takes_same c.args.self.now.planar.dcel mid.planar.dcel c.put_at.new.self.dcel c.begin_at.new.self.planar.dcel c.args.point v (c.finish.ensures.same whole) inserts last stay

pub returns-in_default-clause-same : goal.returns-in_default-clause-same
returns-in_default-clause-same g c = λ whole stay.
    let mid = c.finish.new.self in
    let v = c.in_ok-vertex.vertex in
    let some : c.put_at.new.self.due.items ≢ [] = search rules in
    let gains =
    settled_inserts mid.planar c.put_at.new.self c.legalize_star.new.self c.locate-position.result c.args.point v c.in_ok-finish.ensures.whole c.in_ok-vertex.ensures.put some
    c.legalize_star.ensures.keeps in
    takes_same c.args.self.now.planar.dcel mid.planar.dcel c.legalize_star.new.self.dcel c.legalize_star.new.self.dcel c.args.point v (c.finish.ensures.same whole) (inr gains) refl stay

pub returns-clause-inserts : goal.returns-clause-inserts
returns-clause-inserts g c =
    let mid = c.finish.new.self in
    let v = c.in_ok-vertex.vertex in
    let some : c.put_at.new.self.due.items ≢ [] = search rules in
    let gains =
    settled_inserts mid.planar c.put_at.new.self c.legalize_star.new.self c.locate-position.result c.args.point v c.in_ok-finish.ensures.whole c.in_ok-vertex.ensures.put some
    c.legalize_star.ensures.keeps in
    let last : c.begin_at-2.new.self.planar.dcel ≡ c.legalize_star.new.self.dcel = ap (λ (m : PlanarMesh (Unit {0}) g.row.A.Denot). m.dcel) c.begin_at-2.ensures in
    record {
      has = takes_has mid.planar.dcel c.legalize_star.new.self.dcel _ c.args.point v c.every_mesh.ensures (inr gains) last;
      points = takes_points _ mid.planar.dcel c.legalize_star.new.self.dcel _ c.args.point v c.finish.ensures.points (inr gains) last;
    }

pub returns-clause-same : goal.returns-clause-same
returns-clause-same g c = λ whole stay.
    let mid = c.finish.new.self in
    let v = c.in_ok-vertex.vertex in
    let some : c.put_at.new.self.due.items ≢ [] = search rules in
    let gains =
    settled_inserts mid.planar c.put_at.new.self c.legalize_star.new.self c.locate-position.result c.args.point v c.in_ok-finish.ensures.whole c.in_ok-vertex.ensures.put some
    c.legalize_star.ensures.keeps in
    let last : c.begin_at-2.new.self.planar.dcel ≡ c.legalize_star.new.self.dcel = ap (λ (m : PlanarMesh (Unit {0}) g.row.A.Denot). m.dcel) c.begin_at-2.ensures in
    takes_same c.args.self.now.planar.dcel mid.planar.dcel c.legalize_star.new.self.dcel c.begin_at-2.new.self.planar.dcel c.args.point v (c.finish.ensures.same whole) (inr gains) last stay

pub returns-in_err-finish-clause-refuses : goal.returns-in_err-finish-clause-refuses
returns-in_err-finish-clause-refuses g c =
    let given = err_from_is_err_and c.from_residual.result c.from_residual.ensures.1 in
    rw (given.1, given.2, c.in_err-finish.ensures.refused.0) (
      record { points = c.finish.ensures.points; same = c.finish.ensures.same },
      λ whole. absurd (let no = c.in_err-finish.ensures.ready whole in cc),
    )

pub returns-in_err-vertex-clause-refuses : goal.returns-in_err-vertex-clause-refuses
returns-in_err-vertex-clause-refuses g c =
    let mid = c.finish.new.self in
    let given = err_from_is_err_and c.from_residual-in_err-vertex.result c.from_residual-in_err-vertex.ensures.1 in
    rw (given.1, given.2)
    (insertion_fails c.args.self.now.planar mid.planar c.put_at.new.self c.args.point c.finish.ensures.points c.finish.ensures.same c.in_ok-finish.ensures.whole _ c.in_err-vertex.ensures.refuses)

pub returns-in_default-clause-refuses : goal.returns-in_default-clause-refuses
returns-in_default-clause-refuses g c =
    let mid = c.finish.new.self in
    let v = c.in_ok-vertex.vertex in
    let some : c.put_at.new.self.due.items ≢ [] = search rules in
    let gains =
    settled_inserts mid.planar c.put_at.new.self c.legalize_star.new.self c.locate-position.result c.args.point v c.in_ok-finish.ensures.whole c.in_ok-vertex.ensures.put some
    c.legalize_star.ensures.keeps in
    (gains.points ∙ ap (λ (ps : List Point). ps ++ c.args.point ∷ []) c.finish.ensures.points, c.in_default.ensures.unfinished)
