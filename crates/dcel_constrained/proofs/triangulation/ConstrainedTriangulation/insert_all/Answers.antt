use Rattle.std.proofs.Common.{◌+◌, arith, length, rules, sym, subst, take_all, List, ℕ}
use Rattle.std.proofs.lemmas.Result.{err_from_is_err_and}
use Rattle.dcel_delaunay.proofs.Standing.{adds_both, adds_more, adds_none, answers_all, answers_more, failed_later, same_both}
use Rattle.dcel_delaunay.specs.Bulk.{ListsEach, StandSoFar}
use Rattle.dcel_planar.specs.Places.{HasPoint}
use Rattle.dcel_constrained.specs.Constrained.{marked_mesh}
use Rattle.dcel_constrained.proofs.Many.{points_added, splits_both, splits_same, vertices_added}
use Rattle.dcel_constrained.proofs.Settled.{splits_alone}
use Rattle.dcel_constrained.proofs.triangulation.ConstrainedTriangulation.insert_all.Goals as goal

pub returns-in_err-clone-clause-splits : goal.returns-in_err-clone-clause-splits
returns-in_err-clone-clause-splits g c = splits_same (marked_mesh c.args.self.now) c.every_mesh.ensures c.args.self.now.planar.triangulated.closed

pub returns-in_err-order-clause-splits : goal.returns-in_err-order-clause-splits
returns-in_err-order-clause-splits g c = splits_same (marked_mesh c.args.self.now) c.every_mesh.ensures c.args.self.now.planar.triangulated.closed

pub returns-in_err-vertices-clause-splits : goal.returns-in_err-vertices-clause-splits
returns-in_err-vertices-clause-splits g c = splits_same (marked_mesh c.args.self.now) c.every_mesh.ensures c.args.self.now.planar.triangulated.closed

pub returns-in_default-clause-fails : goal.returns-in_default-clause-fails
returns-in_default-clause-fails g c = λ whole. absurd (let no = c.in_default.ensures.ready whole in cc)

pub returns-in_default-clause-adds : goal.returns-in_default-clause-adds
returns-in_default-clause-adds g c =
    adds_none (marked_mesh c.args.self.now) (marked_mesh c.finish.new.self) c.args.points.now (length c.args.points.now) c.finish.ensures.points

pub returns-in_default-clause-splits : goal.returns-in_default-clause-splits
returns-in_default-clause-splits g c =
    splits_alone (marked_mesh c.args.self.now) (marked_mesh c.finish.new.self)
    (record { keeps = c.finish.ensures.keeps; only = c.finish.ensures.only; points = c.finish.ensures.points }) c.every_mesh.ensures c.every_mesh-in_default.ensures
    c.finish.new.self.planar.triangulated.closed

pub loop-number-init : goal.loop-number-init
loop-number-init g c =
    let old = marked_mesh c.args.self.now in
    let mid = marked_mesh c.finish.new.self in
    record {
      whole = c.in-Ok.ensures.whole;
      mesh = c.every_mesh-2.ensures;
      adds = adds_none old mid c.args.points.now 0 c.finish.ensures.points;
      splits =
          splits_alone old mid (record { keeps = c.finish.ensures.keeps; only = c.finish.ensures.only; points = c.finish.ensures.points }) c.every_mesh.ensures c.every_mesh-2.ensures
          c.finish.new.self.planar.triangulated.closed;
      edges = c.finish.ensures.edges;
      same = λ whole stays. c.finish.ensures.same whole;
      within = omega arith;
      stand = search rules;
    }

pub loop-number-preserved : goal.loop-number-preserved
loop-number-preserved g c =
    let old = marked_mesh c.args.self.now in
    let mid = marked_mesh c.loop-number.self in
    let new = marked_mesh c.insert_numbered.new.self in
    let before = c.loop-number.invariant in
    let one = c.insert_numbered.ensures in
    record {
      whole = c.in_ok-insert_numbered.ensures.whole;
      mesh = one.mesh;
      adds = adds_both old mid new c.args.points.now c.loop-number.number-index 1 before.adds one.adds;
      splits =
          splits_both old mid new c.every_mesh.ensures c.args.self.now.planar.triangulated.closed before.mesh c.loop-number.self.planar.triangulated.closed
          (vertices_added old mid c.args.points.now c.loop-number.number-index c.every_mesh.ensures before.mesh before.adds)
          (points_added mid new c.args.points.now 1 before.mesh one.adds) before.splits one.splits;
      edges = omega (arith, before.edges, one.edges);
      same = λ whole. same_both old mid new c.args.points.now c.loop-number.number-index 1 before.adds one.adds (before.same whole) one.same;
      within = omega (arith, c.loop-number-test.true);
      stand =
          answers_more (HasPoint mid) (HasPoint new) c.args.points.now c.deref-number-items.result.now c.loop-number.vertices.items c.insert_numbered.new.vertices.items
          c.loop-number.number-index c.loop-number-test.true before.stand c.in_ok-insert_numbered.ensures.stands;
    }

pub returns-clause-stand : goal.returns-clause-stand
returns-clause-stand g c =
    let order = c.deref-number-items.result.now in
    let vertices = c.loop-number.vertices.items in
    answers_all (HasPoint (marked_mesh c.loop-number.self)) c.args.points.now order vertices
    (subst (ListsEach (length c.args.points.now)) (sym c.deref-number-items.ensures.value) c.in_ok-order.ensures.each)
    (subst (λ (taken : List ℕ). StandSoFar (marked_mesh c.loop-number.self) c.args.points.now taken vertices)
    (take_all c.loop-number.number-index order c.loop-number-test.false) c.loop-number.invariant.stand)

pub returns-clause-adds : goal.returns-clause-adds
returns-clause-adds g c =
    let order = c.deref-number-items.result.now in
    let long = (subst (ListsEach (length c.args.points.now)) (sym c.deref-number-items.ensures.value) c.in_ok-order.ensures.each).length_is in
    adds_more (marked_mesh c.args.self.now) (marked_mesh c.loop-number.self) c.args.points.now c.loop-number.number-index (length c.args.points.now)
    (omega (arith, c.loop-number.invariant.within, long)) c.loop-number.invariant.adds

pub returns-in_err-insert_numbered-clause-adds : goal.returns-in_err-insert_numbered-clause-adds
returns-in_err-insert_numbered-clause-adds g c =
    let old = marked_mesh c.args.self.now in
    let mid = marked_mesh c.loop-number.self in
    let new = marked_mesh c.insert_numbered.new.self in
    let points = c.args.points.now in
    let index = c.loop-number.number-index in
    let long = (subst (ListsEach (length points)) (sym c.deref-number-items.ensures.value) c.in_ok-order.ensures.each).length_is in
    adds_more old new points (index + 1) (length points) (omega (arith, c.loop-number-test.true, long))
    (adds_both old mid new points index 1 c.loop-number.invariant.adds c.insert_numbered.ensures.adds)

pub returns-in_err-insert_numbered-clause-same : goal.returns-in_err-insert_numbered-clause-same
returns-in_err-insert_numbered-clause-same g c whole =
    same_both (marked_mesh c.args.self.now) (marked_mesh c.loop-number.self) (marked_mesh c.insert_numbered.new.self) c.args.points.now c.loop-number.number-index 1
    c.loop-number.invariant.adds c.insert_numbered.ensures.adds (c.loop-number.invariant.same whole) c.insert_numbered.ensures.same

pub returns-in_err-insert_numbered-clause-splits : goal.returns-in_err-insert_numbered-clause-splits
returns-in_err-insert_numbered-clause-splits g c =
    let old = marked_mesh c.args.self.now in
    let mid = marked_mesh c.loop-number.self in
    let new = marked_mesh c.insert_numbered.new.self in
    let before = c.loop-number.invariant in
    let one = c.insert_numbered.ensures in
    splits_both old mid new c.every_mesh.ensures c.args.self.now.planar.triangulated.closed before.mesh c.loop-number.self.planar.triangulated.closed
    (vertices_added old mid c.args.points.now c.loop-number.number-index c.every_mesh.ensures before.mesh before.adds)
    (points_added mid new c.args.points.now 1 before.mesh one.adds) before.splits one.splits

pub returns-in_err-insert_numbered-clause-fails : goal.returns-in_err-insert_numbered-clause-fails
returns-in_err-insert_numbered-clause-fails g c =
    let given = err_from_is_err_and c.from_residual-in_err-insert_numbered.result c.from_residual-in_err-insert_numbered.ensures.1 in
    rw (given.1, given.2)
    (failed_later c.args.self.now.planar c.loop-number.self.planar c.insert_numbered.new.self.planar c.loop-number.invariant.whole _ c.in_err-insert_numbered.ensures.fails)
