use Rattle.std.proofs.Common.{◌+◌, ◌∙◌, arith, length, of_calls, sym, subst, take_all, List, ℕ}
use Rattle.std.proofs.lemmas.Result.{err_from_is_err_and}
use Rattle.dcel_delaunay.proofs.Standing.{adds_both, adds_more, answers_all, answers_more, failed_later, same_both}
use Rattle.dcel_delaunay.proofs.Telling.{told_all, told_one}
use Rattle.dcel_delaunay.specs.Bulk.{IsAhead, ListsEach, StandSoFar}
use Rattle.dcel_delaunay.specs.Triangulated.{mesh_in}
use Rattle.dcel_planar.specs.Places.{HasPoint}
use Rattle.dcel_delaunay.proofs.triangulation.Triangulation.insert_all_with.Goals as goal

pub loop-number-preserved : goal.loop-number-preserved
loop-number-preserved g c = record {
  whole = c.in_ok-insert_numbered.ensures.whole;
  adds = adds_both (mesh_in c.args.self.now) (mesh_in c.loop-number.self) (mesh_in c.insert_numbered.new.self) c.args.points.now c.loop-number.number-index 1
      c.loop-number.invariant.adds c.insert_numbered.ensures.adds;
  same = λ whole. same_both (mesh_in c.args.self.now) (mesh_in c.loop-number.self) (mesh_in c.insert_numbered.new.self) c.args.points.now c.loop-number.number-index 1
      c.loop-number.invariant.adds c.insert_numbered.ensures.adds (c.loop-number.invariant.same whole) c.insert_numbered.ensures.same;
  edges = omega (arith, c.loop-number.invariant.edges, c.insert_numbered.ensures.edges);
  within = omega (arith, c.loop-number-test.true);
  stand = answers_more (HasPoint (mesh_in c.loop-number.self)) (HasPoint (mesh_in c.insert_numbered.new.self)) c.args.points.now c.deref-number-items.result.now
      c.loop-number.vertices.items c.insert_numbered.new.vertices.items c.loop-number.number-index c.loop-number-test.true c.loop-number.invariant.stand
      c.in_ok-insert_numbered.ensures.stands;
  done = omega (arith, c.loop-number.invariant.done);
  before = omega (arith, c.next-point.ensures.before);
  ahead = subst (λ (order : List ℕ). IsAhead c.args.points.now order c.next-point.new.self.first c.next-point.new.self.points.items)
      (c.deref.ensures.value ∙ sym c.deref-number-items.ensures.value) c.next-point.ensures.ahead;
  callable = search of_calls;
  told = told_one (λ before done after. goal.P-step g before done tt after) c.args.progress c.loop-number.progress c.progress.new.self c.loop-number.done
      (length c.deref-number-items.result.now) c.progress.ensures c.loop-number.invariant.told;
}

pub returns-clause-stand : goal.returns-clause-stand
returns-clause-stand g c =
    let order = c.deref-number-items.result.now in
    let vertices = c.loop-number.vertices.items in
    answers_all (HasPoint (mesh_in c.loop-number.self)) c.args.points.now order vertices
    (subst (ListsEach (length c.args.points.now)) (sym c.deref-number-items.ensures.value) c.in_ok-order.ensures.each)
    (subst (λ (taken : List ℕ). StandSoFar (mesh_in c.loop-number.self) c.args.points.now taken vertices)
    (take_all c.loop-number.number-index order c.loop-number-test.false) c.loop-number.invariant.stand)

pub returns-in_err-insert_numbered-clause-adds : goal.returns-in_err-insert_numbered-clause-adds
returns-in_err-insert_numbered-clause-adds g c =
    let old = mesh_in c.args.self.now in
    let mid = mesh_in c.loop-number.self in
    let new = mesh_in c.insert_numbered.new.self in
    let points = c.args.points.now in
    let index = c.loop-number.number-index in
    let long = (subst (ListsEach (length points)) (sym c.deref-number-items.ensures.value) c.in_ok-order.ensures.each).length_is in
    adds_more old new points (index + 1) (length points) (omega (arith, c.loop-number-test.true, long))
    (adds_both old mid new points index 1 c.loop-number.invariant.adds c.insert_numbered.ensures.adds)

pub returns-in_err-insert_numbered-clause-same : goal.returns-in_err-insert_numbered-clause-same
returns-in_err-insert_numbered-clause-same g c whole =
    same_both (mesh_in c.args.self.now) (mesh_in c.loop-number.self) (mesh_in c.insert_numbered.new.self) c.args.points.now c.loop-number.number-index 1
    c.loop-number.invariant.adds c.insert_numbered.ensures.adds (c.loop-number.invariant.same whole) c.insert_numbered.ensures.same

pub returns-clause-told : goal.returns-clause-told
returns-clause-told g c =
    let order = c.deref-number-items.result.now in
    let long = (subst (ListsEach (length c.args.points.now)) (sym c.deref-number-items.ensures.value) c.in_ok-order.ensures.each).length_is in
    told_all (λ before done after. goal.P-step g before done tt after) c.args.progress c.loop-number.progress c.loop-number.done (length order)
    (length c.args.points.now) (omega (arith, c.loop-number.invariant.done, c.loop-number.invariant.within, c.loop-number-test.false)) long c.loop-number.invariant.told

pub returns-in_err-insert_numbered-clause-fails : goal.returns-in_err-insert_numbered-clause-fails
returns-in_err-insert_numbered-clause-fails g c =
    let given = err_from_is_err_and c.from_residual-in_err-insert_numbered.result c.from_residual-in_err-insert_numbered.ensures.1 in
    rw (given.1, given.2)
    (failed_later c.args.self.now.planar c.loop-number.self.planar c.insert_numbered.new.self.planar c.loop-number.invariant.whole _ c.in_err-insert_numbered.ensures.fails)
