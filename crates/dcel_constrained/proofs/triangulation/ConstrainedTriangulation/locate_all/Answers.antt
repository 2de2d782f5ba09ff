use Rattle.std.proofs.Common.{arith, length, sym, subst, take_all, List, ℕ}
use Rattle.dcel_planar.specs.Places.{IsPlace}
use Rattle.dcel_delaunay.specs.Bulk.{AnswersSoFar, ListsEach}
use Rattle.dcel_delaunay.proofs.Standing.{answers_all, answers_more}
use Rattle.dcel_constrained.specs.Constrained.{marked_mesh}
use Rattle.dcel_constrained.proofs.Settled.{outlined_of}
use Rattle.dcel_constrained.proofs.triangulation.ConstrainedTriangulation.locate_all.Goals as goal

pub locate_numbered-start-requires : goal.locate_numbered-start-requires
locate_numbered-start-requires g c = record { hull = outlined_of c.args.self.now c.requires.whole }

pub loop-number-preserved : goal.loop-number-preserved
loop-number-preserved g c =
    let right = IsPlace (marked_mesh c.args.self.now) in record {
      within = omega (arith, c.loop-number-test.true);
      answers = answers_more right right c.args.points.now c.deref-number-items.result.now c.loop-number.positions.items c.locate_numbered-start.new.positions.items c.loop-number.number-index
          c.loop-number-test.true c.loop-number.invariant.answers c.locate_numbered-start.ensures;
    }

pub returns : goal.returns
returns g c =
    let order = c.deref-number-items.result.now in
    let answers = c.loop-number.positions.items in
    let right = IsPlace (marked_mesh c.args.self.now) in
    answers_all right c.args.points.now order answers
    (subst (ListsEach (length c.args.points.now)) (sym c.deref-number-items.ensures.value) c.in_ok-order.ensures.each)
    (subst (λ (taken : List ℕ). AnswersSoFar right c.args.points.now taken answers) (take_all c.loop-number.number-index order c.loop-number-test.false)
    c.loop-number.invariant.answers)
