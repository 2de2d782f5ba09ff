use Rattle.std.proofs.Common.{◌≡◌, ◌↔◌, ℕ, ◌<◌, IsTrue, length, arith, subst}
use Rattle.dcel_regions.specs.Marked.{IsMarked}
use Rattle.dcel_constrained.proofs.Marking.{counts_none, counts_one}
use Rattle.dcel_constrained.proofs.triangulation.ConstrainedTriangulation.num_constraints.Goals.{else-is_marked, then-is_marked}
use Rattle.dcel_constrained.proofs.triangulation.ConstrainedTriangulation.num_constraints.Goals as goal

pub loop-number-preserved : goal.loop-number-preserved
loop-number-preserved g c =
    let marks = c.args.self.now.planar.dcel.undirected_data in
    let below : c.loop-number.number < length marks =
    omega (arith, c.loop-number-test.true, c.num_undirected_edges-number-end.ensures.count, c.every_mesh.ensures.sized.undirected_data) in
    let at : c.new.result ≡ c.loop-number.number = c.new.ensures in
    let told = subst (λ (u : ℕ). IsTrue c.is_marked.result ↔ IsMarked c.args.self.now.planar.dcel u) at c.is_marked.ensures in
    elim c.if-is_marked.branch [
      | then-is_marked w ↦
          let one = counts_one marks c.loop-number.number below (told.0 w.if-is_marked.true) in
          record {
            counted = omega (arith, w.count-is, one, c.loop-number.invariant.counted);
            few = omega (arith, w.count-is, c.loop-number.invariant.few);
          }
      | else-is_marked w ↦
          let none = counts_none marks c.loop-number.number below (λ is. let so = told.1 is in let not = w.if-is_marked.false in cc) in
          record {
            counted = omega (arith, w.count-is, none, c.loop-number.invariant.counted);
            few = omega (arith, w.count-is, c.loop-number.invariant.few);
          }
    ]
