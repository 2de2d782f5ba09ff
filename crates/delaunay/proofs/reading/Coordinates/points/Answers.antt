use Rattle.std.proofs.Common.{ℕ, sym, subst, arith}
use Rattle.delaunay.specs.Placed.{IsPointAt}
use Rattle.delaunay.proofs.Pushed.{pushed}
use Rattle.delaunay.proofs.reading.Coordinates.points.Goals as goal

pub loop-number-preserved : goal.loop-number-preserved
loop-number-preserved c =
    let before = c.loop-number.invariant in
    let all = c.args.self.now.all.items in
    let point = c.in_ok-point.field-0 in
    let there = subst (λ (n : ℕ). IsPointAt c.args.unit all n point) (sym before.count) c.in_ok-point.ensures in
    let each = pushed (IsPointAt c.args.unit all) c.loop-number.points.items point before.each there in
    let count = before.count in
    rw c.in_ok-push.ensures.items record { count = grind (arith, count); each = each }
