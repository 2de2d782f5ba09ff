use Rattle.std.proofs.Common.{◌∙◌}
use Rattle.dcel_predicates.proofs.vector.Vector.dot.Goals as goal
use Rattle.dcel_predicates.proofs.Carries.{crossed_fits, total_is}

pub overflow_add-down : goal.overflow_add-down
overflow_add-down c = crossed_fits c.dot-down.result c.dot-up.result c.dot-down.ensures.bound c.dot-up.ensures.bound

pub returns : goal.returns
returns c =
    let p = c.split-p in
    let q = c.split-q in
    let high = c.dot-high in
    let down = c.dot-down in
    let up = c.dot-up in
    let low = c.dot-low in
    c.carried.ensures
    ∙ total_is c.args.self.x c.args.other.x c.args.self.y c.args.other.y c.args.self.z c.args.other.z
    p.result.high.x q.result.high.x p.result.high.y q.result.high.y p.result.high.z q.result.high.z
    p.result.low.x q.result.low.x p.result.low.y q.result.low.y p.result.low.z q.result.low.z
    p.ensures.x q.ensures.x p.ensures.y q.ensures.y p.ensures.z q.ensures.z
    high.result down.result up.result low.result
    high.ensures.bound down.ensures.bound up.ensures.bound low.ensures.bound
    high.ensures.value down.ensures.value up.ensures.value low.ensures.value
