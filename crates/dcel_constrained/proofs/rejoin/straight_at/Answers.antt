use Rattle.std.proofs.Common.{arith}
use Rattle.dcel_constrained.proofs.Rejoined.{bent_straight, end_below, none_straight, one_straight, start_below, three_straight}
use Rattle.dcel_constrained.proofs.rejoin.straight_at.Goals as goal

pub returns-then-index-num_vertices-clause-none : goal.returns-then-index-num_vertices-clause-none
returns-then-index-num_vertices-clause-none g c a b is =
    let below = start_below c.args.dcel.now c.every_mesh.ensures c.args.vertex a is.first in
    omega (arith, below, c.index.ensures.value, c.num_vertices.ensures.count, c.if-index-num_vertices.true)

pub returns-in_default-clause-none : goal.returns-in_default-clause-none
returns-in_default-clause-none g c = none_straight c.args.dcel.now c.args.vertex c.in_default.ensures.none

pub returns-in_default-constraint_beside-clause-none : goal.returns-in_default-constraint_beside-clause-none
returns-in_default-constraint_beside-clause-none g c = one_straight c.args.dcel.now c.args.vertex c.in-Some.from c.in_default-constraint_beside.ensures.none

pub returns-in-Some-constraint_beside-2-clause-none : goal.returns-in-Some-constraint_beside-2-clause-none
returns-in-Some-constraint_beside-2-clause-none g c =
    let x = c.in-Some.ensures.some in
    let y = c.in-Some-constraint_beside.ensures.some in
    let z = c.in-Some-constraint_beside-2.ensures.some in
    three_straight c.args.dcel.now c.args.vertex c.in-Some.from c.in-Some-constraint_beside.to x.0 y.0 y.1 c.in-Some-constraint_beside-2._third z.0 z.1 z.2

pub lies_between-requires-clause-ends : goal.lies_between-requires-clause-ends
lies_between-requires-clause-ends g c = record {
  from = end_below c.args.dcel.now c.every_mesh.ensures c.args.vertex c.in-Some.from c.in-Some.ensures.some.0;
  to = end_below c.args.dcel.now c.every_mesh.ensures c.args.vertex c.in-Some-constraint_beside.to c.in-Some-constraint_beside.ensures.some.0;
}

pub returns-then-not-lies_between-clause-none : goal.returns-then-not-lies_between-clause-none
returns-then-not-lies_between-clause-none g c =
    let x = c.in-Some.ensures.some in
    let y = c.in-Some-constraint_beside.ensures.some in
    bent_straight c.args.dcel.now c.args.vertex c.in-Some.from c.in-Some-constraint_beside.to x.0 y.0 y.1
    (λ lies. (let so = c.lies_between.ensures.1 lies in let not = c.if-not-lies_between.true in cc))

pub returns-else-not-lies_between-clause-some : goal.returns-else-not-lies_between-clause-some
returns-else-not-lies_between-clause-some g c = record {
  first = c.in-Some.ensures.some.0;
  second = c.in-Some-constraint_beside.ensures.some.0;
  only = c.in-None.ensures.none;
  between = c.lies_between.ensures.0 c.if-not-lies_between.false;
}
