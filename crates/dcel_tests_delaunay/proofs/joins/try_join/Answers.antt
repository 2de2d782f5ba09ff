use Rattle.dcel_tests_delaunay.proofs.joins.try_join.Goals as goal

pub join-requires-clause-ends : goal.join-requires-clause-ends
join-requires-clause-ends g c =
    let from = c.has_edge.ensures c.if-not-has_edge.false in
    let to = c.has_edge-2.ensures c.if-not-has_edge-2.false in
    record { i = from.0; live_i = from.1; from_i = from.2; j = to.0; live_j = to.1; from_j = to.2 }
