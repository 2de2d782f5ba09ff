use Rattle.mesh_page.proofs.Between.{constraint_between, none_between}
use Rattle.mesh_page.proofs.constrained.segments.edge_between.Goals as goal

pub returns-in-Some-clause-some : goal.returns-in-Some-clause-some
returns-in-Some-clause-some c =
    constraint_between c.args.points.now c.dcel.result.now c.vertex.result c.vertex-2.result c.args.from c.args.to c.dcel.ensures.mesh c.vertex.ensures c.vertex-2.ensures
    c.in-Some.half _ c.as_undirected.ensures c.in-Some.ensures.some.0 c.in-Some.ensures.some.1

pub returns-in-None-clause-none : goal.returns-in-None-clause-none
returns-in-None-clause-none c =
    none_between c.args.points.now c.dcel.result.now c.vertex.result c.vertex-2.result c.args.from c.args.to c.dcel.ensures.mesh c.vertex.ensures c.vertex-2.ensures
    c.in-None.ensures.none
