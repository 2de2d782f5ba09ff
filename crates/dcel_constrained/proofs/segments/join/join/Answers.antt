use Rattle.std.proofs.Common.{arith, refl}
use Rattle.std.proofs.lemmas.Bool.Decides.{nat_tests}
use Rattle.dcel_plane.specs.Plane.{point_at}
use Rattle.dcel_constrained.proofs.Ending.{all_crossed, along_joins, each_crosses, lists_still}
use Rattle.dcel_constrained.proofs.Passing.{edges_cross_nothing}
use Rattle.dcel_constrained.proofs.segments.join.join.Goals as goal

pub returns-in-Vertex-clause-joined : goal.returns-in-Vertex-clause-joined
returns-in-Vertex-clause-joined g c =
    along_joins c.args.dcel.now c.requires.planar.mesh c.args.from c.args.to c.in-Vertex.vertex c.reached.result c.in-Vertex.ensures c.reached.ensures.edge c.reached.ensures.between

pub returns-in_default-clause-lists : goal.returns-in_default-clause-lists
returns-in_default-clause-lists g c = λ lacking lists.
    lists_still (point_at c.args.dcel.now) c.args.dcel.now.shape c.args.due.now.items c.gather.new.due.items lacking c.gather.ensures.kept lists

pub returns-then-ne-clause-lists : goal.returns-then-ne-clause-lists
returns-then-ne-clause-lists g c = λ lacking lists.
    lists_still (point_at c.args.dcel.now) c.args.dcel.now.shape c.args.due.now.items c.gather.new.due.items lacking c.gather.ensures.kept lists

pub connect-requires-clause-channel : goal.connect-requires-clause-channel
connect-requires-clause-channel g c =
    all_crossed (point_at c.args.dcel.now) c.args.dcel.now.shape c.args.from c.args.to c.gather.new.crossed.items c.gather.new.due.items c.in-Ok.vertex c.in-Ok.ensures.come
    (grind (arith, nat_tests, c.ne.ensures, c.if-ne.false))

pub returns-clause-joined : goal.returns-clause-joined
returns-clause-joined g c =
    let channel =
    all_crossed (point_at c.args.dcel.now) c.args.dcel.now.shape c.args.from c.args.to c.gather.new.crossed.items c.gather.new.due.items c.in-Ok.vertex c.in-Ok.ensures.come
    (grind (arith, nat_tests, c.ne.ensures, c.if-ne.false)) in (
      c.connect.ensures.joined,
      (
        c.gather.new.crossed.items,
        c.connect.ensures.turns,
        each_crosses (point_at c.args.dcel.now) c.args.dcel.now.shape c.args.from c.args.to c.gather.new.crossed.items channel,
      ),
    )

pub returns-clause-lists : goal.returns-clause-lists
returns-clause-lists g c = λ lacking lists.
    c.connect.ensures.lists c.gather.new.due.items lacking c.in-Ok.ensures.come.sides
    (lists_still (point_at c.args.dcel.now) c.args.dcel.now.shape c.args.due.now.items c.gather.new.due.items lacking c.gather.ensures.kept lists)

pub returns-in-Vertex-clause-same : goal.returns-in-Vertex-clause-same
returns-in-Vertex-clause-same g c h leads = (refl, refl)

pub returns-then-ne-clause-same : goal.returns-then-ne-clause-same
returns-then-ne-clause-same g c h leads =
    absurd (edges_cross_nothing c.args.dcel.now (point_at c.args.dcel.now) c.requires.planar c.args.from c.args.to h leads.live leads.start leads.end c.in-Side.edge
    c.in-Side.ensures.crosses)

pub returns-clause-same : goal.returns-clause-same
returns-clause-same g c h leads =
    absurd (edges_cross_nothing c.args.dcel.now (point_at c.args.dcel.now) c.requires.planar c.args.from c.args.to h leads.live leads.start leads.end c.in-Side.edge
    c.in-Side.ensures.crosses)

pub returns-in_default-clause-same : goal.returns-in_default-clause-same
returns-in_default-clause-same g c h leads =
    absurd (edges_cross_nothing c.args.dcel.now (point_at c.args.dcel.now) c.requires.planar c.args.from c.args.to h leads.live leads.start leads.end c.in-Side.edge
    c.in-Side.ensures.crosses)
