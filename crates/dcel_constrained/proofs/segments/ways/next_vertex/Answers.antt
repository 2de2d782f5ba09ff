use Rattle.std.proofs.Common.{ℕ, subst, sym, arith}
use Rattle.dcel_regions.specs.Marked.{IsMarked}
use Rattle.dcel_constrained.proofs.Opening.{vertices_of}
use Rattle.dcel_constrained.proofs.Reaching.{reaches_along, walk_begins, walk_blocked, walk_goes_on, walk_reaches, walk_short}
use Rattle.dcel_constrained.proofs.segments.ways.next_vertex.Goals as goal

pub returns-in-Vertex : goal.returns-in-Vertex
returns-in-Vertex g c =
    reaches_along c.args.dcel.now c.requires.planar c.args.from c.args.to c.in-Vertex.vertex c.requires.ends c.in-Vertex.ensures

pub loop-step-init : goal.loop-step-init
loop-step-init g c = record {
  planar = c.requires.planar;
  ends = c.requires.ends;
  walk = walk_begins c.args.dcel.now c.requires.planar c.args.from c.args.to c.requires.ends c.in-Side.edge c.in-Side.ensures;
}

pub returns-then-is_marked : goal.returns-then-is_marked
returns-then-is_marked g c =
    let way = c.loop-step.invariant in
    walk_blocked c.args.dcel.now way.planar c.args.from c.args.to way.ends c.loop-step.edge c.loop-step._step way.walk
    (subst (λ (u : ℕ). IsMarked c.args.dcel.now u) c.as_undirected.ensures (c.is_marked.ensures.0 c.if-is_marked.true))

pub met_after-requires-clause-ends : goal.met_after-requires-clause-ends
met_after-requires-clause-ends g c = vertices_of c.args.dcel.now c.requires.planar.mesh c.args.from c.args.to c.requires.ends

pub met_after-requires-clause-live : goal.met_after-requires-clause-live
met_after-requires-clause-live g c = c.loop-step.invariant.walk.comes.crosses.live

pub returns-in-Vertex-met_after : goal.returns-in-Vertex-met_after
returns-in-Vertex-met_after g c =
    let way = c.loop-step.invariant in
    walk_reaches c.args.dcel.now way.planar c.args.from c.args.to way.ends c.loop-step.edge c.loop-step._step way.walk
    (λ marked. (let yes = c.is_marked.ensures.1 (subst (λ (u : ℕ). IsMarked c.args.dcel.now u) (sym c.as_undirected.ensures) marked) in let no = c.if-is_marked.false in cc))
    c.in-Vertex-met_after.vertex c.in-Vertex-met_after.ensures

pub loop-step-preserved : goal.loop-step-preserved
loop-step-preserved g c =
    let way = c.loop-step.invariant in
    record {
      planar = way.planar;
      ends = way.ends;
      walk =
          walk_goes_on c.args.dcel.now way.planar c.args.from c.args.to way.ends c.loop-step.edge c.loop-step._step way.walk
          (λ marked. (let yes = c.is_marked.ensures.1 (subst (λ (u : ℕ). IsMarked c.args.dcel.now u) (sym c.as_undirected.ensures) marked) in let no = c.if-is_marked.false in cc))
          c.in-Side-met_after.next c.in-Side-met_after.ensures;
    }

pub unreachable-requires : goal.unreachable-requires
unreachable-requires g c =
    let way = c.loop-step.invariant in
    let few = walk_short c.args.dcel.now way.planar c.args.from c.args.to way.ends c.loop-step.edge c.loop-step._step way.walk in
    omega (arith, few, c.loop-step-test.false, c.num_directed_edges-step-end.ensures.count)
