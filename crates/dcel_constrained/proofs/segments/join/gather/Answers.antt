use Rattle.std.proofs.Common.{ℕ, ◌<◌, List, subst, sym, arith}
use Rattle.dcel_maps.specs.Words.{count_of}
use Rattle.dcel_plane.specs.Plane.{point_at}
use Rattle.dcel_constrained.proofs.Gathering.{comes_there, goes_on, kept_now, way_begins, way_short}
use Rattle.dcel_constrained.proofs.Opening.{vertices_of}
use Rattle.dcel_constrained.proofs.segments.join.gather.Goals as goal

pub loop-step-init : goal.loop-step-init
loop-step-init g c = record {
  planar = c.requires.planar;
  ends = c.requires.ends;
  way =
      way_begins c.args.dcel.now (point_at c.args.dcel.now) c.requires.planar c.args.from c.args.to c.requires.ends c.args.first c.args.crossed.now.items c.args.due.now.items
      c.requires.empty c.requires.begins;
  kept = λ u there. there;
}

pub note-requires : goal.note-requires
note-requires g c = c.loop-step.invariant.way.comes.crosses.live

pub met_after-requires-clause-ends : goal.met_after-requires-clause-ends
met_after-requires-clause-ends g c = vertices_of c.args.dcel.now c.requires.planar.mesh c.args.from c.args.to c.requires.ends

pub met_after-requires-clause-live : goal.met_after-requires-clause-live
met_after-requires-clause-live g c = c.loop-step.invariant.way.comes.crosses.live

pub returns-in_err-note-clause-kept : goal.returns-in_err-note-clause-kept
returns-in_err-note-clause-kept g c u there = subst (λ (l : List ℕ). 0 < count_of u l) (sym c.in_err-note.ensures.same) (c.loop-step.invariant.kept u there)

pub returns-in-Vertex : goal.returns-in-Vertex
returns-in-Vertex g c = record {
  come =
      comes_there c.args.dcel.now (point_at c.args.dcel.now) c.args.from c.args.to c.args.due.now.items c.loop-step.crossed.items c.loop-step.due.items c.loop-step.edge c.loop-step._step
      c.loop-step.invariant c.note.new.crossed.items c.note.new.due.items c.in_ok-note.ensures.crossed c.in_ok-note.ensures.due c.in-Vertex.vertex c.in-Vertex.ensures;
  kept =
      kept_now c.args.dcel.now (point_at c.args.dcel.now) c.args.from c.args.to c.args.due.now.items c.loop-step.crossed.items c.loop-step.due.items c.loop-step.edge c.loop-step._step
      c.loop-step.invariant c.note.new.crossed.items c.note.new.due.items c.in_ok-note.ensures.crossed c.in_ok-note.ensures.due;
}

pub loop-step-preserved : goal.loop-step-preserved
loop-step-preserved g c =
    goes_on c.args.dcel.now (point_at c.args.dcel.now) c.args.from c.args.to c.args.due.now.items c.loop-step.crossed.items c.loop-step.due.items c.loop-step.edge c.loop-step._step
    c.loop-step.invariant c.note.new.crossed.items c.note.new.due.items c.in_ok-note.ensures.crossed c.in_ok-note.ensures.due c.in-Side.next c.in-Side.ensures

pub unreachable-requires : goal.unreachable-requires
unreachable-requires g c =
    let way = c.loop-step.invariant in
    let few = way_short c.args.dcel.now (point_at c.args.dcel.now) way.planar c.args.from c.args.to way.ends c.loop-step.crossed.items c.loop-step.due.items
    c.loop-step.edge c.loop-step._step way.way in
    omega (arith, few, c.loop-step-test.false, c.num_directed_edges-step-end.ensures.count)
