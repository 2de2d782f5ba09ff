use Rattle.std.proofs.Common.{rules, ◌≡◌, ◌<◌, [], arith}
use Rattle.dcel_maps.specs.Shapes.{map_of}
use Rattle.dcel_maps.proofs.maps.Lists.{extends_same}
use Rattle.dcel_legalize.proofs.Course.{begins, done, out_of_memory, passes, stopped, turns}
use Rattle.dcel_legalize.proofs.Runs.{flips_once_more}
use Rattle.dcel_legalize.proofs.legalize.legalize_edges.Goals as goal

pub loop-edge-init : goal.loop-edge-init
loop-edge-init g c = record {
  mesh = c.every_mesh.ensures;
  few = omega arith;
  edits = extends_same (map_of c.args.dcel.now.shape);
  way = λ w answers. begins w c.args.dcel.now c.args.list.items c.args.max_flips;
}

pub loop-edge-preserved-then-not-is_due : goal.loop-edge-preserved-then-not-is_due
loop-edge-preserved-then-not-is_due g c = record {
  mesh = c.loop-edge.invariant.mesh;
  few = c.loop-edge.invariant.few;
  edits = c.loop-edge.invariant.edits;
  way = λ w answers.
      passes w c.args.dcel.now c.args.list.items c.args.max_flips c.loop-edge.dcel c.pop.new.self.items c.loop-edge.flips c.in-Some.edge
      (rw c.in-Some.ensures.items at (c.loop-edge.invariant.way w answers))
      (λ due. let yes = (c.is_due.ensures.due w answers).1 due in let no = c.if-not-is_due.true in cc);
}

pub returns-then-flips-max_flips-clause-run : goal.returns-then-flips-max_flips-clause-run
returns-then-flips-max_flips-clause-run g c =
    λ w answers.
    stopped w c.args.dcel.now c.args.list.items c.args.max_flips c.every_mesh.ensures c.loop-edge.dcel c.loop-edge.list.items c.loop-edge.flips
    (c.loop-edge.invariant.way w answers) c.pop.new.self.items c.in-Some.edge c.in-Some.ensures.items c.if-flips-max_flips.true
    ((c.is_due.ensures.due w answers).0 c.if-not-is_due.false)

pub returns-then-is_err-clause-run : goal.returns-then-is_err-clause-run
returns-then-is_err-clause-run g c =
    λ w answers.
    out_of_memory w c.args.dcel.now c.args.list.items c.args.max_flips c.every_mesh.ensures c.loop-edge.dcel c.loop-edge.list.items
    c.loop-edge.flips (c.loop-edge.invariant.way w answers) c.pop.new.self.items c.in-Some.edge c.in-Some.ensures.items
    (omega (arith, c.loop-edge.invariant.few)) ((c.is_due.ensures.due w answers).0 c.if-not-is_due.false)

pub loop-edge-preserved : goal.loop-edge-preserved
loop-edge-preserved g c =
    let less : c.loop-edge.flips < c.args.max_flips = omega (arith, c.loop-edge.invariant.few) in
    record {
      mesh = c.flip_cw.ensures.mesh;
      few = omega (arith, less);
      edits = flips_once_more c.loop-edge.flips c.args.dcel.now c.loop-edge.dcel c.flip_cw.new.dcel c.loop-edge.invariant.edits c.flip_cw.ensures.edits;
      way = λ w answers.
          rw (c.append_beside.ensures, c.flip_cw.ensures.edit, c.reserve.ensures.items)
          (turns w c.args.dcel.now c.args.list.items c.args.max_flips c.loop-edge.dcel c.pop.new.self.items c.loop-edge.flips c.in-Some.edge
          (rw c.in-Some.ensures.items at (c.loop-edge.invariant.way w answers)) less
          ((c.is_due.ensures.due w answers).0 c.if-not-is_due.false));
    }

pub returns-clause-run : goal.returns-clause-run
returns-clause-run g c =
    let none : c.loop-edge.list.items ≡ [] = search (rules, c.in_default.ensures.cases.0) in
    λ w answers.
    done w c.args.dcel.now c.args.list.items c.args.max_flips c.every_mesh.ensures c.loop-edge.dcel c.loop-edge.list.items c.loop-edge.flips
    (c.loop-edge.invariant.way w answers) none
