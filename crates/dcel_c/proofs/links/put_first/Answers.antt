use Rattle.std.proofs.Common.{List, ap, ◌∙◌, set, arith}
use Rattle.dcel_c.specs.HalfEdges.{links_of}
use Rattle.dcel_c.specs.declared.links.DcelHalfEdge.{DcelHalfEdge}
use Rattle.dcel_c.proofs.Filling.{put-next, put-all}
use Rattle.dcel_c.proofs.links.put_first.Goals as goal

pub loop-number-preserved : goal.loop-number-preserved
loop-number-preserved c =
    let so_far = c.loop-number.invariant in
    record {
      up_to = omega (arith, c.loop-number-test.true);
      put =
          ap (λ (l : List DcelHalfEdge). set l c.loop-number.number c.links.result) so_far.put
          ∙ put-next c.args.dcel.now.shape c.loop-number.number c.args.half_edges.now c.links.result (omega (arith, c.loop-number-test.true, c.requires.room))
          (c.links.ensures ∙ ap (links_of c.args.dcel.now.shape) c.new.ensures);
    }

pub returns : goal.returns
returns c =
    let so_far = c.loop-number.invariant in
    put-all c.args.dcel.now.shape c.loop-number.number c.args.count c.args.half_edges.now c.loop-number.half_edges
    (omega (arith, c.loop-number-test.false, so_far.up_to)) so_far.put
