use Rattle.std.proofs.Common.{◌<◌, length, arith}
use Rattle.std.proofs.lemmas.Option.{slice_get-get_or}
use Rattle.dcel_triangulations.specs.constrained.Lists.{depth_told}
use Rattle.dcel_triangulations.proofs.Filling.{put_next}
use Rattle.dcel_triangulations.proofs.constrained.marks.put_depths.Goals as goal

pub loop-at-preserved : goal.loop-at-preserved
loop-at-preserved c =
    let list = c.args.list.now in
    let k = c.loop-at.at in
    let test = c.loop-at-test.true in
    let fits = c.if-buffer-list.false in
    let below : k < length list = omega (arith, test) in
    record {
      up_to = omega (arith, below);
      put = put_next depth_told list c.args.buffer.now c.loop-at.buffer k _ c.tell_depth.result (slice_get-get_or list k _ below) c.tell_depth.ensures (omega (arith, below, fits)) c.loop-at.invariant.put;
    }
