use Rattle.std.proofs.Common.{◌<◌, length, refl, arith}
use Rattle.std.proofs.lemmas.Option.{slice_get_read}
use Rattle.dcel_triangulations.specs.Lists.{point_told}
use Rattle.dcel_triangulations.proofs.Filling.{put_next}
use Rattle.dcel_triangulations.proofs.buffers.put_points.Goals as goal

pub loop-at-preserved : goal.loop-at-preserved
loop-at-preserved c =
    let list = c.args.list.now in
    let k = c.loop-at.at in
    let test = c.loop-at-test.true in
    let fits = c.if-buffer-list.false in
    let item = c.index-list-at.result in
    let below : k < length list = omega (arith, test) in
    record {
      up_to = omega (arith, below);
      put = put_next point_told list c.args.buffer.now c.loop-at.buffer k item c.tell_point.result (slice_get_read list (length list) k item refl below c.index-list-at.is) c.tell_point.ensures (omega (arith, below, fits)) c.loop-at.invariant.put;
    }
