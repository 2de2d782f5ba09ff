use Rattle.std.proofs.Common.{◌<◌, length, refl, arith}
use Rattle.std.proofs.lemmas.Option.{slice_get_read}
use Rattle.std.proofs.Math.Nat.{min-le_left, min-le_right}
use Rattle.dcel_triangulations.specs.Positions.{position_told}
use Rattle.dcel_triangulations.proofs.Filling.{put_next}
use Rattle.dcel_triangulations.proofs.locating.put_positions.Goals as goal

pub loop-at-preserved : goal.loop-at-preserved
loop-at-preserved c =
    let list = c.args.list.now in
    let before = c.args.buffer.now in
    let k = c.loop-at.at in
    let test = c.loop-at-test.true in
    let fitting = c.min-fitting.ensures in
    let few = min-le_left (length list) (length before) in
    let room = min-le_right (length list) (length before) in
    let item = c.index-list-at.result in
    let below : k < length list = omega (arith, test, fitting, few) in
    record {
      up_to = omega (arith, test);
      put = put_next position_told list before c.loop-at.buffer k item c.tell_position.result (slice_get_read list (length list) k item refl below c.index-list-at.is) c.tell_position.ensures (omega (arith, test, fitting, room)) c.loop-at.invariant.put;
    }
