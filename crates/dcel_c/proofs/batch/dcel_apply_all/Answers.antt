use Rattle.std.proofs.Common.{◌∙◌, arith}
use Rattle.std.proofs.lemmas.List.{length-set}
use Rattle.dcel_c.specs.Calls.{kept_in}
use Rattle.dcel_c.proofs.Applied.{applies_next, stays_behind}
use Rattle.dcel_c.proofs.batch.dcel_apply_all.Goals as goal

pub loop-at-preserved : goal.loop-at-preserved
loop-at-preserved c =
    let so_far = c.loop-at.invariant in
    record {
      up_to = omega (arith, c.loop-at-test.true);
      room = length-set c.loop-at.replies c.loop-at.at c.apply_one.result ∙ so_far.room;
      behind = stays_behind c.loop-at.replies c.args.replies.now c.loop-at.at c.apply_one.result so_far.behind;
      applied =
          applies_next c.args.edits.now c.loop-at.replies (kept_in c.args.mesh.now) (kept_in c.loop-at.mesh) (kept_in c.apply_one.new.mesh) c.loop-at.at
          (record { call = 0; first = 0; second = 0; third = 0 }) c.apply_one.result c.loop-at-test.true
          (omega (arith, c.loop-at-test.true, so_far.room, c.if-replies-edits.false)) so_far.applied c.apply_one.ensures;
    }
