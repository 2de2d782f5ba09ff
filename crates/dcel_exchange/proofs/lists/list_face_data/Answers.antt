use Rattle.std.proofs.Common.{◌∙◌}
use Rattle.dcel_exchange.proofs.ListedData.{next_taken}
use Rattle.dcel_exchange.proofs.lists.list_face_data.Goals as goal

pub loop-number-preserved : goal.loop-number-preserved
loop-number-preserved g c =
    c.in_ok-push.ensures.items
    ∙ next_taken c.args.dcel.now.face_data c.loop-number.list.items c.loop-number.number c.face_data.result.now c.loop-number.invariant
    (rw c.new-face.ensures at c.face_data.ensures)
