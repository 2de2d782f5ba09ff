use Rattle.std.proofs.Common.{◌∙◌}
use Rattle.dcel_exchange.proofs.ListedData.{next_taken}
use Rattle.dcel_exchange.proofs.lists.list_vertex_data.Goals as goal

pub loop-number-preserved : goal.loop-number-preserved
loop-number-preserved g c =
    c.in_ok-push.ensures.items
    ∙ next_taken c.args.dcel.now.vertex_data c.loop-number.list.items c.loop-number.number c.vertex_data.result.now c.loop-number.invariant
    (rw c.new.ensures at c.vertex_data.ensures)
