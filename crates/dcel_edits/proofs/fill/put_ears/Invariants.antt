use Rattle.std.proofs.Common.{length, reverse, slice_index}
use Rattle.dcel_edits.specs.Fill.{EarsPut, begun_stored, closing}
use Rattle.dcel_edits.proofs.Ears.{PuttingEars}
use Rattle.dcel_edits.proofs.fill.put_ears.Given as goal

abbrev pub invariant-loop-following : goal.invariant-loop-following
invariant-loop-following g l =
    let s = l.fn.store in
    PuttingEars g.DE.Default.is_default g.UE.Default.is_default g.F.Default.is_default l.apex
    (EarsPut g.DE.Default.is_default g.UE.Default.is_default g.F.Default.is_default (slice_index s.origin l.fn.first)
    (begun_stored s l.fn.first l.fn.second (closing (length s.undirected_data) l.fn.third (reverse l.fn.left))) l.fn.first l.fn.second l.fn.third (reverse l.fn.left))
    l.store l.beginning l.middle l.end l.to_come

abbrev pub decreases-loop-following : goal.decreases-loop-following
decreases-loop-following g l = length l.to_come
