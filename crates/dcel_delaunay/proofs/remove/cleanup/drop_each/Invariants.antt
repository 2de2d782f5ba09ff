use Rattle.std.proofs.Common.{◌-◌, ◌==◌, not, vec_len}
use Rattle.std.specs.List.{list_any}
use Rattle.dcel_delaunay.proofs.Fewer.{KeepsNeeded}
use Rattle.dcel_delaunay.proofs.remove.cleanup.drop_each.Given as goal

abbrev pub invariant-loop-at : goal.invariant-loop-at
invariant-loop-at g l = KeepsNeeded (λ u. not (list_any (λ e. e == u) l.gone)) l.fn.due.items l.due.items

abbrev pub decreases-loop-at : goal.decreases-loop-at
decreases-loop-at g l = vec_len l.due - l.at
