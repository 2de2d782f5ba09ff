use Rattle.std.proofs.Common.{◌≡◌, ◌-◌, reverse, vec_len}
use Rattle.dcel_maps.specs.Renumbering.{new_number}
use Rattle.dcel_delaunay.proofs.Renaming.{partly}
use Rattle.dcel_delaunay.proofs.remove.cleanup.renumber.Given as goal

abbrev pub invariant-loop-at : goal.invariant-loop-at
invariant-loop-at g l = l.due.items ≡ partly (new_number l.fn.count (reverse l.fn.taken_out)) l.at l.fn.due.items

abbrev pub decreases-loop-at : goal.decreases-loop-at
decreases-loop-at g l = vec_len l.due - l.at
