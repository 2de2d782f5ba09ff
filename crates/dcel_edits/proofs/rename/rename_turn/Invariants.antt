use Rattle.dcel_edits.proofs.Rounds.{IsWriting, writes_left}
use Rattle.dcel_edits.proofs.Turning.{origins_part}
use Rattle.dcel_edits.proofs.rename.rename_turn.Given as goal

abbrev pub invariant-loop-vertex : goal.invariant-loop-vertex
invariant-loop-vertex g l = IsWriting (origins_part l.fn.store l.vertex) l.fn.store.origin l.initial.first l.store l.first l.last

abbrev pub decreases-loop-vertex : goal.decreases-loop-vertex
decreases-loop-vertex g l = writes_left (origins_part l.fn.store l.vertex) l.fn.store.origin l.initial.first l.first l.last
