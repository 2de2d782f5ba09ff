use Rattle.dcel_edits.proofs.Rounds.{IsWriting, writes_left}
use Rattle.dcel_edits.proofs.Turning.{faces_part}
use Rattle.dcel_edits.proofs.rename.rename_word.Given as goal

abbrev pub invariant-loop-face : goal.invariant-loop-face
invariant-loop-face g l = IsWriting (faces_part l.fn.store l.face) l.fn.store.face l.initial.first l.store l.first l.last

abbrev pub decreases-loop-face : goal.decreases-loop-face
decreases-loop-face g l = writes_left (faces_part l.fn.store l.face) l.fn.store.face l.initial.first l.first l.last
