use Rattle.std.proofs.Common.{sym, ◌∙◌, rules}
use Rattle.dcel_edits.proofs.Rounds.{anchor_stands, next_write, write_meets, writing_begins, writing_stands}
use Rattle.dcel_edits.proofs.Turning.{faces_part}
use Rattle.dcel_edits.proofs.rename.rename_word.Goals as goal

pub prev-last-requires : goal.prev-last-requires
prev-last-requires g c =
    anchor_stands (faces_part c.args.store.now c.args.face) c.args.store.now.face _ _ c.requires.walks (sym c.face_anchor.ensures ∙ c.in-Some.is)

pub loop-face-init : goal.loop-face-init
loop-face-init g c =
    writing_begins (faces_part c.args.store.now c.args.face) c.args.store.now.face _ _ _ c.requires.walks (sym c.face_anchor.ensures ∙ c.in-Some.is) c.prev-last.ensures

pub set_face-requires : goal.set_face-requires
set_face-requires g c = rw c.loop-face.invariant.is (writing_stands _ _ _ c.loop-face.invariant).0

pub returns-then-eq : goal.returns-then-eq
returns-then-eq g c =
    rw (sym c.face_anchor.ensures ∙ c.in-Some.is) (write_meets _ _ _ c.loop-face.invariant c.set_face.ensures (search rules))

pub set_face-requires-in-loop-face : goal.set_face-requires-in-loop-face
set_face-requires-in-loop-face g c = rw (c.set_face.ensures, c.loop-face.invariant.is) (writing_stands _ _ _ c.loop-face.invariant).1

pub next-after-requires : goal.next-after-requires
next-after-requires g c =
    rw (c.set_face-in-loop-face.ensures, c.set_face.ensures, c.loop-face.invariant.is) (writing_stands _ _ _ c.loop-face.invariant).0

pub returns-then-eq-2 : goal.returns-then-eq-2
returns-then-eq-2 g c =
    let next = next_write _ _ _ c.loop-face.invariant c.set_face.ensures c.set_face-in-loop-face.ensures (search rules) c.next-after.ensures in
    rw (sym c.face_anchor.ensures ∙ c.in-Some.is) (next.meets (search rules))

pub prev-last-requires-in-loop-face : goal.prev-last-requires-in-loop-face
prev-last-requires-in-loop-face g c =
    rw (c.set_face-in-loop-face.ensures, c.set_face.ensures, c.loop-face.invariant.is) (writing_stands _ _ _ c.loop-face.invariant).1

pub loop-face-smaller : goal.loop-face-smaller
loop-face-smaller g c =
    let next = next_write _ _ _ c.loop-face.invariant c.set_face.ensures c.set_face-in-loop-face.ensures (search rules) c.next-after.ensures in
    (next.goes_on (search rules) _ c.prev-last-in-loop-face.ensures).1

pub loop-face-preserved : goal.loop-face-preserved
loop-face-preserved g c =
    let next = next_write _ _ _ c.loop-face.invariant c.set_face.ensures c.set_face-in-loop-face.ensures (search rules) c.next-after.ensures in
    (next.goes_on (search rules) _ c.prev-last-in-loop-face.ensures).0
