use Rattle.std.proofs.Common.{refl}
use Rattle.dcel_edits.proofs.GivingUp.{drops_end, drops_on, drops_within}
use Rattle.dcel_edits.proofs.fill.drop_anchors.Goals as goal

pub loop-face-init : goal.loop-face-init
loop-face-init g c = record { same = refl; faces_in = c.requires }

pub set_face_anchor-requires : goal.set_face_anchor-requires
set_face_anchor-requires g c =
    rw c.adjust_inner_outer.ensures
    (drops_within c.args.store.now c.args.faces.now c.loop-face.store c.loop-face.left.now c.in-Some.after.now c.in-Some.field-0-0.now c.loop-face.invariant c.in-Some.ensures.cases.0)

pub loop-face-preserved : goal.loop-face-preserved
loop-face-preserved g c =
    rw (c.set_face_anchor.ensures, c.adjust_inner_outer.ensures)
    (drops_on c.args.store.now c.args.faces.now c.loop-face.store c.loop-face.left.now c.in-Some.after.now c.in-Some.field-0-0.now c.loop-face.invariant c.in-Some.ensures.cases.0)

pub returns : goal.returns
returns g c = drops_end c.args.store.now c.args.faces.now c.loop-face.store c.loop-face.left.now c.loop-face.invariant c.in_default.ensures.cases
