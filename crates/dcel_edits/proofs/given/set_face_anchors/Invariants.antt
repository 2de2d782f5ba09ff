use Rattle.std.proofs.Common.{◌≡◌, ◌++◌, drop, length, take}
use Rattle.dcel_edits.proofs.given.set_face_anchors.Given as goal

-- with what is left of the anchors, all are set
abbrev pub invariant-loop-number : goal.invariant-loop-number
invariant-loop-number g l = record {
  long : length l.anchors ≡ length l.store.face_anchors;
  set : record l.store { face_anchors = take l.number l.store.face_anchors ++ drop l.number l.anchors }
      ≡ record l.fn.store { face_anchors = l.anchors };
}
