use Rattle.std.proofs.Common.{◌≡◌, ◌++◌, drop, length, take}
use Rattle.dcel_edits.proofs.given.set_vertex_anchors.Given as goal

-- with what is left of the anchors, all are set
abbrev pub invariant-loop-number : goal.invariant-loop-number
invariant-loop-number g l = record {
  long : length l.anchors ≡ length l.store.vertex_anchors;
  set : record l.store { vertex_anchors = take l.number l.store.vertex_anchors ++ drop l.number l.anchors }
      ≡ record l.fn.store { vertex_anchors = l.anchors };
}
