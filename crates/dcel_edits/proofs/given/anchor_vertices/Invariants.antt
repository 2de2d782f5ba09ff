use Rattle.std.proofs.Common.{◌≡◌, drop, length}
use Rattle.dcel_edits.specs.Given.{anchored_from}
use Rattle.dcel_edits.proofs.given.anchor_vertices.Given as goal

-- with what is left of the list, all are anchored
abbrev pub invariant-loop-half : goal.invariant-loop-half
invariant-loop-half g l = record {
  long : length l.store.vertex_anchors ≡ length l.fn.store.vertex_anchors;
  anchored : record l.store { vertex_anchors = anchored_from l.half (drop l.half l.origin) l.store.vertex_anchors }
      ≡ record l.fn.store { vertex_anchors = anchored_from 0 l.origin l.fn.store.vertex_anchors };
}
