use Rattle.dcel_maps.specs.Shapes.{vertex_anchor}
use Rattle.dcel_exchange.proofs.ListedAnchors.{Gathers}
use Rattle.dcel_exchange.proofs.lists.list_vertex_anchors.Given as goal

abbrev pub invariant-loop-vertex : goal.invariant-loop-vertex
invariant-loop-vertex g l = Gathers (λ m n. vertex_anchor m n) l.dcel.vertex_anchors l.anchors.items l.vertex-iterator
