use Rattle.dcel_maps.specs.Shapes.{face_anchor, next_of}
use Rattle.dcel_maps.specs.theory.RingTests.{IsCovered}
use Rattle.dcel_maps.specs.Walking.{walk_from}
use Rattle.dcel_maps.proofs.removal.RingLoops.{IsCovering}
use Rattle.spade_dcel.proofs.dcel.Dcel.is_covered.Given as goal

abbrev pub invariant-loop-edge : goal.invariant-loop-edge
invariant-loop-edge g l =
    IsCovering l.self (IsCovered l.fn.edges l.fn.list) (walk_from l.self.shape (next_of l.self.shape) (face_anchor l.self l.fn.face)) l.edge-iterator.items
