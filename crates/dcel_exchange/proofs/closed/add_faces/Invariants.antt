use Rattle.std.proofs.Common.{◌≡◌, ◌++◌, map, take}
use Rattle.dcel_exchange.specs.Corners.{corners_of}
use Rattle.dcel_exchange.proofs.closed.add_faces.Given as goal

abbrev pub invariant-loop-face : goal.invariant-loop-face
invariant-loop-face g l =
    map (λ corners. corners.now) l.list.items ≡ map (λ corners. corners.now) l.fn.list.items ++ corners_of (take l.face-index l.faces)
