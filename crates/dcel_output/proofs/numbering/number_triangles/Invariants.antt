use Rattle.std.proofs.Common.{◌≡◌, ◌++◌, drop, map, take}
use Rattle.dcel_output.specs.Numbering.{triangle_numbered}
use Rattle.dcel_output.proofs.numbering.number_triangles.Given as goal

abbrev pub invariant-loop-triangle : goal.invariant-loop-triangle
invariant-loop-triangle l = l.triangles ≡ map (triangle_numbered l.numbers) (take l.triangle-index l.fn.triangles) ++ drop l.triangle-index l.fn.triangles
