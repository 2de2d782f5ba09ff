use Rattle.std.proofs.Common.{◌≡◌, ◌++◌, drop, map, take}
use Rattle.dcel_output.specs.Numbering.{ends_numbered}
use Rattle.dcel_output.proofs.numbering.number_edges.Given as goal

abbrev pub invariant-loop-ends : goal.invariant-loop-ends
invariant-loop-ends l = l.edges ≡ map (ends_numbered l.numbers) (take l.ends-index l.fn.edges) ++ drop l.ends-index l.fn.edges
