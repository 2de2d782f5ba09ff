use Rattle.std.proofs.Common.{◌≡◌, ◌-◌, length}
use Rattle.dcel_maps.specs.Shapes.{IsLive, next_of}
use Rattle.dcel_maps.specs.theory.RingTests.{past_listed, rim_step}
use Rattle.spade_dcel.proofs.dcel.Dcel.past.Given as goal

abbrev pub invariant-loop : goal.invariant-loop
invariant-loop g l =
    (past_listed (next_of l.self.shape) l.fn.edges (length l.fn.edges - l.counter) l.next ≡ rim_step (next_of l.self.shape) l.fn.edges l.fn.half)
    × IsLive l.self.shape l.next
