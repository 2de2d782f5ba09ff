use Rattle.std.proofs.Common.{◌≡◌, ◌-◌, ◌/◌, inl, inr, length, sym, ap, ◌∙◌, arith}
use Rattle.std.proofs.lemmas.Bool.{both_ways, cases_lt}
use Rattle.dcel_fixed.proofs.Halves.{rev-half}
use Rattle.dcel_maps.specs.Shapes.{edge_is_live, next_of}
use Rattle.dcel_maps.specs.Words.{count_of}
use Rattle.dcel_maps.proofs.removal.RingLoops.{past_goes_on, past_out}
use Rattle.dcel_maps.proofs.removal.Passing.{past-stays}
use Rattle.spade_dcel.proofs.dcel.Dcel.past.Goals as goal

pub returns-then-not-is_among-clause-value : goal.returns-then-not-is_among-clause-value
returns-then-not-is_among-clause-value g c =
    let none : count_of (c.loop.next / 2) c.args.edges.now ≡ 0 = elim (cases_lt 0 (count_of (c.loop.next / 2) c.args.edges.now)) [
      | inl found ↦ absurd (both_ways c.is_among.result c.if-not-is_among.true (c.is_among.ensures.1 (rw c.as_undirected.ensures found)))
      | inr not ↦ omega (arith, not)
    ] in
    sym (past-stays (next_of c.args.self.now.shape) c.args.edges.now (length c.args.edges.now - c.loop.counter) c.loop.next none) ∙ c.loop.invariant.0

pub next_edge-next-requires-in-loop : goal.next_edge-next-requires-in-loop
next_edge-next-requires-in-loop g c =
    rw c.rev.ensures (ap (edge_is_live c.args.self.now.shape) (rev-half c.loop.next) ∙ c.loop.invariant.1)

pub loop-preserved : goal.loop-preserved
loop-preserved g c = (
  rw (c.next_edge-next-in-loop.ensures.value, c.rev.ensures)
      (sym (past_goes_on (next_of c.args.self.now.shape) c.args.edges.now (length c.args.edges.now) c.loop.counter c.loop.next (omega arith)
      (rw c.as_undirected.ensures at (c.is_among.ensures.0 c.if-not-is_among.false)))
      ∙ c.loop.invariant.0),
  c.next_edge-next-in-loop.ensures.live,
)

pub returns-clause-value : goal.returns-clause-value
returns-clause-value g c =
    sym (past_out (next_of c.args.self.now.shape) c.args.edges.now (length c.args.edges.now - c.loop.counter) c.loop.next (omega arith)) ∙ c.loop.invariant.0
