use Rattle.std.proofs.Common.{refl, arith}
use Rattle.std.proofs.lemmas.Bool.Decides.{nat_tests}
use Rattle.dcel_constrained.proofs.Reaching.{follow_begins, follow_blocked, follow_ends, follow_goes_on, follow_shorter}
use Rattle.dcel_constrained.proofs.segments.ways.is_free_way.Goals as goal

pub loop-to-init : goal.loop-to-init
loop-to-init g c = follow_begins c.args.dcel.now c.requires.planar c.args.from c.args.to c.requires.ends

pub next_vertex-requires-clause-ends : goal.next_vertex-requires-clause-ends
next_vertex-requires-clause-ends g c = c.loop-to.invariant.ends

pub loop-to-preserved : goal.loop-to-preserved
loop-to-preserved g c =
    follow_goes_on c.args.dcel.now c.requires.planar c.args.from c.args.to c.loop-to.at c.loop-to.invariant (grind (arith, nat_tests, c.loop-to-test.true)) c.in-Some.vertex c.in-Some.ensures

pub loop-to-smaller : goal.loop-to-smaller
loop-to-smaller g c =
    follow_shorter c.args.dcel.now c.requires.planar c.args.from c.args.to c.loop-to.at c.loop-to.invariant (grind (arith, nat_tests, c.loop-to-test.true)) c.in-Some.vertex c.in-Some.ensures

pub returns-in-None : goal.returns-in-None
returns-in-None g c =
    let blocked = follow_blocked c.args.dcel.now c.requires.planar c.args.from c.args.to c.loop-to.at c.loop-to.invariant c.in-None.ensures in
    (λ yes. absurd (cc), λ free. absurd (blocked free))

pub returns : goal.returns
returns g c =
    let free = follow_ends c.args.dcel.now c.requires.planar c.args.from c.args.to c.loop-to.at c.loop-to.invariant (grind (arith, nat_tests, c.loop-to-test.false)) in
    (λ yes. free, λ is. refl)
