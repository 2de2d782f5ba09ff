use Rattle.std.proofs.Common.{◌∙◌, length, ap, slice_index}
use Rattle.dcel_exchange.proofs.Chained.{search_begins, search_ends, search_goes_on, search_within}
use Rattle.dcel_exchange.proofs.chains.Chains.search.Goals as goal

pub loop-next-init : goal.loop-next-init
loop-next-init g c =
    search_begins (length c.args.self.now.last.items) c.args.self.now.starts.items c.args.origin.now c.args.self.now.last.items c.args.self.now.before.items c.requires.chained
    c.args.end c.args.other c.requires.below c.index-next.result.now c.index-next.ensures

pub bounds-origin-other_half : goal.bounds-origin-other_half
bounds-origin-other_half g c =
    rw c.other_half.ensures.value
    (search_within (length c.args.self.now.last.items) c.args.self.now.starts.items c.args.origin.now c.args.self.now.last.items c.args.self.now.before.items c.requires.chained
    c.args.end c.args.other c.in-Some.half (rw c.in-Some.is at c.loop-next.invariant))

pub loop-next-preserved : goal.loop-next-preserved
loop-next-preserved g c =
    search_goes_on (length c.args.self.now.last.items) c.args.self.now.starts.items c.args.origin.now c.args.self.now.last.items c.args.self.now.before.items c.requires.chained
    c.args.end c.args.other c.in-Some.half c.index-next-in-Some.result.now (rw c.in-Some.is at c.loop-next.invariant)
    (λ same. c.if-origin-other_half.false (ap (slice_index c.args.origin.now) c.other_half.ensures.value ∙ same)) c.index-next-in-Some.ensures

pub returns : goal.returns
returns g c =
    search_ends (length c.args.self.now.last.items) c.args.self.now.starts.items c.args.origin.now c.args.self.now.last.items c.args.self.now.before.items c.requires.chained
    c.args.end c.args.other c.requires.hangs (rw c.in_default.is at c.loop-next.invariant)
