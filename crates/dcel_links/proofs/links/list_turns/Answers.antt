use Rattle.std.proofs.Common.{◌<◌, length, sym, subst, rules}
use Rattle.dcel_fixed.proofs.Halves.{rev_within}
use Rattle.dcel_links.proofs.links.list_turns.Goals as goal

pub offset_bounds-next-other_half : goal.offset_bounds-next-other_half
offset_bounds-next-other_half g c =
    let within = rev_within c.loop-half.half (length c.args.next.now) c.requires c.loop-half-test.true in
    let below : c.other_half.result < length c.args.next.now = subst (λ k. k < length c.args.next.now) (sym c.other_half.ensures.value) within in
    search rules

pub bounds-next-other_half : goal.bounds-next-other_half
bounds-next-other_half g c =
    subst (λ k. k < length c.args.next.now) (sym c.other_half.ensures.value)
    (rev_within c.loop-half.half (length c.args.next.now) c.requires c.loop-half-test.true)
