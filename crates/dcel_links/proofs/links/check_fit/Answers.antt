use Rattle.std.proofs.Common.{◌≡◌, ◌<◌, length, sym, subst, arith, rules}
use Rattle.dcel_fixed.proofs.Halves.{rev_within}
use Rattle.dcel_links.proofs.links.check_fit.Goals as goal

pub offset_bounds-origin-other_half : goal.offset_bounds-origin-other_half
offset_bounds-origin-other_half c =
    let within = rev_within c.loop-half.half (length c.args.links.next.now) c.requires.lists.even c.loop-half-test.true in
    let below : c.other_half.result < length c.args.links.next.now = subst (λ k. k < length c.args.links.next.now) (sym c.other_half.ensures.value) within in
    let same : length c.args.links.origin.now ≡ length c.args.links.next.now = c.requires.lists.origins in
    let in_range : c.other_half.result < length c.args.links.origin.now = omega arith in
    search rules

pub bounds-origin-other_half : goal.bounds-origin-other_half
bounds-origin-other_half c =
    let within = rev_within c.loop-half.half (length c.args.links.next.now) c.requires.lists.even c.loop-half-test.true in
    let below : c.other_half.result < length c.args.links.next.now = subst (λ k. k < length c.args.links.next.now) (sym c.other_half.ensures.value) within in
    omega arith
