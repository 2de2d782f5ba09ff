use Rattle.std.proofs.Common.{◌≡◌, ◌∙◌, ◌%◌, length, sym, arith}
use Rattle.dcel_fixed.proofs.Halves.{rev_within}
use Rattle.dcel_exchange.proofs.linking.next_after.Goals as goal

pub after-requires : goal.after-requires
after-requires g c =
    let is = c.requires.numbered.only c.args.half c.in-Some.side (sym c.side.ensures ∙ c.in-Some.is) in
    omega (arith, is.0, c.requires.afters)

pub origin-requires : goal.origin-requires
origin-requires g c =
    let edges = c.requires.numbered.edges in
    let even : length c.args.numbering.now.origin.items % 2 ≡ 0 = omega (arith, edges) in
    rw c.other_place.ensures (rev_within c.args.half (length c.args.numbering.now.origin.items) even c.requires.within)
