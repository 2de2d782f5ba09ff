use Rattle.std.proofs.Common.{arith, eqb-true, sym, ◌∙◌}
use Rattle.std.proofs.lemmas.Bool.{not-false}
use Rattle.std.proofs.lemmas.Bool.Decides.{nat_tests}
use Rattle.dcel_edits.proofs.stored.Halves.{holds_half, on_triangle-iff, opposite_start}
use Rattle.dcel_edits.proofs.stored.Holding.{holds}
use Rattle.spade_dcel.proofs.dcel.Dcel.opposite_corner.Goals as goal

pub prev-requires : goal.prev-requires
prev-requires g c =
    let half = holds_half (holds c.self.invariant c.self.view_is) c.args.handle c.requires in
    rw c.prev-before.ensures half.within.prev_in

pub returns-then-ne : goal.returns-then-ne
returns-then-ne g c =
    let triangle = on_triangle-iff (holds c.self.invariant c.self.view_is) c.args.handle c.requires in
    let back = rw (← c.prev-before.ensures, ← c.prev.ensures, ← c.next-after.ensures) at triangle.1 in
    λ is. let same = back is in grind (arith, nat_tests)

pub origin-requires : goal.origin-requires
origin-requires g c =
    let half = holds_half (holds c.self.invariant c.self.view_is) c.args.handle c.requires in
    let after = holds_half (holds c.self.invariant c.self.view_is) _ half.next_live in
    rw (c.rev.ensures, c.next-after.ensures, half.next) after.within.twin_in

pub returns : goal.returns
returns g c =
    let held = holds c.self.invariant c.self.view_is in
    let triangle = on_triangle-iff held c.args.handle c.requires in
    let same = eqb-true _ _ (not-false _ (sym c.ne.ensures ∙ c.if-ne.false)) in
    let is = triangle.0 (rw (← c.prev-before.ensures, ← c.prev.ensures, ← c.next-after.ensures) same) in
    (is, rw (c.origin.ensures, c.rev.ensures, c.next-after.ensures) (opposite_start held c.args.handle c.requires is))
