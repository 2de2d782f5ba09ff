use Rattle.std.proofs.Common.{◌≡◌, ◌++◌, ap, ◌∙◌, arith, length, sym, subst}
use Rattle.dcel_maps.proofs.words.Ascending.{length-ascending}
use Rattle.dcel_maps.specs.Removals.{ascending}
use Rattle.dcel_record.proofs.Twice.{twice, twice-first, whole_slice}
use Rattle.dcel_record.proofs.given_up.GivenUp.give_up.Goals as goal
use Rattle.dcel_record.proofs.given_up.GivenUp.give_up.Goals.{In_ok-extend_from_slice-2}
use Rattle.dcel_record.specs.GivenUp.{IsTwice, first_half}

-- the list is sorted, and then there once more
pub held_twice : (g : _) (c : In_ok-extend_from_slice-2 g)
    → c.extend_from_slice-2.new.self.items ≡ ascending c.args.list.now ++ c.args.list.now
held_twice g c =
    let given = c.in_ok-extend_from_slice.ensures.items ∙ ap (λ items. items ++ c.args.list.now) (c.in_ok-reserve_exact.ensures.items ∙ c.clear.ensures.items) in
    let sorted = c.sort.ensures ∙ ap ascending (c.deref_mut.ensures.value ∙ given) in
    let long : c.extend_from_slice.new.self.len ≡ length c.sort.new.list = omega (arith, c.deref_mut.ensures.len, length-ascending c.deref_mut.result.now, ap length c.sort.ensures) in
    c.in_ok-extend_from_slice-2.ensures.items ∙ ap (λ items. items ++ c.args.list.now) (whole_slice _ c.sort.new.list _ long ∙ sorted)

pub invariant_of-self-2 : goal.invariant_of-self-2
invariant_of-self-2 g c = subst IsTwice (sym (held_twice g c)) (twice c.args.list.now)

pub returns-clause-given_up : goal.returns-clause-given_up
returns-clause-given_up g c = ap first_half (held_twice g c) ∙ twice-first c.args.list.now
