use Rattle.std.proofs.Common.{◌≡◌, ◌∙◌, length, subst, sym, arith}
use Rattle.dcel_exchange.specs.Numbering.{AreDistinct, AreNumbered}
use Rattle.dcel_exchange.proofs.NumberedSides.{taken}
use Rattle.dcel_exchange.proofs.numbering.number_sides.Goals as goal

pub owner-requires : goal.owner-requires
owner-requires g c =
    let was = taken c.args.sides.now.from.items c.args.sides.now.to.items c.loop-side.side c.loop-side.numbering.half.items c.loop-side.numbering.side.items
    c.loop-side.numbering.origin.items c.loop-side.invariant.numbered c.loop-side.invariant.distinct c.find-found.result c.in-Some.other
    (rw (← c.deref-in-loop-side.ensures.value, ← c.ends-from.ensures.start, ← c.ends-from.ensures.end) c.find-found.ensures) (sym c.side_of.ensures ∙ c.in-Some.is) in
    omega (arith, was.0, c.loop-side-test.true, c.len-side-end.ensures, c.requires.faces)

pub returns-in-Some-clause-reason : goal.returns-in-Some-clause-reason
returns-in-Some-clause-reason g c =
    let was = taken c.args.sides.now.from.items c.args.sides.now.to.items c.loop-side.side c.loop-side.numbering.half.items c.loop-side.numbering.side.items
    c.loop-side.numbering.origin.items c.loop-side.invariant.numbered c.loop-side.invariant.distinct c.find-found.result c.in-Some.other
    (rw (← c.deref-in-loop-side.ensures.value, ← c.ends-from.ensures.start, ← c.ends-from.ensures.end) c.find-found.ensures) (sym c.side_of.ensures ∙ c.in-Some.is) in
    λ vertices. record {
      one = c.in-Some.other;
      other = c.loop-side.side;
      later = was.0;
      one_is = record {
        below = omega (arith, was.0, c.loop-side-test.true, c.len-side-end.ensures);
        owner = sym c.owner.ensures;
        start = was.1 ∙ sym c.ends-from.ensures.start;
        end = was.2 ∙ sym c.ends-from.ensures.end;
      };
      other_is = record {
        below = omega (arith, c.loop-side-test.true, c.len-side-end.ensures);
        owner = sym c.owner-in-Some.ensures;
        start = sym c.ends-from.ensures.start;
        end = sym c.ends-from.ensures.end;
      };
    }

pub returns-clause-numbered : goal.returns-clause-numbered
returns-clause-numbered g c =
    let all : c.loop-side.side ≡ length c.args.sides.now.from.items = omega (arith, c.loop-side-test.false, c.loop-side.auto.side-end, c.len-side-end.ensures) in
    subst (λ n. AreNumbered c.args.sides.now.from.items c.args.sides.now.to.items n c.loop-side.numbering.half.items c.loop-side.numbering.side.items
    c.loop-side.numbering.origin.items) all c.loop-side.invariant.numbered

pub returns-clause-distinct : goal.returns-clause-distinct
returns-clause-distinct g c =
    let all : c.loop-side.side ≡ length c.args.sides.now.from.items = omega (arith, c.loop-side-test.false, c.loop-side.auto.side-end, c.len-side-end.ensures) in
    subst (AreDistinct c.args.sides.now.from.items c.args.sides.now.to.items) all c.loop-side.invariant.distinct
