use Rattle.std.proofs.Common.{◌≡◌, length, subst, arith}
use Rattle.dcel_exchange.proofs.Borders.{end_twice}
use Rattle.dcel_exchange.specs.Bordering.{AreFound}
use Rattle.dcel_exchange.proofs.linking.find_border.Goals as goal

pub returns-in-Err-clause-reason : goal.returns-in-Err-clause-reason
returns-in-Err-clause-reason g c =
    end_twice c.args.sides.now.from.items c.args.sides.now.to.items c.args.sides.now.face.items c.args.numbering.now.half.items c.args.numbering.now.side.items
    c.args.numbering.now.origin.items c.loop-half.border.items c.loop-half.half c.in-Err.origin c.in-Err.ensures.before.0 c.requires.numbered c.loop-half.invariant.found
    (omega (arith, c.loop-half-test.true, c.len-half-end.ensures)) c.in-Err.ensures.bare c.in-Err.ensures.start c.in-Err.ensures.before.1

pub returns-clause-border : goal.returns-clause-border
returns-clause-border g c =
    let all : c.loop-half.half ≡ length c.args.numbering.now.origin.items = omega (arith, c.loop-half-test.false, c.loop-half.auto.half-end, c.len-half-end.ensures) in
    subst (λ n. AreFound c.args.numbering.now.side.items c.args.numbering.now.origin.items n c.loop-half.border.items) all c.loop-half.invariant.found
