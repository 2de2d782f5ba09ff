use Rattle.std.proofs.Common.{◌≡◌, ◌%◌, length, arith}
use Rattle.dcel_exchange.proofs.Chained.{leads_back}
use Rattle.dcel_exchange.proofs.chains.Chains.find.Goals as goal

pub returns-in-Some : goal.returns-in-Some
returns-in-Some g c =
    let edges = c.requires.chained.edges in
    let even : length c.args.origin.now % 2 ≡ 0 = omega (arith, edges) in
    rw c.other_half.ensures.value (leads_back c.args.origin.now c.in-Some.half c.args.to c.args.from even c.in-Some.ensures)

pub returns-in-None : goal.returns-in-None
returns-in-None g c =
    let edges = c.requires.chained.edges in
    let even : length c.args.origin.now % 2 ≡ 0 = omega (arith, edges) in
    λ h leads. c.in-None.ensures _ (leads_back c.args.origin.now h c.args.from c.args.to even leads)
