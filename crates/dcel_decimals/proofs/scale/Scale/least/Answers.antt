use Rattle.std.proofs.Common.{◌≡◌, ◌≤◌, List, take, subst, arith}
use Rattle.std.specs.List.{All}
use Rattle.std.proofs.lemmas.List.{take_all}
use Rattle.std.proofs.lemmas.List.Elements.{All-nil}
use Rattle.dcel_decimals.specs.declared.decimal.Decimal.{Decimal}
use Rattle.dcel_decimals.proofs.Scaled.{least_stays, least_grows, all_whole}
use Rattle.dcel_decimals.proofs.scale.Scale.least.Goals as goal
use Rattle.dcel_decimals.proofs.scale.Scale.least.Goals.{then-decimal-power, else-decimal-power}

pub loop-decimal-init : goal.loop-decimal-init
loop-decimal-init c = record { small = omega arith; enough = All-nil (λ (d : Decimal). d.places ≤ 0); needed = λ other all. omega arith }

pub loop-decimal-preserved : goal.loop-decimal-preserved
loop-decimal-preserved c =
    let xs = c.args.decimals.now in
    let i = c.loop-decimal.decimal-index in
    let d = c.decimal-item.result in
    elim c.if-decimal-power.branch [
      | then-decimal-power w ↦ least_grows xs i d c.loop-decimal.power (omega arith) c.decimal-item.is c.loop-decimal.invariant c.if-decimal-power.power w.power-is w.if-decimal-power.true
      | else-decimal-power w ↦ least_stays xs i d c.loop-decimal.power (omega arith) c.decimal-item.is c.loop-decimal.invariant c.if-decimal-power.power w.power-is w.if-decimal-power.false
    ]

pub returns-clause-whole : goal.returns-clause-whole
returns-clause-whole c =
    let xs = c.args.decimals.now in
    let e : take c.loop-decimal.decimal-index xs ≡ xs = take_all c.loop-decimal.decimal-index xs (omega arith) in
    let P : List Decimal → Type 0 = λ l. All (λ (d : Decimal). d.places ≤ c.loop-decimal.power) l in
    all_whole c.loop-decimal.power xs (subst P e c.loop-decimal.invariant.enough)

pub returns-clause-least : goal.returns-clause-least
returns-clause-least c = c.loop-decimal.invariant.needed
