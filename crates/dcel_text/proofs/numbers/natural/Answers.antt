use Rattle.std.proofs.Common.{◌≡◌, take, arith, rules, ap, subst, sym, ◌∙◌}
use Rattle.std.specs.Fmt.{decimal}
use Rattle.std.specs.Str.Parse.{AllDigits, digits_value}
use Rattle.std.proofs.lemmas.List.{take_all}
use Rattle.std.proofs.lemmas.Bool.{false≢true}
use Rattle.dcel_text.proofs.Decimals.{none_if_empty, none_if_long, none_if_zero_leads, none_if_no_digit, digits_are_decimal, is_ascii_digit-in_range, digits_value-below, digits_value-next}
use Rattle.dcel_text.proofs.numbers.natural.Goals as goal
use Rattle.dcel_text.proofs.numbers.natural.Goals.{else-item-gt1-via-then-item-gt1+else-item-eq48, else-item-gt1-via-else-item-gt1}

pub returns-then-is_empty : goal.returns-then-is_empty
returns-then-is_empty c = none_if_empty c.args.item.now (search rules)

pub returns-then-item-gt19 : goal.returns-then-item-gt19
returns-then-item-gt19 c = none_if_long c.args.item.now (omega arith)

pub returns-then-item-eq48 : goal.returns-then-item-eq48
returns-then-item-eq48 c = none_if_zero_leads c.args.item.now (omega arith) (search rules)

pub returns-then-not-is_ascii_digit : goal.returns-then-not-is_ascii_digit
returns-then-not-is_ascii_digit c =
    none_if_no_digit c.args.item.now c.loop-digit.digit-index (omega arith) (λ h. false≢true (sym c.if-not-is_ascii_digit.true ∙ (c.is_ascii_digit.ensures.value ∙ is_ascii_digit-in_range _ h)))

pub overflow_mul-value : goal.overflow_mul-value
overflow_mul-value c = omega (arith, digits_value-below c.args.item.now c.loop-digit.digit-index (omega arith) (omega arith) c.loop-digit.invariant.0)

pub overflow_add-value : goal.overflow_add-value
overflow_add-value c = omega (arith, digits_value-below c.args.item.now c.loop-digit.digit-index (omega arith) (omega arith) c.loop-digit.invariant.0, c.type_inv.item c.loop-digit.digit-index)

pub loop-digit-preserved : goal.loop-digit-preserved
loop-digit-preserved c =
    let h = digits_value-next c.args.item.now c.loop-digit.digit-index (omega arith) (sym c.is_ascii_digit.ensures.value ∙ c.if-not-is_ascii_digit.false) c.loop-digit.invariant.0 in
    (h.0, omega (arith, h.1, c.loop-digit.invariant.1))

pub returns : goal.returns
returns c =
    let t = c.args.item.now in
    let e : take c.loop-digit.digit-index t ≡ t = take_all c.loop-digit.digit-index t (omega arith) in
    digits_are_decimal t (subst (AllDigits 10) e c.loop-digit.invariant.0) (search rules) (omega arith)
    (λ h z. elim c.else-item-gt1.branch [ else-item-gt1-via-then-item-gt1+else-item-eq48 w ↦ absurd (omega arith) | else-item-gt1-via-else-item-gt1 w ↦ absurd (omega arith) ])
    ∙ ap decimal (ap (digits_value 10) (sym e) ∙ sym c.loop-digit.invariant.1)
