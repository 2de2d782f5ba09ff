use Rattle.std.proofs.Common.{◌≡◌, ℕ, subst}
use Rattle.std.specs.Option.{MatchOption}
use Rattle.std.specs.Str.Parse.{AllDigits}
use Rattle.dcel_decimals.specs.declared.digits.Digits.{Digits}
use Rattle.dcel_decimals.specs.Digits.{number_of, IsLong}
use Rattle.dcel_decimals.proofs.Long.{long_whole, value_is}
use Rattle.dcel_decimals.proofs.numeral.digits_of.Goals as goal

pub returns-in_default : goal.returns-in_default
returns-in_default c =
    let p = c.args.numeral.now in
    let d : AllDigits 10 p.fraction = subst (AllDigits 10) c.fraction-fraction.ensures.value c.fraction-fraction.ensures.digits in
    long_whole (number_of c.nothing.result) c.whole-whole.result.now p.whole p.fraction c.nothing.ensures.number c.whole-whole.ensures.value d c.in_default.ensures.number

pub returns : goal.returns
returns c =
    let p = c.args.numeral.now in
    let e = value_is (number_of c.nothing.result) (number_of c.in-Some.begun) c.whole-whole.result.now c.fraction-fraction.result.now p.whole p.fraction c.nothing.ensures.number c.whole-whole.ensures.value c.fraction-fraction.ensures.value c.in-Some.ensures.number in
    let P : ℕ → Type 0 = λ v. MatchOption c.with_all-2.result (IsLong v) (λ (d : Digits). number_of d ≡ v) in
    subst P e c.with_all-2.ensures.number
