use Rattle.std.proofs.Common.{arith, rules, inl, inr}
use Rattle.std.proofs.lemmas.List.{take_rest}
use Rattle.dcel_text.proofs.Decimals.{none_after_minus, none_below_least, none_above_greatest}
use Rattle.dcel_text.proofs.numbers.datum.Goals as goal
use Rattle.dcel_text.proofs.numbers.datum.Goals.{else-not-is_empty-via-then-not-is_empty+else-item-eq45, else-not-is_empty-via-else-not-is_empty}

pub returns-in_err-n : goal.returns-in_err-n
returns-in_err-n c = rw c.from_residual.ensures (none_after_minus c.args.item.now _ (take_rest c.args.item.now 1) (search rules) c.in_err-n.ensures)

pub returns-then-n-eq0 : goal.returns-then-n-eq0
returns-then-n-eq0 c = none_below_least c.args.item.now _ c.in_ok-n.n (take_rest c.args.item.now 1) (search rules) (search rules) c.in_ok-n.ensures (inl (search rules))

pub returns-then-n-gt9223372036854775808 : goal.returns-then-n-gt9223372036854775808
returns-then-n-gt9223372036854775808 c = none_below_least c.args.item.now _ c.in_ok-n.n (take_rest c.args.item.now 1) (search rules) (search rules) c.in_ok-n.ensures (inr (omega arith))

pub returns-then-n-ge9223372036854775808 : goal.returns-then-n-ge9223372036854775808
returns-then-n-ge9223372036854775808 c =
    none_above_greatest c.args.item.now c.in_ok-n-2.n
    (λ l e. elim c.else-not-is_empty.branch [ else-not-is_empty-via-then-not-is_empty+else-item-eq45 w ↦ w.if-item-eq45.false e | else-not-is_empty-via-else-not-is_empty w ↦ search rules ])
    (search rules) c.in_ok-n-2.ensures (omega arith)
