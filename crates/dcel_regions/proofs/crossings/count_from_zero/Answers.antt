use Rattle.std.proofs.Common.{ℕ, ◌-◌, ◌<◌, List, length, get_or, sym, ap, arith}
use Rattle.std.proofs.lemmas.Grind.{get_or_default_zero}
use Rattle.std.proofs.lemmas.List.Edits.{map_over_more}
use Rattle.dcel_regions.proofs.crossings.count_from_zero.Goals as goal

pub loop-number-preserved : goal.loop-number-preserved
loop-number-preserved g c =
    let xs = c.args.numbers.now.items in
    let ys = c.loop-number.number-items in
    let i = c.loop-number.number-index in
    let same = ap (λ (l : List ℕ). length l) c.deref_mut-number-items.ensures.value in
    let within : i < length xs = omega (arith, c.loop-number-test.true, same) in
    let there : i < length ys = omega (arith, c.loop-number-test.true, c.loop-number.auto.number-items) in
    rw c.saturating_sub.ensures
    (map_over_more (λ n. n - 1) xs ys i (get_or ys i 0) within c.loop-number.invariant (sym (get_or_default_zero ys i (get_or ys i 0) there)))
