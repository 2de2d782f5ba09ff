-- The number in each place from 0 on is its place.
use Rattle.std.proofs.Common.{◌≡◌, ◌<◌, ◌-◌, ℕ, ap, ◌∙◌, arith, Some, slice_get}
use Rattle.std.proofs.lemmas.List.FromFn.{get_or-range_with_len, length-range_with_len}
use Rattle.std.proofs.lemmas.Option.{slice_get-get_or}
use Rattle.dcel_maps.specs.Numbers.{numbers_between}

pub number_at : (n k : ℕ) → k < n → slice_get (numbers_between 0 n) k ≡ Some k
unfolding numbers_between
number_at n k below =
    let few : k < n - 0 = omega (arith, below) in
    slice_get-get_or (numbers_between 0 n) k 0 (omega (arith, length-range_with_len 0 (n - 0), few)) ∙ ap Some (get_or-range_with_len 0 (n - 0) k 0 few ∙ omega arith)
