use Rattle.std.proofs.Common.{◌/◌, ◌%◌, ◌^◌, arith}
use Rattle.dcel_refinement.proofs.Reached.{split_product}
use Rattle.dcel_refinement.proofs.tangents.Product.of.Goals as goal

pub returns : goal.returns
returns c =
    let n = c.args.number in
    let e = split_product c.args.factor (n / 2 ^ 64) (n % 2 ^ 64) (2 ^ 64) n (omega arith) in
    omega (arith, e)
