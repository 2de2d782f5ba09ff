use Rattle.std.proofs.Common.{◌≡◌, ◌∷◌, arith, rules}
use Rattle.dcel_text.specs.Items.{left}
use Rattle.dcel_text.proofs.Decimals.{too_large}
use Rattle.dcel_text.proofs.items.number_then.Goals as goal

pub returns-else-n-lt4294967296-clause-read : goal.returns-else-n-lt4294967296-clause-read
returns-else-n-lt4294967296-clause-read c =
    let read : left c.args.rest ≡ c.first.result.0.now ∷ left c.first.result.1 = search rules in
    too_large _ _ _ c.in_ok-n.n read (search rules) c.in_ok-n.ensures (omega arith)
