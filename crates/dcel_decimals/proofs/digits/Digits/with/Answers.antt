use Rattle.std.proofs.Common.{arith}
use Rattle.dcel_decimals.proofs.digits.Digits.with.Goals as goal
use Rattle.dcel_decimals.proofs.Powers.{one_more}

pub returns-clause-number : goal.returns-clause-number
returns-clause-number c = let e = one_more c.args.self.significant c.args.self.zeros in omega arith
