use Rattle.std.proofs.Common.{◌+◌, ◌-◌, arith}
use Rattle.dcel_decimals.proofs.digits.Digits.moved.Goals as goal
use Rattle.dcel_decimals.proofs.Moved.{moved, moved_far}

pub returns-then-down-up : goal.returns-then-down-up
returns-then-down-up c = moved c.args.self.significant c.args.self.zeros c.args.up c.args.down (c.from.result + c.from-2.result - c.args.down) 0 (omega arith) c.raised.result c.raised.ensures

pub returns-then-down-up-gt-MOST_PLACES : goal.returns-then-down-up-gt-MOST_PLACES
returns-then-down-up-gt-MOST_PLACES c = moved_far c.args.self.significant c.args.self.zeros c.args.up c.args.down (omega arith) c.args.self.last (omega arith)

pub returns : goal.returns
returns c = moved c.args.self.significant c.args.self.zeros c.args.up c.args.down 0 (c.args.down - (c.from.result + c.from-2.result)) (omega arith) c.with_places.result c.with_places.ensures
