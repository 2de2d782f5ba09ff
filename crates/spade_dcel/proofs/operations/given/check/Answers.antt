use Rattle.std.proofs.Common.{length}
use Rattle.spade_dcel.proofs.operations.given.check.Goals as goal

pub returns-in-Some-clause-reason : goal.returns-in-Some-clause-reason
returns-in-Some-clause-reason g c = rw c.in-Some.is (c.check_anchored.ensures.reason (length c.args.given.now.edges.items))
