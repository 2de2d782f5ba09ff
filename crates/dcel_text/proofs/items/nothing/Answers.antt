use Rattle.dcel_text.proofs.Cutting.{items_of-nonempty}
use Rattle.dcel_text.proofs.items.nothing.Goals as goal

pub returns-in-Some : goal.returns-in-Some
returns-in-Some c = rw c.in-Some.is (items_of-nonempty _)
