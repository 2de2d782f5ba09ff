use Rattle.dcel_edits.proofs.Reading.{origin-read}
use Rattle.spade_dcel.proofs.dcel.Dcel.stored_origin.Goals as goal

pub returns : goal.returns
returns g c = λ live. rw c.origin.ensures (origin-read c.self.invariant c.self.view_is c.args.handle live).0
