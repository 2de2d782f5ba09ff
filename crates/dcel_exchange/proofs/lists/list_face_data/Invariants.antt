use Rattle.std.proofs.Common.{◌≡◌, take}
use Rattle.dcel_exchange.proofs.lists.list_face_data.Given as goal

abbrev pub invariant-loop-number : goal.invariant-loop-number
invariant-loop-number g l = l.list.items ≡ take l.number l.dcel.face_data
