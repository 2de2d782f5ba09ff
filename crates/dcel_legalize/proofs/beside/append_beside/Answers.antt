use Rattle.std.proofs.Common.{append_assoc}
use Rattle.dcel_legalize.proofs.beside.append_beside.Goals as goal

pub returns : goal.returns
returns g c = rw (c.append_sides.ensures.items, c.push_reserved.ensures.items) (simp append_assoc)
