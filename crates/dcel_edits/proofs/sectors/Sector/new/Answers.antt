use Rattle.std.proofs.Common.{refl}
use Rattle.dcel_fixed.proofs.Halves.{rev-double}
use Rattle.dcel_edits.proofs.sectors.Sector.new.Goals as goal

pub returns : goal.returns
returns g c = rw (c.between.ensures, c.rev.ensures, c.new_normalized-2.ensures, rev-double, c.new_normalized.ensures) refl
