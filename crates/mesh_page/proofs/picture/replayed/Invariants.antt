use Rattle.std.proofs.Common.{length}
use Rattle.mesh_page.proofs.picture.replayed.Given as goal

abbrev pub decreases-loop-line : goal.decreases-loop-line
decreases-loop-line g l = length l.rest
