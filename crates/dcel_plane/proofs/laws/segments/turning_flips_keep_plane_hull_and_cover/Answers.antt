use Rattle.dcel_plane.proofs.segments.Covered.{each_covers, each_planar}
use Rattle.dcel_plane.proofs.laws.segments.turning_flips_keep_plane_hull_and_cover.Goals as goal

pub returns-clause-planar : goal.returns-clause-planar
returns-clause-planar g c = λ at m list planar can. each_planar at m list planar can

pub returns-clause-covers : goal.returns-clause-covers
returns-clause-covers g c = λ at m list planar can covers. each_covers at m list planar can covers
