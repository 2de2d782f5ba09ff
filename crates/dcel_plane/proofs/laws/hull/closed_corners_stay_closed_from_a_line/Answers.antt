use Rattle.dcel_plane.proofs.laws.hull.closed_corners_stay_closed_from_a_line.Goals as goal
use Rattle.dcel_plane.proofs.hull.ThinStays.{thin_after_stays, thin_before_stays}

pub returns-clause-after : goal.returns-clause-after
returns-clause-after g c =
    λ at m t e halves edges faces mesh live on turns result triangles plane closing thin after. thin_after_stays m mesh triangles at plane t closing thin e live on turns halves edges faces result after

pub returns-clause-before : goal.returns-clause-before
returns-clause-before g c =
    λ at m t e halves edges faces mesh live on turns result triangles plane closing thin before. thin_before_stays m mesh triangles at plane t closing thin e live on turns halves edges faces result before
