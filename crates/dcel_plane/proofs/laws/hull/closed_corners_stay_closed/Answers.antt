use Rattle.dcel_plane.proofs.laws.hull.closed_corners_stay_closed.Goals as goal
use Rattle.dcel_plane.proofs.hull.CornersStay.{after_stays, before_stays}
use Rattle.dcel_plane.proofs.hull.Step.{closed_step}
use Rattle.dcel_maps.specs.edits.Outside.{face_closed}

pub returns-clause-after : goal.returns-clause-after
returns-clause-after g c =
    λ at m t e halves edges faces mesh live on turns result closing hull after. after_stays at m.shape (face_closed m e halves edges faces).shape e t (closed_step m mesh at e live on halves edges faces result) closing turns hull after

pub returns-clause-before : goal.returns-clause-before
returns-clause-before g c =
    λ at m t e halves edges faces mesh live on turns result closing hull before. before_stays at m.shape (face_closed m e halves edges faces).shape e t (closed_step m mesh at e live on halves edges faces result) closing turns hull before
