use Rattle.dcel_plane.proofs.laws.hull.closed_triangles_keep_the_closing.Goals as goal
use Rattle.dcel_plane.proofs.hull.ClosingStep.{step_closing, step_hull, step_thick}
use Rattle.dcel_plane.proofs.hull.Step.{closed_step}
use Rattle.dcel_plane.proofs.hull.ThinStep.{step_thin}
use Rattle.dcel_maps.specs.edits.Outside.{face_closed}

pub returns-clause-closing : goal.returns-clause-closing
returns-clause-closing g c =
    λ at m t e halves edges faces mesh live on turns result closing. step_closing at m.shape (face_closed m e halves edges faces).shape e t (closed_step m mesh at e live on halves edges faces result) closing turns

pub returns-clause-hull : goal.returns-clause-hull
returns-clause-hull g c =
    λ at m t e halves edges faces mesh live on turns result closing hull. step_hull at m.shape (face_closed m e halves edges faces).shape e t (closed_step m mesh at e live on halves edges faces result) closing turns hull

pub returns-clause-thick : goal.returns-clause-thick
returns-clause-thick g c =
    λ at m t e halves edges faces mesh live on turns result closing thick. step_thick at m.shape (face_closed m e halves edges faces).shape e t (closed_step m mesh at e live on halves edges faces result) closing turns thick

pub returns-clause-thin : goal.returns-clause-thin
returns-clause-thin g c =
    λ at m t e halves edges faces mesh live on turns result closing thin. step_thin at m.shape (face_closed m e halves edges faces).shape e t (closed_step m mesh at e live on halves edges faces result) closing turns thin
