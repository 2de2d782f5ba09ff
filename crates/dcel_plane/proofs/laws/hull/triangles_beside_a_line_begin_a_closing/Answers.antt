use Rattle.dcel_plane.proofs.laws.hull.triangles_beside_a_line_begin_a_closing.Goals as goal
use Rattle.dcel_plane.proofs.hull.PutBeside.{beside_closing, beside_thin, straight_convex}

pub returns-clause-closing : goal.returns-clause-closing
returns-clause-closing g c =
    λ at m e v halves edges faces mesh straight live on left result. beside_closing m mesh at (straight_convex at m.shape straight) e v live on left halves edges faces result

pub returns-clause-thin : goal.returns-clause-thin
returns-clause-thin g c =
    λ at m e v halves edges faces mesh straight live on left result.
    beside_thin m mesh at (straight_convex at m.shape straight) e v live on left halves edges faces result straight
