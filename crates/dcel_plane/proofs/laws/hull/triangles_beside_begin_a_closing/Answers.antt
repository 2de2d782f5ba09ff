use Rattle.dcel_plane.proofs.laws.hull.triangles_beside_begin_a_closing.Goals as goal
use Rattle.dcel_plane.proofs.hull.PutBeside.{beside_closing, beside_hull, beside_thick}

pub returns-clause-closing : goal.returns-clause-closing
returns-clause-closing g c =
    λ at m e v halves edges faces mesh live on left result convex hull. beside_closing m mesh at convex e v live on left halves edges faces result

pub returns-clause-hull : goal.returns-clause-hull
returns-clause-hull g c =
    λ at m e v halves edges faces mesh live on left result convex hull. beside_hull m mesh at convex e v live on left halves edges faces result hull

pub returns-clause-thick : goal.returns-clause-thick
returns-clause-thick g c =
    λ at m e v h halves edges faces mesh live on left result triangles plane convex hull live_h inner_h.
    beside_thick m mesh at convex e v live on left halves edges faces result hull triangles plane h live_h inner_h
