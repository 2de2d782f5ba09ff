use Rattle.std.proofs.Common.{length, subst}
use Rattle.std.specs.Prelude.{IfErr, IfOk}
use Rattle.std.proofs.lemmas.List.{map-id}
use Rattle.dcel_exchange.specs.Meshes.{HasFaces}
use Rattle.dcel_exchange.specs.Reasons.{Leaves, Means}
use Rattle.dcel_exchange.specs.Simple.{HasCorners}
use Rattle.dcel_exchange.proofs.faces.from_triangles.Goals as goal

-- an array of corners is the list of them

pub returns-clause-faces : goal.returns-clause-faces
returns-clause-faces g c =
    subst (λ corners. IfOk c.from_lists.result (λ dcel. HasFaces dcel.shape (length c.args.vertices.items) corners)) (map-id c.args.triangles.now) c.from_lists.ensures.faces

pub returns-clause-corners : goal.returns-clause-corners
returns-clause-corners g c =
    subst (λ corners. IfOk c.from_lists.result (λ dcel. HasCorners dcel.shape (length c.args.vertices.items) corners)) (map-id c.args.triangles.now) c.from_lists.ensures.corners

pub returns-clause-reason : goal.returns-clause-reason
returns-clause-reason g c =
    subst (λ corners. IfErr c.from_lists.result (λ refused. Means (length c.args.vertices.items) corners refused.reason)) (map-id c.args.triangles.now) c.from_lists.ensures.reason

pub returns-clause-left : goal.returns-clause-left
returns-clause-left g c =
    subst (λ corners. IfErr c.from_lists.result (λ refused. Leaves g.row.V.Denot g.row.DE.Denot g.row.UE.Denot g.row.F.Denot (length c.args.vertices.items) corners refused.reason)) (map-id c.args.triangles.now) c.from_lists.ensures.left
