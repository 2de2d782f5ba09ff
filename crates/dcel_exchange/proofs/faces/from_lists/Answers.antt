use Rattle.std.proofs.Common.{◌≡◌, ◌+◌, length, subst, arith, map}
use Rattle.dcel_exchange.specs.Links.{lists_claim}
use Rattle.dcel_exchange.specs.Meshes.{AreLinks, HasFaces}
use Rattle.dcel_exchange.specs.Reasons.{Leaves, Means}
use Rattle.dcel_exchange.specs.Simple.{HasCorners, IsSimple}
use Rattle.dcel_links.specs.Meshes.{IsLinked}
use Rattle.dcel_maps.specs.Headline.{FacesAreCycles}
use Rattle.dcel_exchange.proofs.Again.{err_gives, ok_both, ok_gives}
use Rattle.dcel_exchange.proofs.Leaving.{leaves}
use Rattle.dcel_exchange.proofs.FaceCorners.{has_corners, is_simple}
use Rattle.dcel_exchange.proofs.FaceWords.{has_faces}
use Rattle.dcel_exchange.proofs.faces.from_lists.Goals as goal

pub returns-in-Ok-clause-faces : goal.returns-in-Ok-clause-faces
returns-in-Ok-clause-faces g c =
    let n = length c.args.vertices.items in
    let faces = map g.S.AsSlice.items c.args.faces.now in
    let claimed = lists_claim c.in-Ok.links n (length c.args.faces.now + 1) in
    let vertices : c.len.result ≡ n = omega (arith, c.len.ensures, c.args.vertices.ok) in
    let links : AreLinks n faces claimed = subst (λ k. AreLinks k faces (lists_claim c.in-Ok.links k (length c.args.faces.now + 1))) vertices c.in-Ok.ensures.links in
    ok_both c.from_face_links.result (λ dcel. IsLinked dcel.shape claimed) (λ dcel. FacesAreCycles dcel.shape) (λ dcel. HasFaces dcel.shape n faces)
    (λ dcel linked cycles. has_faces dcel.shape cycles n faces claimed linked links) c.from_face_links.ensures.linked c.from_face_links.ensures.cycles

pub returns-in-Ok-clause-corners : goal.returns-in-Ok-clause-corners
returns-in-Ok-clause-corners g c =
    let n = length c.args.vertices.items in
    let faces = map g.S.AsSlice.items c.args.faces.now in
    let claimed = lists_claim c.in-Ok.links n (length c.args.faces.now + 1) in
    let vertices : c.len.result ≡ n = omega (arith, c.len.ensures, c.args.vertices.ok) in
    let links : AreLinks n faces claimed = subst (λ k. AreLinks k faces (lists_claim c.in-Ok.links k (length c.args.faces.now + 1))) vertices c.in-Ok.ensures.links in
    ok_both c.from_face_links.result (λ dcel. IsLinked dcel.shape claimed) (λ dcel. FacesAreCycles dcel.shape) (λ dcel. HasCorners dcel.shape n faces)
    (λ dcel linked cycles. has_corners dcel.shape n faces claimed linked links (has_faces dcel.shape cycles n faces claimed linked links))
    c.from_face_links.ensures.linked c.from_face_links.ensures.cycles

pub returns-in-Ok-clause-simple : goal.returns-in-Ok-clause-simple
returns-in-Ok-clause-simple g c =
    let n = length c.args.vertices.items in
    let faces = map g.S.AsSlice.items c.args.faces.now in
    let claimed = lists_claim c.in-Ok.links n (length c.args.faces.now + 1) in
    let vertices : c.len.result ≡ n = omega (arith, c.len.ensures, c.args.vertices.ok) in
    let links : AreLinks n faces claimed = subst (λ k. AreLinks k faces (lists_claim c.in-Ok.links k (length c.args.faces.now + 1))) vertices c.in-Ok.ensures.links in
    ok_gives c.from_face_links.result (λ dcel. IsLinked dcel.shape claimed) (λ dcel. IsSimple dcel.shape)
    (λ dcel linked. is_simple dcel.shape n faces claimed linked links) c.from_face_links.ensures.linked

pub returns-in-Ok-clause-reason : goal.returns-in-Ok-clause-reason
returns-in-Ok-clause-reason g c =
    let n = length c.args.vertices.items in
    let faces = map g.S.AsSlice.items c.args.faces.now in
    let vertices : c.len.result ≡ n = omega (arith, c.len.ensures, c.args.vertices.ok) in
    let links : AreLinks n faces (lists_claim c.in-Ok.links n (length c.args.faces.now + 1)) =
    subst (λ k. AreLinks k faces (lists_claim c.in-Ok.links k (length c.args.faces.now + 1))) vertices c.in-Ok.ensures.links in
    c.from_face_links.ensures.reason faces links

pub returns-in-Ok-clause-left : goal.returns-in-Ok-clause-left
returns-in-Ok-clause-left g c =
    let n = length c.args.vertices.items in
    let faces = map g.S.AsSlice.items c.args.faces.now in
    let vertices : c.len.result ≡ n = omega (arith, c.len.ensures, c.args.vertices.ok) in
    let links : AreLinks n faces (lists_claim c.in-Ok.links n (length c.args.faces.now + 1)) =
    subst (λ k. AreLinks k faces (lists_claim c.in-Ok.links k (length c.args.faces.now + 1))) vertices c.in-Ok.ensures.links in
    err_gives c.from_face_links.result (λ refused. Means n faces refused.reason)
    (λ refused. Leaves g.row.V.Denot g.row.DE.Denot g.row.UE.Denot g.row.F.Denot n faces refused.reason)
    (λ refused means. leaves g.row.V.Denot g.row.DE.Denot g.row.UE.Denot g.row.F.Denot n faces refused.reason means)
    (c.from_face_links.ensures.reason faces links)

pub returns-in-Err-clause-left : goal.returns-in-Err-clause-left
returns-in-Err-clause-left g c =
    leaves g.row.V.Denot g.row.DE.Denot g.row.UE.Denot g.row.F.Denot (length c.args.vertices.items) (map g.S.AsSlice.items c.args.faces.now) c.in-Err.reason
    (subst (λ n. Means n (map g.S.AsSlice.items c.args.faces.now) c.in-Err.reason) (omega (arith, c.len.ensures, c.args.vertices.ok)) c.in-Err.ensures.reason)
