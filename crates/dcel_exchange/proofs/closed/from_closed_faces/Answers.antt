use Rattle.std.proofs.Common.{◌≡◌, ◌∙◌, ℕ, ◌+◌, ◌-◌, ◌<◌, [], length, slice_index_or, refl, sym, ap, subst, arith}
use Rattle.std.proofs.lemmas.List.{length-map}
use Rattle.dcel_exchange.specs.Closed.{without}
use Rattle.dcel_exchange.specs.Corners.{corners_of}
use Rattle.dcel_exchange.specs.Links.{lists_claim}
use Rattle.dcel_exchange.specs.Meshes.{AreLinks}
use Rattle.dcel_exchange.specs.Closed.{MeansOf}
use Rattle.dcel_links.specs.Meshes.{IsLinked}
use Rattle.dcel_exchange.proofs.ClosedFaces.{leaves_closed, made_all, others_leave}
use Rattle.dcel_exchange.proofs.FaceCorners.{is_simple}
use Rattle.dcel_exchange.proofs.FaceWords.{has_faces}
use Rattle.dcel_exchange.proofs.closed.from_closed_faces.Goals as goal

pub returns-in-Err-clause-left : goal.returns-in-Err-clause-left
returns-in-Err-clause-left g c =
    leaves_closed g.row.V.Denot g.row.DE.Denot g.row.UE.Denot g.row.F.Denot (length c.args.vertices.items) (corners_of c.args.faces.now) c.args.outer c.in-Err.reason
    (subst (λ n. MeansOf n (corners_of c.args.faces.now) c.args.outer c.in-Err.reason) (omega (arith, c.len.ensures, c.args.vertices.ok)) c.in-Err.ensures.reason)

pub returns-in-Ok-from_face_links-clause-faces : goal.returns-in-Ok-from_face_links-clause-faces
returns-in-Ok-from_face_links-clause-faces g c =
    let n = length c.args.vertices.items in
    let others = without c.args.outer (corners_of c.args.faces.now) in
    let claimed = lists_claim c.in-Ok.links n (length c.args.faces.now) in
    let vertices : c.len.result ≡ n = omega (arith, c.len.ensures, c.args.vertices.ok) in
    let many : length c.args.faces.now - 1 + 1 ≡ length c.args.faces.now = omega (arith, c.in-Ok.ensures.named) in
    let links : AreLinks n others claimed =
    subst (λ k. AreLinks k others (lists_claim c.in-Ok.links k (length c.args.faces.now))) vertices c.in-Ok.ensures.links in
    let linked : IsLinked c.in-Ok-from_face_links.dcel.shape claimed =
    subst (λ k. IsLinked c.in-Ok-from_face_links.dcel.shape (lists_claim c.in-Ok.links n k)) many c.in-Ok-from_face_links.ensures.linked in
    has_faces c.in-Ok-from_face_links.dcel.shape c.in-Ok-from_face_links.ensures.cycles n others claimed linked links

pub returns-in-Ok-from_face_links-clause-corners : goal.returns-in-Ok-from_face_links-clause-corners
returns-in-Ok-from_face_links-clause-corners g c =
    let n = length c.args.vertices.items in
    let others = without c.args.outer (corners_of c.args.faces.now) in
    let claimed = lists_claim c.in-Ok.links n (length c.args.faces.now) in
    let vertices : c.len.result ≡ n = omega (arith, c.len.ensures, c.args.vertices.ok) in
    let many : length c.args.faces.now - 1 + 1 ≡ length c.args.faces.now = omega (arith, c.in-Ok.ensures.named) in
    let links : AreLinks n others claimed =
    subst (λ k. AreLinks k others (lists_claim c.in-Ok.links k (length c.args.faces.now))) vertices c.in-Ok.ensures.links in
    let linked : IsLinked c.in-Ok-from_face_links.dcel.shape claimed =
    subst (λ k. IsLinked c.in-Ok-from_face_links.dcel.shape (lists_claim c.in-Ok.links n k)) many c.in-Ok-from_face_links.ensures.linked in
    made_all c.in-Ok.links n (length c.args.faces.now) c.in-Ok-from_face_links.dcel.shape (corners_of c.args.faces.now) c.args.outer
    c.in-Ok-from_face_links.ensures.cycles (omega (arith, c.in-Ok.ensures.named, length-map c.args.faces.now (λ face. face.items))) linked links c.in-Ok.ensures.round

pub returns-in-Ok-from_face_links-clause-simple : goal.returns-in-Ok-from_face_links-clause-simple
returns-in-Ok-from_face_links-clause-simple g c =
    let n = length c.args.vertices.items in
    let others = without c.args.outer (corners_of c.args.faces.now) in
    let claimed = lists_claim c.in-Ok.links n (length c.args.faces.now) in
    let vertices : c.len.result ≡ n = omega (arith, c.len.ensures, c.args.vertices.ok) in
    let many : length c.args.faces.now - 1 + 1 ≡ length c.args.faces.now = omega (arith, c.in-Ok.ensures.named) in
    let links : AreLinks n others claimed =
    subst (λ k. AreLinks k others (lists_claim c.in-Ok.links k (length c.args.faces.now))) vertices c.in-Ok.ensures.links in
    let linked : IsLinked c.in-Ok-from_face_links.dcel.shape claimed =
    subst (λ k. IsLinked c.in-Ok-from_face_links.dcel.shape (lists_claim c.in-Ok.links n k)) many c.in-Ok-from_face_links.ensures.linked in
    is_simple c.in-Ok-from_face_links.dcel.shape n others claimed linked links

pub returns-clause-left : goal.returns-clause-left
returns-clause-left g c =
    let n = length c.args.vertices.items in
    let others = without c.args.outer (corners_of c.args.faces.now) in
    let claimed = lists_claim c.in-Ok.links n (length c.args.faces.now) in
    let vertices : c.len.result ≡ n = omega (arith, c.len.ensures, c.args.vertices.ok) in
    let many : length c.args.faces.now - 1 + 1 ≡ length c.args.faces.now = omega (arith, c.in-Ok.ensures.named) in
    let links : AreLinks n others claimed =
    subst (λ k. AreLinks k others (lists_claim c.in-Ok.links k (length c.args.faces.now))) vertices c.in-Ok.ensures.links in
    let listed : AreLinks n others (lists_claim c.in-Ok.links n (length c.args.faces.now - 1 + 1)) =
    subst (λ k. AreLinks n others (lists_claim c.in-Ok.links n k)) (sym many) links in
    others_leave g.row.V.Denot g.row.DE.Denot g.row.UE.Denot g.row.F.Denot n (corners_of c.args.faces.now) c.args.outer c.tell_in.result
    c.in-Err-from_face_links.refused.reason (c.in-Err-from_face_links.ensures.reason others listed) c.tell_in.ensures
