use Rattle.std.proofs.Common.{◌≡◌, ◌∙◌, ℕ, ◌+◌, List, ap, length, subst, sym, arith}
use Rattle.std.specs.List.{All}
use Rattle.dcel_exchange.specs.Links.{lists_claim}
use Rattle.dcel_exchange.specs.Meshes.{AreLinks}
use Rattle.dcel_exchange.specs.Reasons.{Means}
use Rattle.dcel_links.specs.Meshes.{IsLinked}
use Rattle.spade_dcel.specs.Linked.{Refuses}
use Rattle.dcel_exchange.proofs.Defaulted.{edges_default, halves_default}
use Rattle.dcel_exchange.proofs.Surfaces.{reason_told}
use Rattle.dcel_exchange.proofs.faces.from_face_links.Goals as goal

pub returns-in-Ok-from_links-clause-linked : goal.returns-in-Ok-from_links-clause-linked
returns-in-Ok-from_links-clause-linked g c =
    let faces : length c.in-Ok.face_data.items ≡ c.args.faces + 1 = omega (arith, c.in-Ok.ensures.faces) in
    subst (IsLinked c.in-Ok-from_links.dcel.shape) (c.as_links.ensures (length c.args.vertices.items) (length c.in-Ok.face_data.items) ∙ ap (lists_claim c.args.links.now (length c.args.vertices.items)) faces)
    c.in-Ok-from_links.ensures.links

pub returns-in-Ok-from_links-clause-half_data : goal.returns-in-Ok-from_links-clause-half_data
returns-in-Ok-from_links-clause-half_data g c =
    subst (All g.DE.Default.is_default) (sym c.in-Ok-from_links.ensures.halves)
    (halves_default g.DE.Default.is_default g.UE.Default.is_default c.in-Ok.edge_data.items c.in-Ok.ensures.each_edge)

pub returns-in-Ok-from_links-clause-edge_data : goal.returns-in-Ok-from_links-clause-edge_data
returns-in-Ok-from_links-clause-edge_data g c =
    subst (All g.UE.Default.is_default) (sym c.in-Ok-from_links.ensures.edges)
    (edges_default g.DE.Default.is_default g.UE.Default.is_default c.in-Ok.edge_data.items c.in-Ok.ensures.each_edge)

pub returns-in-Ok-from_links-clause-face_data : goal.returns-in-Ok-from_links-clause-face_data
returns-in-Ok-from_links-clause-face_data g c =
    subst (All g.F.Default.is_default) (sym c.in-Ok-from_links.ensures.faces) c.in-Ok.ensures.each_face

pub returns-in-Err-clause-reason : goal.returns-in-Err-clause-reason
returns-in-Err-clause-reason g c =
    let faces : length c.in-Ok.face_data.items ≡ c.args.faces + 1 = omega (arith, c.in-Ok.ensures.faces) in
    let refuses : Refuses g.row.V.Denot g.row.DE.Denot g.row.UE.Denot g.row.F.Denot
    (lists_claim c.args.links.now (length c.args.vertices.items) (c.args.faces + 1))
    (length c.in-Ok.edge_data.items) c.in-Err.refused.reason =
    subst (λ claimed. Refuses g.row.V.Denot g.row.DE.Denot g.row.UE.Denot g.row.F.Denot claimed (length c.in-Ok.edge_data.items) c.in-Err.refused.reason)
    (c.as_links.ensures (length c.args.vertices.items) (length c.in-Ok.face_data.items) ∙ ap (lists_claim c.args.links.now (length c.args.vertices.items)) faces)
    c.in-Err.ensures.reason in
    λ listed links.
    subst (Means (length c.args.vertices.items) listed) (sym c.reason_of.ensures.is)
    (reason_told g.row.V.Denot g.row.DE.Denot g.row.UE.Denot g.row.F.Denot
    (lists_claim c.args.links.now (length c.args.vertices.items) (c.args.faces + 1))
    (length c.in-Ok.edge_data.items) (length c.args.vertices.items) listed links c.in-Err.refused.reason refuses)
