use Rattle.std.proofs.Common.{◌∙◌, sym, subst}
use Rattle.dcel_links.specs.Meshes.{IsLinked}
use Rattle.dcel_exchange.proofs.Again.{err_gives, ok_gives, one_shape, only_memory}
use Rattle.dcel_exchange.proofs.lists.with_data.Goals as goal

pub returns-clause-shape : goal.returns-clause-shape
returns-clause-shape g c =
    ok_gives c.from_anchored_links.result _ _
    (λ made only. one_shape c.args.dcel.now c.every_mesh.ensures c.args.given.vertices.items c.args.given.edges.items c.args.given.faces.items
    c.requires.vertices c.requires.edges c.requires.faces c.as_links.result
    (subst (IsLinked c.args.dcel.now.shape) (sym (c.as_links.ensures _ _)) c.in-Ok.ensures.links) made only)
    c.from_anchored_links.ensures.only

pub returns-clause-reason : goal.returns-clause-reason
returns-clause-reason g c =
    err_gives c.from_anchored_links.result _ _
    (λ refused refuses. only_memory c.args.dcel.now c.every_mesh.ensures c.args.given.vertices.items c.args.given.edges.items c.args.given.faces.items
    c.requires.vertices c.requires.edges c.requires.faces c.as_links.result
    (subst (IsLinked c.args.dcel.now.shape) (sym (c.as_links.ensures _ _)) c.in-Ok.ensures.links)
    c.as_anchors.result.vertices.now c.as_anchors.result.faces.now (c.as_anchors.ensures.vertices ∙ c.in-Ok.ensures.vertex_anchors)
    (c.as_anchors.ensures.faces ∙ c.in-Ok.ensures.face_anchors) refused.reason refuses)
    c.from_anchored_links.ensures.reason
