use Rattle.std.proofs.Common.{Bool, List, ap, map, ◌∙◌}
use Rattle.std.proofs.lemmas.Result.{IfOk-weaker}
use Rattle.dcel_delaunay.specs.declared.lists.Across.{Across}
use Rattle.dcel_output.specs.Keeping.{across_among, kept}
use Rattle.delaunay.proofs.listing.shown_neighbors.Goals as goal

pub returns-in-None : goal.returns-in-None
returns-in-None g c = rw c.in-None.is c.in_ok-all.ensures

pub returns-in-Some : goal.returns-in-Some
returns-in-Some g c =
    let flags = c.in-Some.inside.now.triangles.items in
    rw c.in-Some.is
    (IfOk-weaker c.kept_neighbors.result _ _
    (λ list is. is ∙ ap (λ (l : List Bool). map (across_among l) (kept l c.deref.result.now)) c.deref-in-Some.ensures.value
    ∙ ap (λ (l : List Across). map (across_among flags) (kept flags l)) (c.deref.ensures.value ∙ c.in_ok-all.ensures))
    c.kept_neighbors.ensures)
