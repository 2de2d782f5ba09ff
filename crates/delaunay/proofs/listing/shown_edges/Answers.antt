use Rattle.std.proofs.Common.{Bool, List, ap, ◌∙◌}
use Rattle.std.proofs.lemmas.Result.{IfOk-weaker}
use Rattle.dcel_output.specs.Keeping.{kept}
use Rattle.delaunay.proofs.listing.shown_edges.Goals as goal

pub returns-in-None : goal.returns-in-None
returns-in-None g c = rw c.in-None.is c.in_ok-all.ensures

pub returns-in-Some : goal.returns-in-Some
returns-in-Some g c =
    rw c.in-Some.is
    (IfOk-weaker c.kept.result _ _
    (λ list is. is ∙ ap (λ (flags : List Bool). kept flags c.deref.result.now) c.deref-in-Some.ensures.value
    ∙ ap (kept c.in-Some.inside.now.edges.items) (c.deref.ensures.value ∙ c.in_ok-all.ensures))
    c.kept.ensures)
