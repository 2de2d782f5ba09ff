use Rattle.std.proofs.Common.{◌∙◌, Some, ap, map}
use Rattle.dcel_delaunay.specs.Triangulated.{mesh_in}
use Rattle.delaunay.proofs.Marked.{stand_some}
use Rattle.delaunay.proofs.drawn.all_there.Goals as goal

pub returns-clause-drawn : goal.returns-clause-drawn
returns-clause-drawn c = λ points whole numbered. record { whole = whole; numbered = numbered }

pub returns-clause-vertices : goal.returns-clause-vertices
returns-clause-vertices c = λ points stand has.
    stand_some (mesh_in c.args.inserted.triangulation) points c.args.inserted.vertices.items c.in_ok-vertices.vertices.items stand
    (c.in_ok-vertices.ensures has ∙ ap (map Some) c.deref.ensures.value)
