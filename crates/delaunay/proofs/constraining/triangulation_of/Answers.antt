use Rattle.std.proofs.Common.{◌≡◌, ◌∙◌, ℕ, List, Option, ap, subst, sym}
use Rattle.dcel_constrained.specs.Constrained.{marked_mesh}
use Rattle.dcel_constrained.specs.declared.load.Segment.{Segment}
use Rattle.dcel_delaunay.specs.Bulk.{AnswersEach}
use Rattle.dcel_delaunay.specs.Triangulated.{mesh_in}
use Rattle.dcel_output.specs.Constraining.{AreConstrainedTriangles, StandsThere}
use Rattle.delaunay.specs.Segments.{segments_of}
use Rattle.delaunay.specs.declared.joins.Join.{Join}
use Rattle.delaunay.proofs.constraining.triangulation_of.Goals as goal

pub returns-in-Ok : goal.returns-in-Ok
returns-in-Ok c = λ points numbered stand.
    let t = marked_mesh c.in-Ok.triangulation in
    let m = mesh_in c.args.triangulation in
    let numbers = c.args.names.now.numbers.items in
    let vertices = c.deref-3.ensures.value in
    let segments : c.deref-4.result.now ≡ segments_of c.args.task.now.constraints.items c.args.task.now.outline.items =
    c.deref-4.ensures.value ∙ c.in_ok-segments.ensures ∙ ap (λ (l : List Join). segments_of l c.deref-2.result.now) c.deref.ensures.value
    ∙ ap (segments_of c.args.task.now.constraints.items) c.deref-2.ensures.value in
    subst (λ (l : List (Option ℕ)). AreConstrainedTriangles points l (segments_of c.args.task.now.constraints.items c.args.task.now.outline.items) t numbers) vertices
    (subst (λ (l : List Segment). AreConstrainedTriangles points c.deref-3.result.now l t numbers) segments
    (c.in-Ok.ensures.triangles points numbers numbered (subst (AnswersEach (StandsThere m) points) (sym vertices) stand)))
