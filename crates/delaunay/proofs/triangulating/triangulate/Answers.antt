use Rattle.std.proofs.Common.{sym, ◌∙◌, List, subst}
use Rattle.std.proofs.lemmas.Option.{none-some}
use Rattle.std.proofs.lemmas.Result.{IfOk-weaker}
use Rattle.dcel_predicates.specs.declared.point.Point.{Point}
use Rattle.dcel_delaunay.specs.Bulk.{StandAt}
use Rattle.dcel_delaunay.specs.Triangulated.{mesh_in}
use Rattle.dcel_output.specs.Numbering.{NumbersVertices}
use Rattle.delaunay.proofs.Written.{any_ok}
use Rattle.delaunay.proofs.triangulating.triangulate.Goals as goal

pub returns-in-None-clause-drawn : goal.returns-in-None-clause-drawn
returns-in-None-clause-drawn g c =
    let t = c.in_ok-inserted.inserted in
    IfOk-weaker c.all_there.result _ _
    (λ drawn follows none. follows c.args.task.now.points.items c.in_ok-inserted.ensures.whole
    (subst (λ (points : List Point). NumbersVertices (mesh_in t.triangulation) points t.numbers.items) c.deref.ensures.value c.in_ok-inserted.ensures.numbered))
    c.all_there.ensures.drawn

pub returns-in-None-clause-vertices : goal.returns-in-None-clause-vertices
returns-in-None-clause-vertices g c =
    let t = c.in_ok-inserted.inserted in
    IfOk-weaker c.all_there.result _ _
    (λ drawn follows none has. follows c.args.task.now.points.items
    (subst (λ (points : List Point). StandAt (mesh_in t.triangulation) points t.vertices.items) c.deref.ensures.value c.in_ok-inserted.ensures.stand) has)
    c.all_there.ensures.vertices

pub returns-in-Some-clause-drawn : goal.returns-in-Some-clause-drawn
returns-in-Some-clause-drawn g c = any_ok c.remove.result _ (λ drawn none. absurd (none-some _ (sym none ∙ c.in-Some.is)))

pub returns-in-Some-clause-vertices : goal.returns-in-Some-clause-vertices
returns-in-Some-clause-vertices g c = any_ok c.remove.result _ (λ drawn none has. absurd (none-some _ (sym none ∙ c.in-Some.is)))
