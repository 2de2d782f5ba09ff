use Rattle.std.proofs.Common.{◌∙◌, ℕ, List, Option, map, refl, subst, sym}
use Rattle.std.proofs.lemmas.Option.{none-some}
use Rattle.dcel_constrained.specs.Constrained.{marked_mesh}
use Rattle.dcel_output.specs.Outlining.{ListsInside}
use Rattle.delaunay.specs.Segments.{segment_of}
use Rattle.delaunay.specs.Texts.{AreBeside}
use Rattle.delaunay.specs.declared.joins.Join.{Join}
use Rattle.delaunay.proofs.constraining.inside_of.Goals as goal

pub returns-in-None-clause-inside : goal.returns-in-None-clause-inside
returns-in-None-clause-inside c = λ some. absurd (some c.in-None.is)

pub inside-requires : goal.inside-requires
inside-requires c = rw c.dcel.ensures.mesh c.dcel.ensures.closed

pub returns-in-Ok-clause-all : goal.returns-in-Ok-clause-all
returns-in-Ok-clause-all c = λ none. absurd (none-some _ (sym none ∙ c.in-Some.is))

pub returns-in-Ok-clause-inside : goal.returns-in-Ok-clause-inside
returns-in-Ok-clause-inside c = λ some.
    let flags = c.in-Ok.inside.triangles.items in
    let m = marked_mesh c.args.triangulation.now in
    let vertices = c.args.names.now.vertices.items in (
      c.in-Ok.inside,
      refl,
      subst (λ (l : List Join). ListsInside m vertices (map segment_of l) flags) c.deref-in-Some.ensures.value
          (subst (λ (l : List (Option ℕ)). ListsInside m l (map segment_of c.deref-in-Some.result.now) flags) c.deref.ensures.value
          (subst (λ (k : _). ListsInside k c.deref.result.now (map segment_of c.deref-in-Some.result.now) flags) c.dcel.ensures.mesh c.in-Ok.ensures.triangles)),
      subst (λ (k : _). AreBeside k c.in-Ok.inside) c.dcel.ensures.mesh c.in-Ok.ensures.edges,
    )
