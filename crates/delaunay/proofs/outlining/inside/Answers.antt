use Rattle.std.proofs.Common.{◌∙◌, Bool, List, ap, append-nil, map, subst}
use Rattle.dcel_constrained.specs.declared.load.Segment.{Segment}
use Rattle.dcel_maps.specs.Numbers.{numbers_between}
use Rattle.dcel_output.specs.Keeping.{is_beside}
use Rattle.dcel_output.specs.Outlining.{ListsInside}
use Rattle.delaunay.proofs.outlining.inside.Goals as goal

pub returns-clause-triangles : goal.returns-clause-triangles
returns-clause-triangles c =
    subst (λ (sides : List Segment). ListsInside c.args.mesh.now c.args.vertices.now sides c.in_ok-triangles.triangles.items)
    (c.deref.ensures.value ∙ c.in_ok-segments.ensures ∙ append-nil _) c.in_ok-triangles.ensures

pub returns-clause-edges : goal.returns-clause-edges
returns-clause-edges c =
    let shape = c.args.mesh.now.shape in
    c.in_ok-edges.ensures ∙ ap (λ (flags : List Bool). map (is_beside shape flags) (numbers_between 0 shape.edges)) c.deref-2.ensures.value
