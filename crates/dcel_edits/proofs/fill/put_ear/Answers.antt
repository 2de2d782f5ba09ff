use Rattle.std.proofs.Common.{List, [], ◌∷◌, refl}
use Rattle.std.proofs.lemmas.List.Elements.{All-from_recursion}
use Rattle.dcel_fixed.proofs.Halves.{rev-double}
use Rattle.dcel_maps.proofs.edits.Adding.{adds_edges_and_faces}
use Rattle.dcel_edits.specs.Fill.{ear_stored}
use Rattle.dcel_edits.proofs.fill.put_ear.Goals as goal

pub returns-clause-ear : goal.returns-clause-ear
returns-clause-ear g c =
    let a = c.default.result in
    let faces : List g.row.F.Denot = c.default-2.result ∷ [] in
    adds_edges_and_faces g.DE.Default.is_default g.UE.Default.is_default g.F.Default.is_default
    (ear_stored c.args.store.now c.args.apex c.args.first c.args.second c.args.third c.args.closing)
    ((a.normalized, a.reversed, a.undirected) ∷ [])
    faces (c.default.ensures, tt)
    (All-from_recursion g.F.Default.is_default faces (c.default-2.ensures, tt))
    (rw (
      c.set_vertex_anchor.ensures,
      c.push_face.ensures,
      c.push_edge.ensures,
      c.set_face.ensures,
      c.set_prev.ensures,
      c.set_next.ensures,
      c.links-2.ensures,
      c.links.ensures,
    )
    (rw (
      c.new_normalized-inner.ensures,
      c.num_edges.ensures.count,
      c.new-following.ensures,
      c.num_faces-2.ensures.count,
      c.new-face.ensures,
      c.num_faces.ensures.count,
      c.origin-to.ensures,
      c.origin-from.ensures,
    ) refl))

pub returns-clause-answer : goal.returns-clause-answer
returns-clause-answer g c = rw (c.rev-outer.ensures, c.new_normalized-inner.ensures, c.num_edges.ensures.count, rev-double) refl
