use Rattle.std.proofs.Common.{List, [], ◌∷◌, refl}
use Rattle.std.proofs.lemmas.List.Elements.{All-from_recursion}
use Rattle.dcel_fixed.proofs.Halves.{rev-double}
use Rattle.dcel_maps.proofs.edits.Adding.{adds_edges_and_faces}
use Rattle.dcel_edits.specs.Outside.{closed_stored}
use Rattle.dcel_edits.proofs.outside.put_closing.Goals as goal

pub returns-clause-closed : goal.returns-clause-closed
returns-clause-closed g c =
    let a = c.default.result in
    let faces : List g.row.F.Denot = c.default-2.result ∷ [] in
    adds_edges_and_faces g.DE.Default.is_default g.UE.Default.is_default g.F.Default.is_default
    (closed_stored c.args.store.now c.args.edge)
    ((a.normalized, a.reversed, a.undirected) ∷ [])
    faces (c.default.ensures, tt)
    (All-from_recursion g.F.Default.is_default faces (c.default-2.ensures, tt))
    (rw (
      c.push_face.ensures,
      c.set_face_anchor.ensures,
      c.push_edge.ensures,
      c.set_face-2.ensures,
      c.set_face.ensures,
      c.set_prev-2.ensures,
      c.set_prev.ensures,
      c.set_next-2.ensures,
      c.set_next.ensures,
      c.links-2.ensures,
      c.links.ensures,
    )
    (rw (
      c.rev-outer.ensures,
      c.new_normalized-inner.ensures,
      c.num_edges.ensures.count,
      c.new-face.ensures,
      c.num_faces.ensures.count,
      rev-double,
      c.origin-to.ensures,
      c.origin-from.ensures,
      c.next-after.ensures,
      c.next-second.ensures,
      c.prev-before.ensures,
    ) refl))

pub returns-clause-answer : goal.returns-clause-answer
returns-clause-answer g c = rw (c.rev-outer.ensures, c.new_normalized-inner.ensures, c.num_edges.ensures.count, rev-double) refl
