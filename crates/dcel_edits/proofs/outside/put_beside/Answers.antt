use Rattle.std.proofs.Common.{◌+◌, List, [], ◌∷◌, length}
use Rattle.std.proofs.lemmas.List.{append_assoc}
use Rattle.std.proofs.lemmas.List.Elements.{All-from_recursion}
use Rattle.dcel_fixed.proofs.Halves.{rev-double}
use Rattle.dcel_maps.proofs.edits.Adding.{adds_edges_and_faces}
use Rattle.dcel_edits.specs.Outside.{beside_stored}
use Rattle.dcel_edits.proofs.Numbers.{second_back, second_half, two_places}
use Rattle.dcel_edits.proofs.outside.put_beside.Goals as goal

pub returns : goal.returns
returns g c =
    let a = c.default.result in
    let b = c.default-2.result in
    let m = length c.args.store.now.undirected_data in
    let faces : List g.row.F.Denot = c.default-3.result ∷ [] in
    adds_edges_and_faces g.DE.Default.is_default g.UE.Default.is_default g.F.Default.is_default
    (beside_stored c.args.store.now c.args.edge c.args.tip)
    ((a.normalized, a.reversed, a.undirected) ∷ (b.normalized, b.reversed, b.undirected) ∷ [])
    faces (c.default.ensures, (c.default-2.ensures, tt))
    (All-from_recursion g.F.Default.is_default faces (c.default-3.ensures, tt))
    (rw (
      c.set_vertex_anchor.ensures,
      c.push_face.ensures,
      c.set_face_anchor.ensures,
      c.push_edge-2.ensures,
      c.push_edge.ensures,
      c.set_face.ensures,
      c.set_prev-2.ensures,
      c.set_prev.ensures,
      c.set_next-2.ensures,
      c.set_next.ensures,
      c.links-4.ensures,
      c.links-3.ensures,
      c.links-2.ensures,
      c.links.ensures,
    )
    (rw (
      c.rev-back_rev.ensures,
      c.new_normalized-back.ensures,
      c.num_edges-2.ensures.count,
      rev-double (m + 1),
      c.rev-forth_rev.ensures,
      c.new_normalized-forth.ensures,
      c.num_edges.ensures.count,
      c.new-inside.ensures,
      c.num_faces.ensures.count,
      rev-double m,
      c.origin-to.ensures,
      c.origin-from.ensures,
      c.face-outside.ensures,
      c.next-after.ensures,
      c.prev-before.ensures,
    )
    (rw (second_half, second_back, two_places) (simp append_assoc))))
