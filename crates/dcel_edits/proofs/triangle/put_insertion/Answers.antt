use Rattle.std.proofs.Common.{List, [], ◌∷◌}
use Rattle.std.proofs.lemmas.List.{append_assoc}
use Rattle.std.proofs.lemmas.List.Elements.{All-from_recursion}
use Rattle.dcel_maps.proofs.edits.Adding.{adds_edges_and_faces}
use Rattle.dcel_edits.specs.Triangle.{insertion_stored}
use Rattle.dcel_edits.proofs.Numbers.{second_back, second_half, third_back, third_half, two_places}
use Rattle.dcel_edits.proofs.triangle.put_insertion.Goals as goal

pub returns : goal.returns
returns g c =
    let a = c.default.result in
    let b = c.default-2.result in
    let d = c.default-3.result in
    let faces : List g.row.F.Denot = c.default-4.result ∷ c.default-5.result ∷ [] in
    adds_edges_and_faces g.DE.Default.is_default g.UE.Default.is_default g.F.Default.is_default
    (insertion_stored c.args.store.now c.args.first c.args.tip)
    ((a.normalized, a.reversed, a.undirected) ∷ (b.normalized, b.reversed, b.undirected) ∷ (d.normalized, d.reversed, d.undirected) ∷ [])
    faces (c.default.ensures, (c.default-2.ensures, (c.default-3.ensures, tt)))
    (All-from_recursion g.F.Default.is_default faces (c.default-4.ensures, (c.default-5.ensures, tt)))
    (
    rw (
      c.set_vertex_anchor.ensures,
      c.push_face-2.ensures,
      c.push_face.ensures,
      c.push_three_edges.ensures,
      c.spoke-3.ensures,
      c.spoke-2.ensures,
      c.spoke.ensures,
      c.close_three_sectors.ensures,
      c.new-c.ensures,
      c.new-b.ensures,
      c.new-a.ensures,
    )
    (rw (
      c.new.ensures,
      c.new-2.ensures,
      c.num_faces-faces.ensures.count,
      c.num_edges-edges.ensures.count,
      c.face.ensures,
      c.prev-third.ensures,
      c.next-second.ensures,
    )
    (rw (second_half, third_half, second_back, third_back, two_places) (simp append_assoc))))
