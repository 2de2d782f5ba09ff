use Rattle.std.proofs.Common.{[], ◌∷◌}
use Rattle.std.proofs.lemmas.List.{append_assoc}
use Rattle.std.proofs.lemmas.List.Elements.{All-from_recursion}
use Rattle.dcel_fixed.proofs.Halves.{rev-double}
use Rattle.dcel_maps.proofs.edits.Adding.{adds_edges_and_faces}
use Rattle.dcel_edits.specs.SplitTriangles.{one_stored}
use Rattle.dcel_edits.proofs.Numbers.{second_back, second_half, two_places}
use Rattle.dcel_edits.proofs.split_triangles.put_middle_of_one.Goals as goal

pub returns-clause-stored : goal.returns-clause-stored
returns-clause-stored g c =
    let a = c.default.result in
    let b = c.default-2.result in
    let faces = c.default-3.result ∷ [] in
    let twin = c.rev-twin.ensures in
    let edges = c.num_edges-edges.ensures.count in
    let spoke = rw edges at c.new_normalized-spoke.ensures in
    let back = rw (spoke, rev-double) at c.rev-back.ensures in
    let half = rw (edges, second_half) at c.new_normalized-second_half.ensures in
    let new_twin = rw (c.new_normalized-second_half.ensures, edges, rev-double, second_half, second_back) at c.rev-new_twin.ensures in
    let new_face = rw c.num_faces.ensures.count at c.new-new_face.ensures in
    let before = rw twin at c.prev-before_twin.ensures in
    let twin_face = rw twin at c.face-twin_face.ensures in
    -- the sectors
    let on_after_edge = rw (new_face, spoke, half) at c.after-after_edge.ensures in
    let on_before_edge = rw (c.prev.ensures, c.face-edge_face.ensures, back) at c.between-before_edge.ensures in
    -- the writes, with these numbers
    let close_after_edge = rw on_after_edge at c.close_sector.ensures in
    let close_before_edge = rw on_before_edge at c.close_sector-2.ensures in
    let next = rw back at c.set_next.ensures in
    let next_before = rw (before, new_twin) at c.set_next-2.ensures in
    let prev = rw (twin, new_twin) at c.set_prev.ensures in
    let origin = rw twin at c.set_origin.ensures in
    let spokes = rw (on_after_edge, on_before_edge) at c.push_spoke.ensures in
    let parts = rw (c.links.ensures, c.links-2.ensures, on_after_edge, spoke, new_face, twin, before, twin_face) at c.push_edge.ensures in
    let face_anchor = rw c.face-edge_face.ensures at c.set_face_anchor.ensures in
    let face = rw half at c.push_face.ensures in
    let end_anchor = rw (on_after_edge, new_twin) at c.set_vertex_anchor.ensures in
    let middle_anchor = rw half at c.set_vertex_anchor-2.ensures in
    adds_edges_and_faces g.DE.Default.is_default g.UE.Default.is_default g.F.Default.is_default
    (one_stored c.args.store.now c.args.edge c.args.middle)
    ((a.normalized, a.reversed, a.undirected) ∷ (b.normalized, b.reversed, b.undirected) ∷ [])
    faces (c.default.ensures, (c.default-2.ensures, tt))
    (All-from_recursion g.F.Default.is_default faces (c.default-3.ensures, tt))
    (rw (
      middle_anchor,
      end_anchor,
      face,
      face_anchor,
      parts,
      spokes,
      origin,
      prev,
      next_before,
      next,
      close_before_edge,
      close_after_edge,
    )
    (rw two_places (simp append_assoc)))
