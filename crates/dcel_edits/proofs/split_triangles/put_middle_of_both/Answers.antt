use Rattle.std.proofs.Common.{[], ◌∷◌, ap}
use Rattle.std.proofs.lemmas.List.{append_assoc}
use Rattle.std.proofs.lemmas.List.Elements.{All-from_recursion}
use Rattle.dcel_maps.proofs.edits.Adding.{adds_edges_and_faces}
use Rattle.dcel_edits.specs.SplitTriangles.{both_stored}
use Rattle.dcel_edits.specs.declared.split_triangles.Round.{Round}
use Rattle.dcel_edits.proofs.Numbers.{two_places}
use Rattle.dcel_edits.proofs.split_triangles.put_middle_of_both.Goals as goal

pub returns-clause-stored : goal.returns-clause-stored
returns-clause-stored g c =
    let a = c.default.result in
    let b = c.default-2.result in
    let d = c.default-3.result in
    let faces = c.default-4.result ∷ c.default-5.result ∷ [] in
    -- the writes, with the numbers of the sectors
    let first = ap (λ (r : Round). r.after_twin) c.new-round.ensures in
    let second = ap (λ (r : Round). r.before_twin) c.new-round.ensures in
    let third = ap (λ (r : Round). r.after_edge) c.new-round.ensures in
    let fourth = ap (λ (r : Round). r.before_edge) c.new-round.ensures in
    let twin = c.rev-twin.ensures in
    let origin = rw twin at c.set_origin.ensures in
    let near_anchor = rw fourth at c.set_face_anchor.ensures in
    let far_anchor = rw first at c.set_face_anchor-2.ensures in
    let middle_anchor = rw twin at c.set_vertex_anchor-2.ensures in
    let closed = rw (first, second, third, fourth) at c.close.ensures in
    let spoke_after_twin = rw (first, second) at c.spoke.ensures in
    let spoke_before_twin = rw (second, third) at c.spoke-2.ensures in
    let spoke_after_edge = rw (third, fourth) at c.spoke-3.ensures in
    let spokes = rw (spoke_after_twin, spoke_before_twin, spoke_after_edge) at c.push_three_edges.ensures in
    let face_before_twin = rw second at c.push_face.ensures in
    let face_after_edge = rw third at c.push_face-2.ensures in
    let anchor = rw (third, second) at c.set_vertex_anchor.ensures in
    adds_edges_and_faces g.DE.Default.is_default g.UE.Default.is_default g.F.Default.is_default
    (both_stored c.args.store.now c.args.edge c.args.middle)
    ((a.normalized, a.reversed, a.undirected) ∷ (b.normalized, b.reversed, b.undirected) ∷ (d.normalized, d.reversed, d.undirected) ∷ [])
    faces (c.default.ensures, (c.default-2.ensures, (c.default-3.ensures, tt)))
    (All-from_recursion g.F.Default.is_default faces (c.default-4.ensures, (c.default-5.ensures, tt)))
    (rw (
      face_after_edge,
      face_before_twin,
      spokes,
      middle_anchor,
      anchor,
      far_anchor,
      near_anchor,
      origin,
      closed,
    )
    (rw two_places (simp append_assoc)))
