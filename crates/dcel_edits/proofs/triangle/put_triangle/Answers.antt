use Rattle.std.proofs.Common.{◌≡◌, ℕ, ◌-◌, List, [], ◌∷◌, refl, arith}
use Rattle.std.proofs.lemmas.List.Elements.{All-from_recursion}
use Rattle.dcel_maps.proofs.edits.Adding.{adds_edges_and_faces}
use Rattle.dcel_edits.specs.Triangle.{triangle_stored}
use Rattle.dcel_edits.proofs.triangle.put_triangle.Goals as goal

two_less : (n : ℕ) → n - 1 - 1 ≡ n - 2
two_less n = omega arith

three_less : (n : ℕ) → n - 1 - 1 - 1 ≡ n - 3
three_less n = omega arith

pub returns : goal.returns
returns g c =
    let a = c.default-3.result in
    let b = c.default-4.result in
    let d = c.default-5.result in
    let faces : List g.row.F.Denot = c.default.result ∷ c.default-2.result ∷ [] in
    adds_edges_and_faces g.DE.Default.is_default g.UE.Default.is_default g.F.Default.is_default
    (triangle_stored c.args.store.now c.args.vertices)
    ((a.normalized, a.reversed, a.undirected) ∷ (b.normalized, b.reversed, b.undirected) ∷ (d.normalized, d.reversed, d.undirected) ∷ [])
    faces (c.default-3.ensures, (c.default-4.ensures, (c.default-5.ensures, tt)))
    (All-from_recursion g.F.Default.is_default faces (c.default.ensures, (c.default-2.ensures, tt)))
    (rw (
      c.push_edge-3.ensures,
      c.push_edge-2.ensures,
      c.push_edge.ensures,
      c.push_face-2.ensures,
      c.push_face.ensures,
      c.push_vertex-3.ensures,
      c.push_vertex-2.ensures,
      c.push_vertex.ensures,
    )
    (rw (
      c.numbered_links-6.ensures,
      c.numbered_links-5.ensures,
      c.numbered_links-4.ensures,
      c.numbered_links-3.ensures,
      c.numbered_links-2.ensures,
      c.numbered_links.ensures,
      c.new-5.ensures,
      c.new-4.ensures,
      c.new-3.ensures,
      c.new-2.ensures,
      c.new.ensures,
      c.requires.empty.is,
      three_less c.args.store.now.vertex_room,
      three_less c.args.store.now.edge_room,
      two_less c.args.store.now.face_room,
    ) refl))
