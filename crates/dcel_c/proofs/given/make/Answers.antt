use Rattle.std.proofs.Common.{◌≡◌, ◌∙◌, map, rules}
use Rattle.dcel_exchange.proofs.Defaulted.{edges_default, halves_default}
use Rattle.dcel_c.specs.Calls.{IsZero}
use Rattle.dcel_c.proofs.given.make.Goals as goal

pub returns-in-Ok-from_links-clause-given : goal.returns-in-Ok-from_links-clause-given
returns-in-Ok-from_links-clause-given c =
    let e = c.in-Ok-from_links.ensures in
    let next : c.deref.result.now ≡ map (λ half. half.next) c.args.half_edges.now = search rules in
    let origin : c.deref-2.result.now ≡ map (λ half. half.origin) c.args.half_edges.now = search rules in
    let face : c.deref-3.result.now ≡ map (λ half. half.face) c.args.half_edges.now = search rules in
    record {
      links = rw (← next, ← origin, ← face, ← c.in-Ok-from_slice.ensures.items, ← c.in-Ok-from_slice-2.ensures.items) e.links;
      only = rw (← next, ← origin, ← face, ← c.in-Ok-from_slice.ensures.items, ← c.in-Ok-from_slice-2.ensures.items) e.only;
      vertex_data = e.vertices ∙ c.in-Ok-from_slice.ensures.items;
      face_data = e.faces ∙ c.in-Ok-from_slice-2.ensures.items;
      halves = rw e.halves (halves_default IsZero IsZero c.in-Ok-make_edges.edges.items c.in-Ok-make_edges.ensures.each);
      edges = rw e.edges (edges_default IsZero IsZero c.in-Ok-make_edges.edges.items c.in-Ok-make_edges.ensures.each);
      vertex_anchors = rw (← origin) e.vertex_anchors;
      face_anchors = rw (← face) e.face_anchors;
    }
