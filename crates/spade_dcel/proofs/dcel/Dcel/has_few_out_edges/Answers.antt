use Rattle.std.proofs.Common.{sym, ◌∙◌}
use Rattle.std.proofs.lemmas.Bool.Decides.{Decides-eqb, Decides-like}
use Rattle.dcel_maps.specs.Shapes.{vertex_anchor}
use Rattle.dcel_maps.proofs.removal.Paths.{few_iff, out_anchor, turned_pair}
use Rattle.spade_dcel.proofs.dcel.Dcel.has_few_out_edges.Goals as goal

pub prev_edge-requires : goal.prev_edge-requires
prev_edge-requires g c =
    let m = c.args.self.now in
    (out_anchor m.shape c.args.handle (vertex_anchor m c.args.handle) c.in-Some.out_edge (sym c.vertex_out_edge.ensures ∙ c.in-Some.is)
    (c.every_mesh.ensures.anchored.vertices c.args.handle c.requires)).live

pub prev_edge-requires-2 : goal.prev_edge-requires-2
prev_edge-requires-2 g c =
    let m = c.args.self.now in
    let out = out_anchor m.shape c.args.handle (vertex_anchor m c.args.handle) c.in-Some.out_edge (sym c.vertex_out_edge.ensures ∙ c.in-Some.is)
    (c.every_mesh.ensures.anchored.vertices c.args.handle c.requires) in
    rw (c.rev-other.ensures, c.prev_edge.ensures.value)
    (turned_pair m.shape c.every_mesh.ensures.sound c.args.handle c.in-Some.out_edge out c.in-Some.out_edge out).live

pub returns : goal.returns
returns g c =
    let m = c.args.self.now in
    let out = out_anchor m.shape c.args.handle (vertex_anchor m c.args.handle) c.in-Some.out_edge (sym c.vertex_out_edge.ensures ∙ c.in-Some.is)
    (c.every_mesh.ensures.anchored.vertices c.args.handle c.requires) in
    let few = few_iff m.shape c.every_mesh.ensures.sound c.args.handle c.in-Some.out_edge out in
    rw (c.eq.ensures, c.rev.ensures, c.prev_edge-2.ensures.value, c.rev-other.ensures, c.prev_edge.ensures.value)
    (Decides-like _ few.0 few.1 (Decides-eqb _ c.in-Some.out_edge))
