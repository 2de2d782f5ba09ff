use Rattle.std.proofs.Common.{◌≢◌, ◌*◌, sym, ap, ◌∙◌, arith}
use Rattle.std.proofs.lemmas.Bool.{false≢true}
use Rattle.dcel_maps.specs.Shapes.{face_of}
use Rattle.dcel_maps.proofs.Liveness.{closed-live, closed-even_live}
use Rattle.spade_dcel.proofs.dcel.Dcel.has_triangles_at_even_halves.Goals as goal

pub face_of_edge-requires : goal.face_of_edge-requires
face_of_edge-requires g c = rw c.new_normalized-edge.ensures (closed-even_live c.args.self.now.shape c.requires c.loop-index.index (omega arith))

pub is_on_triangle-requires : goal.is_on_triangle-requires
is_on_triangle-requires g c = rw c.new_normalized-edge.ensures (closed-even_live c.args.self.now.shape c.requires c.loop-index.index (omega arith))

pub returns-then-not-is_on_triangle : goal.returns-then-not-is_on_triangle
returns-then-not-is_on_triangle g c =
    let shape = c.args.self.now.shape in
    let live = closed-live shape c.requires c.loop-index.index (omega arith) in
    let inner : face_of shape (2 * c.loop-index.index) ≢ 0 =
    λ outer. false≢true (sym c.if-not-is_outer.true ∙ c.is_outer.ensures.1 (c.face_of_edge.ensures.value ∙ ap (face_of shape) c.new_normalized-edge.ensures ∙ outer)) in
    let three = rw c.new_normalized-edge.ensures at c.is_on_triangle.ensures.1 in (
      λ no. absurd (false≢true no),
      λ all. sym c.if-not-is_on_triangle.true ∙ three (all c.loop-index.index live inner),
    )
