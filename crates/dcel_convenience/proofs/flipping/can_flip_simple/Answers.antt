use Rattle.std.proofs.Common.{◌≡◌, ◌∙◌, ℕ, ◌*◌, ap}
use Rattle.std.proofs.lemmas.Bool.{false≢true}
use Rattle.spade_dcel.specs.Handles.{number_of}
use Rattle.dcel_fixed.specs.HalfEdges.{rev}
use Rattle.dcel_convenience.proofs.Simple.{corner, corner_of, corners_tell, hull_told, not_simple}
use Rattle.dcel_convenience.proofs.flipping.can_flip_simple.Goals as goal

pub returns-then-is_part_of_convex_hull : goal.returns-then-is_part_of_convex_hull
returns-then-is_part_of_convex_hull g c =
    let mesh : c.as_directed-half.result.dcel.now ≡ c.args.dcel.now = c.as_directed-half.ensures.mesh ∙ c.undirected_edge.ensures.mesh in
    let half : c.as_directed-half.result.number ≡ 2 * c.args.edge = c.as_directed-half.ensures.number ∙ ap (λ (u : ℕ). 2 * u) c.undirected_edge.ensures.number in
    let told = hull_told c.is_part_of_convex_hull.result c.args.dcel.now c.as_directed-half.result.dcel.now (2 * c.args.edge) c.as_directed-half.result.number mesh half c.is_part_of_convex_hull.ensures in
    (λ no. absurd (false≢true no), λ simple. absurd (not_simple c.args.dcel.now.shape c.args.edge (told.0 c.if-is_part_of_convex_hull.true) simple))

pub returns : goal.returns
returns g c =
    let m = c.args.dcel.now in
    let s = m.shape in
    let mesh : c.as_directed-half.result.dcel.now ≡ m = c.as_directed-half.ensures.mesh ∙ c.undirected_edge.ensures.mesh in
    let half : c.as_directed-half.result.number ≡ 2 * c.args.edge = c.as_directed-half.ensures.number ∙ ap (λ (u : ℕ). 2 * u) c.undirected_edge.ensures.number in
    let told = hull_told c.is_part_of_convex_hull.result m c.as_directed-half.result.dcel.now (2 * c.args.edge) c.as_directed-half.result.number mesh half c.is_part_of_convex_hull.ensures in
    let near : c.fix-near.result ≡ corner_of s (2 * c.args.edge) =
    c.fix-near.ensures.value ∙ corner c.prev.result.dcel.now c.as_directed-half.result.dcel.now m c.from.result.number c.prev.result.number c.as_directed-half.result.number (2 * c.args.edge)
    c.from.ensures.number c.prev.ensures.number c.prev.ensures.mesh mesh half in
    let far : c.fix-far.result ≡ corner_of s (rev (2 * c.args.edge)) =
    c.fix-far.ensures.value ∙ corner c.prev-2.result.dcel.now c.rev.result.dcel.now m c.from-2.result.number c.prev-2.result.number c.rev.result.number (rev (2 * c.args.edge))
    c.from-2.ensures.number c.prev-2.ensures.number c.prev-2.ensures.mesh (c.rev.ensures.mesh ∙ mesh) (c.rev.ensures.number ∙ ap rev half) in
    corners_tell s c.args.edge c.fix-near.result c.fix-far.result c.get_edge_from_neighbors.result (λ edge. number_of edge) c.is_none.result near far c.is_none.ensures
    (c.can_flip.ensures.0 c.if-not-can_flip.false)
    (λ hull. let is = told.1 hull in let no = c.if-is_part_of_convex_hull.false in cc)
    c.get_edge_from_neighbors.ensures.joined
