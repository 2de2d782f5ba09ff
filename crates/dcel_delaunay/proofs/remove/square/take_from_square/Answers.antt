use Rattle.std.proofs.Common.{◌≡◌, ℕ, ◌+◌, [], ◌∷◌, ◌++◌, ap, arith, List, map, reverse, subst, sym, ◌∙◌}
use Rattle.dcel_maps.specs.edits.Fill.{edges_at, faces_at}
use Rattle.dcel_maps.specs.Renumbering.{new_number}
use Rattle.dcel_maps.proofs.removal.RingLists.{border_long}
use Rattle.dcel_planar.specs.Legalization.{ListsLoose}
use Rattle.dcel_delaunay.proofs.FromRing.{from_square}
use Rattle.dcel_delaunay.proofs.Lost.{more_vertices}
use Rattle.dcel_delaunay.proofs.Renaming.{listed_fits, renamed_as}
use Rattle.dcel_delaunay.proofs.TakenOut.{taken}
use Rattle.dcel_delaunay.specs.Thinning.{with_spokes}
use Rattle.dcel_delaunay.proofs.remove.square.take_from_square.Goals as goal

pub renumber-requires : goal.renumber-requires
renumber-requires g c =
    let m = c.args.dcel.now in
    let spokes = c.in-Ok.taken.removed_edges in
    let ring =
    from_square g.UE.EdgeConstraint.is_constraint _ _ _ m c.remove_from_square.new.dcel c.every_mesh.ensures c.requires.sound c.args.vertex c.requires.thin c.args.border.now c.requires.border
    c.in-Ok.ensures.edit g.met.UE.FreeByDefault.default_is_free spokes c.args.due.now.items c.in-Ok.ensures.edges c.requires.around c.requires.four c.requires.room in
    let four = c.requires.four in
    let edges = ring.edges in
    let count = c.num_undirected_edges-count.ensures.count in
    listed_fits ring.mid ring.mesh (edges_at m c.args.vertex) (faces_at m c.args.vertex) spokes (c.num_undirected_edges-count.result + 1) ring.named c.in-Ok.ensures.edges
    (omega (arith, four, edges, count))

pub returns-clause-taken : goal.returns-clause-taken
returns-clause-taken g c =
    let m = c.args.dcel.now in
    let spokes = c.in-Ok.taken.removed_edges in
    let ring =
    from_square g.UE.EdgeConstraint.is_constraint _ _ _ m c.remove_from_square.new.dcel c.every_mesh.ensures c.requires.sound c.args.vertex c.requires.thin c.args.border.now c.requires.border
    c.in-Ok.ensures.edit g.met.UE.FreeByDefault.default_is_free spokes c.args.due.now.items c.in-Ok.ensures.edges c.requires.around c.requires.four c.requires.room in
    let four = c.requires.four in
    let edges = ring.edges in
    let count = c.num_undirected_edges-count.ensures.count in
    let renamed =
    renamed_as ring.mid.shape (edges_at m c.args.vertex) (faces_at m c.args.vertex) spokes (c.args.due.now.items ++ m.shape.edges ∷ []) c.renumber.new.due.items (c.num_undirected_edges-count.result + 1) ring.named c.in-Ok.ensures.edges
    (omega (arith, four, edges, count)) ((rw (c.push_reserved.ensures.items, c.new.ensures) at c.renumber.ensures)
    ∙ ap (λ (e : ℕ). map (new_number (c.num_undirected_edges-count.result + 1) (reverse spokes)) (c.args.due.now.items ++ e ∷ [])) count) in
    taken _ m ring.mid c.remove_from_square.new.dcel c.args.vertex (with_spokes m c.args.vertex c.args.due.now.items) (c.args.due.now.items ++ m.shape.edges ∷ []) c.renumber.new.due.items ring.given c.requires.thin.below
    (more_vertices m c.every_mesh.ensures c.requires.sound c.requires.thin.hull) ring.clean c.in-Ok.ensures.mesh ring.is renamed _ c.in-Ok.ensures.datum c.in-Ok.ensures.moved

-- where memory runs out, the edges of the vertex are listed
pub list_spokes-requires-clause-places : goal.list_spokes-requires-clause-places
list_spokes-requires-clause-places g c = rw c.in_default.ensures.refused c.requires.places

pub returns-in_default-clause-still : goal.returns-in_default-clause-still
returns-in_default-clause-still g c =
    let m = c.args.dcel.now in
    let list = c.list_spokes.new.due.items in
    let listed : list ≡ with_spokes m c.args.vertex c.args.due.now.items = rw c.in_default.ensures.refused at c.list_spokes.ensures in
    rw c.in_default.ensures.refused
    (record { triangulated = c.requires.sound; listed = λ lists. subst (λ (l : List ℕ). ListsLoose g.UE.EdgeConstraint.is_constraint m l) (sym listed) lists })

pub push_reserved-requires : goal.push_reserved-requires
push_reserved-requires g c =
    let long = border_long c.args.dcel.now c.every_mesh.ensures c.args.border.now c.args.vertex c.requires.border.round in
    let four = c.requires.four in
    let places = c.requires.places in
    omega (arith, long, four, places)
