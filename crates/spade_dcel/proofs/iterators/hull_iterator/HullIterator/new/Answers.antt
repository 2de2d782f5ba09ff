use Rattle.std.proofs.Common.{◌≡◌, ◌<◌, ℕ, List, length, sym, ap, ◌∙◌, subst}
use Rattle.std.proofs.lemmas.List.{length-map}
use Rattle.dcel_maps.specs.Count.{IsCounted}
use Rattle.dcel_maps.specs.Shapes.{IsMesh, Mesh}
use Rattle.dcel_maps.specs.Triangulations.{AllTriangles}
use Rattle.dcel_maps.specs.Walking.{hull_of, in_mesh}
use Rattle.dcel_maps.proofs.Counted.{counted}
use Rattle.dcel_maps.proofs.walks.Hull.{hull-empty, hull-lists, hull-reversed, hull-round, hull-turn}
use Rattle.spade_dcel.proofs.iterators.hull_iterator.HullIterator.new.Goals as goal

-- the items of the hull count the live edges
counted_items : {V DE UE F : Type 0} (m : Mesh V DE UE F) → IsMesh m → (items : List (Mesh V DE UE F × ℕ)) → items ≡ in_mesh m (hull_of m)
    → AllTriangles m.shape → 0 < length items → IsCounted m.shape (length items)
counted_items m mesh items is all some =
    let long : length items ≡ length (hull_of m) = ap length is ∙ length-map (hull_of m) (λ n. (m, n)) in
    subst (IsCounted m.shape) (sym long) (counted m mesh all (subst (λ n. 0 < n) long some))

pub returns-clause-word : goal.returns-clause-word
returns-clause-word g c = hull-turn c.every_mesh.ensures

pub returns-clause-each : goal.returns-clause-each
returns-clause-each g c = hull-lists c.every_mesh.ensures

pub returns-clause-round : goal.returns-clause-round
returns-clause-round g c = hull-round c.every_mesh.ensures

pub returns-clause-back : goal.returns-clause-back
returns-clause-back g c = hull-reversed c.every_mesh.ensures

pub returns-clause-count : goal.returns-clause-count
returns-clause-count g c =
    let m = c.args.dcel.now in
    let items = c.directed_edges.result.items in
    let are : items ≡ in_mesh m (hull_of m) = rw (c.outer_face.ensures.mesh, c.outer_face.ensures.number) at c.directed_edges.ensures.items in
    counted_items m c.every_mesh.ensures items are

pub returns-clause-none : goal.returns-clause-none
returns-clause-none g c = hull-empty c.every_mesh.ensures
