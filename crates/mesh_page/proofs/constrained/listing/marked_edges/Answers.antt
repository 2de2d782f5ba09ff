use Rattle.std.proofs.Common.{◌≡◌, ◌++◌, ◌∷◌, [], ◌<◌, filter, List, length, map, ap, ◌∙◌, refl, rules, sym, subst, arith}
use Rattle.std.proofs.lemmas.List.{length-map}
use Rattle.std.proofs.lemmas.Option.{slice_get_read}
use Rattle.dcel_constrained.specs.Constrained.{marked_mesh}
use Rattle.dcel_constrained.specs.Sight.{hides}
use Rattle.dcel_delaunay.specs.Lists.{ends_of}
use Rattle.dcel_delaunay.specs.declared.lists.Ends.{Ends}
use Rattle.dcel_maps.specs.Numbers.{numbers_between}
use Rattle.dcel_maps.specs.Shapes.{IsMesh}
use Rattle.dcel_maps.proofs.walks.Numbers.{length-numbers}
use Rattle.dcel_regions.specs.Marked.{IsMarked}
use Rattle.mesh_page.proofs.Meshes.{mesh_is}
use Rattle.mesh_page.proofs.Marked.{ends_at, free_next, listed_of, marked_next, none_yet}
use Rattle.mesh_page.proofs.constrained.listing.marked_edges.Goals.{else-is_constraint, then-is_constraint+in_ok-push}
use Rattle.mesh_page.proofs.constrained.listing.marked_edges.Goals as goal

pub loop-number-init : goal.loop-number-init
loop-number-init c =
    let m = marked_mesh c.args.points.now in
    let empty : c.new-list.result.items ≡ [] = search rules in
    record {
      up_to = omega arith;
      list = empty ∙ sym (none_yet (hides m) (ends_of m.shape));
    }

pub new-requires : goal.new-requires
new-requires c =
    let m = marked_mesh c.args.points.now in
    let test = c.loop-number-test.true in
    let mesh : IsMesh m = mesh_is c.dcel-mesh.result.now m c.dcel-mesh.ensures.mesh c.every_mesh.ensures in
    let few = mesh.sized.few_edges in
    let long = ap length (listed_of c.dcel-mesh.result.now m c.dcel-mesh.ensures.mesh c.in_ok-edges.edges.items c.in_ok-edges.ensures) ∙ length-map (numbers_between 0 m.shape.edges) (ends_of m.shape) in
    omega (arith, test, few, long, length-numbers 0 m.shape.edges)

pub loop-number-preserved : goal.loop-number-preserved
loop-number-preserved c =
    let m = marked_mesh c.args.points.now in
    let k = c.loop-number.number in
    let test = c.loop-number-test.true in
    let edges = c.in_ok-edges.edges.items in
    let below : k < length edges = omega (arith, test) in
    elim c.if-is_constraint.branch [
      | then-is_constraint+in_ok-push w ↦
          let marked : IsMarked m k = subst (IsMarked m) c.new.ensures (c.is_constraint.ensures.0 w.if-is_constraint.true) in
          let item = w.index.result.now in
          record {
            up_to = omega (arith, test);
            list =
                ap (λ v. v.items) w.list-is ∙ w.in_ok-push.ensures.items
                ∙ ap (λ (l : List Ends). l ++ item ∷ []) c.loop-number.invariant.list
                ∙ ap (λ (e : Ends). map (ends_of m.shape) (filter (hides m) (numbers_between 0 k)) ++ e ∷ [])
                (ends_at m k edges item (listed_of c.dcel-mesh.result.now m c.dcel-mesh.ensures.mesh edges c.in_ok-edges.ensures)
                (slice_get_read edges (length edges) k item refl below w.index.ensures))
                ∙ sym (marked_next m k marked);
          }
      | else-is_constraint w ↦
          let free : ¬ IsMarked m k = λ marked. (let so = c.is_constraint.ensures.1 (subst (IsMarked m) (sym c.new.ensures) marked) in let not = w.if-is_constraint.false in cc) in
          record {
            up_to = omega (arith, test);
            list = ap (λ v. v.items) w.list-is ∙ c.loop-number.invariant.list ∙ sym (free_next m k free);
          }
    ]

pub returns : goal.returns
returns c =
    let m = marked_mesh c.args.points.now in
    let test = c.loop-number-test.false in
    let up_to = c.loop-number.invariant.up_to in
    let long = ap length (listed_of c.dcel-mesh.result.now m c.dcel-mesh.ensures.mesh c.in_ok-edges.edges.items c.in_ok-edges.ensures) ∙ length-map (numbers_between 0 m.shape.edges) (ends_of m.shape) in
    let all : c.loop-number.number ≡ m.shape.edges = omega (arith, test, up_to, long, length-numbers 0 m.shape.edges) in
    subst (λ n. c.loop-number.list.items ≡ map (ends_of m.shape) (filter (hides m) (numbers_between 0 n))) all c.loop-number.invariant.list
