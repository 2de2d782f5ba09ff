use Rattle.std.proofs.Common.{◌≡◌, Some, refl, sym, ap, ◌∙◌}
use Rattle.std.proofs.lemmas.Bool.{both_ways, false≢true}
use Rattle.dcel_maps.specs.Shapes.{face_anchor, next_of}
use Rattle.dcel_maps.specs.theory.RingTests.{IsCovered}
use Rattle.dcel_maps.specs.Walking.{in_mesh, walk_from}
use Rattle.dcel_maps.proofs.removal.RingLoops.{covering_begins, covering_ends, covering_fails, covering_goes_on, walk_covers}
use Rattle.dcel_maps.proofs.walks.Faces.{anchor-below, anchor-lies}
use Rattle.spade_dcel.proofs.dcel.Dcel.is_covered.Goals as goal

pub directed_edge-requires : goal.directed_edge-requires
directed_edge-requires g c =
    anchor-below c.every_mesh.ensures c.args.face c.requires c.in-Some.first (sym c.face_adjacent_edge.ensures ∙ c.in-Some.is)

pub new-walk-requires : goal.new-walk-requires
new-walk-requires g c =
    rw (c.directed_edge.ensures.mesh, c.directed_edge.ensures.number)
    (anchor-lies c.every_mesh.ensures c.args.face c.requires c.in-Some.first (sym c.face_adjacent_edge.ensures ∙ c.in-Some.is)).live

pub loop-edge-init : goal.loop-edge-init
loop-edge-init g c =
    let m = c.args.self.now in
    let some : face_anchor m c.args.face ≡ Some c.in-Some.first = sym c.face_adjacent_edge.ensures ∙ c.in-Some.is in
    let items = rw (c.directed_edge.ensures.mesh, c.directed_edge.ensures.number) at c.new-walk.ensures.items in
    rw (c.into_iter-edge-iterator.ensures.into_iter_gives)
    (covering_begins m (IsCovered c.args.edges.now c.args.list.now) (walk_from m.shape (next_of m.shape) (face_anchor m c.args.face)) c.new-walk.result.items
    (items ∙ sym (ap (λ a. in_mesh m (walk_from m.shape (next_of m.shape) a)) some)))

pub loop-edge-preserved : goal.loop-edge-preserved
loop-edge-preserved g c =
    let m = c.args.self.now in
    covering_goes_on m (IsCovered c.args.edges.now c.args.list.now) (walk_from m.shape (next_of m.shape) (face_anchor m c.args.face)) _ _ _ _
    c.loop-edge.invariant c.in-Some-edge.ensures.steps.0
    (rw c.fix.ensures.value at (c.is_edge_or_item.ensures.0 c.if-not-is_edge_or_item.false))

pub returns-then-not-is_edge_or_item : goal.returns-then-not-is_edge_or_item
returns-then-not-is_edge_or_item g c =
    let m = c.args.self.now in (
      λ is. absurd (false≢true is),
      λ all. absurd (covering_fails m (IsCovered c.args.edges.now c.args.list.now) (walk_from m.shape (next_of m.shape) (face_anchor m c.args.face)) _ _ _ _
          c.loop-edge.invariant c.in-Some-edge.ensures.steps.0
          (λ has. both_ways c.is_edge_or_item.result c.if-not-is_edge_or_item.true (c.is_edge_or_item.ensures.1 (rw c.fix.ensures.value has)))
          ((walk_covers m c.every_mesh.ensures c.args.face c.requires (IsCovered c.args.edges.now c.args.list.now)).1 all)),
    )

pub returns : goal.returns
returns g c =
    let m = c.args.self.now in (
      λ is.
          (walk_covers m c.every_mesh.ensures c.args.face c.requires (IsCovered c.args.edges.now c.args.list.now)).0
          (covering_ends m (IsCovered c.args.edges.now c.args.list.now) (walk_from m.shape (next_of m.shape) (face_anchor m c.args.face)) _
          c.loop-edge.invariant c.in-None.ensures.steps.0.0),
      λ all. refl,
    )
