use Rattle.std.proofs.Common.{◌≡◌, ◌↔◌, ◌<◌, IsTrue, false, sym, ap, ◌∙◌, subst, arith}
use Rattle.std.proofs.lemmas.Bool.{both_ways, false≢true}
use Rattle.dcel_maps.specs.Borders.{IsBorderLoop, center_of}
use Rattle.dcel_maps.specs.Shapes.{origin_of}
use Rattle.dcel_maps.specs.Words.{count_of}
use Rattle.dcel_maps.proofs.removal.RingLists.{finds_iff-ring, lists-long, loop_item-live}
use Rattle.dcel_maps.proofs.words.Counts.{count-same}
use Rattle.spade_dcel.proofs.dcel.Dcel.is_vertex_ring.Goals as goal

-- what fails the test is no ring
refused : {P : Type 0} → ¬ P → IsTrue false ↔ P
refused none = (λ is. absurd (false≢true is), λ has. absurd (none has))

pub returns-then-not-is_live_edge : goal.returns-then-not-is_live_edge
returns-then-not-is_live_edge g c =
    let shape = c.args.self.now.shape in
    let first = c.in-Some.field-0-0.now in
    let there : 0 < count_of first c.args.list.now =
    subst (λ w. 0 < count_of first w) (sym c.in-Some.ensures.cases.0) (omega (arith, count-same first c.in-Some.field-0-1.now)) in
    let dead = rw c.as_undirected.ensures at (sym c.is_live_edge.ensures ∙ c.if-not-is_live_edge.true) in
    refused (λ ring. both_ways _ dead (loop_item-live shape c.every_mesh.ensures.sound c.args.list.now _ ring.border_loop first there))

pub returns-then-not-is_border_loop : goal.returns-then-not-is_border_loop
returns-then-not-is_border_loop g c =
    let shape = c.args.self.now.shape in
    let center : c.origin-center.result ≡ center_of shape c.args.list.now =
    c.origin-center.ensures.value ∙ ap (origin_of shape) c.prev_edge.ensures.value ∙ sym (ap (center_of shape) c.in-Some.ensures.cases.0) in
    refused (λ ring.
    both_ways c.is_border_loop.result c.if-not-is_border_loop.true
    (c.is_border_loop.ensures.1 (subst (IsBorderLoop shape c.args.list.now) (sym center) ring.border_loop)))

pub returns-then-edges-list : goal.returns-then-edges-list
returns-then-edges-list g c =
    refused (λ ring.
    c.if-edges-list.true
    (lists-long c.args.self.now c.every_mesh.ensures c.args.list.now _ ring.border_loop c.args.edges.now c.args.faces.now (ring.each_edge, ring.each_face)).0)

pub returns-then-faces-list : goal.returns-then-faces-list
returns-then-faces-list g c =
    refused (λ ring.
    c.if-faces-list.true
    (lists-long c.args.self.now c.every_mesh.ensures c.args.list.now _ ring.border_loop c.args.edges.now c.args.faces.now (ring.each_edge, ring.each_face)).1)

pub returns : goal.returns
returns g c =
    let shape = c.args.self.now.shape in
    let center : c.origin-center.result ≡ center_of shape c.args.list.now =
    c.origin-center.ensures.value ∙ ap (origin_of shape) c.prev_edge.ensures.value ∙ sym (ap (center_of shape) c.in-Some.ensures.cases.0) in
    let ring =
    finds_iff-ring c.args.self.now c.every_mesh.ensures c.args.list.now c.args.edges.now c.args.faces.now c.origin-center.result center
    (c.is_border_loop.ensures.0 c.if-not-is_border_loop.false) c.if-edges-list.false c.if-faces-list.false in
    (λ finds. ring.0 (c.finds_each.ensures.0 finds), λ is. c.finds_each.ensures.1 (ring.1 is))
