use Rattle.std.proofs.Common.{◌≡◌, ◌↔◌, ◌/◌, IsTrue, false, sym, ◌∙◌, arith}
use Rattle.std.proofs.lemmas.Bool.{both_ways, false≢true}
use Rattle.std.proofs.lemmas.Bool.Decides.{nat_tests}
use Rattle.dcel_maps.specs.Shapes.{edge_is_live}
use Rattle.dcel_maps.proofs.removal.StripSectors.{strip_iff-from}
use Rattle.spade_dcel.proofs.dcel.Dcel.is_edge_strip.Goals as goal

-- what fails the test is no strip from its end, and so no strip
refused : {P Q : Type 0} → P ↔ Q → ¬ Q → IsTrue false ↔ P
refused same none = (λ is. absurd (false≢true is), λ has. absurd (none (same.0 has)))

pub returns-then-not-is_live_edge : goal.returns-then-not-is_live_edge
returns-then-not-is_live_edge g c =
    let dead = sym c.is_live_edge.ensures ∙ c.if-not-is_live_edge.true in
    refused (strip_iff-from c.args.self.now.shape c.every_mesh.ensures.sound c.args.list.now c.in-Some.others.now c.in-Some.field-0-0.now c.in-Some.ensures.cases.0)
    (λ strip. both_ways (edge_is_live c.args.self.now.shape (c.in-Some.field-0-0.now / 2)) (rw c.as_undirected.ensures at dead) strip.live)

pub returns-then-not-is_outer : goal.returns-then-not-is_outer
returns-then-not-is_outer g c =
    refused (strip_iff-from c.args.self.now.shape c.every_mesh.ensures.sound c.args.list.now c.in-Some.others.now c.in-Some.field-0-0.now c.in-Some.ensures.cases.0)
    (λ strip. let at = c.face_of_edge.ensures.value ∙ strip.outer in grind (arith, nat_tests, c.is_outer.ensures, c.if-not-is_outer.true))

pub returns-then-eq : goal.returns-then-eq
returns-then-eq g c =
    let shape = c.args.self.now.shape in
    refused (strip_iff-from shape c.every_mesh.ensures.sound c.args.list.now c.in-Some.others.now c.in-Some.field-0-0.now c.in-Some.ensures.cases.0)
    (λ strip.
    let same : c.next_edge.result ≡ c.prev_edge-outer_out.result = grind (arith, nat_tests, c.eq.ensures, c.if-eq.true) in
    strip.long (sym c.next_edge.ensures.value ∙ same ∙ c.prev_edge-outer_out.ensures.value))

pub returns : goal.returns
returns g c =
    let shape = c.args.self.now.shape in
    let strip = strip_iff-from shape c.every_mesh.ensures.sound c.args.list.now c.in-Some.others.now c.in-Some.field-0-0.now c.in-Some.ensures.cases.0 in
    let others = rw c.prev_edge-outer_out.ensures.value at c.goes_along.ensures in
    let live = sym c.is_live_edge.ensures ∙ c.if-not-is_live_edge.false in (
      λ goes. strip.1 (record {
        live = rw c.as_undirected.ensures at live;
        outer = sym c.face_of_edge.ensures.value ∙ grind (arith, nat_tests, c.is_outer.ensures, c.if-not-is_outer.false);
        long = λ is.
            let same = c.next_edge.ensures.value ∙ is ∙ sym c.prev_edge-outer_out.ensures.value in
            grind (arith, nat_tests, c.eq.ensures, c.if-eq.false);
        spokes = others.0 goes;
      }),
      λ has. others.1 (strip.0 has).spokes,
    )
