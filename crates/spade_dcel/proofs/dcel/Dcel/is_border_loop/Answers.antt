use Rattle.std.proofs.Common.{◌↔◌, IsTrue, false, sym, ap, ◌∙◌, subst, arith}
use Rattle.std.proofs.lemmas.Bool.{both_ways, false≢true}
use Rattle.std.proofs.lemmas.Bool.Decides.{nat_tests}
use Rattle.std.proofs.lemmas.List.{length-reverse}
use Rattle.dcel_maps.specs.Shapes.{origin_of}
use Rattle.dcel_maps.specs.theory.Sectors.{IsSector}
use Rattle.dcel_maps.proofs.removal.Sectors.{loop_iff-ring}
use Rattle.spade_dcel.proofs.dcel.Dcel.is_border_loop.Goals as goal

-- what fails the test is no ring, and so no border loop
refused : {P Q : Type 0} → P ↔ Q → ¬ Q → IsTrue false ↔ P
refused same none = (λ is. absurd (false≢true is), λ has. absurd (none (same.0 has)))

pub returns-then-others-lt2 : goal.returns-then-others-lt2
returns-then-others-lt2 g c =
    refused (loop_iff-ring c.args.self.now.shape c.every_mesh.ensures.sound c.args.list.now c.in-Some.others.now c.args.vertex c.in-Some.field-0-0.now c.in-Some.ensures.cases.0)
    (λ ring. omega (arith, ring.many, length-reverse c.in-Some.others.now, c.if-others-lt2.true))

pub returns-then-not-is_live_edge : goal.returns-then-not-is_live_edge
returns-then-not-is_live_edge g c =
    let dead = sym c.is_live_edge.ensures ∙ c.if-not-is_live_edge.true in
    refused (loop_iff-ring c.args.self.now.shape c.every_mesh.ensures.sound c.args.list.now c.in-Some.others.now c.args.vertex c.in-Some.field-0-0.now c.in-Some.ensures.cases.0)
    (λ ring. both_ways _ (rw c.as_undirected.ensures at dead) ring.live)

pub returns-then-ne : goal.returns-then-ne
returns-then-ne g c =
    let at = c.origin.ensures.value ∙ ap (origin_of c.args.self.now.shape) c.prev_edge-out_edge.ensures.value in
    refused (loop_iff-ring c.args.self.now.shape c.every_mesh.ensures.sound c.args.list.now c.in-Some.others.now c.args.vertex c.in-Some.field-0-0.now c.in-Some.ensures.cases.0)
    (λ ring. let same = at ∙ ring.center in let differs = sym c.ne.ensures ∙ c.if-ne.true in grind (arith, nat_tests))

pub returns-then-not-is_sector : goal.returns-then-not-is_sector
returns-then-not-is_sector g c =
    refused (loop_iff-ring c.args.self.now.shape c.every_mesh.ensures.sound c.args.list.now c.in-Some.others.now c.args.vertex c.in-Some.field-0-0.now c.in-Some.ensures.cases.0)
    (λ ring.
    both_ways c.is_sector.result c.if-not-is_sector.true
    (c.is_sector.ensures.1 (subst (λ h. IsSector c.args.self.now.shape h c.in-Some.field-0-0.now) (sym c.prev_edge-out_edge.ensures.value) ring.first)))

pub returns : goal.returns
returns g c =
    let shape = c.args.self.now.shape in
    let last = c.in-Some.field-0-0.now in
    let loop = loop_iff-ring shape c.every_mesh.ensures.sound c.args.list.now c.in-Some.others.now c.args.vertex last c.in-Some.ensures.cases.0 in
    let others = rw c.prev_edge-out_edge.ensures.value at c.goes_round.ensures in
    let live = sym c.is_live_edge.ensures ∙ c.if-not-is_live_edge.false in (
      λ goes. loop.1 (record {
        live = rw c.as_undirected.ensures at live;
        center = ap (origin_of shape) (sym c.prev_edge-out_edge.ensures.value) ∙ sym c.origin.ensures.value ∙ grind (arith, nat_tests, c.ne.ensures, c.if-ne.false);
        many = omega (arith, length-reverse c.in-Some.others.now, c.if-others-lt2.false);
        first = subst (λ h. IsSector shape h last) c.prev_edge-out_edge.ensures.value (c.is_sector.ensures.0 c.if-not-is_sector.false);
        others = others.0 goes;
      }),
      λ has. others.1 (loop.0 has).others,
    )
