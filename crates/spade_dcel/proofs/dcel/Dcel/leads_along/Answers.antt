use Rattle.std.proofs.Common.{sym, ◌∙◌}
use Rattle.std.proofs.lemmas.Bool.{both_ways, false≢true}
use Rattle.std.proofs.lemmas.List.{nil_from_length}
use Rattle.dcel_maps.specs.Shapes.{origin_of}
use Rattle.dcel_maps.proofs.removal.RingLoops.{along_begins, along_ends, along_fails, along_goes_on}
use Rattle.spade_dcel.proofs.dcel.Dcel.leads_along.Goals as goal

pub loop-following-init : goal.loop-following-init
loop-following-init g c =
    let shape = c.args.self.now.shape in
    along_begins shape c.args.edges.now (origin_of shape c.args.first) c.args.first c.args.first c.args.others.now c.requires

pub loop-following-preserved : goal.loop-following-preserved
loop-following-preserved g c =
    let shape = c.args.self.now.shape in
    along_goes_on shape c.args.edges.now (origin_of shape c.args.first) c.args.first c.args.first c.args.others.now c.loop-following.half
    c.loop-following.left.now c.loop-following.invariant c.in-Some.field-0-0.now c.in-Some.before.now c.in-Some.ensures.cases.0
    (c.goes_on.ensures.live c.if-not-goes_on.false) (c.goes_on.ensures.step.0 c.if-not-goes_on.false).0
    (λ same. (c.goes_on.ensures.step.0 c.if-not-goes_on.false).1 (same ∙ sym c.origin-apex.ensures.value))

pub returns-then-not-goes_on : goal.returns-then-not-goes_on
returns-then-not-goes_on g c =
    let shape = c.args.self.now.shape in (
      λ is. absurd (false≢true is),
      λ all. absurd (along_fails shape c.args.edges.now (origin_of shape c.args.first) c.args.first c.args.first c.args.others.now c.loop-following.half
          c.loop-following.left.now c.loop-following.invariant c.in-Some.field-0-0.now c.in-Some.before.now c.in-Some.ensures.cases.0
          (λ to apart. both_ways c.goes_on.result c.if-not-goes_on.true
          (c.goes_on.ensures.step.1 (to, λ same. apart (same ∙ c.origin-apex.ensures.value)))) all),
    )

pub returns : goal.returns
returns g c =
    let shape = c.args.self.now.shape in
    let ends = along_ends shape c.args.edges.now (origin_of shape c.args.first) c.args.first c.args.first c.args.others.now c.loop-following.half
    c.loop-following.left.now c.loop-following.invariant (nil_from_length c.loop-following.left.now c.in_default.ensures.cases) in
    (λ is. ends.0 (c.steps_to.ensures.step.0 is), λ all. c.steps_to.ensures.step.1 (ends.1 all))
