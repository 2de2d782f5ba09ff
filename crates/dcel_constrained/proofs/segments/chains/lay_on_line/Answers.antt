use Rattle.std.proofs.Common.{◌≡◌, ◌≢◌, ◌↔◌, ℕ, ◌/◌, IsTrue, ap, ◌∙◌, arith, subst}
use Rattle.std.proofs.lemmas.Bool.Decides.{nat_tests}
use Rattle.dcel_maps.specs.edits.Data.{undirected_edge_updated}
use Rattle.dcel_maps.specs.Shapes.{end_of}
use Rattle.dcel_regions.specs.Marked.{IsMarked}
use Rattle.dcel_regions.specs.declared.mark.Mark.TheVariants.{Constraint}
use Rattle.dcel_constrained.proofs.Laid.{laid_all}
use Rattle.dcel_constrained.proofs.Lays.{line_further, line_nearer}
use Rattle.dcel_constrained.proofs.Opening.{end_told}
use Rattle.dcel_constrained.proofs.Outlined.{ends_of}
use Rattle.dcel_constrained.proofs.segments.chains.lay_on_line.Goals as goal

pub first_along-half-requires-clause-ends : goal.first_along-half-requires-clause-ends
first_along-half-requires-clause-ends g c =
    let more : c.loop-to.at ≢ c.args.to = grind (arith, nat_tests, c.ne.ensures, c.loop-to-test.true) in
    let laying = c.loop-to.invariant in
    ends_of c.loop-to.dcel laying.mesh _ laying.sound c.loop-to.at c.args.to more laying.laid.below laying.laid.end_below

pub loop-to-smaller : goal.loop-to-smaller
loop-to-smaller g c =
    let m = c.loop-to.dcel in
    let half = c.first_along-half.result in
    let more : c.loop-to.at ≢ c.args.to = grind (arith, nat_tests, c.ne.ensures, c.loop-to-test.true) in
    let edge = c.directed_edge in
    let end : c.fix-end.result ≡ end_of m.shape half =
    end_told m half edge.result.dcel.now edge.result.number c.fix-end.result c.to.result.number edge.ensures.mesh edge.ensures.number c.to.ensures.number c.fix-end.ensures.value in
    let is : c.mark-is_new.new.dcel ≡ undirected_edge_updated m (half / 2) Constraint =
    c.mark-is_new.ensures.marked ∙ ap (λ (u : ℕ). undirected_edge_updated m u Constraint) c.as_undirected.ensures in
    line_nearer c.args.dcel.now m c.args.from c.args.to c.loop-to.at c.loop-to.added c.loop-to.invariant half c.first_along-half.ensures c.mark-is_new.new.dcel is
    c.fix-end.result end more

pub loop-to-preserved : goal.loop-to-preserved
loop-to-preserved g c =
    let m = c.loop-to.dcel in
    let half = c.first_along-half.result in
    let edge = c.directed_edge in
    let end : c.fix-end.result ≡ end_of m.shape half =
    end_told m half edge.result.dcel.now edge.result.number c.fix-end.result c.to.result.number edge.ensures.mesh edge.ensures.number c.to.ensures.number c.fix-end.ensures.value in
    let is : c.mark-is_new.new.dcel ≡ undirected_edge_updated m (half / 2) Constraint =
    c.mark-is_new.ensures.marked ∙ ap (λ (u : ℕ). undirected_edge_updated m u Constraint) c.as_undirected.ensures in
    let told = subst (λ (u : ℕ). IsTrue c.mark-is_new.result ↔ (¬ IsMarked m u)) c.as_undirected.ensures c.mark-is_new.ensures.added in
    line_further c.args.dcel.now m c.args.from c.args.to c.loop-to.at c.loop-to.added c.loop-to.invariant half c.first_along-half.ensures c.mark-is_new.new.dcel is
    c.fix-end.result end c.mark-is_new.result c.either-added.result told c.either-added.ensures c.mark-is_new.ensures.mesh

pub returns-clause-laid : goal.returns-clause-laid
returns-clause-laid g c =
    let done : c.loop-to.at ≡ c.args.to = grind (arith, nat_tests, c.ne.ensures, c.loop-to-test.false) in
    laid_all c.args.dcel.now c.loop-to.dcel c.args.from c.args.to c.loop-to.at c.loop-to.added c.loop-to.invariant.laid done

pub returns-clause-same : goal.returns-clause-same
returns-clause-same g c = c.loop-to.invariant.laid.same
