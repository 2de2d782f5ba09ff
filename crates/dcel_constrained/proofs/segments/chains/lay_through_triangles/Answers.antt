use Rattle.std.proofs.Common.{◌≡◌, ◌≢◌, ◌<◌, ℕ, arith, subst, sym}
use Rattle.std.proofs.lemmas.Bool.Decides.{nat_tests}
use Rattle.dcel_predicates.specs.declared.point.Point.{Point}
use Rattle.dcel_plane.specs.Plane.{point_at}
use Rattle.dcel_constrained.specs.Laying.{IsPart}
use Rattle.dcel_constrained.specs.declared.segments.chains.Part.{Part}
use Rattle.dcel_constrained.proofs.Laid.{keeps_then, laid_all, left_after, only_then, points_stay}
use Rattle.dcel_constrained.proofs.Lays.{can_go, goes_nearer, later, later_left, parts_differ, sooner, sooner_left, way_left}
use Rattle.dcel_constrained.proofs.segments.chains.lay_through_triangles.Goals as goal

pub lay_part-requires-clause-differ : goal.lay_part-requires-clause-differ
lay_part-requires-clause-differ g c =
    let more : c.loop-to.at ≢ c.args.to = grind (arith, nat_tests, c.ne.ensures, c.loop-to-test.true) in
    parts_differ c.args.planar.now.dcel c.loop-to.planar.dcel c.args.from c.args.to c.loop-to.at c.loop-to.goal c.loop-to.planar.due.items c.loop-to.crossed.items c.loop-to.added
    c.loop-to.invariant more

pub lay_part-requires-clause-ends : goal.lay_part-requires-clause-ends
lay_part-requires-clause-ends g c =
    let more : c.loop-to.at ≢ c.args.to = grind (arith, nat_tests, c.ne.ensures, c.loop-to-test.true) in
    let can = can_go c.args.planar.now.dcel c.loop-to.planar.dcel c.args.from c.args.to c.loop-to.at c.loop-to.goal c.loop-to.planar.due.items c.loop-to.crossed.items c.loop-to.added c.loop-to.invariant more in
    record { from = can.from; to = can.to }

pub unreachable-requires : goal.unreachable-requires
unreachable-requires g c =
    let more : c.loop-to.at ≢ c.args.to = grind (arith, nat_tests, c.ne.ensures, c.loop-to-test.true) in
    let can = can_go c.args.planar.now.dcel c.loop-to.planar.dcel c.args.from c.args.to c.loop-to.at c.loop-to.goal c.loop-to.planar.due.items c.loop-to.crossed.items c.loop-to.added c.loop-to.invariant more in
    let part = subst (λ (p : Part). IsPart c.loop-to.planar.dcel c.lay_part.new.planar.dcel c.loop-to.at c.loop-to.goal p) c.in-Blocked.is c.in_ok-lay_part.ensures.part in
    part.1 can.free

pub returns-in_err-lay_part-clause-keeps : goal.returns-in_err-lay_part-clause-keeps
returns-in_err-lay_part-clause-keeps g c =
    keeps_then c.args.planar.now.dcel c.loop-to.planar.dcel c.lay_part.new.planar.dcel c.args.from c.args.to c.loop-to.at c.loop-to.goal c.loop-to.added c.loop-to.invariant.laid
    c.lay_part.ensures.marks c.loop-to.invariant.ahead

pub returns-in_err-lay_part-clause-only : goal.returns-in_err-lay_part-clause-only
returns-in_err-lay_part-clause-only g c =
    only_then c.args.planar.now.dcel c.loop-to.planar.dcel c.lay_part.new.planar.dcel c.args.from c.args.to c.loop-to.at c.loop-to.goal c.loop-to.added c.loop-to.invariant.laid
    c.lay_part.ensures.marks c.loop-to.invariant.ahead

pub loop-to-smaller-in-Between : goal.loop-to-smaller-in-Between
loop-to-smaller-in-Between g c =
    let m = c.loop-to.planar.dcel in
    let part = subst (λ (p : Part). IsPart m c.lay_part.new.planar.dcel c.loop-to.at c.loop-to.goal p) c.in-Between.is c.in_ok-lay_part.ensures.part in
    subst (λ k. way_left (point_at k) c.loop-to.at c.args.to c.in-Between.vertex < way_left (point_at m) c.loop-to.at c.args.to c.loop-to.goal) (sym part.0)
    (sooner_left (point_at m) c.loop-to.at c.args.to c.loop-to.goal c.in-Between.vertex part.2)

pub loop-to-preserved-in-Between : goal.loop-to-preserved-in-Between
loop-to-preserved-in-Between g c =
    let m = c.loop-to.planar.dcel in
    let more : c.loop-to.at ≢ c.args.to = grind (arith, nat_tests, c.ne.ensures, c.loop-to-test.true) in
    let part = subst (λ (p : Part). IsPart m c.lay_part.new.planar.dcel c.loop-to.at c.loop-to.goal p) c.in-Between.is c.in_ok-lay_part.ensures.part in
    sooner c.args.planar.now.dcel m c.args.from c.args.to c.loop-to.at c.loop-to.goal c.loop-to.planar.due.items c.loop-to.crossed.items c.loop-to.added c.loop-to.invariant more
    c.lay_part.new.planar.dcel c.lay_part.new.planar.due.items c.lay_part.new.crossed.items c.lay_part.ensures.mesh c.lay_part.ensures.sound c.in_ok-lay_part.ensures.whole
    c.lay_part.ensures.hull c.lay_part.ensures.empty c.in-Between.vertex part.0 part.1 part.2

pub loop-to-smaller : goal.loop-to-smaller
loop-to-smaller g c =
    let m = c.loop-to.planar.dcel in
    let more : c.loop-to.at ≢ c.args.to = grind (arith, nat_tests, c.ne.ensures, c.loop-to-test.true) in
    subst (λ (p : ℕ → Point). way_left p c.loop-to.goal c.args.to c.args.to < way_left (point_at m) c.loop-to.at c.args.to c.loop-to.goal)
    (sym (points_stay m c.lay_part.new.planar.dcel c.lay_part.ensures.marks.points))
    (later_left (point_at m) c.loop-to.at c.args.to c.loop-to.goal
    (goes_nearer c.args.planar.now.dcel m c.args.from c.args.to c.loop-to.at c.loop-to.goal c.loop-to.planar.due.items c.loop-to.crossed.items c.loop-to.added c.loop-to.invariant more))

pub loop-to-preserved : goal.loop-to-preserved
loop-to-preserved g c =
    let m = c.loop-to.planar.dcel in
    let more : c.loop-to.at ≢ c.args.to = grind (arith, nat_tests, c.ne.ensures, c.loop-to-test.true) in
    let part = subst (λ (p : Part). IsPart m c.lay_part.new.planar.dcel c.loop-to.at c.loop-to.goal p) c.in-Laid.is c.in_ok-lay_part.ensures.part in
    later c.args.planar.now.dcel m c.args.from c.args.to c.loop-to.at c.loop-to.goal c.loop-to.planar.due.items c.loop-to.crossed.items c.loop-to.added c.loop-to.invariant more
    c.lay_part.new.planar.dcel c.lay_part.new.planar.due.items c.lay_part.new.crossed.items c.lay_part.ensures.mesh c.lay_part.ensures.sound c.in_ok-lay_part.ensures.whole
    c.lay_part.ensures.hull c.lay_part.ensures.empty c.in-Laid.is_new c.either-added.result c.lay_part.ensures.marks part.0 c.either-added.ensures
    (λ none. (c.lay_part.ensures.same none).0)

pub returns-clause-laid : goal.returns-clause-laid
returns-clause-laid g c =
    let done : c.loop-to.at ≡ c.args.to = grind (arith, nat_tests, c.ne.ensures, c.loop-to-test.false) in
    laid_all c.args.planar.now.dcel c.loop-to.planar.dcel c.args.from c.args.to c.loop-to.at c.loop-to.added c.loop-to.invariant.laid done

pub returns-in_err-lay_part-clause-same : goal.returns-in_err-lay_part-clause-same
returns-in_err-lay_part-clause-same g c =
    left_after c.args.planar.now.dcel c.loop-to.planar.dcel c.lay_part.new.planar.dcel c.lay_part.new.planar.due.items c.loop-to.invariant.laid.keeps c.lay_part.ensures.marks.keeps
    c.loop-to.invariant.laid.same c.lay_part.ensures.same

pub returns-clause-same : goal.returns-clause-same
returns-clause-same g c none = (c.loop-to.invariant.laid.same none, c.loop-to.invariant.whole)
