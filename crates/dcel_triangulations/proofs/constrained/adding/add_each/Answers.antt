use Rattle.std.proofs.Common.{◌≡◌, inl, inr, ◌<◌, ℕ, Some, get_or, length, rules, slice_get, sym, subst, arith}
use Rattle.std.proofs.lemmas.Option.{slice_get-get_or}
use Rattle.dcel_constrained.specs.Constrained.{marked_mesh}
use Rattle.dcel_delaunay.specs.declared.lists.Ends.{Ends}
use Rattle.dcel_triangulations.specs.constrained.Adding.{LaysSegments}
use Rattle.dcel_triangulations.proofs.Laying.{lays_more, lays_none, lays_part, mesh_is}
use Rattle.dcel_triangulations.proofs.constrained.adding.add_each.Goals as goal

pub returns-in_default-clause-no_memory : goal.returns-in_default-clause-no_memory
returns-in_default-clause-no_memory c = λ _.
    lays_none c.args.segments.now 1 (marked_mesh c.args.kept.now) (marked_mesh c.finish.new.self) c.finish.ensures.keeps c.finish.ensures.only c.finish.ensures.points

pub loop-at-init : goal.loop-at-init
loop-at-init c = record {
  up_to = omega arith;
  lays = lays_none c.args.segments.now 0 (marked_mesh c.args.kept.now) (marked_mesh c.finish.new.self) c.finish.ensures.keeps c.finish.ensures.only c.finish.ensures.points;
  mesh = mesh_is c.dcel-2.result.now (marked_mesh c.finish.new.self) c.dcel-2.ensures.mesh c.every_mesh-2.ensures;
  whole = c.in-Ok.ensures.whole;
}

pub loop-at-preserved : goal.loop-at-preserved
loop-at-preserved c =
    let segments = c.args.segments.now in
    let k = c.loop-at.at in
    let s : Ends = get_or segments k (record { from = 0; to = 0 }) in
    let test = c.loop-at-test.true in
    let below : k < length segments = omega (arith, test) in
    let there : slice_get segments k ≡ Some s = slice_get-get_or segments k (record { from = 0; to = 0 }) below in
    let known = c.add_one-status.ensures in
    let zero : c.add_one-status.result ≡ 0 = search rules in
    record {
      up_to = omega (arith, below);
      lays =
          lays_more segments (marked_mesh c.args.kept.now) (marked_mesh c.loop-at.kept) (marked_mesh c.add_one-status.new.kept) k s there c.loop-at.invariant.mesh
          known.mesh known.closed known.keeps known.points known.only c.loop-at.invariant.lays (known.added zero);
      mesh = known.mesh;
      whole = known.whole (λ other. omega (arith, zero, other));
    }

pub returns-then-status-ne-DONE-clause-refused : goal.returns-then-status-ne-DONE-clause-refused
returns-then-status-ne-DONE-clause-refused c =
    let segments = c.args.segments.now in
    let k = c.loop-at.at in
    let s : Ends = get_or segments k (record { from = 0; to = 0 }) in
    let test = c.loop-at-test.true in
    let below : k < length segments = omega (arith, test) in
    let known = c.add_one-status.ensures in
    λ why.
    let refused = known.refused why in
    record {
      adds = subst (LaysSegments segments k k (marked_mesh c.args.kept.now)) (sym (refused.1 c.loop-at.invariant.whole)) c.loop-at.invariant.lays;
      segment = s;
      there = slice_get-get_or segments k (record { from = 0; to = 0 }) below;
      refused = refused.0;
      whole = known.whole (λ other. elim why [
        | inl one ↦ omega (arith, one, other)
        | inr crosses ↦ omega (arith, crosses, other)
      ]);
    }

pub returns-then-status-ne-DONE-clause-no_memory : goal.returns-then-status-ne-DONE-clause-no_memory
returns-then-status-ne-DONE-clause-no_memory c =
    let segments = c.args.segments.now in
    let k = c.loop-at.at in
    let s : Ends = get_or segments k (record { from = 0; to = 0 }) in
    let test = c.loop-at-test.true in
    let below : k < length segments = omega (arith, test) in
    let known = c.add_one-status.ensures in
    λ _. lays_part segments (marked_mesh c.args.kept.now) (marked_mesh c.loop-at.kept) (marked_mesh c.add_one-status.new.kept) k s
    (slice_get-get_or segments k (record { from = 0; to = 0 }) below) c.loop-at.invariant.mesh known.mesh known.closed known.keeps known.points known.only
    c.loop-at.invariant.lays

pub returns-clause-done : goal.returns-clause-done
returns-clause-done c =
    let segments = c.args.segments.now in
    let test = c.loop-at-test.false in
    let up_to = c.loop-at.invariant.up_to in
    let all : c.loop-at.at ≡ length segments = omega (arith, test, up_to) in
    λ _. subst (λ (n : ℕ). LaysSegments segments n n (marked_mesh c.args.kept.now) (marked_mesh c.loop-at.kept)) all c.loop-at.invariant.lays
