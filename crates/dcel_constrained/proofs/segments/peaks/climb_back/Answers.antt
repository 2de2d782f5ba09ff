use Rattle.std.proofs.Common.{◌≡◌, ℕ, suc, ◌+◌, ◌-◌, Some, slice_get, refl, sym, ◌∙◌, subst, arith}
use Rattle.dcel_plane.specs.Plane.{point_at}
use Rattle.dcel_plane.specs.segments.Segments.{width}
use Rattle.dcel_constrained.specs.Channels.{IsNotWiderAfter, around}
use Rattle.dcel_constrained.proofs.Gaps.{read_here, read_last}
use Rattle.dcel_constrained.proofs.Places.{among, less_at, not_less_at}
use Rattle.dcel_constrained.proofs.segments.peaks.climb_back.Goals as goal

pub is_wider-requires-clause-edge : goal.is_wider-requires-clause-edge
is_wider-requires-clause-edge g c =
    let list = around c.args.crossed.now.items c.args.start c.args.gap in
    c.requires.live c.index.result.now
    (among list c.loop-at.at c.index.result.now
    (read_here c.loop-at.crossed.items list c.loop-at.at c.args.gap c.loop-at.invariant.same (c.loop-at.at + c.args.gap) c.index.result.now _ c.loop-at.invariant.within c.index.ensures refl))

pub is_wider-requires-clause-other : goal.is_wider-requires-clause-other
is_wider-requires-clause-other g c =
    let list = around c.args.crossed.now.items c.args.start c.args.gap in
    let within = c.loop-at.invariant.within in
    let some = c.loop-at-test.true in
    c.requires.live c.index-in-loop-at.result.now
    (among list (c.loop-at.at - 1) c.index-in-loop-at.result.now
    (read_last c.loop-at.crossed.items list c.loop-at.at c.args.gap c.loop-at.invariant.same (c.loop-at.at - 1) c.index-in-loop-at.result.now _ (omega (arith, within)) c.index-in-loop-at.ensures
    (c.loop-at.at - 1) (omega (arith, some)) refl (omega (arith, within))))

pub returns-then-is_wider-clause-before : goal.returns-then-is_wider-clause-before
returns-then-is_wider-clause-before g c = λ i k h before at_k at_h.
    let m = c.args.dcel.now in
    let list = around c.args.crossed.now.items c.args.start c.args.gap in
    let within = c.loop-at.invariant.within in
    let place : c.loop-at.at - 1 ≡ i = omega (arith, before) in
    less_at (λ j. width (point_at m) m.shape c.args.from c.args.to j) list i c.loop-at.at c.index-in-loop-at.result.now c.index.result.now
    (read_last c.loop-at.crossed.items list c.loop-at.at c.args.gap c.loop-at.invariant.same (c.loop-at.at - 1) c.index-in-loop-at.result.now _ (omega (arith, within)) c.index-in-loop-at.ensures
    i before place (omega (arith, within)))
    (read_here c.loop-at.crossed.items list c.loop-at.at c.args.gap c.loop-at.invariant.same (c.loop-at.at + c.args.gap) c.index.result.now _ within c.index.ensures refl)
    (c.is_wider.ensures.0 c.if-is_wider.true) k h at_k at_h

pub loop-at-preserved : goal.loop-at-preserved
loop-at-preserved g c =
    let m = c.args.dcel.now in
    let list = around c.args.crossed.now.items c.args.start c.args.gap in
    let within = c.loop-at.invariant.within in
    let some = c.loop-at-test.true in
    let last : suc (c.loop-at.at - 1) ≡ c.loop-at.at = omega (arith, some) in
    let after : IsNotWiderAfter (point_at m) m.shape c.args.from c.args.to list (c.loop-at.at - 1) = λ h k at_h at_k.
    not_less_at (λ j. width (point_at m) m.shape c.args.from c.args.to j) list (c.loop-at.at - 1) c.loop-at.at c.index-in-loop-at.result.now c.index.result.now
    (read_last c.loop-at.crossed.items list c.loop-at.at c.args.gap c.loop-at.invariant.same (c.loop-at.at - 1) c.index-in-loop-at.result.now _ (omega (arith, within)) c.index-in-loop-at.ensures
    (c.loop-at.at - 1) last refl (omega (arith, within)))
    (read_here c.loop-at.crossed.items list c.loop-at.at c.args.gap c.loop-at.invariant.same (c.loop-at.at + c.args.gap) c.index.result.now _ within c.index.ensures refl)
    (λ less. (let yes = c.is_wider.ensures.1 less in let no = c.if-is_wider.false in cc))
    h k at_h (subst (λ (p : ℕ). slice_get list p ≡ Some k) last at_k) in
    record {
      same = c.step_back-at.ensures.same ∙ c.loop-at.invariant.same;
      within = (let p = c.step_back-at.ensures.place in let l = c.step_back-at.ensures.long in omega (arith, within, p, l, some));
      after = subst (λ (p : ℕ). IsNotWiderAfter (point_at m) m.shape c.args.from c.args.to list p) (sym c.step_back-at.ensures.place) after;
    }
