use Rattle.std.proofs.Common.{◌≡◌, suc, ◌+◌, Some, slice_get, refl, arith}
use Rattle.dcel_plane.specs.Plane.{point_at}
use Rattle.dcel_plane.specs.segments.Segments.{width}
use Rattle.dcel_constrained.specs.Channels.{around}
use Rattle.dcel_constrained.proofs.Gaps.{not_past, read_here, read_next}
use Rattle.dcel_constrained.proofs.Places.{among, not_less_at}
use Rattle.dcel_constrained.proofs.segments.peaks.climb.Goals as goal

pub is_wider-requires-clause-edge : goal.is_wider-requires-clause-edge
is_wider-requires-clause-edge g c =
    let xs = c.loop-at.crossed.items in
    let list = around c.args.crossed.now.items c.args.start c.args.gap in
    let next : slice_get list (suc c.loop-at.at) ≡ Some c.index.result.now =
    read_next xs list c.loop-at.at c.args.gap c.loop-at.invariant.same ((c.loop-at.at + c.args.gap) + 1) c.index.result.now _
    (omega (arith, c.loop-at-test.true, c.len.ensures, c.loop-at.crossed.ok)) c.index.ensures refl in
    c.requires.live c.index.result.now (among list (suc c.loop-at.at) c.index.result.now next)

pub is_wider-requires-clause-other : goal.is_wider-requires-clause-other
is_wider-requires-clause-other g c =
    let xs = c.loop-at.crossed.items in
    let list = around c.args.crossed.now.items c.args.start c.args.gap in
    let here : slice_get list c.loop-at.at ≡ Some c.index-in-loop-at.result.now =
    read_here xs list c.loop-at.at c.args.gap c.loop-at.invariant.same (c.loop-at.at + c.args.gap) c.index-in-loop-at.result.now _ c.loop-at.invariant.within c.index-in-loop-at.ensures refl in
    c.requires.live c.index-in-loop-at.result.now (among list c.loop-at.at c.index-in-loop-at.result.now here)

pub returns-then-not-is_wider-clause-after : goal.returns-then-not-is_wider-clause-after
returns-then-not-is_wider-clause-after g c = λ h k at_h at_k.
    let m = c.args.dcel.now in
    let xs = c.loop-at.crossed.items in
    let list = around c.args.crossed.now.items c.args.start c.args.gap in
    let next : slice_get list (suc c.loop-at.at) ≡ Some c.index.result.now =
    read_next xs list c.loop-at.at c.args.gap c.loop-at.invariant.same ((c.loop-at.at + c.args.gap) + 1) c.index.result.now _
    (omega (arith, c.loop-at-test.true, c.len.ensures, c.loop-at.crossed.ok)) c.index.ensures refl in
    let here : slice_get list c.loop-at.at ≡ Some c.index-in-loop-at.result.now =
    read_here xs list c.loop-at.at c.args.gap c.loop-at.invariant.same (c.loop-at.at + c.args.gap) c.index-in-loop-at.result.now _ c.loop-at.invariant.within c.index-in-loop-at.ensures refl in
    not_less_at (λ i. width (point_at m) m.shape c.args.from c.args.to i) list c.loop-at.at (suc c.loop-at.at) c.index-in-loop-at.result.now c.index.result.now here next
    (λ less. (let yes = c.is_wider.ensures.1 less in let no = c.if-not-is_wider.true in cc))
    h k at_h at_k

pub returns-clause-after : goal.returns-clause-after
returns-clause-after g c = λ h k at_h at_k.
    absurd
    (let within = c.loop-at.invariant.within in
    let past = not_past c.loop-at.crossed.items (around c.args.crossed.now.items c.args.start c.args.gap) c.loop-at.at c.args.gap (suc c.loop-at.at) k c.loop-at.invariant.same
    (omega (arith, within)) at_k in
    omega (arith, past, c.loop-at-test.false, c.len.ensures, c.loop-at.crossed.ok))
