use Rattle.std.proofs.Common.{◌≡◌, List, ℕ, [], arith, subst, sym}
use Rattle.dcel_plane.specs.Plane.{point_at}
use Rattle.dcel_plane.specs.segments.Segments.{IsChannel}
use Rattle.dcel_constrained.specs.Channels.{IsLeftAt, IsNarrowerBefore, IsNotWiderAfter, around}
use Rattle.dcel_constrained.proofs.Gaps.{none_around}
use Rattle.dcel_constrained.proofs.Stepwise.{begins, goes_down, goes_on, joined, live_all, live_ends}
use Rattle.dcel_constrained.proofs.segments.flips.connect.Goals as goal

pub loop-gap-init : goal.loop-gap-init
loop-gap-init g c = record {
  way = begins c.args.dcel.now c.args.crossed.now.items c.args.from c.args.to c.requires.planar c.requires.channel;
  within = omega arith;
}

pub find_peak-at-requires-clause-ends : goal.find_peak-at-requires-clause-ends
find_peak-at-requires-clause-ends g c =
    let way = c.loop-gap.invariant.way in
    live_ends c.loop-gap.dcel way.planar.mesh (point_at c.loop-gap.dcel) c.args.from c.args.to (around c.loop-gap.crossed.items c.loop-gap.at c.loop-gap.gap) way.channel

pub find_peak-at-requires-clause-live : goal.find_peak-at-requires-clause-live
find_peak-at-requires-clause-live g c =
    live_all (point_at c.loop-gap.dcel) c.loop-gap.dcel.shape c.args.from c.args.to (around c.loop-gap.crossed.items c.loop-gap.at c.loop-gap.gap) c.loop-gap.invariant.way.channel

pub turn-gap-requires-clause-channel : goal.turn-gap-requires-clause-channel
turn-gap-requires-clause-channel g c =
    subst (λ (l : List ℕ). IsChannel (point_at c.loop-gap.dcel) c.loop-gap.dcel.shape c.args.from c.args.to l) (sym c.find_peak-at.ensures.same) c.loop-gap.invariant.way.channel

pub turn-gap-requires-clause-before : goal.turn-gap-requires-clause-before
turn-gap-requires-clause-before g c =
    subst (λ (l : List ℕ). IsNarrowerBefore (point_at c.loop-gap.dcel) c.loop-gap.dcel.shape c.args.from c.args.to l c.find_peak-at.result) (sym c.find_peak-at.ensures.same)
    c.find_peak-at.ensures.before

pub turn-gap-requires-clause-after : goal.turn-gap-requires-clause-after
turn-gap-requires-clause-after g c =
    subst (λ (l : List ℕ). IsNotWiderAfter (point_at c.loop-gap.dcel) c.loop-gap.dcel.shape c.args.from c.args.to l c.find_peak-at.result) (sym c.find_peak-at.ensures.same)
    c.find_peak-at.ensures.after

pub loop-gap-smaller : goal.loop-gap-smaller
loop-gap-smaller g c =
    let after = around c.turn-gap.new.crossed.items c.find_peak-at.result c.turn-gap.result in
    goes_down c.args.dcel.now c.args.crossed.now.items c.args.from c.args.to c.loop-gap.dcel c.turn-gap.new.dcel (around c.loop-gap.crossed.items c.loop-gap.at c.loop-gap.gap) after
    c.find_peak-at.result c.loop-gap.invariant.way c.find_peak-at.ensures.before c.find_peak-at.ensures.after
    (subst (λ (l : List ℕ). IsLeftAt c.loop-gap.dcel c.turn-gap.new.dcel c.args.from c.args.to l after c.find_peak-at.result) c.find_peak-at.ensures.same c.turn-gap.ensures.left)

pub loop-gap-preserved : goal.loop-gap-preserved
loop-gap-preserved g c =
    let after = around c.turn-gap.new.crossed.items c.find_peak-at.result c.turn-gap.result in
    record {
      way =
          goes_on c.args.dcel.now c.args.crossed.now.items c.args.from c.args.to c.loop-gap.dcel c.turn-gap.new.dcel
          (around c.loop-gap.crossed.items c.loop-gap.at c.loop-gap.gap) after c.find_peak-at.result c.loop-gap.invariant.way c.find_peak-at.ensures.before
          c.find_peak-at.ensures.after
          (subst (λ (l : List ℕ). IsLeftAt c.loop-gap.dcel c.turn-gap.new.dcel c.args.from c.args.to l after c.find_peak-at.result) c.find_peak-at.ensures.same
          c.turn-gap.ensures.left);
      within = c.turn-gap.ensures.within;
    }

pub returns-clause-joined : goal.returns-clause-joined
returns-clause-joined g c =
    let left = around c.loop-gap.crossed.items c.loop-gap.at c.loop-gap.gap in
    let none : left ≡ [] = none_around c.loop-gap.crossed.items c.loop-gap.at c.loop-gap.gap c.loop-gap.invariant.within (omega (arith, c.loop-gap-test.false, c.len.ensures, c.loop-gap.crossed.ok)) in
    joined c.args.dcel.now c.args.crossed.now.items c.args.from c.args.to c.loop-gap.dcel left c.requires.differ c.loop-gap.invariant.way none

pub returns-clause-lists : goal.returns-clause-lists
returns-clause-lists g c = λ due lacking sides lists. (c.loop-gap.invariant.way.lists due lacking sides).1 lists
