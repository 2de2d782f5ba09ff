use Rattle.std.proofs.Common.{◌≡◌, ◌+◌, Some, slice_get, refl, arith}
use Rattle.std.specs.Option.{option_to_list}
use Rattle.dcel_plane.specs.Plane.{point_at}
use Rattle.dcel_constrained.specs.Channels.{around}
use Rattle.dcel_constrained.proofs.Gaps.{here_around}
use Rattle.dcel_constrained.proofs.Places.{among, get_there}
use Rattle.dcel_constrained.proofs.Stepwise.{live_all, live_ends, turns_there}
use Rattle.dcel_constrained.proofs.segments.flips.turn.Goals as goal

pub crossing_after-still-requires-clause-ends : goal.crossing_after-still-requires-clause-ends
crossing_after-still-requires-clause-ends g c =
    live_ends c.args.dcel.now c.requires.planar.mesh (point_at c.args.dcel.now) c.args.from c.args.to (around c.args.crossed.now.items c.args.at c.args.gap) c.requires.channel

pub crossing_after-still-requires-clause-live : goal.crossing_after-still-requires-clause-live
crossing_after-still-requires-clause-live g c =
    let xs = c.args.crossed.now.items in
    let left = around xs c.args.at c.args.gap in
    let there : slice_get left c.args.at ≡ Some c.index-edge.result.now =
    here_around xs c.args.at c.args.gap (c.args.at + c.args.gap) c.index-edge.result.now refl (let p = c.requires.place in omega (arith, p))
    (get_there xs (c.args.at + c.args.gap) _ _ c.requires.place c.index-edge.ensures) in
    live_all (point_at c.args.dcel.now) c.args.dcel.now.shape c.args.from c.args.to left c.requires.channel c.index-edge.result.now
    (among left c.args.at c.index-edge.result.now there)

pub flip_cw-requires : goal.flip_cw-requires
flip_cw-requires g c =
    let xs = c.args.crossed.now.items in
    let left = around xs c.args.at c.args.gap in
    let there : slice_get left c.args.at ≡ Some c.index-edge.result.now =
    here_around xs c.args.at c.args.gap (c.args.at + c.args.gap) c.index-edge.result.now refl (let p = c.requires.place in omega (arith, p))
    (get_there xs (c.args.at + c.args.gap) _ _ c.requires.place c.index-edge.ensures) in
    rw c.as_undirected.ensures
    (turns_there c.args.dcel.now c.requires.planar c.args.from c.args.to left c.requires.channel c.args.at c.index-edge.result.now there c.requires.before c.requires.after).can

pub returns-clause-left : goal.returns-clause-left
returns-clause-left g c =
    let xs = c.args.crossed.now.items in
    let left = around xs c.args.at c.args.gap in
    let there : slice_get left c.args.at ≡ Some c.index-edge.result.now =
    here_around xs c.args.at c.args.gap (c.args.at + c.args.gap) c.index-edge.result.now refl (let p = c.requires.place in omega (arith, p))
    (get_there xs (c.args.at + c.args.gap) _ _ c.requires.place c.index-edge.ensures) in
    record {
      half = c.index-edge.result.now;
      there = there;
      can = turns_there c.args.dcel.now c.requires.planar c.args.from c.args.to left c.requires.channel c.args.at c.index-edge.result.now there c.requires.before c.requires.after;
      flipped = rw (c.flip_cw.ensures.edit, c.as_undirected.ensures) refl;
      rest = option_to_list c.crossing_after-still.result;
      becomes = c.crossing_after-still.ensures;
      list = c.put_or_remove.ensures.list;
    }
