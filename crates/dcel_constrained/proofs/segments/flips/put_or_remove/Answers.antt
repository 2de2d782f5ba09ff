use Rattle.std.proofs.Common.{◌≡◌, suc, ◌+◌, refl, arith}
use Rattle.dcel_constrained.proofs.Gaps.{put_anew, taken_out}
use Rattle.dcel_constrained.proofs.segments.flips.put_or_remove.Goals as goal

pub returns-in-Some-clause-list : goal.returns-in-Some-clause-list
returns-in-Some-clause-list g c =
    rw c.in-Some.is (put_anew c.args.crossed.now.items c.args.at c.args.gap (c.args.at + c.args.gap) c.in-Some.half refl c.requires)

pub returns-in-None-clause-list : goal.returns-in-None-clause-list
returns-in-None-clause-list g c =
    let more : c.args.gap + 1 ≡ suc c.args.gap = omega arith in
    rw (c.in-None.is, more) (taken_out c.args.crossed.now.items c.args.at c.args.gap (let r = c.requires in omega (arith, r)))
