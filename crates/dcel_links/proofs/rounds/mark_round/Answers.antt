use Rattle.std.proofs.Common.{◌≡◌, ◌∙◌, length, length-set, true, arith}
use Rattle.dcel_links.proofs.Marking.{marks_fall}
use Rattle.dcel_links.proofs.RoundWalks.{walk_begins, walk_ends, walk_goes, walk_unmarked}
use Rattle.dcel_links.proofs.rounds.mark_round.Goals as goal

pub loop-at-init : goal.loop-at-init
loop-at-init c =
    walk_begins c.args.steps.now c.requires.below c.requires.apart c.args.start c.args.seen.now c.requires.lengths c.requires.start
    c.requires.unmarked c.requires.closed

pub loop-at-smaller : goal.loop-at-smaller
loop-at-smaller c =
    let len : length c.loop-at.seen ≡ length c.args.steps.now =
    c.loop-at.auto.seen ∙ length-set c.args.seen.now c.args.start true ∙ c.requires.lengths in
    let below = c.loop-at.invariant.at_below in
    marks_fall c.loop-at.seen c.loop-at.at (omega arith)
    (walk_unmarked c.args.steps.now c.requires.below c.requires.apart c.args.start c.loop-at.at c.args.seen.now c.loop-at.seen len c.loop-at.invariant
    c.loop-at-test.true)

pub loop-at-preserved : goal.loop-at-preserved
loop-at-preserved c =
    let len : length c.loop-at.seen ≡ length c.args.steps.now =
    c.loop-at.auto.seen ∙ length-set c.args.seen.now c.args.start true ∙ c.requires.lengths in
    walk_goes c.args.steps.now c.requires.below c.requires.apart c.args.start c.loop-at.at c.args.seen.now c.loop-at.seen len c.loop-at.invariant
    c.loop-at-test.true

pub returns : goal.returns
returns c =
    let len : length c.loop-at.seen ≡ length c.args.steps.now =
    c.loop-at.auto.seen ∙ length-set c.args.seen.now c.args.start true ∙ c.requires.lengths in
    walk_ends c.args.steps.now c.requires.below c.requires.apart c.args.start c.loop-at.at c.args.seen.now c.loop-at.seen len c.loop-at.invariant
    c.loop-at-test.false
