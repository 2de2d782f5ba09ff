use Rattle.std.proofs.Common.{◌≡◌, ◌∙◌, sym, subst, length, get_or, arith, ◌<◌}
use Rattle.dcel_links.proofs.Parts.{Labels, Rounds, rounds_fault, rounds_goes, rounds_skip, rounds_used, rounds_whole}
use Rattle.dcel_links.proofs.rounds.find_parts.Goals as goal
use Rattle.dcel_links.proofs.rounds.find_parts.Goals.{then-not-seen-start+else-used-label, else-not-seen-start}

pub returns-then-used-label-clause-parts : goal.returns-then-used-label-clause-parts
returns-then-used-label-clause-parts c =
    rounds_fault c.args.steps.now c.args.labels.now record { below = c.requires.below; along = c.requires.along }
    c.loop-start.start c.loop-start.seen c.loop-start.used c.loop-start.invariant (omega arith) (c.loop-start.auto.seen ∙ c.requires.lengths)
    c.if-not-seen-start.true c.if-used-label.true

pub loop-start-preserved : goal.loop-start-preserved
loop-start-preserved c =
    let steps = c.args.steps.now in
    let labels = c.args.labels.now in
    let i = c.loop-start.start in
    let keeps : Labels steps labels = record { below = c.requires.below; along = c.requires.along } in
    elim c.if-not-seen-start.branch [
      | then-not-seen-start+else-used-label w ↦
          let below : i < length labels = omega arith in
          let label_in : get_or labels i 0 < length c.loop-start.used =
          subst (λ n. get_or labels i 0 < n) (sym c.loop-start.auto.used) (c.requires.labels_below i below) in
          rw (w.seen-is, w.used-is)
          (rounds_goes steps labels keeps i c.loop-start.seen c.loop-start.used c.loop-start.invariant w.mark_round.new.seen c.loop-start-test.true
          (c.loop-start.auto.seen ∙ c.requires.lengths) label_in w.if-used-label.false w.mark_round.ensures)
      | else-not-seen-start w ↦
          rw (w.seen-is, w.used-is)
          (rounds_skip steps labels keeps i c.loop-start.seen c.loop-start.used c.loop-start.invariant w.if-not-seen-start.false)
    ]

pub returns-clause-whole : goal.returns-clause-whole
returns-clause-whole c =
    let steps = c.args.steps.now in
    let labels = c.args.labels.now in
    let keeps : Labels steps labels = record { below = c.requires.below; along = c.requires.along } in
    let end : c.loop-start.start ≡ length steps = omega arith in
    rounds_whole steps labels keeps c.loop-start.seen c.loop-start.used
    (subst (λ i. Rounds steps labels i c.loop-start.seen c.loop-start.used) end c.loop-start.invariant)

pub returns-clause-used : goal.returns-clause-used
returns-clause-used c =
    let steps = c.args.steps.now in
    let labels = c.args.labels.now in
    let keeps : Labels steps labels = record { below = c.requires.below; along = c.requires.along } in
    let end : c.loop-start.start ≡ length steps = omega arith in
    rounds_used steps labels keeps c.loop-start.seen c.loop-start.used (c.loop-start.auto.seen ∙ c.requires.lengths) c.requires.labels_length
    (subst (λ i. Rounds steps labels i c.loop-start.seen c.loop-start.used) end c.loop-start.invariant)
