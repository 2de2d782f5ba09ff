use Rattle.std.proofs.Common.{◌<◌, length, get_or, sym, subst, arith}
use Rattle.dcel_fixed.proofs.Halves.{rev_within}
use Rattle.dcel_links.specs.Search.{Visits}
use Rattle.dcel_links.proofs.Marking.{marked_below}
use Rattle.dcel_links.proofs.Searching.{search_begins, search_ends, search_goes}
use Rattle.dcel_links.proofs.search.find_cut_off.Goals as goal

pub loop-head-init : goal.loop-head-init
loop-head-init c =
    search_begins c.args.next.now c.args.marks.now c.visit-tail.new.marks c.args.order.now c.visit-tail.new.order c.visit-tail.result
    c.requires.blank c.visit-tail.ensures

pub visit-tail-requires-in-loop-head-2-clause-half : goal.visit-tail-requires-in-loop-head-2-clause-half
visit-tail-requires-in-loop-head-2-clause-half c =
    let half = get_or c.loop-head.order c.loop-head.head 0 in
    let known = marked_below c.loop-head.marks half (c.loop-head.invariant.queue.listed c.loop-head.head c.loop-head-test.true) in
    let below : half < length c.args.next.now = omega arith in
    let within = rev_within half (length c.args.next.now) c.requires.even below in
    let other : c.other_half.result < length c.args.next.now = subst (λ k. k < length c.args.next.now) (sym c.other_half.ensures.value) within in
    omega arith

pub loop-head-preserved : goal.loop-head-preserved
loop-head-preserved c =
    let one = c.visit-tail-in-loop-head in
    let two = c.visit-tail-in-loop-head-2 in
    search_goes c.args.next.now c.loop-head.marks one.new.marks two.new.marks c.loop-head.order one.new.order two.new.order c.loop-head.head
    c.loop-head.tail one.result two.result c.loop-head.invariant c.loop-head-test.true one.ensures
    (subst (λ k. Visits k one.new.marks one.new.order one.result two.new.marks two.new.order two.result) c.other_half.ensures.value two.ensures)

pub returns-in-Some-clause-cut_off : goal.returns-in-Some-clause-cut_off
returns-in-Some-clause-cut_off c =
    let (start, below, unmarked) = c.in-Some.ensures.one in (
      omega arith,
      λ way. unmarked (search_ends c.args.next.now c.loop-head.marks c.loop-head.order c.loop-head.head c.loop-head.tail c.loop-head.invariant
          c.loop-head-test.false c.in-Some.half way),
    )
