use Rattle.dcel_links.proofs.Searching.{visit_new}
use Rattle.dcel_links.proofs.search.visit.Goals as goal

pub returns : goal.returns
returns c = visit_new c.args.half c.args.marks.now c.args.order.now c.args.tail c.requires.queue c.requires.half c.if-marks-half.false
