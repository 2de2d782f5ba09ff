use Rattle.std.proofs.Common.{arith}
use Rattle.dcel_exchange.proofs.NumberedSides.{distinct_first, distinct_second, number_first, number_second, room}
use Rattle.dcel_exchange.proofs.numbering.Numbering.number.Goals as goal

pub add-requires-clause-few : goal.add-requires-clause-few
add-requires-clause-few g c =
    rw c.deref.ensures.value
    (room c.args.sides.now.from.items c.args.sides.now.to.items c.args.side c.args.self.now.half.items c.args.self.now.side.items c.args.self.now.origin.items
    c.requires.numbered (omega (arith, c.requires.below, c.requires.few)))

pub add_first-requires : goal.add_first-requires
add_first-requires g c =
    room c.args.sides.now.from.items c.args.sides.now.to.items c.args.side c.args.self.now.half.items c.args.self.now.side.items c.args.self.now.origin.items
    c.requires.numbered (omega (arith, c.requires.below, c.requires.few))

pub returns-in_ok-add_second-in-Some-clause-numbered : goal.returns-in_ok-add_second-in-Some-clause-numbered
returns-in_ok-add_second-in-Some-clause-numbered g c =
    number_second c.args.sides.now.from.items c.args.sides.now.to.items c.args.side c.args.self.now.half.items c.args.self.now.side.items c.args.self.now.origin.items
    c.requires.numbered c.requires.distinct c.in-Some.half (rw c.in-Some.is at c.requires.found) (rw c.in-Some.is at c.requires.free)
    c.add_second.new.self.half.items c.add_second.new.self.side.items c.add_second.new.self.origin.items
    c.in_ok-add_second-in-Some.ensures.half c.in_ok-add_second-in-Some.ensures.side c.in_ok-add_second-in-Some.ensures.origin

pub returns-in_ok-add_second-in-Some-clause-distinct : goal.returns-in_ok-add_second-in-Some-clause-distinct
returns-in_ok-add_second-in-Some-clause-distinct g c =
    distinct_second c.args.sides.now.from.items c.args.sides.now.to.items c.args.side c.args.self.now.half.items c.args.self.now.side.items c.args.self.now.origin.items
    c.requires.numbered c.requires.distinct c.in-Some.half (rw c.in-Some.is at c.requires.found) (rw c.in-Some.is at c.requires.free)

pub returns-in_ok-add_first-in-None-clause-numbered : goal.returns-in_ok-add_first-in-None-clause-numbered
returns-in_ok-add_first-in-None-clause-numbered g c =
    number_first c.args.sides.now.from.items c.args.sides.now.to.items c.args.side c.args.self.now.half.items c.args.self.now.side.items c.args.self.now.origin.items
    c.requires.numbered c.requires.distinct (rw c.in-None.is at c.requires.found) c.requires.apart
    c.add_first.new.self.half.items c.add_first.new.self.side.items c.add_first.new.self.origin.items
    c.in_ok-add_first-in-None.ensures.half c.in_ok-add_first-in-None.ensures.side
    (rw (← c.ends-from.ensures.start, ← c.ends-from.ensures.end) c.in_ok-add_first-in-None.ensures.origin)

pub returns-in_ok-add_first-in-None-clause-distinct : goal.returns-in_ok-add_first-in-None-clause-distinct
returns-in_ok-add_first-in-None-clause-distinct g c =
    distinct_first c.args.sides.now.from.items c.args.sides.now.to.items c.args.side c.args.self.now.half.items c.args.self.now.side.items c.args.self.now.origin.items
    c.requires.numbered c.requires.distinct (rw c.in-None.is at c.requires.found)
