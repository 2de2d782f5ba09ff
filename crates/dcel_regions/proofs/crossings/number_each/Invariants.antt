use Rattle.std.proofs.Common.{◌≡◌, []}
use Rattle.dcel_regions.specs.Numbering.{IsUnderWay, work}
use Rattle.dcel_regions.proofs.crossings.number_each.Given as goal

-- the next level is begun as soon as this one has no more faces due
abbrev pub invariant-loop-face : goal.invariant-loop-face
invariant-loop-face g l = record {
  way : IsUnderWay l.dcel l.level l.numbers.items l.due.items l.beyond.items;
  begun : l.due.items ≡ [] → l.beyond.items ≡ [];
}

abbrev pub decreases-loop-face : goal.decreases-loop-face
decreases-loop-face g l = work l.dcel.shape.words l.numbers.items l.due.items l.beyond.items
