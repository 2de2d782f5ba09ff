-- The segments that lines join.
use Rattle.std.specs.Prelude.{List, ◌++◌, map}
use Rattle.dcel_constrained.specs.declared.load.Segment.{Segment}
use Rattle.delaunay.specs.declared.joins.Join.{Join}

abbrev pub segment_of : Join → Segment
segment_of join = record { from = join.from; to = join.to }

-- those of some lines, and then those of others
abbrev pub segments_of : List Join → List Join → List Segment
segments_of joins others = map segment_of joins ++ map segment_of others
