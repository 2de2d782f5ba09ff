-- The stages of the checks, in their order.
use Rattle.std.specs.Prelude.{ℕ}

pub data Stage : Type 0 where
  Lengths : Stage
  Sizes : Stage
  OuterFace : Stage
  FaceCount : Stage
  Ranges : Stage
  Leading : Stage
  Fitting : Stage
  FaceRounds : Stage
  VertexRounds : Stage
  UsedFaces : Stage
  Connection : Stage
  Euler : Stage

-- how many come before it
abbrev pub place : Stage → ℕ
place Lengths = 0
place Sizes = 1
place OuterFace = 2
place FaceCount = 3
place Ranges = 4
place Leading = 5
place Fitting = 6
place FaceRounds = 7
place VertexRounds = 8
place UsedFaces = 9
place Connection = 10
place Euler = 11
