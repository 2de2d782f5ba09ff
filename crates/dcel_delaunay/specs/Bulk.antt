-- Many points inserted at once.
use Rattle.std.specs.Prelude.{◌≡◌, ◌<◌, ◌≤◌, ◌+◌, ◌++◌, ℕ, zero, suc, List, [], ◌∷◌, length, slice_get, slice_index_or, Option, Some, All, Contains}
use Rattle.dcel_maps.specs.Words.{count_of}
use Rattle.dcel_maps.specs.Shapes.{Mesh}
use Rattle.dcel_predicates.specs.declared.point.Point.{Point}
use Rattle.dcel_maps.specs.Conditions.{HasRoom}
use Rattle.dcel_planar.specs.Outcomes.{IsWholeMesh}
use Rattle.dcel_planar.specs.Places.{HasPoint}
use Rattle.dcel_planar.specs.declared.errors.InsertionError.{InsertionError}
use Rattle.dcel_planar.specs.declared.errors.InsertionError.TheVariants.{OutOfMemory, OutOfRange, TooManyPoints, Unfinished}
use Rattle.dcel_planar.specs.declared.planar.PlanarMesh.{PlanarMesh}

-- each number below `count` stands there once, and no other
pub record ListsEach (count : ℕ) (numbers : List ℕ) : Type 0 where
  pub length_is : length numbers ≡ count
  pub once : (i : ℕ) → i < count → count_of i numbers ≡ 1
  pub no_other : (i : ℕ) → count ≤ i → count_of i numbers ≡ 0

-- so many numbers, from `first` on
unfoldable pub counted : (first many : ℕ) → List ℕ
counted first zero = []
counted first (suc many) = first ∷ counted (first + 1) many

-- each of these is the point whose number is in its place of the order, from the place `first` on
abbrev pub IsAhead : List Point → List ℕ → (first : ℕ) → List (Option Point) → Type 0
IsAhead points order first ahead = (i : ℕ) (p : Option Point) → slice_get ahead i ≡ Some p → p ≡ slice_get points (slice_index_or order (first + i) 0)

module _ {T : Type 0} (Answers : Point → T → Type 0) where
  -- each point has its answer in the same place of the other list
  pub record AnswersEach (points : List Point) (answers : List T) : Type 0 where
    pub length_is : length answers ≡ length points
    pub each : (i : ℕ) (p : Point) (a : T) → slice_get points i ≡ Some p → slice_get answers i ≡ Some a → Answers p a

  -- so do the points whose numbers were taken
  pub record AnswersSoFar (points : List Point) (taken : List ℕ) (answers : List T) : Type 0 where
    pub length_is : length answers ≡ length points
    pub each : (i : ℕ) (p : Point) (a : T) → 0 < count_of i taken → slice_get points i ≡ Some p → slice_get answers i ≡ Some a → Answers p a

-- one more point does, that of the number n
abbrev pub AnswersToo : {T : Type 0} (old new : Point → T → Type 0) → List Point → ℕ → List T → List T → Type 0
AnswersToo old new points n before after = (taken : List ℕ) → AnswersSoFar old points taken before → AnswersSoFar new points (taken ++ n ∷ []) after

module _ {DE UE F : Type 0} where
  -- each point stands at the vertex in its place of the other list
  abbrev pub StandAt : Mesh Point DE UE F → List Point → List ℕ → Type 0
  StandAt m = AnswersEach (HasPoint m)

  -- so do the points whose numbers were taken
  abbrev pub StandSoFar : Mesh Point DE UE F → List Point → List ℕ → List ℕ → Type 0
  StandSoFar m = AnswersSoFar (HasPoint m)

  -- one more point does
  abbrev pub StandsToo : Mesh Point DE UE F → Mesh Point DE UE F → List Point → ℕ → List ℕ → List ℕ → Type 0
  StandsToo old new = AnswersToo (HasPoint old) (HasPoint new)

  -- the vertices of before stay, and those that are new come after them: at most so many, each at one of these points
  pub record AddsVertices (old new : Mesh Point DE UE F) (given : List Point) (most : ℕ) : Type 0 where
    pub added : List Point
    pub points : new.vertex_data ≡ old.vertex_data ++ added
    pub from : All (Contains given) added
    pub few : length added ≤ most

module _ {UE A : Type 0} where
  -- an insertion of many points fails: those that were put in before stay
  abbrev pub FailsToInsertAll : PlanarMesh UE A → PlanarMesh UE A → InsertionError → Type 0
  FailsToInsertAll old new OutOfRange = ⊥
  FailsToInsertAll old new TooManyPoints = ¬ HasRoom new.dcel.shape 1 3 2 × IsWholeMesh new
  FailsToInsertAll old new OutOfMemory = IsWholeMesh old → IsWholeMesh new
  FailsToInsertAll old new Unfinished = ¬ IsWholeMesh new
