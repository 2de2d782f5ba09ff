-- Edges wanted by the numbers of their vertices.
use Rattle.std.specs.Prelude.{◌≡◌, ℕ, Bool, false, List, [], ◌∷◌, length, min, nat_lt}
use Rattle.dcel_maps.specs.Shapes.{Mesh}
use Rattle.dcel_legalize.specs.Outcome.{ending_told, flips_told}
use Rattle.dcel_legalize.specs.Flipping.{Follows, edges_flipped}
use Rattle.dcel_legalize.specs.declared.legalized.Legalized.{Legalized}

-- of the ends of an edge and the corners opposite it: whether the lesser corner is below the lesser end
abbrev pub has_lesser_corner : List ℕ → Bool
has_lesser_corner (from ∷ to ∷ near ∷ far ∷ []) = nat_lt (min near far) (min from to)
has_lesser_corner _ = false

-- the step of the line: the rule leads from the old mesh to the new one, by as many flips as are told
pub record MakesFlips {V DE UE F : Type 0} (old : Mesh V DE UE F) (list : List ℕ) (max_flips : ℕ) (answer : Legalized) (new : Mesh V DE UE F) : Type 0 where
  pub turned : List ℕ
  pub rule : Follows has_lesser_corner old list max_flips turned (ending_told answer)
  pub number : flips_told answer ≡ length turned
  pub edit : new ≡ edges_flipped old turned
