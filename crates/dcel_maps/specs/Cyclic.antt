-- A cyclic list, written from its least item.
use Rattle.std.specs.Prelude.{ℕ, List, [], ◌∷◌, ◌++◌, cond, eqb}
use Rattle.dcel_maps.specs.Walks.{least_of}

-- what stands in a list from x on, and before it
abbrev pub onward : ℕ → List ℕ → List ℕ
onward x [] = []
onward x (y ∷ r) = cond (eqb x y) (y ∷ r) (onward x r)

abbrev pub before : ℕ → List ℕ → List ℕ
before x [] = []
before x (y ∷ r) = cond (eqb x y) [] (y ∷ before x r)

-- the cyclic list, written from its least item
unfoldable pub from_least : List ℕ → List ℕ
from_least [] = []
from_least (x ∷ r) = onward (least_of x r) (x ∷ r) ++ before (least_of x r) (x ∷ r)
