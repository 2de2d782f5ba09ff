-- Faces as lists of corners, counterclockwise, their sides, and the half edges that these become.
use Rattle.std.specs.Prelude.{◌≡◌, ℕ, suc, ◌+◌, ◌*◌, ◌^◌, ◌<◌, ◌≤◌, ◌==◌, ◌&&◌, Bool, not, true, List, [], ◌∷◌, ◌++◌, length, map, take, drop, replicate, slice_index, slice_index_or}
use Rattle.std.specs.declared.vec.Vec.{Vec}
use Rattle.dcel_fixed.specs.HalfEdges.{rev}
use Rattle.dcel_maps.specs.Maps.{any_below, count}
use Rattle.dcel_maps.specs.Numbers.{numbers_between}

-- the same cyclic list, from the second item on
abbrev pub turned : List ℕ → List ℕ
turned w = drop 1 w ++ take 1 w

-- the sides of all faces in one row, face by face: side k of a face leads from its corner k to the next one
abbrev pub starts : List (List ℕ) → List ℕ
starts [] = []
starts (w ∷ ws) = w ++ starts ws

abbrev pub ends : List (List ℕ) → List ℕ
ends [] = []
ends (w ∷ ws) = turned w ++ ends ws

-- the place of each side's face, the first of which has the place f
abbrev pub owners : ℕ → List (List ℕ) → List ℕ
owners f [] = []
owners f (w ∷ ws) = replicate (length w) f ++ owners (suc f) ws

-- the side after each one on its face, where the first one is side p
abbrev pub afters : ℕ → List (List ℕ) → List ℕ
afters p [] = []
afters p (w ∷ ws) = turned (numbers_between p (p + length w)) ++ afters (p + length w) ws

-- side q leads back where side p leads
abbrev pub LeadsBack : List ℕ → List ℕ → ℕ → ℕ → Type 0
LeadsBack from to p q = (slice_index from q ≡ slice_index to p) × (slice_index to q ≡ slice_index from p)

abbrev pub leads_back : List ℕ → List ℕ → ℕ → ℕ → Bool
leads_back from to p q = (slice_index from q == slice_index to p) && (slice_index to q == slice_index from p)

-- no side before it leads back: it is the first side of its edge
abbrev pub is_first : List ℕ → List ℕ → ℕ → Bool
is_first from to p = not (any_below (leads_back from to p) p)

-- Which half edge each side is: edges are numbered in the order in which their first sides come, and such a side is the even half. A side
-- that leads back where one before it leads is the other half.
pub record IsNumbered (from to : List ℕ) (number : ℕ → ℕ) : Type 0 where
  pub first : (p : ℕ) → p < length from → is_first from to p ≡ true → number p ≡ 2 * count (is_first from to) p
  pub second : (p q : ℕ) → p < length from → q < p → LeadsBack from to p q → number p ≡ rev (number q)

-- the lists of corners
abbrev pub corners_of : {A : Type 0} → List (Vec ℕ A) → List (List ℕ)
corners_of faces = map (λ face. face.items) faces

-- these lists hold the sides of the faces, of which each has three at least
pub record AreSides (faces : List (List ℕ)) (from to face after : List ℕ) : Type 0 where
  pub from_is : from ≡ starts faces
  pub to_is : to ≡ ends faces
  pub face_is : face ≡ owners 0 faces
  pub after_is : after ≡ afters 0 faces
  pub few : length from ≤ 2 ^ 31
  pub long : (f : ℕ) → f < length faces → 3 ≤ length (slice_index_or faces f [])
