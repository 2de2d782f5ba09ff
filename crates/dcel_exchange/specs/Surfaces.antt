-- Surfaces of faces, by their sides: closed ones, their borders and their parts.
use Rattle.std.specs.Prelude.{◌≡◌, ◌≢◌, ◌⊎◌, ℕ, ◌<◌, List, length, slice_index}
use Rattle.dcel_exchange.specs.Corners.{LeadsBack, afters, ends, starts, turned}
use Rattle.dcel_exchange.specs.Meshes.{side_count}
use Rattle.dcel_maps.specs.Maps.{Reaches}

-- there is a side, and from each one another leads back: no side is left for a face outside
pub record IsClosed (faces : List (List ℕ)) : Type 0 where
  pub some : 0 < side_count faces
  pub back : (p : ℕ) → p < side_count faces → (q : ℕ) × (q < side_count faces) × LeadsBack (starts faces) (ends faces) p q

-- no side leads back from side p: it is one of the border
pub record IsAlone (faces : List (List ℕ)) (p : ℕ) : Type 0 where
  pub below : p < side_count faces
  pub alone : (q : ℕ) → q < side_count faces → ¬ LeadsBack (starts faces) (ends faces) p q

-- side q goes on along the border where side p ends
pub record GoesOn (faces : List (List ℕ)) (p q : ℕ) : Type 0 where
  pub from : IsAlone faces p
  pub to : IsAlone faces q
  pub joined : slice_index (starts faces) q ≡ slice_index (ends faces) p

-- two sides of the border, and the border doesn't lead from one to the other
pub record HasBorders (faces : List (List ℕ)) : Type 0 where
  pub one : ℕ
  pub other : ℕ
  pub one_alone : IsAlone faces one
  pub other_alone : IsAlone faces other
  pub apart : ¬ Reaches (GoesOn faces) one other

-- side q is the next one of its face after side p, or leads back from it
pub record IsBeside (faces : List (List ℕ)) (p q : ℕ) : Type 0 where
  pub from : p < side_count faces
  pub to : q < side_count faces
  pub by : (slice_index (afters 0 faces) p ≡ q) ⊎ LeadsBack (starts faces) (ends faces) p q

-- steps round faces and across edges don't lead from the first side to this one
pub record HasParts (faces : List (List ℕ)) : Type 0 where
  pub side : ℕ
  pub below : side < side_count faces
  pub apart : ¬ Reaches (IsBeside faces) 0 side

-- The face w lies beyond the border of the faces: each of its sides leads back from one of the border, and it comes to its first corner once.
pub record LiesBeyond (faces : List (List ℕ)) (w : List ℕ) : Type 0 where
  pub some : 0 < length w
  pub back : (k : ℕ) → k < length w
      → (q : ℕ) × IsAlone faces q × (slice_index (ends faces) q ≡ slice_index w k) × (slice_index (starts faces) q ≡ slice_index (turned w) k)
  pub once : (k : ℕ) → 0 < k → k < length w → slice_index w k ≢ slice_index w 0
