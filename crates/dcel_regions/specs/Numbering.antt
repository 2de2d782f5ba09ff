-- What is true while faces are numbered, level by level: what private functions ask and leave.
use Rattle.std.specs.Prelude.{◌≡◌, ◌⊎◌, ℕ, zero, suc, ◌+◌, ◌*◌, ◌/◌, ◌^◌, ◌<◌, ◌≤◌, Bool, true, false, cond, List, [], ◌∷◌, length, Option, Some, None, slice_get, slice_index}
use Rattle.dcel_fixed.specs.HalfEdges.{rev}
use Rattle.dcel_maps.specs.Shapes.{Mesh, IsLive, face_count, face_of}
use Rattle.dcel_maps.specs.Words.{count_of}
use Rattle.dcel_regions.specs.declared.mark.Mark.{Mark}
use Rattle.dcel_regions.specs.declared.mark.Mark.TheVariants.{Constraint, Free}
use Rattle.dcel_regions.specs.Marked.{IsMarked}
use Rattle.dcel_regions.specs.Regions.{IsReached}

-- In the list of numbers 0 says that a face has none so far, and k + 1 that it has the number k.

-- the face g has at most the number n, or lies on the list of this level or of the next
abbrev pub IsSettled : ℕ → List ℕ → List ℕ → List ℕ → ℕ → ℕ → Type 0
IsSettled level numbers due beyond g n =
    ((0 < slice_index numbers g) × (slice_index numbers g ≤ suc n)) ⊎ (((0 < count_of g due) × (level ≤ n)) ⊎ ((0 < count_of g beyond) × (suc level ≤ n)))

-- how many half edges lie on faces without a number
abbrev pub unseen : List (List ℕ) → List ℕ → ℕ
unseen [] numbers = 0
unseen (w ∷ words) [] = 0
unseen (w ∷ words) (zero ∷ numbers) = length w + unseen words numbers
unseen (w ∷ words) (suc k ∷ numbers) = unseen words numbers

-- the work to come: a half edge puts a face on a list, and one on the list of the next level is put on the other
abbrev pub work : List (List ℕ) → List ℕ → List ℕ → List ℕ → ℕ
work words numbers due beyond = 2 * unseen words numbers + (length due + 2 * length beyond)

abbrev pub is_this_mark : Mark → Option Mark → Bool
is_this_mark mark None = false
is_this_mark Free (Some Free) = true
is_this_mark Free (Some Constraint) = false
is_this_mark Constraint (Some Free) = false
is_this_mark Constraint (Some Constraint) = true

module _ {V DE F : Type 0} where
  -- the faces on the other sides of those half edges whose edges have this mark
  abbrev pub faces_over : Mark → List (Mesh V DE Mark F × ℕ) → List ℕ
  faces_over mark [] = []
  faces_over mark (e ∷ rest) =
      cond (is_this_mark mark (slice_get e.0.undirected_data (e.1 / 2))) (face_of e.0.shape (rev e.1) ∷ faces_over mark rest) (faces_over mark rest)

  -- some faces are numbered up to this level, and the faces beside them are too, or lie on one of two lists
  pub record IsUnderWay (m : Mesh V DE Mark F) (level : ℕ) (numbers due beyond : List ℕ) : Type 0 where
    pub many : length numbers ≡ face_count m.shape
    pub reached : (f k : ℕ) → slice_index numbers f ≡ suc k → IsReached m f k
    pub below : (f : ℕ) → slice_index numbers f ≤ suc level
    pub reached_now : (f : ℕ) → 0 < count_of f due → IsReached m f level
    pub reached_next : (f : ℕ) → 0 < count_of f beyond → IsReached m f (suc level)
    pub outer : IsSettled level numbers due beyond 0 0
    pub free : (h k : ℕ) → IsLive m.shape h → ¬ IsMarked m (h / 2) → slice_index numbers (face_of m.shape h) ≡ suc k
        → IsSettled level numbers due beyond (face_of m.shape (rev h)) k
    pub marked : (h k : ℕ) → IsLive m.shape h → IsMarked m (h / 2) → slice_index numbers (face_of m.shape h) ≡ suc k
        → IsSettled level numbers due beyond (face_of m.shape (rev h)) (suc k)
    pub few : level + work m.shape.words numbers due beyond < 2 ^ 34

  -- each face that is reached has its number, and no other has one
  pub record IsNumbered (m : Mesh V DE Mark F) (numbers : List ℕ) : Type 0 where
    pub many : length numbers ≡ face_count m.shape
    pub reached : (f k : ℕ) → slice_index numbers f ≡ suc k → IsReached m f k
    pub least : (f k : ℕ) → IsReached m f k → (0 < slice_index numbers f) × (slice_index numbers f ≤ suc k)
