-- Ways from the outer face over edges, and how many marked ones they cross.
use Rattle.std.specs.Prelude.{ℕ, suc, ◌/◌}
use Rattle.dcel_fixed.specs.HalfEdges.{rev}
use Rattle.dcel_maps.specs.Shapes.{Mesh, IsLive, face_of}
use Rattle.dcel_regions.specs.declared.mark.Mark.{Mark}
use Rattle.dcel_regions.specs.Marked.{IsMarked}

-- some way leads from the outer face to the face f, from face to face over live edges, and crosses k marked ones
pub data IsReached {V DE F : Type 0} (m : Mesh V DE Mark F) : ℕ → ℕ → Type 0 where
  outside : IsReached m 0 0
  over_free : (h : ℕ) {k : ℕ} → IsLive m.shape h → ¬ IsMarked m (h / 2) → IsReached m (face_of m.shape h) k → IsReached m (face_of m.shape (rev h)) k
  over_marked : (h : ℕ) {k : ℕ} → IsLive m.shape h → IsMarked m (h / 2) → IsReached m (face_of m.shape h) k → IsReached m (face_of m.shape (rev h)) (suc k)
