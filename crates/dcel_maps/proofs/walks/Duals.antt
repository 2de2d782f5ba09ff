-- Where Voronoi edges start and end.
use Rattle.std.proofs.Common.{◌≡◌, ℕ, ◌==◌, if◌then◌else◌, Bool, true, false, refl}
use Rattle.dcel_fixed.proofs.Halves.{rev-rev}
use Rattle.dcel_maps.specs.Shapes.{Shape, IsLive, IsSound, face_of}
use Rattle.dcel_maps.specs.Voronoi.{OfFace, OutsideOf, dual_start, dual_end}
use Rattle.dcel_maps.specs.Walking.{ccw_of}
use Rattle.dcel_maps.proofs.walks.Faces.{prev-lies}

-- what starts at an inner face does so wherever else it might have started
same_start : (outer : Bool) (g h k f : ℕ) → (if outer then OutsideOf h else OfFace g) ≡ OfFace f → (if outer then OutsideOf k else OfFace g) ≡ OfFace f
same_start true g h k f starts = cc
same_start false g h k f starts = starts

module _ {s : Shape} (sound : IsSound s) (h : ℕ) (live : IsLive s h) where
  -- the edge that comes after it round its face ends where it starts, if at an inner face
  pub next-ends : (f : ℕ) → dual_start s h ≡ OfFace f → dual_end s (ccw_of s h) ≡ OfFace f
  next-ends f starts =
      rw (rev-rev, (prev-lies sound (face_of s h) h (record { live = live; face = refl })).face)
      (same_start (face_of s h == 0) (face_of s h) h _ f starts)
