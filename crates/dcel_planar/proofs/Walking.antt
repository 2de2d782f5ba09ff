-- A walk from triangle to triangle.
use Rattle.std.proofs.Common.{◌≡◌, ℕ, ◌+◌, ◌<◌, List, [], ◌∷◌, length, refl, sym, subst, arith}
use Rattle.dcel_fixed.specs.HalfEdges.{rev}
use Rattle.dcel_maps.specs.Shapes.{IsLive, IsMesh, Mesh, Shape, face_count, face_is_live, face_of}
use Rattle.dcel_maps.proofs.walks.Lengths.{count-le}
use Rattle.dcel_predicates.specs.declared.point.Point.{Point}
use Rattle.dcel_plane.specs.Plane.{IsLocallyDelaunay, point_at}
use Rattle.dcel_plane.specs.location.Locating.{HasBeyond, Walks}
use Rattle.dcel_plane.proofs.location.Ending.{few_faces}
use Rattle.dcel_plane.proofs.location.Exact.{stepped_out}
use Rattle.dcel_planar.specs.Growing.{IsDelaunayBut, IsTriangleMesh}
use Rattle.dcel_planar.specs.Places.{HasLeft}

module _ {DE UE F : Type 0} (m : Mesh Point DE UE F) where
  abbrev s : Shape
  s = m.shape

  -- nothing is left to be looked at
  pub delaunay : IsDelaunayBut m [] → IsLocallyDelaunay (point_at m) s
  delaunay sound = record { plane = sound.plane; empty = λ u inner circled. absurd (let listed = sound.listed u inner circled in omega (arith, listed)) }

  -- the half edges that a walk has crossed, one for each step
  abbrev pub Comes : Point → ℕ → ℕ → ℕ → Type 0
  Comes p g f steps = (list : List ℕ) × Walks (point_at m) s p g list f × (length list ≡ steps)

  pub crossed : (p : Point) (g f h steps : ℕ) → Comes p g f steps → face_of s h ≡ f → HasBeyond (point_at m) s p h → Comes p g (face_of s (rev h)) (steps + 1)
  crossed p g f h steps comes on beyond =
      let many = comes.2 in
      (h ∷ comes.0, (beyond, refl, subst (λ (i : ℕ). Walks (point_at m) s p g comes.0 i) (sym on) comes.1), omega (arith, many))

  module _ (mesh : IsMesh m) (sound : IsTriangleMesh m) where
    -- from a triangle to the next, or out of the hull
    pub stepped : (p : Point) (h : ℕ) → HasBeyond (point_at m) s p h → IsLive s (rev h) × HasLeft m p (rev h)
    stepped p h beyond = stepped_out m mesh sound.triangles (point_at m) sound.plane p h beyond

    -- where no edge is to be flipped, there are more faces than steps
    pub comes_few : IsLocallyDelaunay (point_at m) s → (p : Point) (g h steps : ℕ) → IsLive s h → 0 < face_of s h → Comes p g (face_of s h) steps → steps < face_count s
    comes_few empty p g h steps live inner comes =
        let few = few_faces m mesh sound.triangles (point_at m) empty p g h comes.0 live inner comes.1 in
        let all = count-le (face_is_live s) (face_count s) in
        let many = comes.2 in
        omega (arith, few, all, many)
