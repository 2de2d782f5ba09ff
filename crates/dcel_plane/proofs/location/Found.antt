-- A walk towards a point finds where it lies.
use Rattle.std.proofs.Common.{◌≡◌, inl, inr, ℕ, zero, suc, ◌+◌, ◌<◌, List, [], ◌∷◌, length, refl, sym, subst, pos, ◌<ℤ◌, eq-zero-or-pos, arith}
use Rattle.std.proofs.lemmas.Int.{by_lt_z}
use Rattle.dcel_fixed.specs.HalfEdges.{rev}
use Rattle.dcel_predicates.specs.declared.point.Point.{Point}
use Rattle.dcel_maps.specs.Maps.{count}
use Rattle.dcel_maps.specs.Shapes.{IsLive, IsMesh, Mesh, Shape, face_count, face_is_live, face_of, next_of, prev_of}
use Rattle.dcel_maps.specs.Triangulations.{AllTriangles}
use Rattle.dcel_plane.specs.Plane.{IsLocallyDelaunay}
use Rattle.dcel_plane.proofs.covering.Triangles.{round}
use Rattle.dcel_plane.specs.location.Locating.{HasBeyond, HasSpot, Walks, orient2d_along}
use Rattle.dcel_plane.proofs.location.Ending.{few_faces}
use Rattle.dcel_plane.proofs.location.Exact.{stepped_out}
use Rattle.dcel_plane.proofs.location.Ways.{found_in}

module _ {V DE UE F : Type 0} (m : Mesh V DE UE F) (mesh : IsMesh m) (triangles : AllTriangles m.shape) (at : ℕ → Point) (delaunay : IsLocallyDelaunay at m.shape) (p : Point) where
  abbrev s : Shape
  s = m.shape

  abbrev IsFound : Type 0
  IsFound = HasSpot at s p

  -- a step across one side
  over : (g h i : ℕ) (list : List ℕ) → 0 < face_of s h → Walks at s p g list (face_of s h) → IsLive s i → face_of s i ≡ face_of s h → orient2d_along at s i p <ℤ pos 0
      → ((k : ℕ) → IsLive s k → 0 < face_of s k → Walks at s p g (i ∷ list) (face_of s k) → IsFound) → IsFound
  over g h i list inner walk live_i on right again =
      let has : HasBeyond at s p i = record { live = live_i; inner = subst (λ (f : ℕ). 0 < f) (sym on) inner; right = right } in
      let out = stepped_out m mesh triangles at delaunay.plane p i has in
      elim (eq-zero-or-pos (face_of s (rev i))) [
        | inl outer ↦ inr (rev i, out.0, outer, out.1)
        | inr inner_too ↦ again (rev i) out.0 inner_too (has, refl, subst (λ (f : ℕ). Walks at s p g list f) (sym on) walk)
      ]

  find : (fuel g h : ℕ) (list : List ℕ) → IsLive s h → 0 < face_of s h → Walks at s p g list (face_of s h) → count (face_is_live s) (face_count s) < length list + 2 + fuel → IsFound
  find zero g h list live inner walk enough = absurd (let f = few_faces m mesh triangles at delaunay p g h list live inner walk in omega (arith, f, enough))
  find (suc fuel) g h list live inner walk enough =
      let tri = round m mesh triangles h live inner in
      by_lt_z (orient2d_along at s h p) (pos 0)
      (λ right. over g h h list inner walk live refl right (λ k live_k inner_k on. find fuel g k (h ∷ list) live_k inner_k on (omega (arith, enough))))
      (λ first. by_lt_z (orient2d_along at s (next_of s h) p) (pos 0)
      (λ right. over g h (next_of s h) list inner walk tri.live_y tri.face_y right (λ k live_k inner_k on. find fuel g k (next_of s h ∷ list) live_k inner_k on (omega (arith, enough))))
      (λ second. by_lt_z (orient2d_along at s (prev_of s h) p) (pos 0)
      (λ right. over g h (prev_of s h) list inner walk tri.live_z tri.face_z right (λ k live_k inner_k on. find fuel g k (prev_of s h ∷ list) live_k inner_k on (omega (arith, enough))))
      (λ third. inl (h, live, inner, found_in m mesh triangles at delaunay.plane p h live inner first second third))))

  pub has_spot : (h : ℕ) → IsLive s h → 0 < face_of s h → IsFound
  has_spot h live inner = find (count (face_is_live s) (face_count s)) (face_of s h) h [] live inner refl (omega arith)
