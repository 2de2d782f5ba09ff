-- An edge that breaks Delaunay's condition, as it is seen from either of its half edges.
use Rattle.std.proofs.Common.{◌≡◌, inl, inr, ℕ, ◌+◌, ◌*◌, ◌/◌, ◌<◌, sym, ap, ◌∙◌, subst, pos, ◌<ℤ◌, arith}
use Rattle.dcel_fixed.specs.HalfEdges.{rev}
use Rattle.dcel_fixed.proofs.Halves.{rev-double, rev-rev}
use Rattle.dcel_predicates.specs.Determinants.{incircle_of}
use Rattle.dcel_predicates.specs.declared.point.Point.{Point}
use Rattle.dcel_predicates.proofs.Points.{incircle-from_the_other_side}
use Rattle.dcel_maps.specs.Conditions.{IsTriangle}
use Rattle.dcel_maps.specs.Shapes.{IsLive, IsMesh, Mesh, Shape, face_of, map_of, origin_of, prev_of}
use Rattle.dcel_maps.specs.Triangulations.{AllTriangles}
use Rattle.dcel_maps.proofs.maps.Halves.{rev_or_same}
use Rattle.dcel_maps.proofs.maps.Soundness.{rev_live}
use Rattle.dcel_plane.specs.Plane.{IsCircled, IsInner}
use Rattle.dcel_plane.proofs.covering.Triangles.{is_triangle}

module _ {V DE UE F : Type 0} (m : Mesh V DE UE F) (mesh : IsMesh m) (triangles : AllTriangles m.shape) (at : ℕ → Point) where
  abbrev s : Shape
  s = m.shape

  abbrev p : ℕ → Point
  p h = at (origin_of s h)

  of_even : (h : ℕ) → IsLive s h → 0 < face_of s h → 0 < face_of s (rev h) → h ≡ 2 * (h / 2)
      → pos 0 <ℤ incircle_of (p h) (p (rev h)) (p (prev_of s h)) (p (prev_of s (rev h))) → IsInner s (h / 2) × IsCircled at s (h / 2)
  of_even h live inner facing even inside =
      let other : rev h ≡ 2 * (h / 2) + 1 = ap rev even ∙ rev-double (h / 2) in
      let near = is_triangle m mesh triangles h live inner in
      let far = is_triangle m mesh triangles (rev h) (rev_live (map_of s) h live) facing in (
        record {
          live = live;
          triangle = subst (λ (i : ℕ). IsTriangle s (face_of s i)) even near;
          facing = subst (λ (i : ℕ). IsTriangle s (face_of s i)) other far;
          inner = subst (λ (i : ℕ). 0 < face_of s i) even inner;
          inner_facing = subst (λ (i : ℕ). 0 < face_of s i) other facing;
        },
        subst (λ (i : ℕ). pos 0 <ℤ incircle_of (p (2 * (h / 2))) (p i) (p (prev_of s (2 * (h / 2)))) (p (prev_of s i))) other
            (subst (λ (i : ℕ). pos 0 <ℤ incircle_of (p i) (p (rev h)) (p (prev_of s i)) (p (prev_of s (rev h)))) even inside),
      )

  pub circled_edge : (h : ℕ) → IsLive s h → 0 < face_of s h → 0 < face_of s (rev h)
      → pos 0 <ℤ incircle_of (p h) (p (rev h)) (p (prev_of s h)) (p (prev_of s (rev h))) → IsInner s (h / 2) × IsCircled at s (h / 2)
  circled_edge h live inner facing inside = elim (rev_or_same h (2 * (h / 2)) (omega arith)) [
    | inl even ↦ of_even h live inner facing even inside
    | inr odd ↦
        let back : rev h ≡ 2 * (h / 2) = ap rev odd ∙ rev-rev (2 * (h / 2)) in
        let half : rev h / 2 ≡ h / 2 = ap (λ (i : ℕ). i / 2) back ∙ omega arith in
        subst (λ (u : ℕ). IsInner s u × IsCircled at s u) half
        (of_even (rev h) (rev_live (map_of s) h live) facing (subst (λ (i : ℕ). 0 < face_of s i) (sym (rev-rev h)) inner) (back ∙ ap (λ (i : ℕ). 2 * i) (sym half))
        (subst (λ (i : ℕ). pos 0 <ℤ incircle_of (p (rev h)) (p i) (p (prev_of s (rev h))) (p (prev_of s i))) (sym (rev-rev h))
        (subst (λ z. pos 0 <ℤ z) (sym (incircle-from_the_other_side (p h) (p (rev h)) (p (prev_of s h)) (p (prev_of s (rev h))))) inside)))
  ]
