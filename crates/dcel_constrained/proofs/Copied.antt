-- A triangulation copied, with marks in place of its edges' data.
use Rattle.std.proofs.Common.{◌≡◌, inl, inr, ℕ, zero, suc, ◌<◌, List, [], ◌∷◌, Some, slice_index_or, sym, ap, subst, arith}
use Rattle.std.specs.List.{AllZip, slice_get}
use Rattle.dcel_predicates.specs.declared.point.Point.{Point}
use Rattle.dcel_maps.specs.Removals.{Closed}
use Rattle.dcel_maps.specs.Shapes.{Mesh, Shape, face_count}
use Rattle.dcel_maps.specs.Triangulations.{AllTriangles}
use Rattle.dcel_plane.specs.Plane.{ListsCircled, TrianglesTurnLeft, origin_point, point_at}
use Rattle.dcel_plane.specs.covering.Covering.{IsConvex, IsHull}
use Rattle.dcel_plane.specs.hull.Straight.{IsStraight}
use Rattle.dcel_planar.specs.Growing.{IsJoined, IsTriangulation}
use Rattle.dcel_regions.specs.declared.mark.Mark.{Mark}
use Rattle.dcel_regions.specs.declared.mark.Mark.TheVariants.{Constraint, Free}
use Rattle.dcel_planar.specs.Leaving.{IsOutlined}
use Rattle.dcel_constrained.specs.Soundness.{IsConstrained}

-- where each mark is a free one
pub none_marked : {X : Type 0} (R : X → Mark → Type 0) → ((x : X) (k : Mark) → R x k → k ≡ Free) → (xs : List X) (marks : List Mark) → AllZip R xs marks
    → (u : ℕ) → slice_get marks u ≡ Some Constraint → ⊥
none_marked R free xs [] all u is = absurd (cc)
none_marked R free [] (k ∷ marks) all u is = absurd all
none_marked R free (x ∷ xs) (k ∷ marks) all zero is = absurd (let no = free x k all.0 in cc)
none_marked R free (x ∷ xs) (k ∷ marks) all (suc u) is = none_marked R free xs marks all.1 u is

module _ {DE UE F DE2 F2 : Type 0} (old : Mesh Point DE UE F) (new : Mesh Point DE2 Mark F2) (shape : new.shape ≡ old.shape) (points : new.vertex_data ≡ old.vertex_data) where
  same_points : point_at new ≡ point_at old
  same_points = ap (λ (d : List Point). λ (i : ℕ). slice_index_or d i origin_point) points

  -- what is said of points and shape
  carried : (P : (ℕ → Point) → Shape → Type 0) → P (point_at old) old.shape → P (point_at new) new.shape
  carried P holds = subst (λ (at : ℕ → Point). P at new.shape) (sym same_points) (subst (λ (s : Shape). P (point_at old) s) (sym shape) holds)

  pub copied_sound : (due : List ℕ) → IsTriangulation old → IsConstrained new due
  copied_sound due whole = record {
    closed = carried (λ at s. s.removal ≡ Closed) whole.sound.closed;
    joined = carried (λ at s. IsJoined s) whole.sound.joined;
    triangles = carried (λ at s. AllTriangles s) whole.sound.triangles;
    plane = carried (λ at s. TrianglesTurnLeft at s) whole.sound.plane;
    listed = λ u inner circled free.
        (let listed = carried (λ at s. ListsCircled at s []) whole.sound.listed u inner circled in absurd (omega (arith, listed)));
  }

  pub copied_outline : IsTriangulation old → IsOutlined new
  copied_outline whole = elim whole.hull [
    | inl flat ↦ inl (record {
      alone = carried (λ at s. face_count s ≡ 1) flat.alone;
      straight = carried (λ at s. IsStraight at s) flat.straight;
    })
    | inr has ↦ inr (record {
      inner = carried (λ at s. 1 < face_count s) has.inner;
      convex = carried (λ at s. IsConvex at s) has.convex;
      hull = carried (λ at s. IsHull at s) has.hull;
    })
  ]
