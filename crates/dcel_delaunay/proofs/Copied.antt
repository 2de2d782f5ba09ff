-- What holds of a planar mesh holds of an equal one.
use Rattle.std.proofs.Common.{◌≡◌, ℕ, List, sym, subst}
use Rattle.dcel_maps.specs.Shapes.{Mesh}
use Rattle.dcel_planar.specs.Growing.{HasOutside, IsTriangleMesh}
use Rattle.dcel_plane.specs.Plane.{ListsCircled, point_at}
use Rattle.dcel_predicates.specs.declared.point.Point.{Point}

module _ {DE UE F : Type 0} (m n : Mesh Point DE UE F) (due copy : List ℕ) (mesh : n ≡ m) (same : copy ≡ due) where
  pub triangles_copied : IsTriangleMesh m → IsTriangleMesh n
  triangles_copied known = subst (λ (k : Mesh Point DE UE F). IsTriangleMesh k) (sym mesh) known

  pub outside_copied : ∥ HasOutside m due ∥₁ → ∥ HasOutside n copy ∥₁
  outside_copied known =
      subst (λ (k : Mesh Point DE UE F). ∥ HasOutside k copy ∥₁) (sym mesh) (subst (λ (l : List ℕ). ∥ HasOutside m l ∥₁) (sym same) known)

  pub listed_copied : ListsCircled (point_at m) m.shape due → ListsCircled (point_at n) n.shape copy
  listed_copied known =
      subst (λ (k : Mesh Point DE UE F). ListsCircled (point_at k) k.shape copy) (sym mesh)
      (subst (λ (l : List ℕ). ListsCircled (point_at m) m.shape l) (sym same) known)
