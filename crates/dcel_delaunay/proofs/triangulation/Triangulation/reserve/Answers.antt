use Rattle.std.proofs.Common.{subst, sym}
use mathlib.Core.Logic.{∥∥₁_map}
use Rattle.dcel_plane.specs.Plane.{ListsCircled, point_at}
use Rattle.dcel_planar.specs.Growing.{HasOutside, IsTriangleMesh}
use Rattle.dcel_delaunay.proofs.triangulation.Triangulation.reserve.Goals as goal

pub invariant_of-self : goal.invariant_of-self
invariant_of-self g c =
    let old = c.args.self.now in
    let due = old.planar.due.items in
    let same = sym c.reserve_capacity.ensures in (
      (
        subst IsTriangleMesh same old.planar.triangulated,
        (∥∥₁_map old.planar.outlined (subst (λ m. HasOutside m due) same), tt),
      ),
      (subst (λ m. ListsCircled (point_at m) m.shape due) same old.listed, tt),
    )
