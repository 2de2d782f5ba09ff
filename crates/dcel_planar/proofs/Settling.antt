-- What flips and triangles at the hull leave of the vertices.
use Rattle.std.proofs.Common.{◌≡◌, ℕ, List, [], ◌∷◌, sym, subst}
use Rattle.dcel_maps.specs.edits.Flip.{edge_flipped}
use Rattle.dcel_maps.specs.Removals.{Closed}
use Rattle.dcel_maps.specs.Shapes.{Mesh}
use Rattle.dcel_maps.specs.Triangulations.{AllTriangles}
use Rattle.dcel_maps.proofs.Triangulations.{flipped}
use Rattle.dcel_predicates.specs.declared.point.Point.{Point}
use Rattle.dcel_legalize.specs.Flipping.{edges_flipped}
use Rattle.dcel_planar.specs.Turning.{IsTurnedTo}
use Rattle.dcel_plane.specs.Plane.{TrianglesTurnLeft, point_at}
use Rattle.dcel_planar.specs.Growing.{IsJoined, IsTriangleMesh, Keeps}
use Rattle.dcel_planar.proofs.Counting.{flipped_joined}
use Rattle.dcel_planar.proofs.Growth.{flipped-keeps, keeps-refl, keeps-trans}

module _ {DE UE F : Type 0} where
  turned_keeps : (m : Mesh Point DE UE F) (us : List ℕ) → m.shape.removal ≡ Closed → Keeps m (edges_flipped m us)
  turned_keeps m [] closed = keeps-refl m closed
  turned_keeps m (u ∷ us) closed =
      keeps-trans m (edge_flipped m u) (edges_flipped (edge_flipped m u) us) (flipped-keeps m closed u) (turned_keeps (edge_flipped m u) us closed)

  turned_triangles : (m : Mesh Point DE UE F) (us : List ℕ) → AllTriangles m.shape → AllTriangles (edges_flipped m us).shape
  turned_triangles m [] all = all
  turned_triangles m (u ∷ us) all = turned_triangles (edge_flipped m u) us (flipped m all u)

  turned_joined : (m : Mesh Point DE UE F) (us : List ℕ) → IsJoined m.shape → IsJoined (edges_flipped m us).shape
  turned_joined m [] joined = joined
  turned_joined m (u ∷ us) joined = turned_joined (edge_flipped m u) us (flipped_joined m u joined)

  pub flips_keep : (m n : Mesh Point DE UE F) → m.shape.removal ≡ Closed → IsTurnedTo m n → Keeps m n
  flips_keep m n closed turned = subst (λ (k : Mesh Point DE UE F). Keeps m k) (sym turned.is) (turned_keeps m turned.turned closed)

  -- and what inner faces are
  pub flips_triangulated : (m n : Mesh Point DE UE F) → IsTriangleMesh m → IsTurnedTo m n → TrianglesTurnLeft (point_at n) n.shape → IsTriangleMesh n
  flips_triangulated m n way turned plane = record {
    closed = (flips_keep m n way.closed turned).closed;
    joined = subst (λ (k : Mesh Point DE UE F). IsJoined k.shape) (sym turned.is) (turned_joined m turned.turned way.joined);
    triangles = subst (λ (k : Mesh Point DE UE F). AllTriangles k.shape) (sym turned.is) (turned_triangles m turned.turned way.triangles);
    plane = plane;
  }
