-- Elements taken out of lists that hold a mesh: they can be, and what is left holds the mesh without them.
use Rattle.std.proofs.Common.{ℕ, subst}
use Rattle.dcel_store.specs.Lists.{Lists}
use Rattle.dcel_edits.specs.TakingOut.{CanLoseEdge, CanLoseFace, CanLoseVertex, edge_out, face_out, vertex_out}
use Rattle.dcel_maps.specs.Removals.{Removal, Closed}
use Rattle.dcel_maps.specs.Renumbering.{edge_taken_out, face_taken_out, vertex_taken_out, without_edge, without_face}
use Rattle.dcel_maps.specs.Shapes.{Mesh}
use Rattle.dcel_edits.proofs.stored.EdgeMoves.{edge_out-can, edge_out-holds}
use Rattle.dcel_edits.proofs.stored.FacesOut.{face_out-can, face_out-holds}
use Rattle.dcel_edits.proofs.stored.Holding.{Holds}
use Rattle.dcel_edits.proofs.stored.VerticesOut.{vertex_out-can, vertex_out-holds}
use Rattle.dcel_maps.proofs.renumbering.Edges.{IsLastEdgeOut}
use Rattle.dcel_maps.proofs.renumbering.Faces.{IsLastFaceOut}
use Rattle.dcel_maps.proofs.renumbering.Vertices.{IsOnlyOut}

module _ {V DE UE F : Type 0} {s : Lists V DE UE F} {r : Removal} {m : Mesh V DE UE F} (held : Holds s r m) (d : ℕ) where
  -- the largest edge that is given up
  pub lose_edge : IsLastEdgeOut m.shape d → CanLoseEdge s d × Holds (edge_out s d) (without_edge r d) (edge_taken_out m d)
  lose_edge =
      subst (λ (u : Mesh V DE UE F). IsLastEdgeOut u.shape d → CanLoseEdge s d × Holds (edge_out s d) (without_edge r d) (edge_taken_out u d)) held.is
      (λ out. (edge_out-can s r d held.stored out, edge_out-holds s r d held.stored out))

  -- the largest face that is given up
  pub lose_face : IsLastFaceOut m.shape d → CanLoseFace s d × Holds (face_out s d) (without_face r d) (face_taken_out m d)
  lose_face =
      subst (λ (u : Mesh V DE UE F). IsLastFaceOut u.shape d → CanLoseFace s d × Holds (face_out s d) (without_face r d) (face_taken_out u d)) held.is
      (λ out. (face_out-can s r d held.stored out, face_out-holds s r d held.stored out))

  -- a vertex where no edge starts, once nothing else is given up
  pub lose_vertex : IsOnlyOut m.shape d → CanLoseVertex s d × Holds (vertex_out s d) Closed (vertex_taken_out m d)
  lose_vertex =
      subst (λ (u : Mesh V DE UE F). IsOnlyOut u.shape d → CanLoseVertex s d × Holds (vertex_out s d) Closed (vertex_taken_out u d)) held.is
      (λ out. (vertex_out-can s r d held.stored out, vertex_out-holds s r d held.stored out))
