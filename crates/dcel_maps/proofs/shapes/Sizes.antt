-- The lists of a mesh, kind by kind: an edit that leaves a kind alone leaves what is said of its lists.
use Rattle.std.proofs.Common.{◌≡◌, ℕ, ◌*◌, ◌<◌, ◌≤◌, ◌^◌, List, length, Option}
use Rattle.dcel_maps.specs.Removals.{IsWithin}
use Rattle.dcel_maps.specs.Shapes.{IsSized, Mesh, face_count}

-- vertices, or faces: each has a datum and an anchor
pub record HasEach {X : Type 0} (items : List X) (anchors : List (Option ℕ)) (count : ℕ) : Type 0 where
  pub long : length items ≡ count
  pub anchored : length anchors ≡ count
  pub few : count ≤ 2 ^ 32

-- edges: each has a datum, and each half edge a datum and an origin
pub record HasEdges {DE UE : Type 0} (halves : List DE) (edges : List UE) (origins : List ℕ) (count : ℕ) : Type 0 where
  pub long : length edges ≡ count
  pub halves_long : length halves ≡ 2 * count
  pub origins_long : length origins ≡ 2 * count
  pub few : count ≤ 2 ^ 31

module _ {V DE UE F : Type 0} {m : Mesh V DE UE F} where
  pub sized_from : HasEach m.vertex_data m.vertex_anchors m.shape.vertices
      → HasEdges m.directed_data m.undirected_data m.shape.origins m.shape.edges → HasEach m.face_data m.face_anchors (face_count m.shape)
      → 0 < face_count m.shape → IsWithin m.shape.removal m.shape.vertices m.shape.edges (face_count m.shape) → IsSized m
  sized_from vertices edges faces outer within = record {
    vertex_data = vertices.long;
    vertex_anchors = vertices.anchored;
    undirected_data = edges.long;
    directed_data = edges.halves_long;
    origins = edges.origins_long;
    face_data = faces.long;
    face_anchors = faces.anchored;
    outer = outer;
    few_vertices = vertices.few;
    few_edges = edges.few;
    few_faces = faces.few;
    within = within;
  }

  pub sized_vertices : IsSized m → HasEach m.vertex_data m.vertex_anchors m.shape.vertices
  sized_vertices sized = record { long = sized.vertex_data; anchored = sized.vertex_anchors; few = sized.few_vertices }

  pub sized_edges : IsSized m → HasEdges m.directed_data m.undirected_data m.shape.origins m.shape.edges
  sized_edges sized =
      record { long = sized.undirected_data; halves_long = sized.directed_data; origins_long = sized.origins; few = sized.few_edges }

  pub sized_faces : IsSized m → HasEach m.face_data m.face_anchors (face_count m.shape)
  sized_faces sized = record { long = sized.face_data; anchored = sized.face_anchors; few = sized.few_faces }
