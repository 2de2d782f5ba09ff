-- One step of renumbering leaves a mesh.
use Rattle.std.proofs.Common.{◌≡◌, ℕ, zero, suc, ◌-◌, ◌*◌, ◌<◌, List, [], ◌∷◌, map, option_map, Option, Some, None, slice_index_or, refl, sym, ap, ◌∙◌, arith}
use Rattle.std.proofs.lemmas.List.{length-map}
use Rattle.dcel_maps.specs.Cyclic.{from_least}
use Rattle.dcel_maps.specs.Removals.{IsWithin}
use Rattle.dcel_maps.specs.Renumbering.{edge_taken_out, face_taken_out, half_of, moved, vertex_taken_out, without_edge, without_face}
use Rattle.dcel_maps.specs.Shapes.{IsMesh, IsSized, Mesh, face_anchor, face_count, vertex_anchor}
use Rattle.dcel_maps.proofs.Liveness.{IsWithin-closed}
use Rattle.dcel_maps.proofs.renumbering.Edges.{IsLastEdgeOut, edge-renamed}
use Rattle.dcel_maps.proofs.renumbering.Faces.{IsLastFaceOut, face-renamed, faces-left}
use Rattle.dcel_maps.proofs.renumbering.LastPut.{length-last_put}
use Rattle.dcel_maps.proofs.renumbering.Moves.{last_put-moved, moved-back, moved-within}
use Rattle.dcel_maps.proofs.renumbering.Records.{without_edge-loses, without_edge-in_order, without_face-loses, without_face-in_order, still_given}
use Rattle.dcel_maps.proofs.renumbering.Vertices.{IsOnlyOut, vertex-renamed}
use Rattle.dcel_maps.proofs.shapes.Anchors.{AnchorsFollow, renamed-mesh}
use Rattle.dcel_maps.proofs.shapes.Sizes.{sized_from, sized_vertices, sized_edges, sized_faces}

-- anchors under other numbers, one by one
pub anchor-map : (f : ℕ → ℕ) (anchors : List (Option ℕ)) (k : ℕ)
    → slice_index_or (map (option_map f) anchors) k None ≡ option_map f (slice_index_or anchors k None)
anchor-map f [] k = refl
anchor-map f (a ∷ anchors) zero = refl
anchor-map f (a ∷ anchors) (suc k) = anchor-map f anchors k

pub anchor-same : (a : Option ℕ) → option_map (λ (h : ℕ). h) a ≡ a
anchor-same None = refl
anchor-same (Some h) = refl

module _ {V DE UE F : Type 0} (m : Mesh V DE UE F) (d : ℕ) (mesh : IsMesh m) where
  -- an edge
  module _ (out : IsLastEdgeOut m.shape d) where
    edge_anchors : AnchorsFollow m (edge_taken_out m d) (half_of (moved (m.shape.edges - 1) d)) (λ v. v) (λ v. v) (λ g. g)
    edge_anchors = record {
      vertex = λ v below. anchor-map (half_of (moved (m.shape.edges - 1) d)) m.vertex_anchors v;
      vertex_below = λ v below. below;
      vertex_back = λ v below. refl;
      face = λ g below. anchor-map (half_of (moved (m.shape.edges - 1) d)) m.face_anchors g;
    }

    edge_within : IsWithin (without_edge m.shape.removal d) m.shape.vertices (m.shape.edges - 1) (face_count (edge_taken_out m d).shape)
    edge_within =
        let within = mesh.sized.within in
        let faces = length-map m.shape.words (λ w. from_least (map (half_of (moved (m.shape.edges - 1) d)) w)) in
        record {
          vertices = λ v given. within.vertices v (sym ((without_edge-loses m.shape.removal d).vertices v) ∙ given);
          edges = λ u given.
              let was = still_given (without_edge-loses m.shape.removal d) u given in omega (arith, was.0, out.below, out.largest u was.1);
          faces = λ g given.
              let was = within.faces g (sym ((without_edge-loses m.shape.removal d).others g) ∙ given) in
              (was.0, omega (arith, was.1, faces));
          in_order = without_edge-in_order m.shape.removal d within.in_order;
        }

    edge_sized : IsSized (edge_taken_out m d)
    edge_sized =
        let sized = mesh.sized in
        let half = half_of (moved (m.shape.edges - 1) d) in
        let faces = length-map m.shape.words (λ w. from_least (map half w)) in
        sized_from
        (record { long = sized.vertex_data; anchored = length-map m.vertex_anchors (option_map half) ∙ sized.vertex_anchors; few = sized.few_vertices })
        (record {
          long = omega (arith, sized.undirected_data, length-last_put 1 m.undirected_data d);
          halves_long = omega (arith, sized.directed_data, length-last_put 2 m.directed_data (2 * d));
          origins_long = omega (arith, sized.origins, length-last_put 2 m.shape.origins (2 * d));
          few = omega (arith, sized.few_edges);
        })
        (record {
          long = sized.face_data ∙ sym faces;
          anchored = length-map m.face_anchors (option_map half) ∙ sized.face_anchors ∙ sym faces;
          few = omega (arith, sized.few_faces, faces);
        })
        (omega (arith, sized.outer, faces)) edge_within

    pub edge_out-mesh : IsMesh (edge_taken_out m d)
    edge_out-mesh =
        renamed-mesh m (edge_taken_out m d) (half_of (moved (m.shape.edges - 1) d)) (half_of (moved d (m.shape.edges - 1))) (λ v. v) (λ v. v)
        (λ g. g) (λ g. g) (edge-renamed m.shape d mesh.sound out) edge_anchors edge_sized mesh

  -- a face
  module _ (out : IsLastFaceOut m.shape d) where
    face_anchors-moved : (g : ℕ) → g < face_count (face_taken_out m d).shape
        → face_anchor (face_taken_out m d) g ≡ option_map (λ (h : ℕ). h) (face_anchor m (moved d (face_count m.shape - 1) g))
    face_anchors-moved g below =
        let long = mesh.sized.face_anchors in
        let left = faces-left m.shape d in
        last_put-moved None m.face_anchors d g (omega (arith, long, out.below)) (omega (arith, long, left, below))
        ∙ ap (λ n. slice_index_or m.face_anchors (moved d (n - 1) g) None) long
        ∙ sym (anchor-same (face_anchor m (moved d (face_count m.shape - 1) g)))

    face_anchors : AnchorsFollow m (face_taken_out m d) (λ h. h) (λ v. v) (λ v. v) (moved d (face_count m.shape - 1))
    face_anchors = record {
      vertex = λ v below. sym (anchor-same (vertex_anchor m v));
      vertex_below = λ v below. below;
      vertex_back = λ v below. refl;
      face = face_anchors-moved;
    }

    face_within : IsWithin (without_face m.shape.removal d) m.shape.vertices m.shape.edges (face_count (face_taken_out m d).shape)
    face_within =
        let within = mesh.sized.within in record {
          vertices = λ v given. within.vertices v (sym ((without_face-loses m.shape.removal d).vertices v) ∙ given);
          edges = λ u given. within.edges u (sym ((without_face-loses m.shape.removal d).others u) ∙ given);
          faces = λ g given.
              let was = still_given (without_face-loses m.shape.removal d) g given in
              ((within.faces g was.1).0, omega (arith, was.0, out.below, out.largest g was.1, faces-left m.shape d));
          in_order = without_face-in_order m.shape.removal d within.in_order;
        }

    face_sized : IsSized (face_taken_out m d)
    face_sized =
        let sized = mesh.sized in
        let left = faces-left m.shape d in
        sized_from (sized_vertices sized) (sized_edges sized)
        (record {
          long = omega (arith, sized.face_data, length-last_put 1 m.face_data d, left);
          anchored = omega (arith, sized.face_anchors, length-last_put 1 m.face_anchors d, left);
          few = omega (arith, sized.few_faces, left);
        })
        (omega (arith, out.below, out.inner, left)) face_within

    pub face_out-mesh : IsMesh (face_taken_out m d)
    face_out-mesh =
        renamed-mesh m (face_taken_out m d) (λ h. h) (λ h. h) (λ v. v) (λ v. v) (moved (face_count m.shape - 1) d) (moved d (face_count m.shape - 1))
        (face-renamed m.shape d mesh.sound out) face_anchors face_sized mesh

  -- a vertex
  module _ (out : IsOnlyOut m.shape d) where
    vertex_anchors-moved : (v : ℕ) → v < m.shape.vertices - 1
        → vertex_anchor (vertex_taken_out m d) v ≡ option_map (λ (h : ℕ). h) (vertex_anchor m (moved d (m.shape.vertices - 1) v))
    vertex_anchors-moved v below =
        let long = mesh.sized.vertex_anchors in
        last_put-moved None m.vertex_anchors d v (omega (arith, long, out.below)) (omega (arith, long, below))
        ∙ ap (λ n. slice_index_or m.vertex_anchors (moved d (n - 1) v) None) long
        ∙ sym (anchor-same (vertex_anchor m (moved d (m.shape.vertices - 1) v)))

    vertex_anchors : AnchorsFollow m (vertex_taken_out m d) (λ h. h) (moved (m.shape.vertices - 1) d) (moved d (m.shape.vertices - 1)) (λ g. g)
    vertex_anchors = record {
      vertex = vertex_anchors-moved;
      vertex_below = λ v below. moved-within d m.shape.vertices v out.below below;
      vertex_back = λ v below. moved-back d (m.shape.vertices - 1) v (omega (arith, below));
      face = λ g below. sym (anchor-same (face_anchor m g));
    }

    vertex_sized : IsSized (vertex_taken_out m d)
    vertex_sized =
        let sized = mesh.sized in
        sized_from
        (record {
          long = omega (arith, sized.vertex_data, length-last_put 1 m.vertex_data d);
          anchored = omega (arith, sized.vertex_anchors, length-last_put 1 m.vertex_anchors d);
          few = omega (arith, sized.few_vertices);
        })
        (record {
          long = sized.undirected_data;
          halves_long = sized.directed_data;
          origins_long = length-map m.shape.origins (moved (m.shape.vertices - 1) d) ∙ sized.origins;
          few = sized.few_edges;
        })
        (sized_faces sized) sized.outer (IsWithin-closed (m.shape.vertices - 1) m.shape.edges (face_count m.shape))

    pub vertex_out-mesh : IsMesh (vertex_taken_out m d)
    vertex_out-mesh =
        renamed-mesh m (vertex_taken_out m d) (λ h. h) (λ h. h) (moved (m.shape.vertices - 1) d) (moved d (m.shape.vertices - 1)) (λ g. g) (λ g. g)
        (vertex-renamed m.shape d mesh.sound out) vertex_anchors vertex_sized mesh
