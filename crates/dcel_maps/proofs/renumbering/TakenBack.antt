-- The last vertex, appended and taken out again, leaves the mesh as it was.
use Rattle.std.proofs.Common.{◌≡◌, ◌∙◌, ℕ, ◌+◌, ◌-◌, List, [], ◌∷◌, ◌++◌, length, map, refl, arith, Option, None}
use Rattle.std.proofs.lemmas.List.{length-append}
use Rattle.dcel_maps.specs.edits.Create.{vertex_appended}
use Rattle.dcel_maps.specs.Removals.{Closed}
use Rattle.dcel_maps.specs.Renumbering.{last_put, moved, vertex_taken_out}
use Rattle.dcel_maps.specs.Shapes.{IsMesh, Mesh}
use Rattle.dcel_maps.proofs.renumbering.Ends.{last_put-end, take-front, vertices_stay}

-- the last item of a list taken out
last_out : {A : Type 0} (xs : List A) (x : A) (n : ℕ) → length xs ≡ n → last_put 1 (xs ++ x ∷ []) n ≡ xs
last_out xs x n long =
    last_put-end 1 (xs ++ x ∷ []) n (omega (arith, long, length-append xs (x ∷ [])))
    ∙ take-front (length (xs ++ x ∷ []) - 1) xs (x ∷ []) (omega (arith, length-append xs (x ∷ [])))

module _ {V DE UE F : Type 0} where
  -- a mesh with the same count of vertices, origins, anchors and data
  rebuilt : (m : Mesh V DE UE F) (k : ℕ) (os : List ℕ) (anchors : List (Option ℕ)) (data_of : List V) → k ≡ m.shape.vertices → os ≡ m.shape.origins
      → m.shape.removal ≡ Closed → anchors ≡ m.vertex_anchors → data_of ≡ m.vertex_data
      → record m { shape = record m.shape { vertices = k; origins = os; removal = Closed }; vertex_anchors = anchors; vertex_data = data_of } ≡ m
  rebuilt m k os anchors data_of a b c d e = rw (a, b, d, e, ← c) refl

  pub appended-taken_out : (m : Mesh V DE UE F) (datum : V) → IsMesh m → m.shape.removal ≡ Closed → vertex_taken_out (vertex_appended m datum) m.shape.vertices ≡ m
  appended-taken_out m datum mesh closed =
      let s = m.shape in
      rebuilt m (s.vertices + 1 - 1) (map (moved (s.vertices + 1 - 1) s.vertices) s.origins) (last_put 1 (m.vertex_anchors ++ None ∷ []) s.vertices)
      (last_put 1 (m.vertex_data ++ datum ∷ []) s.vertices)
      (omega arith) (vertices_stay (s.vertices + 1 - 1) s.vertices (omega arith) s.origins) closed
      (last_out m.vertex_anchors None s.vertices mesh.sized.vertex_anchors) (last_out m.vertex_data datum s.vertices mesh.sized.vertex_data)
