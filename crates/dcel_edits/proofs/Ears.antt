-- A ring is cut into ears, one after the other: what completes the rest from here completes the whole.
use Rattle.std.proofs.Common.{◌≡◌, ℕ, ◌+◌, ◌*◌, ◌<◌, List, [], ◌∷◌, ◌++◌, length, reverse, slice_index, slice_set, Some, sym, ap, ◌∙◌, subst, arith}
use Rattle.std.proofs.lemmas.List.{get_or_append_left, length-append, length-set, reverse-append}
use Rattle.dcel_store.specs.Lists.{Lists}
use Rattle.dcel_maps.specs.edits.DefaultData.{AddsEdgesAndFaces}
use Rattle.dcel_maps.specs.Words.{count_of}
use Rattle.dcel_maps.proofs.words.Counts.{count-append, count-same}
use Rattle.dcel_edits.specs.Adding.{HasSpace}
use Rattle.dcel_edits.specs.Fill.{EarsPut, IsRingItem, closing, ear_stored}

module _ {V DE UE F : Type 0} (is_half : DE → Type 0) (is_edge : UE → Type 0) (is_face : F → Type 0) (apex : ℕ) (Whole : Lists V DE UE F → Type 0) where
  -- the ring (p, q, r, ..) is left, its other half edges stand in `left` from its end on
  pub record PuttingEars (s : Lists V DE UE F) (p q r : ℕ) (left : List ℕ) : Type 0 where
    pub goes : (u : Lists V DE UE F) → EarsPut is_half is_edge is_face apex s p q r (reverse left) u → Whole u
    pub space : HasSpace s (length left) (length left + 1)
    pub second : IsRingItem s q
    pub third : IsRingItem s r
    pub items : (h : ℕ) → 0 < count_of h left → IsRingItem s h
    pub apex_in : apex < length s.vertex_anchors

  module _ (s : Lists V DE UE F) (p q r : ℕ) (left : List ℕ) (on : PuttingEars s p q r left) (x : ℕ) (before : List ℕ) (parts : left ≡ before ++ x ∷ []) where
    long : length left ≡ length before + 1
    long = ap length parts ∙ length-append before (x ∷ [])

    pub putting_goes_on : (t : Lists V DE UE F) → AddsEdgesAndFaces is_half is_edge is_face 1 1 t (ear_stored s apex p q r (closing (length s.undirected_data + 1) x (reverse before)))
        → PuttingEars t (2 * length s.undirected_data + 1) r x before
    putting_goes_on t ear =
        let made : Lists V DE UE F = ear_stored s apex p q r (closing (length s.undirected_data + 1) x (reverse before)) ear.directed_data ear.undirected_data ear.face_data in
        let turned : reverse left ≡ x ∷ reverse before = ap reverse parts ∙ reverse-append before (x ∷ []) in
        let anchors = length-set s.vertex_anchors (slice_index s.origin q) (Some q) in
        let nexts = length-append (slice_set s.next q (2 * length s.undirected_data)) (p ∷ r ∷ []) in
        let nexts_set = length-set s.next q (2 * length s.undirected_data) in
        let origins = length-append s.origin (slice_index s.origin r ∷ apex ∷ []) in
        let item : (h : ℕ) → IsRingItem s h → IsRingItem t h =
        λ h was. subst (λ (u : Lists V DE UE F). IsRingItem u h) (sym ear.is) record {
          edge_in = omega (arith, was.edge_in, nexts, nexts_set);
          origin_in = omega (arith, was.origin_in, origins);
          start_in = omega (arith, was.start_in, anchors, get_or_append_left s.origin (slice_index s.origin r ∷ apex ∷ []) 0 h was.origin_in);
        } in
        let there : (h : ℕ) → count_of h left ≡ count_of h before + count_of h (x ∷ []) = λ h. ap (count_of h) parts ∙ count-append h before (x ∷ []) in
        record {
          goes = λ u rest. on.goes u (subst (λ w. EarsPut is_half is_edge is_face apex s p q r w u) (sym turned) (t, ear, rest));
          space = subst (λ (u : Lists V DE UE F). HasSpace u (length before) (length before + 1)) (sym ear.is) record {
            places = record {
              for_vertices = on.space.places.for_vertices;
              for_edges = omega (arith, on.space.places.for_edges, long);
              for_faces = omega (arith, on.space.places.for_faces, long);
            };
            few_edges = omega (arith, on.space.few_edges, long, length-append s.undirected_data ear.undirected_data, ear.undirected_count);
            few_faces = omega (arith, on.space.few_faces, long, length-append s.face_data ear.face_data, ear.face_data_count);
          };
          second = item r on.third;
          third = item x (on.items x (omega (arith, there x, count-same x [])));
          items = λ h found. item h (on.items h (omega (arith, there h, found)));
          apex_in = subst (λ (u : Lists V DE UE F). apex < length u.vertex_anchors) (sym ear.is) (omega (arith, on.apex_in, anchors));
        }
