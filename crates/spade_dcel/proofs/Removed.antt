-- A vertex that is given up with its edges and faces is taken out with them at once: what is left holds the mesh that is cleaned up, without it.
use Rattle.std.proofs.Common.{◌≡◌, ◌+◌, ◌-◌, ℕ, inr, List, [], ◌∷◌, ◌++◌, fold, length, reverse, slice_index, Some, refl, sym, ap, ap₂, ◌∙◌, subst, subst₂}
use Rattle.dcel_store.specs.Lists.{HasPlaces, Lists}
use Rattle.dcel_edits.specs.Fill.{CanGiveUp, CanPutEars, EarsPut, begun_stored, closing, given_up}
use Rattle.dcel_edits.proofs.stored.Rings.{hole_can, hole_given_up, hole_holds}
use Rattle.dcel_edits.specs.TakingOut.{CanLoseEdges, CanLoseFaces, CanLoseVertex, edges_out, faces_out, vertex_out}
use Rattle.dcel_edits.proofs.stored.Changes.{HoldsAdded, held_lists, held_mesh, held_removal}
use Rattle.dcel_edits.proofs.stored.CleaningUp.{can_lose_listed_edges, can_lose_listed_faces, listed_out_holds}
use Rattle.dcel_edits.proofs.stored.Holding.{Holds}
use Rattle.dcel_edits.proofs.stored.TakingOut.{lose_vertex}
use Rattle.dcel_edits.specs.Stored.{mesh_of}
use Rattle.dcel_maps.specs.Borders.{GivesUpRound, IsBorderLoop}
use Rattle.dcel_maps.specs.Conditions.{CanSwapRemove, HasRoom}
use Rattle.dcel_maps.specs.EditLists.{ComesBy, EditedBy, ears_cut, vertex_cut_off}
use Rattle.dcel_maps.specs.EditLists.EditKind.{numbers_changed}
use Rattle.dcel_maps.specs.edits.Fill.{FillsHole, border_filled, edges_at, faces_at, hole_filled, loop_filled}
use Rattle.dcel_maps.specs.Regions.{LiesInside}
use Rattle.dcel_maps.specs.Removals.{Removal, Closed, Cleaned, IsListed, ascending, opened}
use Rattle.dcel_maps.specs.Renumbering.{cleaned_up, edge_taken_out, edges_down, edges_taken_out, face_taken_out, faces_down, vertex_taken_out}
use Rattle.dcel_maps.specs.Shapes.{IsMesh, Mesh, map_of}
use Rattle.dcel_maps.proofs.lists.Filling.{isolate_listed}
use Rattle.dcel_maps.proofs.lists.Removing.{cleanup_listed, remove_listed}
use Rattle.dcel_maps.proofs.maps.Lists.{comes_then, renumbered_once}
use Rattle.dcel_maps.proofs.removal.RingLists.{at_border}
use Rattle.dcel_maps.proofs.renumbering.Vertices.{IsOnlyOut, can_swap_remove-out}
use Rattle.dcel_maps.proofs.words.Ascending.{ascending-ascends, ascends-is}

-- a list in ascending order is so already
pub in_order : (xs list : List ℕ) → xs ≡ ascending list → xs ≡ ascending xs
in_order xs list is = subst (λ ys. ys ≡ ascending ys) (sym is) (ascends-is (ascending list) (ascending list) (ascending-ascends list) (λ k. refl))

module _ {V DE UE F : Type 0} where
  -- neither filling a hole nor cleaning up changes the data of vertices
  filled-vertices : (m : Mesh V DE UE F) (r : Removal) (ring : List ℕ) (halves : List DE) (edges : List UE) (faces : List F)
      → (loop_filled m r ring halves edges faces).vertex_data ≡ m.vertex_data
  filled-vertices m r [] halves edges faces = refl
  filled-vertices m r (p ∷ []) halves edges faces = refl
  filled-vertices m r (p ∷ q ∷ []) halves edges faces = refl
  filled-vertices m r (p ∷ q ∷ k ∷ rest) halves edges faces = refl

  taken_out-keeps : {X : Type 0} (part : Mesh V DE UE F → X) (step : Mesh V DE UE F → ℕ → Mesh V DE UE F)
      → ((m : Mesh V DE UE F) (d : ℕ) → part (step m d) ≡ part m) → (m : Mesh V DE UE F) (ds : List ℕ) → part (fold step m ds) ≡ part m
  taken_out-keeps part step keeps m [] = refl
  taken_out-keeps part step keeps m (d ∷ ds) = taken_out-keeps part step keeps (step m d) ds ∙ keeps m d

  pub cleaned-vertices : (m : Mesh V DE UE F) → (cleaned_up m).vertex_data ≡ m.vertex_data
  cleaned-vertices m =
      taken_out-keeps (λ (n : Mesh V DE UE F). n.vertex_data) face_taken_out (λ n d. refl) (edges_taken_out m (edges_down m.shape.removal)) (faces_down m.shape.removal)
      ∙ taken_out-keeps (λ (n : Mesh V DE UE F). n.vertex_data) edge_taken_out (λ n d. refl) m (edges_down m.shape.removal)

  -- nor how many there are
  pub cleaned-count : (m : Mesh V DE UE F) → (cleaned_up m).shape.vertices ≡ m.shape.vertices
  cleaned-count m =
      taken_out-keeps (λ (n : Mesh V DE UE F). n.shape.vertices) face_taken_out (λ n d. refl) (edges_taken_out m (edges_down m.shape.removal)) (faces_down m.shape.removal)
      ∙ taken_out-keeps (λ (n : Mesh V DE UE F). n.shape.vertices) edge_taken_out (λ n d. refl) m (edges_down m.shape.removal)

  -- where a removal is open
  module _ {s : Lists V DE UE F} {m : Mesh V DE UE F} (es fs : List ℕ) (v : ℕ) (held : Holds s (opened es fs v) m)
      (edges_up : es ≡ ascending es) (faces_up : fs ≡ ascending fs) where
    listed : IsListed m.shape.removal es fs
    listed = subst (λ q. IsListed q es fs) (sym (held_removal s (opened es fs v) m held)) (refl, refl)

    pub loses_edges : CanLoseEdges s (reverse es)
    loses_edges = can_lose_listed_edges held es fs es fs listed edges_up faces_up

    module _ {t : Lists V DE UE F} (without_edges : t ≡ edges_out s (reverse es)) where
      pub loses_faces : CanLoseFaces t (reverse fs)
      loses_faces = can_lose_listed_faces held es fs es fs listed edges_up faces_up without_edges

      module _ {u : Lists V DE UE F} (without_faces : u ≡ faces_out t (reverse fs)) where
        cleaned_held : Holds u (Cleaned v) (cleaned_up m)
        cleaned_held = listed_out_holds held es fs es fs listed edges_up faces_up without_edges without_faces refl

        pub left_mesh : IsMesh (cleaned_up m)
        left_mesh = held_mesh u (Cleaned v) (cleaned_up m) cleaned_held

        pub left_can : CanSwapRemove (cleaned_up m).shape v
        left_can = inr (held_removal u (Cleaned v) (cleaned_up m) cleaned_held)

        out : IsOnlyOut (cleaned_up m).shape v
        out = can_swap_remove-out (cleaned_up m) left_mesh v left_can

        pub loses_vertex : CanLoseVertex u v
        loses_vertex = (lose_vertex cleaned_held v out).0

        pub left_holds : Holds (vertex_out u v) Closed (vertex_taken_out (cleaned_up m) v)
        left_holds = (lose_vertex cleaned_held v out).1

        pub left-vertices : u.vertex_data ≡ m.vertex_data
        left-vertices = (held_lists u (Cleaned v) (cleaned_up m) cleaned_held).vertex_data ∙ cleaned-vertices m

  -- these edges and faces are those at v, in ascending order
  module _ (m : Mesh V DE UE F) (mesh : IsMesh m) (border : List ℕ) (v : ℕ) (es fs : List ℕ) (loop : IsBorderLoop m.shape border v)
      (es_are : es ≡ ascending (edges_at m v)) (fs_are : fs ≡ ascending (faces_at m v)) where
    one_record : opened es fs v ≡ opened (edges_at m v) (faces_at m v) v
    one_record =
        ap₂ (λ xs ys. Removal.Isolated xs ys (Some v)) (sym (in_order es (edges_at m v) es_are) ∙ es_are) (sym (in_order fs (faces_at m v) fs_are) ∙ fs_are)

    pub all_inside : LiesInside m.shape border es fs (Some v)
    all_inside = (loop, subst (GivesUpRound m.shape v) (sym one_record) (at_border m mesh border v loop))

    -- so the hole is filled as that of v is
    module _ {is_half : DE → Type 0} {is_edge : UE → Type 0} {is_face : F → Type 0} {s : Lists V DE UE F}
        (filled : HoldsAdded is_half is_edge is_face (length border - 3) (length border - 2) s (opened es fs v) (border_filled m (opened es fs v) border)) where
      abbrev pub hole : Mesh V DE UE F
      hole = mesh_of s (opened es fs v)

      pub hole_held : Holds s (opened es fs v) hole
      hole_held = record { stored = filled.stored; is = refl }

      hole_is : FillsHole is_half is_edge is_face border hole (hole_filled m v border)
      hole_is =
          subst (λ r. FillsHole is_half is_edge is_face border hole (border_filled m r border)) one_record filled.edit

      -- and the data of its vertices are as they were
      pub hole-vertices : hole.vertex_data ≡ m.vertex_data
      hole-vertices =
          ap (λ (n : Mesh V DE UE F). n.vertex_data) hole_is.is
          ∙ filled-vertices m (opened (edges_at m v) (faces_at m v) v) (reverse border) hole_is.directed_data hole_is.undirected_data hole_is.face_data

      -- it becomes a mesh without v
      pub becomes : {n : Mesh V DE UE F} → n ≡ vertex_taken_out (cleaned_up hole) v
          → FillsHole is_half is_edge is_face border n (λ halves edges faces. vertex_taken_out (cleaned_up (hole_filled m v border halves edges faces)) v)
      becomes is = record {
        added = hole_is.added;
        directed_default = hole_is.directed_default;
        undirected_default = hole_is.undirected_default;
        face_default = hole_is.face_default;
        is = is ∙ ap (λ (n : Mesh V DE UE F). vertex_taken_out (cleaned_up n) v) hole_is.is;
      }

      pub comes : (closed : m.shape.removal ≡ Closed) → IsMesh (cleaned_up hole) → CanSwapRemove (cleaned_up hole).shape v
          → {n : Mesh V DE UE F} → n ≡ vertex_taken_out (cleaned_up hole) v
          → EditedBy ((vertex_cut_off (length border) ++ ears_cut (length border)) ++ numbers_changed ∷ []) m n
      comes closed left can {n} is =
          subst (λ (t : Mesh V DE UE F). EditedBy ((vertex_cut_off (length border) ++ ears_cut (length border)) ++ numbers_changed ∷ []) m t) (sym is)
          (comes_then (vertex_cut_off (length border) ++ ears_cut (length border)) (numbers_changed ∷ []) (map_of m.shape) (map_of hole.shape)
          (map_of (vertex_taken_out (cleaned_up hole) v).shape)
          (isolate_listed m mesh closed border hole v hole_is loop)
          (renumbered_once [] (map_of hole.shape) (map_of (vertex_taken_out (cleaned_up hole) v).shape)
          (comes_then (numbers_changed ∷ []) (numbers_changed ∷ []) (map_of hole.shape) (map_of (cleaned_up hole).shape)
          (map_of (vertex_taken_out (cleaned_up hole) v).shape)
          (cleanup_listed hole (held_mesh s (opened es fs v) hole hole_held) (cleaned_up hole) refl)
          (remove_listed (cleaned_up hole) left (vertex_taken_out (cleaned_up hole) v) v refl can))))

-- a removal of three edges is renumbered once
pub once : (S T : _) → ComesBy ((vertex_cut_off 3 ++ ears_cut 3) ++ numbers_changed ∷ []) S T → ComesBy (vertex_cut_off 3) S T
once S T (A, B, a, e, (C, D, b, f, (G, H, c, g, rest))) = (A, B, a, e, (C, D, b, f, (G, H, c, g, renumbered_once [] H T rest)))

-- no removal is open, as before
pub stays_closed : {V DE UE F : Type 0} {s t : Lists V DE UE F} {r : Removal} {n : Mesh V DE UE F} → t ≡ s → r ≡ Closed → Holds s Closed n → Holds t r n
stays_closed {n = n} is closed held = subst₂ (λ u q. Holds u q n) (sym is) (sym closed) held

-- a hole filled, whose ring is read from the border's end: what is inside is in these lists, in ascending order
module _ {V DE UE F : Type 0} {s : Lists V DE UE F} {record_now : Removal} {m : Mesh V DE UE F} (given : Holds s record_now m)
    (closed : m.shape.removal ≡ Closed) (p q r : ℕ) (left others more border : List ℕ) (v : ℕ) (es fs : List ℕ)
    (loop : IsBorderLoop m.shape border v) (es_are : es ≡ ascending (edges_at m v)) (fs_are : fs ≡ ascending (faces_at m v))
    (first : border ≡ more ++ p ∷ []) (second : more ≡ others ++ q ∷ []) (third : others ≡ left ++ r ∷ [])
    (room : HasRoom m.shape 0 (length border - 3) (length border - 2)) where
  mesh : IsMesh m
  mesh = held_mesh s record_now m given

  pub ring_can : HasPlaces s 0 (length left) (length left + 1) → CanPutEars s p q r left
  ring_can places =
      hole_can given closed p q r left others more border es fs (Some v) (all_inside m mesh border v es fs loop es_are fs_are) first second third room places

  module _ (is_half : DE → Type 0) (is_edge : UE → Type 0) (is_face : F → Type 0) (u : Lists V DE UE F)
      (put : EarsPut is_half is_edge is_face (slice_index s.origin p) (begun_stored s p q (closing (length s.undirected_data) r (reverse left))) p q r (reverse left) u) where
    pub ring_given_up : CanGiveUp u (Some v) fs
    ring_given_up =
        hole_given_up given closed p q r left others more border es fs (Some v) (all_inside m mesh border v es fs loop es_are fs_are) first second third room
        is_half is_edge is_face u put

    pub ring_filled : {t : Lists V DE UE F} → t ≡ given_up u (Some v) fs
        → HoldsAdded is_half is_edge is_face (length border - 3) (length border - 2) t (opened es fs v) (border_filled m (opened es fs v) border)
    ring_filled {t} is =
        subst (λ (l : Lists V DE UE F). HoldsAdded is_half is_edge is_face (length border - 3) (length border - 2) l (opened es fs v) (border_filled m (opened es fs v) border))
        (sym is)
        (hole_holds given closed p q r left others more border es fs (Some v) (all_inside m mesh border v es fs loop es_are fs_are) first second third room
        is_half is_edge is_face u put)
