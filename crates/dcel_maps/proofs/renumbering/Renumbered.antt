-- What is live stays at cleanup, and when a removal is closed, under other numbers.
use Rattle.std.proofs.Common.{◌≡◌, ◌≢◌, ◌&&◌, inl, inr, ℕ, ◌-◌, ◌*◌, ◌/◌, ◌<◌, true, false, not, nat_lt, map, List, [], ◌∷◌, length, option_map, slice_index, slice_index_or, Option, Some, None, refl, sym, ap, ◌∙◌, subst, arith, eq-eqb}
use Rattle.std.proofs.lemmas.Bool.{both_ways, cases_eq, cases_lt, ne_eqb}
use Rattle.std.proofs.lemmas.List.{length-map}
use Rattle.std.specs.List.{fold}
use Rattle.dcel_maps.specs.Conditions.{CanSwapRemove}
use Rattle.dcel_maps.specs.Cyclic.{from_least}
use Rattle.dcel_maps.specs.Removals.{Removal, Closed, Cleaned, Isolated, gives_up_edge, gives_up_face, gives_up_vertex}
use Rattle.dcel_maps.specs.Renumbering.{cleaned, cleaned_up, edge_taken_out, edges_down, edges_taken_out, face_taken_out, faces_down, half_of, last_put, moved, new_number, renumbered, vertex_taken_out, with_removal}
use Rattle.dcel_maps.specs.Shapes.{IsLive, IsMesh, Mesh, Shape, edge_is_live, face_anchor, face_count, face_is_live, vertex_anchor, vertex_is_live}
use Rattle.dcel_maps.specs.theory.Renumbering.{GoesDown, old_number}
use Rattle.dcel_maps.specs.Words.{count_of, word_of}
use Rattle.dcel_maps.proofs.Liveness.{gives_up_face-outer, gives_up_vertex-closed, is_live-from, is_live-parts}
use Rattle.dcel_maps.proofs.renumbering.Cleanup.{cleaned_up-renamed, edges_listed}
use Rattle.dcel_maps.proofs.renumbering.GivenUp.{faces_down-list}
use Rattle.dcel_maps.proofs.renumbering.Meshes.{anchor-map, anchor-same}
use Rattle.dcel_maps.proofs.renumbering.Moves.{half_of-half, half_of-same, half_of-then, moved-back, moved-below, moved-last, moved-other, moved-within}
use Rattle.dcel_maps.proofs.renumbering.Numbers.{all_put-half, all_put-new, down-more, new_number-is_place}
use Rattle.dcel_maps.proofs.words.Counts.{absent_head, count-other}
use Rattle.dcel_maps.proofs.renumbering.Vertices.{IsOnlyOut, can_swap_remove-out, vertex-renamed}
use Rattle.dcel_maps.proofs.shapes.Renames.{IsRenamed}
use Rattle.dcel_maps.specs.Renumbered.{AreNumbered, LeavesLive, new_edge, new_face, new_half}

-- a clean record gives up the same vertex
cleaned-vertex : (r : Removal) (k : ℕ) → gives_up_vertex (cleaned r) k ≡ gives_up_vertex r k
unfolding gives_up_vertex
cleaned-vertex Closed k = refl
cleaned-vertex (Isolated edges faces None) k = refl
cleaned-vertex (Isolated edges faces (Some v)) k = refl
cleaned-vertex (Cleaned vertex) k = refl

-- the least number of all keeps its place, where it isn't taken out
first-stays : (n : ℕ) (ds : List ℕ) → GoesDown n ds → count_of 0 ds ≡ 0 → new_number n ds 0 ≡ 0
unfolding new_number
first-stays n [] down none = refl
first-stays n (d ∷ ds) down none =
    let other = absent_head 0 d ds none in
    let rest : count_of 0 ds ≡ 0 = omega (arith, none) in
    ap (new_number (n - 1) ds) (moved-other (n - 1) d 0 (λ is. other (omega (arith, is, down.0))))
    ∙ first-stays (n - 1) ds (down-more d (n - 1) ds (omega (arith, down.0)) down.1) rest

-- one rename of an anchor after another
anchor-then : (f g : ℕ → ℕ) (a : Option ℕ) → option_map g (option_map f a) ≡ option_map (λ h. g (f h)) a
anchor-then f g None = refl
anchor-then f g (Some h) = refl

module _ {V DE UE F : Type 0} where
  -- what is kept when edges or faces are taken out
  module _ {A : Type 0} (get : Mesh V DE UE F → A) (step : Mesh V DE UE F → ℕ → Mesh V DE UE F) (keeps : (m : Mesh V DE UE F) (d : ℕ) → get (step m d) ≡ get m) where
    all-keep : (m : Mesh V DE UE F) (ds : List ℕ) → get (fold step m ds) ≡ get m
    all-keep m [] = refl
    all-keep m (d ∷ ds) = all-keep (step m d) ds ∙ keeps m d

  -- and what follows step by step
  module _ {A : Type 0} (get : Mesh V DE UE F → A) (step : Mesh V DE UE F → ℕ → Mesh V DE UE F) (follow : A → ℕ → A) (follows : (m : Mesh V DE UE F) (d : ℕ) → get (step m d) ≡ follow (get m) d) where
    all-follow : (m : Mesh V DE UE F) (ds : List ℕ) → get (fold step m ds) ≡ fold follow (get m) ds
    all-follow m [] = refl
    all-follow m (d ∷ ds) = all-follow (step m d) ds ∙ ap (λ x. fold follow x ds) (follows m d)

  -- anchors under other numbers, as edges are taken out one after another
  module _ (get : Mesh V DE UE F → List (Option ℕ))
      (follows : (m : Mesh V DE UE F) (d : ℕ) → get (edge_taken_out m d) ≡ map (option_map (half_of (moved (m.shape.edges - 1) d))) (get m)) where
    anchors_out : (m : Mesh V DE UE F) (ds : List ℕ) (k : ℕ)
        → slice_index_or (get (edges_taken_out m ds)) k None ≡ option_map (half_of (new_number m.shape.edges ds)) (slice_index_or (get m) k None)
    unfolding new_number
    anchors_out m [] k =
        let anchor = slice_index_or (get m) k None in
        sym (ap (λ (f : ℕ → ℕ). option_map f anchor) half_of-same ∙ anchor-same anchor)
    anchors_out m (d ∷ ds) k =
        let last = m.shape.edges - 1 in
        let anchor = slice_index_or (get m) k None in
        anchors_out (edge_taken_out m d) ds k
        ∙ ap (option_map (half_of (new_number last ds)))
        (ap (λ anchors. slice_index_or anchors k None) (follows m d) ∙ anchor-map (half_of (moved last d)) (get m) k)
        ∙ anchor-then (half_of (moved last d)) (half_of (new_number last ds)) anchor
        ∙ ap (λ (f : ℕ → ℕ). option_map f anchor) (λ i h. half_of-then (moved last d) (new_number last ds) h i)

  -- faces have as many anchors once edges are out
  edges_out-face_anchors : (m : Mesh V DE UE F) (ds : List ℕ) → length (edges_taken_out m ds).face_anchors ≡ length m.face_anchors
  edges_out-face_anchors m [] = refl
  edges_out-face_anchors m (d ∷ ds) =
      edges_out-face_anchors (edge_taken_out m d) ds ∙ length-map m.face_anchors (option_map (half_of (moved (m.shape.edges - 1) d)))

  module _ (m : Mesh V DE UE F) (mesh : IsMesh m) where
    abbrev s : Shape
    s = m.shape

    abbrev t : Mesh V DE UE F
    t = cleaned_up m

    abbrev es : List ℕ
    es = edges_down m.shape.removal

    abbrev fs : List ℕ
    fs = faces_down m.shape.removal

    edges_go : GoesDown s.edges es
    edges_go = (edges_listed m mesh).down

    faces_go : GoesDown (face_count s) fs
    faces_go = (faces_down-list s.removal mesh.sized.within).down

    -- what isn't given up doesn't go
    edge_stays : (u : ℕ) → gives_up_edge s.removal u ≡ false → count_of u es ≡ 0
    edge_stays u kept = elim (cases_lt 0 (count_of u es)) [
      | inl found ↦ absurd (both_ways (gives_up_edge s.removal u) kept (((edges_listed m mesh).each u).1 found))
      | inr none ↦ omega (arith, none)
    ]

    face_stays : (f : ℕ) → gives_up_face s.removal f ≡ false → count_of f fs ≡ 0
    face_stays f kept = elim (cases_lt 0 (count_of f fs)) [
      | inl found ↦ absurd (both_ways (gives_up_face s.removal f) kept (((faces_down-list s.removal mesh.sized.within).each f).1 found))
      | inr none ↦ omega (arith, none)
    ]

    pub numbered : AreNumbered s
    numbered = record {
      edges = λ u live. let (below, kept) = is_live-parts (gives_up_edge s.removal) s.edges u live in new_number-is_place s.edges es edges_go u below (edge_stays u kept);
      faces = λ f live.
          let (below, kept) = is_live-parts (gives_up_face s.removal) (face_count s) f live in
          new_number-is_place (face_count s) fs faces_go f below (face_stays f kept);
    }

    directed_is : t.directed_data ≡ fold (λ ys d. last_put 2 ys (2 * d)) m.directed_data es
    directed_is =
        all-keep (λ (n : Mesh V DE UE F). n.directed_data) face_taken_out (λ n d. refl) (edges_taken_out m es) fs
        ∙ all-follow (λ (n : Mesh V DE UE F). n.directed_data) edge_taken_out (λ ys d. last_put 2 ys (2 * d)) (λ n d. refl) m es

    undirected_is : t.undirected_data ≡ fold (last_put 1) m.undirected_data es
    undirected_is =
        all-keep (λ (n : Mesh V DE UE F). n.undirected_data) face_taken_out (λ n d. refl) (edges_taken_out m es) fs
        ∙ all-follow (λ (n : Mesh V DE UE F). n.undirected_data) edge_taken_out (last_put 1) (λ n d. refl) m es

    face_data_is : t.face_data ≡ fold (last_put 1) m.face_data fs
    face_data_is =
        all-follow (λ (n : Mesh V DE UE F). n.face_data) face_taken_out (last_put 1) (λ n d. refl) (edges_taken_out m es) fs
        ∙ ap (λ ys. fold (last_put 1) ys fs) (all-keep (λ (n : Mesh V DE UE F). n.face_data) edge_taken_out (λ n d. refl) m es)

    vertex_data_is : t.vertex_data ≡ m.vertex_data
    vertex_data_is =
        all-keep (λ (n : Mesh V DE UE F). n.vertex_data) face_taken_out (λ n d. refl) (edges_taken_out m es) fs
        ∙ all-keep (λ (n : Mesh V DE UE F). n.vertex_data) edge_taken_out (λ n d. refl) m es

    vertex_anchors_are : (v : ℕ) → vertex_anchor t v ≡ option_map (new_half s) (vertex_anchor m v)
    vertex_anchors_are v =
        ap (λ anchors. slice_index_or anchors v None) (all-keep (λ (n : Mesh V DE UE F). n.vertex_anchors) face_taken_out (λ n d. refl) (edges_taken_out m es) fs)
        ∙ anchors_out (λ (n : Mesh V DE UE F). n.vertex_anchors) (λ n d. refl) m es v

    face_anchors_are : (f : ℕ) → f < face_count s → count_of f fs ≡ 0 → face_anchor t (new_face s f) ≡ option_map (new_half s) (face_anchor m f)
    face_anchors_are f below stays =
        let halfway = edges_taken_out m es in
        let kept : length halfway.face_anchors ≡ face_count s = edges_out-face_anchors m es ∙ mesh.sized.face_anchors in
        ap (λ anchors. slice_index_or anchors (new_face s f) None)
        (all-follow (λ (n : Mesh V DE UE F). n.face_anchors) face_taken_out (last_put 1) (λ n d. refl) halfway fs)
        ∙ ap (λ n. slice_index_or (fold (last_put 1) halfway.face_anchors fs) (new_number n fs f) None) (sym kept)
        ∙ all_put-new None halfway.face_anchors fs (subst (λ n. GoesDown n fs) (sym kept) faces_go) f (omega (arith, below, kept)) stays
        ∙ anchors_out (λ (n : Mesh V DE UE F). n.face_anchors) (λ n d. refl) m es f

    vertices_are : t.shape.vertices ≡ m.shape.vertices
    vertices_are =
        all-keep (λ (n : Mesh V DE UE F). n.shape.vertices) face_taken_out (λ n d. refl) (edges_taken_out m es) fs
        ∙ all-keep (λ (n : Mesh V DE UE F). n.shape.vertices) edge_taken_out (λ n d. refl) m es

    vertex_same : (v : ℕ) → vertex_is_live t.shape v ≡ vertex_is_live s v
    vertex_same v = ap (λ n. nat_lt v n && not (gives_up_vertex (cleaned s.removal) v)) vertices_are ∙ ap (λ b. nat_lt v s.vertices && not b) (cleaned-vertex s.removal v)

    pub leaves_live : LeavesLive m t (new_half s) (λ v. v) (new_face s)
    leaves_live =
        let e = cleaned_up-renamed m mesh in
        let f' = half_of (old_number s.edges es) in
        let w' = old_number (face_count s) fs in
        record {
          half_edge = e.lives;
          turn = e.turn;
          origin = e.origin;
          directed = λ h z live.
              let (below, kept) = is_live-parts (gives_up_edge s.removal) s.edges (h / 2) live in
              ap (λ ys. slice_index_or ys (new_half s h) z) directed_is
              ∙ all_put-half z m.directed_data s.edges es mesh.sized.directed_data edges_go h below (edge_stays (h / 2) kept);
          undirected = λ h z live.
              let (below, kept) = is_live-parts (gives_up_edge s.removal) s.edges (h / 2) live in
              let long = mesh.sized.undirected_data in
              ap (λ ys. slice_index_or ys (new_half s h / 2) z) undirected_is
              ∙ ap (λ u. slice_index_or (fold (last_put 1) m.undirected_data es) u z) (half_of-half (new_edge s) h ∙ ap (λ n. new_number n es (h / 2)) (sym long))
              ∙ all_put-new z m.undirected_data es (subst (λ n. GoesDown n es) (sym long) edges_go) (h / 2) (omega (arith, below, long)) (edge_stays (h / 2) kept);
          vertex_live = λ v live. vertex_same v ∙ live;
          vertex_datum = λ v z live. ap (λ ys. slice_index_or ys v z) vertex_data_is;
          vertex_anchored = λ v live. vertex_anchors_are v;
          face_live = e.face;
          word = λ f live.
              let (below, kept) = is_live-parts (gives_up_face t.shape.removal) (face_count t.shape) (new_face s f) (e.face f live) in
              e.word (new_face s f) below ∙ ap (λ g. from_least (map (new_half s) (word_of s.words g))) (e.face_forth f live);
          face_datum = λ f z live.
              let (below, kept) = is_live-parts (gives_up_face s.removal) (face_count s) f live in
              let long = mesh.sized.face_data in
              ap (λ ys. slice_index_or ys (new_face s f) z) face_data_is
              ∙ ap (λ n. slice_index_or (fold (last_put 1) m.face_data fs) (new_number n fs f) z) (sym long)
              ∙ all_put-new z m.face_data fs (subst (λ n. GoesDown n fs) (sym long) faces_go) f (omega (arith, below, long)) (face_stays f kept);
          face_anchored = λ f live.
              let (below, kept) = is_live-parts (gives_up_face s.removal) (face_count s) f live in face_anchors_are f below (face_stays f kept);
          outer = first-stays (face_count s) fs faces_go (face_stays 0 (gives_up_face-outer mesh.sized.within));
          each_half_edge = λ k live. (f' k, e.comes k live, e.back k live);
          each_vertex = λ w live. (w, sym (vertex_same w) ∙ live, refl);
          each_face = λ g live.
              let (below, kept) = is_live-parts (gives_up_face t.shape.removal) (face_count t.shape) g live in
              (w' g, sym (e.face_comes g below) ∙ live, e.face_back g below);
        }

    -- a vertex is taken out: what is live but this one stays
    module _ (d : ℕ) (can : CanSwapRemove s d) where
      abbrev last : ℕ
      last = m.shape.vertices - 1

      abbrev given : Mesh V DE UE F
      given = with_removal m (Cleaned d)

      out : IsOnlyOut s d
      out = can_swap_remove-out m mesh d can

      renamed : IsRenamed s (vertex_taken_out m d).shape (λ h. h) (λ h. h) (moved last d) (moved d last) (λ g. g) (λ g. g)
      renamed = vertex-renamed s d mesh.sound out

      -- no edge and no face is given up
      same_edges : (u : ℕ) → edge_is_live given.shape u ≡ edge_is_live s u
      unfolding gives_up_edge
      same_edges u = ap (λ b. nat_lt u s.edges && not b) (sym (out.no_edge u))

      same_faces : (f : ℕ) → face_is_live given.shape f ≡ face_is_live s f
      unfolding gives_up_face
      same_faces f = ap (λ b. nat_lt f (face_count s) && not b) (sym (out.no_face f))

      was_live : (h : ℕ) → IsLive given.shape h → IsLive s h
      was_live h live = sym (same_edges (h / 2)) ∙ live

      others : (v : ℕ) → vertex_is_live given.shape v ≡ true → (v < s.vertices) × (v ≢ d)
      unfolding gives_up_vertex
      others v live =
          let (below, kept) = is_live-parts (gives_up_vertex (Cleaned d)) s.vertices v live in
          (below, λ is. both_ways (gives_up_vertex (Cleaned d) v) kept (eq-eqb d v (sym is)))

      other_live : (v : ℕ) → v < s.vertices → v ≢ d → vertex_is_live given.shape v ≡ true
      unfolding gives_up_vertex
      other_live v below other = is_live-from (gives_up_vertex (Cleaned d)) s.vertices v below (ne_eqb d v (λ is. other (sym is)))

      -- which vertex gets the number w
      comes_from : (w : ℕ) → w < last → moved d last w ≢ d
      comes_from w below = elim (cases_eq w d) [
        | inl is ↦ λ same. let at : moved d last w ≡ last = ap (moved d last) is ∙ moved-last d last in omega (arith, at, same, is, below)
        | inr other ↦ λ same. other (sym (moved-other d last w other) ∙ same)
      ]

      -- the item of a list that belongs to a vertex, at its new place
      follows : {A : Type 0} (z : A) (xs : List A) → length xs ≡ s.vertices → (v : ℕ) → v < s.vertices → v ≢ d
          → slice_index_or (last_put 1 xs d) (moved last d v) z ≡ slice_index_or xs v z
      unfolding new_number
      follows z xs long v below other =
          ap (λ n. slice_index_or (last_put 1 xs d) (moved (n - 1) d v) z) (sym long)
          ∙ all_put-new z xs (d ∷ []) (omega (arith, out.below, long), tt) v (omega (arith, below, long)) (count-other v d [] other)

      pub others_leave_live : LeavesLive given (vertex_taken_out m d) (λ h. h) (moved last d) (λ f. f)
      others_leave_live = record {
        half_edge = λ h live. renamed.lives h (was_live h live);
        turn = renamed.turn;
        origin = λ h live. renamed.origin h (was_live h live);
        directed = λ h z live. refl;
        undirected = λ h z live. refl;
        vertex_live = λ v live.
            let (below, other) = others v live in
            is_live-from (gives_up_vertex Closed) last (moved last d v) (moved-below last d v (omega (arith, out.below)) (omega (arith, below)) other)
            (gives_up_vertex-closed (moved last d v));
        vertex_datum = λ v z live. let (below, other) = others v live in follows z m.vertex_data mesh.sized.vertex_data v below other;
        vertex_anchored = λ v live.
            let (below, other) = others v live in
            follows None m.vertex_anchors mesh.sized.vertex_anchors v below other ∙ sym (anchor-same (vertex_anchor m v));
        face_live = λ f live. renamed.face f (sym (same_faces f) ∙ live);
        word = λ f live.
            let (below, kept) = is_live-parts (gives_up_face (Cleaned d)) (face_count s) f live in renamed.word f below;
        face_datum = λ f z live. refl;
        face_anchored = λ f live. sym (anchor-same (face_anchor m f));
        outer = refl;
        each_half_edge = λ k live. (k, same_edges (k / 2) ∙ renamed.comes k live, refl);
        each_vertex = λ w live.
            let (below, kept) = is_live-parts (gives_up_vertex Closed) last w live in
            let v = moved d last w in
            (v, other_live v (moved-within d s.vertices w out.below below) (comes_from w below), moved-back d last w (λ is. omega (arith, is, below)));
        each_face = λ g live.
            let (below, kept) = is_live-parts (gives_up_face Closed) (face_count s) g live in
            (g, same_faces g ∙ sym (renamed.face_comes g below) ∙ live, refl);
      }

    -- each of them at the place where its old number stands
    pub vertex_placed : (d v : ℕ) → CanSwapRemove s d → v < s.vertices → v ≢ d
        → slice_index (renumbered s.vertices (d ∷ [])) (moved (s.vertices - 1) d v) ≡ v
    unfolding new_number
    vertex_placed d v can below other =
        new_number-is_place s.vertices (d ∷ []) ((can_swap_remove-out m mesh d can).below, tt) v below (count-other v d [] other)

    -- where it alone was given up, all that is live stays
    pub vertex_leaves_live : (d : ℕ) → s.removal ≡ Cleaned d → LeavesLive m (vertex_taken_out m d) (λ h. h) (moved (s.vertices - 1) d) (λ f. f)
    vertex_leaves_live d given_up =
        subst (λ r. LeavesLive (with_removal m r) (vertex_taken_out m d) (λ h. h) (moved (s.vertices - 1) d) (λ f. f)) (sym given_up)
        (others_leave_live d (inr given_up))
