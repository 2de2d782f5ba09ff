-- What a removal has given up is taken out of lists that hold a mesh: what is left holds the mesh that is cleaned up.
use Rattle.std.proofs.Common.{◌≡◌, ℕ, ◌/◌, not, ◌&&◌, nat_lt, fold, List, [], ◌∷◌, sym, ap, ◌∙◌, subst, subst₂, reverse, Bool}
use Rattle.dcel_store.specs.Lists.{Lists}
use Rattle.dcel_edits.specs.TakingOut.{CanLoseEdges, CanLoseFaces, edge_out, edges_out, face_out, faces_out, CanDoAll, CanLoseEdge, CanLoseFace}
use Rattle.dcel_maps.specs.Removals.{Removal, gives_up_edge, IsListed, ascending}
use Rattle.dcel_maps.specs.Renumbering.{cleaned, cleaned_up, edge_taken_out, edges_down, edges_taken_out, face_taken_out, faces_down, faces_taken_out, without_edge, without_face}
use Rattle.dcel_maps.specs.Shapes.{IsLive, IsMesh, Mesh, Shape}
use Rattle.dcel_maps.proofs.Shown.{shown-same}
use Rattle.dcel_edits.proofs.stored.Changes.{held_lists, held_mesh, held_removal}
use Rattle.dcel_edits.proofs.stored.Held.{ListsMesh, lists_hold}
use Rattle.dcel_edits.proofs.stored.Holding.{Holds}
use Rattle.dcel_edits.proofs.stored.TakingOut.{lose_edge, lose_face}
use Rattle.dcel_maps.proofs.renumbering.AllEdges as edges
use Rattle.dcel_maps.proofs.renumbering.AllFaces as faces
use Rattle.dcel_maps.proofs.renumbering.Cleanup.{cleaned_up-mesh, edges_listed, faces_listed, same_edges}
use Rattle.dcel_maps.proofs.renumbering.GivenUp.{listed-down}
use Rattle.dcel_maps.proofs.renumbering.OneByOne.{GivenUp, TakesOut, rest-listed}

-- things of one kind taken out one after another: each can be, and the lists that are left hold the mesh without them
module _ {V DE UE F : Type 0} {step : Mesh V DE UE F → ℕ → Mesh V DE UE F} {count : Shape → ℕ} {gone other : Removal → ℕ → Bool} (takes : TakesOut step count gone other)
    (out : Lists V DE UE F → ℕ → Lists V DE UE F) (can : Lists V DE UE F → ℕ → Type 0) (without : Removal → ℕ → Removal)
    (one : (s : Lists V DE UE F) (r : Removal) (m : Mesh V DE UE F) (d : ℕ) (ds : List ℕ) → Holds s r m → GivenUp count gone m.shape (d ∷ ds)
    → can s d × Holds (out s d) (without r d) (step m d)) where
  all_can : (ds : List ℕ) (s : Lists V DE UE F) (r : Removal) (m : Mesh V DE UE F) → Holds s r m → GivenUp count gone m.shape ds → CanDoAll out can s ds
  all_can [] s r m held lists = tt
  all_can (d ∷ ds) s r m held lists =
      let now = one s r m d ds held lists in
      (now.0, all_can ds (out s d) (without r d) (step m d) now.1 (rest-listed takes m d ds lists))

  all_hold : (ds : List ℕ) (s : Lists V DE UE F) (r : Removal) (m : Mesh V DE UE F) → Holds s r m → GivenUp count gone m.shape ds
      → Holds (fold out s ds) (fold without r ds) (fold step m ds)
  all_hold [] s r m held lists = held
  all_hold (d ∷ ds) s r m held lists =
      all_hold ds (out s d) (without r d) (step m d) (one s r m d ds held lists).1 (rest-listed takes m d ds lists)

module _ {V DE UE F : Type 0} where
  one_edge : (s : Lists V DE UE F) (r : Removal) (m : Mesh V DE UE F) (d : ℕ) (ds : List ℕ) → Holds s r m → edges.ListsEdges m.shape (d ∷ ds)
      → CanLoseEdge s d × Holds (edge_out s d) (without_edge r d) (edge_taken_out m d)
  one_edge s r m d ds held lists = lose_edge held d (edges.first-out m d ds (held_mesh s r m held) lists)

  one_face : (s : Lists V DE UE F) (r : Removal) (m : Mesh V DE UE F) (d : ℕ) (ds : List ℕ) → Holds s r m → faces.ListsFaces m.shape (d ∷ ds)
      → CanLoseFace s d × Holds (face_out s d) (without_face r d) (face_taken_out m d)
  one_face s r m d ds held lists = lose_face held d (faces.first-out m d ds (held_mesh s r m held) lists)

  module _ {s : Lists V DE UE F} {r : Removal} {m : Mesh V DE UE F} (held : Holds s r m) where
    mesh : IsMesh m
    mesh = held_mesh s r m held

    abbrev given_edges : List ℕ
    given_edges = edges_down m.shape.removal

    abbrev given_faces : List ℕ
    given_faces = faces_down m.shape.removal

    pub cleanup_loses_edges : CanLoseEdges s given_edges
    cleanup_loses_edges = all_can edges.edge_steps edge_out CanLoseEdge without_edge one_edge given_edges s r m held (edges_listed m mesh)

    abbrev halfway : Lists V DE UE F
    halfway = edges_out s given_edges

    halfway_held : Holds halfway (fold without_edge r given_edges) (edges_taken_out m given_edges)
    halfway_held = all_hold edges.edge_steps edge_out CanLoseEdge without_edge one_edge given_edges s r m held (edges_listed m mesh)

    pub cleanup_loses_faces : CanLoseFaces halfway given_faces
    cleanup_loses_faces =
        all_can faces.face_steps face_out CanLoseFace without_face one_face given_faces halfway (fold without_edge r given_edges) (edges_taken_out m given_edges) halfway_held (faces_listed m mesh)

    abbrev emptied : Mesh V DE UE F
    emptied = faces_taken_out (edges_taken_out m given_edges) given_faces

    abbrev left : Lists V DE UE F
    left = faces_out (edges_out s given_edges) given_faces

    left_lists : ListsMesh left emptied
    left_lists =
        held_lists left (fold without_face (fold without_edge r given_edges) given_faces) emptied
        (all_hold faces.face_steps face_out CanLoseFace without_face one_face given_faces halfway (fold without_edge r given_edges) (edges_taken_out m given_edges) halfway_held (faces_listed m mesh))

    -- the record that is left gives up the same edges: none
    live : (h : ℕ) → IsLive (cleaned_up m).shape h → IsLive emptied.shape h
    live h is = sym (ap (λ b. nat_lt (h / 2) emptied.shape.edges && not b) (same_edges m mesh (h / 2))) ∙ is

    cleaned_lists : ListsMesh left (cleaned_up m)
    cleaned_lists = record {
      lengths = left_lists.lengths;
      links = record {
        next = λ h is. left_lists.next h (live h is);
        prev = λ h is. left_lists.prev h (live h is);
        origin = λ h is. left_lists.origin h (live h is);
        face = λ h is. left_lists.face h (live h is);
      };
      shown_origins = shown-same (gives_up_edge emptied.shape.removal) (gives_up_edge (cleaned m.shape.removal)) (same_edges m mesh) left.origin ∙ left_lists.shown_origins;
      vertex_anchors = left_lists.vertex_anchors;
      face_anchors = left_lists.face_anchors;
      has_data = left_lists.has_data;
    }

    pub cleanup_holds : Holds left (cleaned m.shape.removal) (cleaned_up m)
    cleanup_holds = lists_hold left (cleaned_up m) (cleaned_up-mesh m mesh) cleaned_lists

    -- where these are taken out that lists name, in ascending order
    module _ (es fs xs ys : List ℕ) (listed : IsListed m.shape.removal es fs) (xs_are : xs ≡ ascending es) (ys_are : ys ≡ ascending fs) where
      edges_are : given_edges ≡ reverse xs
      edges_are = (listed-down m.shape.removal es fs listed).0 ∙ ap reverse (sym xs_are)

      faces_are : given_faces ≡ reverse ys
      faces_are = (listed-down m.shape.removal es fs listed).1 ∙ ap reverse (sym ys_are)

      pub can_lose_listed_edges : CanLoseEdges s (reverse xs)
      can_lose_listed_edges = subst (CanLoseEdges s) edges_are cleanup_loses_edges

      pub can_lose_listed_faces : {t : Lists V DE UE F} → t ≡ edges_out s (reverse xs) → CanLoseFaces t (reverse ys)
      can_lose_listed_faces is =
          subst₂ CanLoseFaces (ap (edges_out s) edges_are ∙ sym is) faces_are cleanup_loses_faces

      pub listed_out_holds : {t u : Lists V DE UE F} {q : Removal} → t ≡ edges_out s (reverse xs) → u ≡ faces_out t (reverse ys)
          → q ≡ cleaned r → Holds u q (cleaned_up m)
      listed_out_holds {t} {u} {q} is then clean =
          subst₂ (λ v p. Holds v p (cleaned_up m))
          (ap (λ v. faces_out v given_faces) (ap (edges_out s) edges_are ∙ sym is) ∙ ap (faces_out t) faces_are ∙ sym then)
          (ap cleaned (held_removal s r m held) ∙ sym clean) cleanup_holds
