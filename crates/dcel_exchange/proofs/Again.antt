-- A mesh over other data.
use Rattle.std.proofs.Common.{◌≡◌, ◌∙◌, inl, inr, ℕ, ◌*◌, ◌/◌, ◌<◌, List, [], length, slice_index, Option, Some, None, Result, Ok, Err, IfOk, IfErr, refl, sym, ap, subst, arith}
use Rattle.std.proofs.lemmas.List.{length-map}
use Rattle.dcel_links.specs.Anchors.{IsAnchor, anchor_of}
use Rattle.dcel_links.specs.Claims.{Claim, claim_of}
use Rattle.dcel_links.specs.Meshes.{IsLinked}
use Rattle.dcel_links.specs.declared.lists.Links.{Links as LinkLists}
use Rattle.dcel_maps.specs.Removals.{gives_up_edge}
use Rattle.dcel_maps.specs.Shapes.{AnchorsVertex, AnchorsWord, IsLive, IsMesh, Mesh, face_count, face_of, map_of}
use Rattle.dcel_maps.specs.Words.{count_of, word_of}
use Rattle.dcel_maps.proofs.Liveness.{closed-live, is_live-parts}
use Rattle.dcel_maps.proofs.walks.Links.{links_stand}
use Rattle.dcel_maps.proofs.words.Reading.{face_in_word, live_in, says}
use Rattle.dcel_store.proofs.Lengths.{length-halves_data}
use Rattle.dcel_store.specs.EdgeLists.{edges_data, halves_data}
use Rattle.dcel_store.specs.declared.EdgeData.{EdgeData}
use Rattle.spade_dcel.specs.Linked.{IsWrong, RefusesAnchored}
use Rattle.spade_dcel.specs.declared.operations.given.LinksError.{LinksError}
use Rattle.spade_dcel.specs.declared.operations.given.LinksError.TheVariants.{Anchors, Edges, FaceAnchor, Links, OutOfMemory, VertexAnchor}

-- what follows from what a result says
pub ok_gives : {T E : Type 0} (r : Result T E) (P Q : T → Type 0) → ((x : T) → P x → Q x) → IfOk r P → IfOk r Q
ok_gives (Ok x) P Q f p = f x p
ok_gives (Err e) P Q f p = tt

pub ok_both : {T E : Type 0} (r : Result T E) (P Q R : T → Type 0) → ((x : T) → P x → Q x → R x) → IfOk r P → IfOk r Q → IfOk r R
ok_both (Ok x) P Q R f p q = f x p q
ok_both (Err e) P Q R f p q = tt

pub err_gives : {T E : Type 0} (r : Result T E) (P Q : E → Type 0) → ((e : E) → P e → Q e) → IfErr r P → IfErr r Q
err_gives (Ok x) P Q f p = tt
err_gives (Err e) P Q f p = f e p

module _ {V DE UE F V' DE' UE' F' : Type 0} (m : Mesh V DE UE F) (mesh : IsMesh m) (vertices : List V') (edges : List (EdgeData DE' UE')) (faces : List F')
    (as_many_vertices : length vertices ≡ m.shape.vertices) (as_many_edges : length edges ≡ m.shape.edges) (as_many_faces : length faces ≡ face_count m.shape) where
  -- the mesh with these data
  abbrev again : Mesh V' DE' UE' F'
  again = record {
    shape = m.shape;
    vertex_anchors = m.vertex_anchors;
    face_anchors = m.face_anchors;
    vertex_data = vertices;
    directed_data = halves_data edges;
    undirected_data = edges_data edges;
    face_data = faces;
  }

  again-mesh : IsMesh again
  again-mesh = record {
    sound = mesh.sound;
    sphere = mesh.sphere;
    anchored = record { vertices = mesh.anchored.vertices; faces = mesh.anchored.faces };
    sized = record {
      vertex_data = as_many_vertices;
      vertex_anchors = mesh.sized.vertex_anchors;
      undirected_data = length-map edges (λ e. e.undirected) ∙ as_many_edges;
      directed_data = length-halves_data edges ∙ ap (λ n. 2 * n) as_many_edges;
      origins = mesh.sized.origins;
      face_data = as_many_faces;
      face_anchors = mesh.sized.face_anchors;
      outer = mesh.sized.outer;
      few_vertices = mesh.sized.few_vertices;
      few_edges = mesh.sized.few_edges;
      few_faces = mesh.sized.few_faces;
      within = mesh.sized.within;
    };
  }

  module _ (links : LinkLists) (linked : IsLinked m.shape (claim_of links m.shape.vertices (face_count m.shape))) where
    abbrev pub given_claim : Claim
    given_claim = claim_of links (length vertices) (length faces)

    abbrev next : List ℕ
    next = links.next.now

    abbrev origin : List ℕ
    origin = links.origin.now

    abbrev face : List ℕ
    face = links.face.now

    again-linked : IsLinked m.shape given_claim
    again-linked = rw (as_many_vertices, as_many_faces) linked

    -- the only mesh with these links has this shape
    pub one_shape : (n : Mesh V' DE' UE' F') → ((other : Mesh V' DE' UE' F') → IsMesh other → IsLinked other.shape given_claim → other.shape ≡ n.shape)
        → n.shape ≡ m.shape
    one_shape n only = sym (only again again-mesh again-linked)

    -- its half edges are those below the lists' length
    live : (h : ℕ) → h < length next → IsLive m.shape h
    live h below = closed-live m.shape linked.closed (h / 2) (let twice = linked.half_edges in omega arith)

    below : (h : ℕ) → IsLive m.shape h → h < length next
    below h live_h =
        let inside : h / 2 < m.shape.edges = (is_live-parts (gives_up_edge m.shape.removal) m.shape.edges (h / 2) live_h).0 in
        let twice = linked.half_edges in omega arith

    -- its anchors are anchors by the lists
    vertex_right : (v : ℕ) (o : Option ℕ) → AnchorsVertex m.shape v o → IsAnchor origin v o
    vertex_right v None bare = λ h inside at.
        bare h (live h (let long = linked.lists.origins in omega arith)) (ap (λ list. slice_index list h) linked.origin ∙ at)
    vertex_right v (Some h) starts = (
      (let inside = below h starts.0 in let long = linked.lists.origins in omega arith),
      ap (λ list. slice_index list h) (sym linked.origin) ∙ starts.1,
    )

    face_right : (f : ℕ) (o : Option ℕ) → AnchorsWord (word_of m.shape.words f) o → IsAnchor face f o
    face_right f None empty = λ h inside at.
        let in_next : h < length next = let long = linked.lists.sides in omega arith in
        let on : face_of m.shape h ≡ f = linked.face h in_next ∙ at in
        let once = mesh.sound.once h (live h in_next) in
        let found : 0 < count_of h (word_of m.shape.words (face_of m.shape h)) = (says h m.shape.words (omega arith)).holds in
        let none : 0 < count_of h [] = subst (λ (w : List ℕ). 0 < count_of h w) (ap (λ k. word_of m.shape.words k) on ∙ empty) found in
        absurd (omega arith)
    face_right f (Some h) found =
        let stands = links_stand mesh.sound in
        let in_next : h < length next = below h (live_in (map_of m.shape) m.shape.words stands h f found) in (
          (let long = linked.lists.sides in omega arith),
          sym (linked.face h in_next) ∙ face_in_word (map_of m.shape) m.shape.words stands h f found,
        )

    module _ (vertex_anchors face_anchors : List (Option ℕ)) (same_vertices : vertex_anchors ≡ m.vertex_anchors) (same_faces : face_anchors ≡ m.face_anchors) where
      no_wrong_vertex : (v : ℕ) → ¬ IsWrong origin m.vertex_anchors v
      no_wrong_vertex v is =
          is.wrong (vertex_right v (anchor_of m.vertex_anchors v) (mesh.anchored.vertices v (let inside = is.below in let long = mesh.sized.vertex_anchors in omega arith)))

      no_wrong_face : (f : ℕ) → ¬ IsWrong face m.face_anchors f
      no_wrong_face f is =
          is.wrong (face_right f (anchor_of m.face_anchors f) (mesh.anchored.faces f (let inside = is.below in let long = mesh.sized.face_anchors in omega arith)))

      -- so the lists are refused for want of memory alone
      pub only_memory : (reason : LinksError) → RefusesAnchored V' DE' UE' F' given_claim (length edges) vertex_anchors face_anchors reason → reason ≡ OutOfMemory
      only_memory Edges refused = absurd (refused (let twice = linked.half_edges in omega (arith, as_many_edges)))
      only_memory Anchors refused = elim refused [
        | inl other ↦ absurd (other (ap length same_vertices ∙ mesh.sized.vertex_anchors ∙ sym as_many_vertices))
        | inr other ↦ absurd (other (ap length same_faces ∙ mesh.sized.face_anchors ∙ sym as_many_faces))
      ]
      only_memory (Links fault) refused = absurd (refused.1 again again-mesh again-linked)
      only_memory (VertexAnchor v) refused = absurd (no_wrong_vertex v (subst (λ (list : List (Option ℕ)). IsWrong origin list v) same_vertices refused))
      only_memory (FaceAnchor f) refused = absurd (no_wrong_face f (subst (λ (list : List (Option ℕ)). IsWrong face list f) same_faces refused))
      only_memory OutOfMemory refused = refl
