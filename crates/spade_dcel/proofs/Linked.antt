-- The links of a claim that passes, written into a store, hold a mesh that has them; no mesh has those of one that is refused.
use Rattle.std.proofs.Common.{◌≡◌, ℕ, ◌*◌, ◌/◌, ◌<◌, true, List, length, replicate, slice_index, slice_index_or, Option, Some, None, IfSome, vec_len, refl, sym, ap, ◌∙◌, subst, arith}
use Rattle.std.proofs.lemmas.List.{length-map, length-replicate}
use Rattle.dcel_store.proofs.Lengths.{length-halves_data}
use Rattle.dcel_store.specs.EdgeLists.{edges_data}
use Rattle.dcel_store.specs.Lists.{Lists}
use Rattle.dcel_store.specs.declared.EdgeData.{EdgeData}
use Rattle.dcel_maps.specs.Maps.{Live, Map}
use Rattle.dcel_maps.specs.Numbers.{IsLast}
use Rattle.dcel_maps.specs.Removals.{Closed, Removal, gives_up_edge}
use Rattle.dcel_maps.specs.Shapes.{Mesh, face_count}
use Rattle.dcel_maps.specs.theory.Sound.{Sound, Sphere, has_word}
use Rattle.dcel_maps.proofs.Liveness.{gives_up_edge-closed}
use Rattle.dcel_maps.proofs.Shown.{shown-kept}
use Rattle.dcel_maps.proofs.maps.Labels.{Labelled}
use Rattle.dcel_maps.proofs.words.Reading.{face_in-is, next_in-is}
use Rattle.dcel_edits.specs.Given.{AreBelow, last_anchors, mesh_stored}
use Rattle.dcel_edits.specs.Stored.{IsStored, mesh_of, stored_map, stored_words}
use Rattle.dcel_edits.proofs.Anchoring.{anchored_last, length-anchored}
use Rattle.dcel_edits.proofs.stored.Given.{IsGiven, given_stored}
use Rattle.dcel_links.specs.Anchors.{AreAnchors, IsAnchor, anchor_of}
use Rattle.dcel_links.specs.Claims.{Claim, IsMeshOf, claim, claim_of, claimed_map, halves}
use Rattle.dcel_links.specs.Meshes.{IsLinked, NoMesh}
use Rattle.dcel_links.specs.declared.lists.Links.{Links as LinkLists}
use Rattle.dcel_links.proofs.Claiming.{is_below, is_half}
use Rattle.dcel_links.proofs.Meshes.{linked_mesh, prevs}
use Rattle.spade_dcel.specs.Linked.{AreRight, HasFaceAnchors, HasVertexAnchors, claimed, faces_chosen, given_stored as all_stored, vertices_chosen}
use Rattle.spade_dcel.specs.declared.operations.given.Anchors.{Anchors as AnchorLists}
use Rattle.spade_dcel.specs.declared.operations.given.MeshData.{MeshData}

-- the links of a mesh are in range
pub origins_below : (c : Claim) (prev : List ℕ) → IsMeshOf c prev → AreBelow c.vertices c.origin
origins_below c prev mesh h below =
    mesh.sound.below_vertices h (is_half c prev h mesh.lists.even (let long = mesh.lists.origins in omega arith))

pub sides_below : (c : Claim) (prev : List ℕ) → IsMeshOf c prev → AreBelow c.faces c.face
sides_below c prev mesh h below =
    mesh.sound.below_faces h (is_half c prev h mesh.lists.even (let long = mesh.lists.sides in omega arith))

-- where no list backwards makes a claim one of a mesh, no mesh has its links
pub none_linked : (V DE UE F : Type 0) (c : Claim) → ((prev : List ℕ) → ¬ IsMeshOf c prev) → NoMesh V DE UE F c
none_linked V DE UE F c none m mesh linked = none (prevs m c mesh linked) (linked_mesh m c mesh linked)

-- the last half edge of each vertex and each face is an anchor of it
last_is : (labels : List ℕ) (v : ℕ) (o : Option ℕ) → IsLast labels v o → IsAnchor labels v o
last_is labels v None none = none
last_is labels v (Some h) last = (last.0, last.1)

length-last : (labels : List ℕ) (n : ℕ) → length (last_anchors labels n) ≡ n
length-last labels n = length-anchored 0 labels (replicate n None) ∙ length-replicate n None

last_right : (labels : List ℕ) (n : ℕ) → AreAnchors labels (last_anchors labels n)
last_right labels n v below =
    last_is labels v (anchor_of (last_anchors labels n) v) (anchored_last labels n v (omega (arith, length-last labels n)))

pub chosen_right : (links : LinkLists) (anchors : Option AnchorLists) (a b vertices faces : ℕ) → a ≡ vertices → b ≡ faces
    → IfSome anchors (λ chosen. AreRight (claim_of links vertices faces) chosen.vertices.now chosen.faces.now)
    → AreRight (claim_of links vertices faces) (vertices_chosen links anchors a) (faces_chosen links anchors b)
chosen_right links None a b vertices faces v f right = record {
  of_vertices = length-last links.origin.now a ∙ v;
  of_faces = length-last links.face.now b ∙ f;
  vertices_right = last_right links.origin.now a;
  faces_right = last_right links.face.now b;
}
chosen_right links (Some chosen) a b vertices faces v f right = right

stays_last : (labels : List ℕ) (n v : ℕ) (anchors : List (Option ℕ)) → anchors ≡ last_anchors labels n → v < n → IsLast labels v (slice_index_or anchors v None)
stays_last labels n v anchors same below =
    subst (λ (list : List (Option ℕ)). IsLast labels v (slice_index_or list v None)) (sym same) (anchored_last labels n v below)

module _ {V DE UE F : Type 0} (s : Lists V DE UE F) (next prev origin face : List ℕ) (vertex_anchors face_anchors : List (Option ℕ))
    (vertices : List V) (edges : List (EdgeData DE UE)) (faces : List F)
    (mesh : IsMeshOf (claim next origin face (length vertices) (length faces)) prev) (as_many : length next / 2 ≡ length edges)
    (right : AreRight (claim next origin face (length vertices) (length faces)) vertex_anchors face_anchors) where
  abbrev c : Claim
  c = claim next origin face (length vertices) (length faces)

  abbrev t : Lists V DE UE F
  t = mesh_stored s next prev origin face vertex_anchors face_anchors vertices edges faces

  abbrev T : Map
  T = claimed_map c prev

  edges_long : length (edges_data edges) ≡ halves c / 2
  edges_long = length-map edges (λ e. e.undirected) ∙ sym as_many

  twice : halves c ≡ 2 * length edges
  twice = let even = mesh.lists.even in omega arith

  -- the stored map is the claimed one
  same : stored_map t Closed ≡ T
  same = rw edges_long refl

  labelled : (labels : List ℕ) → length labels ≡ halves c → (v : ℕ) (o : Option ℕ) → IsAnchor labels v o → Labelled T (λ h. slice_index labels h) v o
  labelled labels long v None none = λ h live at. none h (let below = is_below c prev h live in omega arith) at
  labelled labels long v (Some h) here = (is_half c prev h mesh.lists.even (omega (arith, here.0)), here.1)

  is_given : IsGiven t
  is_given = record {
    lengths = record {
      of_vertex_anchors = right.of_vertices;
      of_next = twice ∙ ap (λ n. 2 * n) (sym (length-map edges (λ e. e.undirected)));
      of_prev = mesh.backwards;
      of_origin = mesh.lists.origins;
      of_face = mesh.lists.sides;
      of_directed_data = length-halves_data edges ∙ sym twice;
      of_face_anchors = right.of_faces;
    };
    few_vertices = mesh.few.vertices;
    few_edges = let few = mesh.few.half_edges in omega (arith, edges_long);
    few_faces = mesh.few.faces;
    some_face = mesh.some_face;
    sound = subst Sound (sym same) mesh.sound;
    sphere = subst Sphere (sym same) mesh.sphere;
    vertices = λ v below.
        subst (λ (M : Map). Labelled M M.origin v (slice_index_or t.vertex_anchors v None)) (sym same)
        (labelled origin mesh.lists.origins v (slice_index_or t.vertex_anchors v None) (right.vertices_right v (let as_long = right.of_vertices in omega arith)));
    faces = λ f below.
        subst (λ (M : Map). Labelled M M.face f (slice_index_or t.face_anchors f None)) (sym same)
        (labelled face mesh.lists.sides f (slice_index_or t.face_anchors f None) (right.faces_right f (let as_long = right.of_faces in omega arith)));
    inner = λ f inside below. subst (λ (M : Map). has_word M f ≡ true) (sym same) (mesh.inner f inside below);
    outer = λ some. subst (λ (M : Map). has_word M 0 ≡ true) (sym same) (mesh.outer (omega (arith, edges_long)));
  }

  -- they hold a mesh
  pub linked_stored : IsStored t Closed
  linked_stored = given_stored t is_given

  -- which has these links
  pub linked_is : IsLinked (mesh_of t Closed).shape c
  linked_is =
      let stands = linked_stored.stands in
      let live : (h : ℕ) → h < halves c → Live (stored_map t Closed) h =
      λ h below. subst (λ (M : Map). Live M h) (sym same) (is_half c prev h mesh.lists.even below) in
      record {
        closed = refl;
        lists = mesh.lists;
        vertices = refl;
        half_edges = sym is_given.lengths.of_next;
        faces = stands.faces;
        next = λ h below. next_in-is (stored_map t Closed) (stored_words t) stands h (live h below);
        origin = shown-kept (gives_up_edge Closed) origin gives_up_edge-closed;
        face = λ h below. face_in-is (stored_map t Closed) (stored_words t) stands h (live h below);
      }

-- lists that hold a mesh with these links and anchors
pub record Made {V DE UE F A : Type 0} (t : Lists V DE UE F) (r : Removal) (links : LinkLists) (anchors : Option AnchorLists) (given : MeshData V DE UE F A) : Type 0 where
  pub stored : IsStored t r
  pub linked : IsLinked (mesh_of t r).shape (claimed links given)
  pub vertices : HasVertexAnchors links anchors (mesh_of t r)
  pub faces : HasFaceAnchors links anchors (mesh_of t r)

vertices_made : {V DE UE F : Type 0} (m : Mesh V DE UE F) (links : LinkLists) (anchors : Option AnchorLists) (count : ℕ)
    → m.vertex_anchors ≡ vertices_chosen links anchors count → m.shape.vertices ≡ count → HasVertexAnchors links anchors m
vertices_made m links None count chosen all = λ v below. stays_last links.origin.now count v m.vertex_anchors chosen (omega arith)
vertices_made m links (Some given) count chosen all = chosen

faces_made : {V DE UE F : Type 0} (m : Mesh V DE UE F) (links : LinkLists) (anchors : Option AnchorLists) (count : ℕ)
    → m.face_anchors ≡ faces_chosen links anchors count → face_count m.shape ≡ count → HasFaceAnchors links anchors m
faces_made m links None count chosen all = λ f below. stays_last links.face.now count f m.face_anchors chosen (omega arith)
faces_made m links (Some given) count chosen all = chosen

pub made : {V DE UE F A : Type 0} (s t : Lists V DE UE F) (r : Removal) (links : LinkLists) (prev back : List ℕ) (anchors : Option AnchorLists) (given : MeshData V DE UE F A)
    → IsMeshOf (claimed links given) prev → back ≡ prev → length links.next.now / 2 ≡ length given.edges.items
    → IfSome anchors (λ chosen. AreRight (claimed links given) chosen.vertices.now chosen.faces.now)
    → t ≡ all_stored s links back anchors given → r ≡ Closed → Made t r links anchors given
made {V} {DE} {UE} {F} {A} s t r links prev back anchors given mesh copied as_many anchored written closed =
    let next = links.next.now in
    let origin = links.origin.now in
    let face = links.face.now in
    let vertices = given.vertices.items in
    let edges = given.edges.items in
    let faces = given.faces.items in
    let v : vec_len given.vertices ≡ length vertices = omega (arith, given.vertices.ok) in
    let f : vec_len given.faces ≡ length faces = omega (arith, given.faces.ok) in
    let of_vertices = vertices_chosen links anchors (vec_len given.vertices) in
    let of_faces = faces_chosen links anchors (vec_len given.faces) in
    let right = chosen_right links anchors (vec_len given.vertices) (vec_len given.faces) (length vertices) (length faces) v f anchored in
    let linked = linked_is s next prev origin face of_vertices of_faces vertices edges faces mesh as_many right in
    let u : Lists V DE UE F = all_stored s links prev anchors given in
    let here : Made u Closed links anchors given =
    record {
      stored = linked_stored s next prev origin face of_vertices of_faces vertices edges faces mesh as_many right;
      linked = linked;
      vertices = vertices_made (mesh_of u Closed) links anchors (vec_len given.vertices) refl (linked.vertices ∙ sym v);
      faces = faces_made (mesh_of u Closed) links anchors (vec_len given.faces) refl (linked.faces ∙ sym f);
    } in
    let written_so : t ≡ u = written ∙ ap (λ list. all_stored s links list anchors given) copied in
    subst (λ q. Made t q links anchors given) (sym closed) (subst (λ (l : Lists V DE UE F). Made l Closed links anchors given) (sym written_so) here)
