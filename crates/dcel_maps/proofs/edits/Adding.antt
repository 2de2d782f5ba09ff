-- Edits that add edges and faces with default data: from one view to another.
use Rattle.std.proofs.Common.{◌≡◌, All, ℕ, ◌*◌, List, [], ◌∷◌, length, refl, ap, ◌∙◌, arith}
use Rattle.std.proofs.lemmas.List.Elements.{All-cons, All-nil}
use Rattle.dcel_maps.specs.edits.DefaultData.{AddsEdge, AddsEdgesAndFaces}

-- what holds of an edit with each data of the right number
abbrev pub ForData : {DE UE F : Type 0} → ℕ → ℕ → (List DE → List UE → List F → Type 0) → Type 0
ForData {DE} {UE} {F} k l P =
    (halves : List DE) (edges : List UE) (faces : List F) → length halves ≡ 2 * k → length edges ≡ k → length faces ≡ l → P halves edges faces

module _ {X DE UE F : Type 0} {is_half : DE → Type 0} {is_edge : UE → Type 0} {is_face : F → Type 0} {k l : ℕ} {x : X} {edit : List DE → List UE → List F → X} (added : AddsEdgesAndFaces is_half is_edge is_face k l x edit) where
  -- an edit seen as another
  pub adds_as : {Y : Type 0} (see : X → Y) (seen : List DE → List UE → List F → Y)
      → ForData k l (λ halves edges faces. see (edit halves edges faces) ≡ seen halves edges faces)
      → AddsEdgesAndFaces is_half is_edge is_face k l (see x) seen
  adds_as see seen same = record {
    added = added.added;
    directed_default = added.directed_default;
    undirected_default = added.undirected_default;
    face_default = added.face_default;
    is = ap see added.is ∙ same added.directed_data added.undirected_data added.face_data added.directed_count added.undirected_count added.face_data_count;
  }

-- the data of edges: of the two halves of each, and of itself
abbrev pub halves_of : {DE UE : Type 0} → List (DE × DE × UE) → List DE
halves_of [] = []
halves_of (d ∷ r) = d.0 ∷ d.1 ∷ halves_of r

abbrev pub edges_of : {DE UE : Type 0} → List (DE × DE × UE) → List UE
edges_of [] = []
edges_of (d ∷ r) = d.2 ∷ edges_of r

abbrev pub AreDefault : {DE UE : Type 0} → (DE → Type 0) → (UE → Type 0) → List (DE × DE × UE) → Type 0
AreDefault is_half is_edge [] = Unit {0}
AreDefault is_half is_edge (d ∷ r) = (is_half d.0 × (is_half d.1 × is_edge d.2)) × AreDefault is_half is_edge r

module _ {DE UE : Type 0} (is_half : DE → Type 0) (is_edge : UE → Type 0) where
  halves_count : (made : List (DE × DE × UE)) → length (halves_of made) ≡ 2 * length made
  halves_count [] = refl
  halves_count (d ∷ r) = omega (arith, halves_count r)

  edges_count : (made : List (DE × DE × UE)) → length (edges_of made) ≡ length made
  edges_count [] = refl
  edges_count (d ∷ r) = omega (arith, edges_count r)

  halves_default : (made : List (DE × DE × UE)) → AreDefault is_half is_edge made → All is_half (halves_of made)
  halves_default [] default = All-nil is_half
  halves_default (d ∷ r) default =
      All-cons is_half d.0 (d.1 ∷ halves_of r) default.0.0 (All-cons is_half d.1 (halves_of r) default.0.1.0 (halves_default r default.1))

  edges_default : (made : List (DE × DE × UE)) → AreDefault is_half is_edge made → All is_edge (edges_of made)
  edges_default [] default = All-nil is_edge
  edges_default (d ∷ r) default = All-cons is_edge d.2 (edges_of r) default.0.1.1 (edges_default r default.1)

  -- edges and faces with the data that were made for them
  pub adds_edges_and_faces : {X F : Type 0} (is_face : F → Type 0) {x : X} (edit : List DE → List UE → List F → X)
      (made : List (DE × DE × UE)) (faces : List F) → AreDefault is_half is_edge made → All is_face faces
      → x ≡ edit (halves_of made) (edges_of made) faces → AddsEdgesAndFaces is_half is_edge is_face (length made) (length faces) x edit
  adds_edges_and_faces is_face edit made faces default face_default is = record {
    added = record {
      directed_data = halves_of made;
      undirected_data = edges_of made;
      face_data = faces;
      directed_count = halves_count made;
      undirected_count = edges_count made;
      face_data_count = refl;
    };
    directed_default = halves_default made default;
    undirected_default = edges_default made default;
    face_default = face_default;
    is = is;
  }

-- one edge
pub adds_edge : {X DE UE : Type 0} (is_half : DE → Type 0) (is_edge : UE → Type 0) {first second : DE} {both : UE} {x : X} (edit : List DE → List UE → X)
    → is_half first × (is_half second × is_edge both) → x ≡ edit (first ∷ second ∷ []) (both ∷ []) → AddsEdge is_half is_edge x edit
adds_edge is_half is_edge {first} {second} {both} edit default is =
    adds_edges_and_faces is_half is_edge (λ face. Unit {0}) (λ halves edges faces. edit halves edges) ((first, second, both) ∷ []) [] (default, tt) (All-nil _) is

-- one edge, and faces
pub adds_faces : {X DE UE F : Type 0} {is_half : DE → Type 0} {is_edge : UE → Type 0} {is_face : F → Type 0} {x : X} {add : List DE → List UE → X}
    {edit : List DE → List UE → List F → X} → AddsEdge is_half is_edge x add → (faces : List F) → All is_face faces
    → ((halves : List DE) (edges : List UE) → add halves edges ≡ edit halves edges faces)
    → AddsEdgesAndFaces is_half is_edge is_face 1 (length faces) x edit
adds_faces added faces default same = record {
  added = record {
    directed_data = added.directed_data;
    undirected_data = added.undirected_data;
    face_data = faces;
    directed_count = added.directed_count;
    undirected_count = added.undirected_count;
    face_data_count = refl;
  };
  directed_default = added.directed_default;
  undirected_default = added.undirected_default;
  face_default = default;
  is = added.is ∙ same added.directed_data added.undirected_data;
}
