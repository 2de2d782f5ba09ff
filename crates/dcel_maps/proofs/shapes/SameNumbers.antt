-- A shape with another record that gives up the same.
use Rattle.std.proofs.Common.{◌≡◌, ℕ, List, ◌/◌, not, map, ◌&&◌, nat_lt, refl, sym, ap, ◌∙◌}
use Rattle.std.proofs.lemmas.List.{map-id}
use Rattle.dcel_maps.specs.Cyclic.{from_least}
use Rattle.dcel_maps.specs.Removals.{Removal, gives_up_edge, gives_up_face, gives_up_vertex}
use Rattle.dcel_maps.specs.Shapes.{IsSound, Shape, edge_is_live, face_count, face_is_live, map_of, origin_of, vertex_is_live}
use Rattle.dcel_maps.specs.Words.{word_of}
use Rattle.dcel_maps.proofs.shapes.Renames.{IsRenamed, FacesRenamed}
use Rattle.dcel_maps.proofs.walks.Links.{links_stand}
use Rattle.dcel_maps.proofs.words.Cyclic.{from_least-kept}
use Rattle.dcel_maps.proofs.words.Reading.{count-le}

-- a word with the numbers that it has is its least form
pub word-kept : (s : Shape) → IsSound s → (g : ℕ) → from_least (map (λ h. h) (word_of s.words g)) ≡ word_of s.words g
word-kept s sound g =
    ap from_least (map-id (word_of s.words g))
    ∙ from_least-kept (word_of s.words g) (sound.least_first g) (λ h. count-le (map_of s) s.words (links_stand sound) h g)

-- where other vertices and origins, and another record, leave the faces as they were
pub faces_same : (s : Shape) (vertices : ℕ) (origins : List ℕ) (r : Removal) → IsSound s → ((g : ℕ) → gives_up_face r g ≡ gives_up_face s.removal g)
    → FacesRenamed s (record s { vertices = vertices; origins = origins; removal = r }) (λ h. h) (λ g. g) (λ g. g)
faces_same s vertices origins r sound faces =
    let live : (g : ℕ) → face_is_live (record s { vertices = vertices; origins = origins; removal = r }) g ≡ face_is_live s g =
    λ g. ap (λ b. nat_lt g (face_count s) && not b) (faces g) in
    record {
      face = λ g is. live g ∙ is;
      face_forth = λ g is. refl;
      face_back = λ g below. refl;
      face_within = λ g below. below;
      face_comes = λ g below. live g;
      inner = λ g inside below. inside;
      word = λ g below. sym (word-kept s sound g);
      outer = sym (word-kept s sound 0);
    }

module _ (s : Shape) (r : Removal) (sound : IsSound s) (edges : (u : ℕ) → gives_up_edge r u ≡ gives_up_edge s.removal u)
    (faces : (g : ℕ) → gives_up_face r g ≡ gives_up_face s.removal g)
    (vertices : (v : ℕ) → gives_up_vertex r v ≡ gives_up_vertex s.removal v) where
  edge-live : (u : ℕ) → edge_is_live (record s { removal = r }) u ≡ edge_is_live s u
  edge-live u = ap (λ b. nat_lt u s.edges && not b) (edges u)

  vertex-live : (v : ℕ) → vertex_is_live (record s { removal = r }) v ≡ vertex_is_live s v
  vertex-live v = ap (λ b. nat_lt v s.vertices && not b) (vertices v)

  pub same_numbers : IsRenamed s (record s { removal = r }) (λ h. h) (λ h. h) (λ v. v) (λ v. v) (λ g. g) (λ g. g)
  same_numbers = record {
    lives = λ x live. edge-live (x / 2) ∙ live;
    comes = λ y live. sym (edge-live (y / 2)) ∙ live;
    forth = λ x live. refl;
    back = λ y live. refl;
    turn = λ x. refl;
    origin = λ x live. refl;
    vertex = λ x live. vertex-live (origin_of s x) ∙ sound.starts_live x live;
    vertex_forth = λ x live. refl;
    on_faces = faces_same s s.vertices s.origins r sound faces;
  }
