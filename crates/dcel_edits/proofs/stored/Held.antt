-- Lists hold a mesh where they have its data and anchors, and link its live half edges as it does.
use Rattle.std.proofs.Common.{◌≡◌, ◌≢◌, ℕ, ◌/◌, ◌<◌, List, [], length, slice_index_or, Option, Some, None, refl, sym, ap, ◌∙◌, subst, arith}
use Rattle.std.proofs.lemmas.Bool.{both_ways}
use Rattle.dcel_store.specs.Lists.{Lists, LengthsAgree}
use Rattle.dcel_maps.specs.Maps.{Live, Map, Starts}
use Rattle.dcel_maps.specs.Removals.{gives_up_edge, gives_up_face, gives_up_vertex, is_live, shown}
use Rattle.dcel_maps.specs.Shapes.{AnchorsVertex, AnchorsWord, IsLive, IsMesh, Mesh, face_count, map_of, origin_of, vertex_anchor}
use Rattle.dcel_maps.specs.theory.Standing.{Stands}
use Rattle.dcel_edits.specs.Stored.{IsStored, mesh_of, stored_map, stored_words}
use Rattle.dcel_maps.specs.Words.{count_of, word_of}
use Rattle.dcel_maps.proofs.Liveness.{is_live-from, is_live-given_up, is_live-parts}
use Rattle.dcel_maps.proofs.maps.Agreement.{Agrees, agrees-sound, agrees-sphere, LinksAgree}
use Rattle.dcel_edits.proofs.stored.Holding.{Holds}
use Rattle.dcel_maps.proofs.walks.Links.{links_stand}
use Rattle.dcel_maps.proofs.words.Agreement.{same_words_stand}
use Rattle.dcel_maps.proofs.words.Reading.{words-stand}
use Rattle.dcel_maps.proofs.shapes.Maps.{map-sound, map-sphere}

-- the lists s have these data
pub record HasData {V DE UE F : Type 0} (s : Lists V DE UE F) (vertices : List V) (halves : List DE) (edges : List UE) (faces : List F) : Type 0 where
  pub vertex_data : s.vertex_data ≡ vertices
  pub directed_data : s.directed_data ≡ halves
  pub undirected_data : s.undirected_data ≡ edges
  pub face_data : s.face_data ≡ faces

pub own_data : {V DE UE F : Type 0} (s : Lists V DE UE F) → HasData s s.vertex_data s.directed_data s.undirected_data s.face_data
own_data s = record { vertex_data = refl; directed_data = refl; undirected_data = refl; face_data = refl }

-- the lists s are those of the mesh m, as far as its live elements go
pub record ListsMesh {V DE UE F : Type 0} (s : Lists V DE UE F) (m : Mesh V DE UE F) : Type 0 where
  pub lengths : LengthsAgree s
  pub links : LinksAgree (map_of m.shape) (stored_map s m.shape.removal)
  pub open links use *
  pub shown_origins : shown (gives_up_edge m.shape.removal) s.origin ≡ m.shape.origins
  pub vertex_anchors : s.vertex_anchors ≡ m.vertex_anchors
  pub face_anchors : s.face_anchors ≡ m.face_anchors
  pub has_data : HasData s m.vertex_data m.directed_data m.undirected_data m.face_data
  pub open has_data use *

bare_anchor : (w : List ℕ) (a : Option ℕ) → AnchorsWord w a → w ≡ [] → a ≡ None
bare_anchor w None anchors empty = refl
bare_anchor w (Some h) anchors empty = let none : 0 < count_of h [] = subst (λ u. 0 < count_of h u) empty anchors in absurd (omega (arith, none))

some_anchor : (w : List ℕ) (a : Option ℕ) → AnchorsWord w a → w ≢ [] → a ≢ None
some_anchor w a anchors full none = full (subst (AnchorsWord w) none anchors)

module _ {V DE UE F : Type 0} (s : Lists V DE UE F) (m : Mesh V DE UE F) (mesh : IsMesh m) (e : ListsMesh s m) where
  abbrev T : Map
  T = stored_map s m.shape.removal

  vertices : length s.vertex_data ≡ m.shape.vertices
  vertices = ap length e.vertex_data ∙ mesh.sized.vertex_data

  edges : length s.undirected_data ≡ m.shape.edges
  edges = ap length e.undirected_data ∙ mesh.sized.undirected_data

  faces : length s.face_data ≡ face_count m.shape
  faces = ap length e.face_data ∙ mesh.sized.face_data

  edge : (u : ℕ) → T.edge u ≡ (map_of m.shape).edge u
  edge u = ap (λ n. is_live (gives_up_edge m.shape.removal) n u) edges

  live : (h : ℕ) → Live T h → IsLive m.shape h
  live h there = sym (edge (h / 2)) ∙ there

  agrees : Agrees (map_of m.shape) T
  agrees = record {
    vertices = vertices;
    edges = edges;
    faces = faces;
    edge = edge;
    links = e.links;
  }

  stands : Stands T m.shape.words
  stands = same_words_stand (map_of m.shape) T agrees m.shape.words (links_stand mesh.sound)

  anchored : (f : ℕ) → f < face_count m.shape → AnchorsWord (word_of m.shape.words f) (slice_index_or s.face_anchors f None)
  anchored f below = subst (λ anchors. AnchorsWord (word_of m.shape.words f) (slice_index_or anchors f None)) (sym e.face_anchors) (mesh.anchored.faces f below)

  -- the stored words are those of the mesh
  words : stored_words s ≡ m.shape.words
  words =
      words-stand T m.shape.words stands s.face_anchors (length s.next)
      (e.lengths.of_face_anchors ∙ faces) anchored (omega (arith, e.lengths.of_next))

  starts : (v : ℕ) (a : Option ℕ) → AnchorsVertex m.shape v a → Starts T v a
  starts v None bare = λ h there at. bare h (live h there) (sym (e.origin h (live h there)) ∙ at)
  starts v (Some h) anchors = (edge (h / 2) ∙ anchors.0, e.origin h anchors.0 ∙ anchors.1)

  held_stored : IsStored s m.shape.removal
  held_stored =
      let sized = mesh.sized in
      record {
        lengths = e.lengths;
        few_vertices = omega (arith, vertices, sized.few_vertices);
        few_edges = omega (arith, edges, sized.few_edges);
        few_faces = omega (arith, faces, sized.few_faces);
        some_face = omega (arith, faces, sized.outer);
        within = record {
          vertices = λ v given. omega (arith, vertices, sized.within.vertices v given);
          edges = λ u given. omega (arith, edges, sized.within.edges u given);
          faces = λ f given. ((sized.within.faces f given).0, omega (arith, faces, (sized.within.faces f given).1));
          in_order = sized.within.in_order;
        };
        stands = subst (Stands T) (sym words) stands;
        sound = agrees-sound (map_of m.shape) T agrees (map-sound mesh.sound);
        sphere = agrees-sphere (map_of m.shape) T agrees (map-sound mesh.sound) (map-sphere mesh.sound mesh.sphere);
        vertex_anchored = λ v below.
            subst (λ anchors. Starts T v (slice_index_or anchors v None)) (sym e.vertex_anchors)
            (starts v (vertex_anchor m v) (mesh.anchored.vertices v (omega (arith, below, vertices))));
        face_anchored = λ f below.
            subst (λ ws. AnchorsWord (word_of ws f) (slice_index_or s.face_anchors f None)) (sym words)
            (anchored f (omega (arith, below, faces)));
        starts_live = λ h there.
            ap (gives_up_vertex m.shape.removal) (e.origin h (live h there))
            ∙ (is_live-parts (gives_up_vertex m.shape.removal) m.shape.vertices (origin_of m.shape h)
            (mesh.sound.starts_live h (live h there))).1;
        bare = λ f given.
            bare_anchor (word_of m.shape.words f) (slice_index_or s.face_anchors f None) (anchored f (sized.within.faces f given).1)
            (mesh.sound.bare f (is_live-given_up (gives_up_face m.shape.removal) (face_count m.shape) f given));
        inner = λ f inside below kept.
            let below_f : f < face_count m.shape = omega (arith, below, faces) in
            some_anchor (word_of m.shape.words f) (slice_index_or s.face_anchors f None) (anchored f below_f)
            (mesh.sound.inner f inside (is_live-from (gives_up_face m.shape.removal) (face_count m.shape) f below_f kept));
        outer = λ h there.
            some_anchor (word_of m.shape.words 0) (slice_index_or s.face_anchors 0 None) (anchored 0 sized.outer)
            (λ empty. both_ways ((map_of m.shape).edge (h / 2)) (mesh.sound.outer.0 empty (h / 2)) (live h there));
      }

  held_mesh : mesh_of s m.shape.removal ≡ m
  held_mesh =
      rw (words, vertices, edges, e.shown_origins, e.vertex_data, e.vertex_anchors, e.face_anchors, e.directed_data, e.undirected_data, e.face_data) refl

  pub lists_hold : Holds s m.shape.removal m
  lists_hold = record { stored = held_stored; is = held_mesh }
