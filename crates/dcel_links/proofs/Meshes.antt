-- The links of a mesh are those of a claim that passes.
use Rattle.std.proofs.Common.{◌≡◌, ◌≢◌, inl, inr, ℕ, ◌/◌, ◌<◌, true, false, List, [], slice_index, refl, sym, ap, ◌∙◌, arith}
use Rattle.std.proofs.lemmas.Bool.{both_ways}
use Rattle.dcel_maps.specs.Maps.{Map}
use Rattle.dcel_maps.specs.Removals.{gives_up_edge, gives_up_face}
use Rattle.dcel_maps.specs.Shapes.{IsLive, IsMesh, Mesh, Shape, edge_is_live, face_count, face_of, map_of, prev_of}
use Rattle.dcel_maps.specs.Words.{word_of}
use Rattle.dcel_maps.specs.theory.Sound.{Sound, has_word}
use Rattle.dcel_maps.proofs.Liveness.{closed-live, gives_up_face-closed, is_live-from, is_live-parts}
use Rattle.dcel_maps.proofs.maps.Agreement.{Agrees, agrees-sound, agrees-sphere}
use Rattle.dcel_maps.proofs.maps.Counts.{used_from}
use Rattle.dcel_maps.proofs.shapes.Maps.{map-sound, map-sphere, word_cases}
use Rattle.dcel_maps.proofs.walks.Links.{links_stand}
use Rattle.dcel_maps.proofs.walks.Numbers.{length-listed, listed, listed-at}
use Rattle.dcel_maps.proofs.words.Reading.{face_in_word, live_in}
use Rattle.dcel_links.specs.Claims.{Claim, IsMeshOf, claimed_map, halves}
use Rattle.dcel_links.specs.Meshes.{IsLinked}

module _ {V DE UE F : Type 0} (m : Mesh V DE UE F) (c : Claim) (mesh : IsMesh m) (linked : IsLinked m.shape c) where
  abbrev s : Shape
  s = m.shape

  -- its links backwards
  abbrev pub prevs : List ℕ
  prevs = listed (prev_of s) (halves c)

  abbrev T : Map
  T = claimed_map c prevs

  edges : halves c / 2 ≡ s.edges
  edges = let e = linked.half_edges in omega arith

  edge : (u : ℕ) → T.edge u ≡ edge_is_live s u
  edge u = rw (edges, linked.closed) refl

  below : (h : ℕ) → IsLive s h → h < halves c
  below h live = let k = (is_live-parts (gives_up_edge s.removal) s.edges (h / 2) live).0 in let e = linked.half_edges in omega arith

  agrees : Agrees (map_of s) T
  agrees = record {
    vertices = sym linked.vertices;
    edges = edges;
    faces = sym linked.faces;
    edge = edge;
    links = record {
      next = λ h live. sym (linked.next h (below h live));
      prev = λ h live. listed-at (prev_of s) (halves c) h (below h live);
      origin = λ h live. ap (λ list. slice_index list h) (sym linked.origin);
      face = λ h live. sym (linked.face h (below h live));
    };
  }

  sound : Sound T
  sound = agrees-sound (map_of s) T agrees (map-sound mesh.sound)

  -- a face whose word isn't empty has a half edge
  word : (f : ℕ) → word_of s.words f ≢ [] → has_word T f ≡ true
  unfolding has_word
  word f full = elim (word_cases (word_of s.words f)) [
    | inl empty ↦ absurd (full empty)
    | inr (h, found) ↦
        let stands = links_stand mesh.sound in
        let live : IsLive s h = live_in (map_of s) s.words stands h f found in
        let at : face_of s h ≡ f = face_in_word (map_of s) s.words stands h f found in
        used_from T sound T.face f record { half = h; live = edge (h / 2) ∙ live; is = sym (linked.face h (below h live)) ∙ at }
  ]

  pub linked_mesh : IsMeshOf c prevs
  linked_mesh = record {
    lists = linked.lists;
    backwards = length-listed (prev_of s) (halves c);
    few = record {
      vertices = let e = linked.vertices in let few = mesh.sized.few_vertices in omega arith;
      half_edges = let e = linked.half_edges in let few = mesh.sized.few_edges in omega arith;
      faces = let e = linked.faces in let few = mesh.sized.few_faces in omega arith;
    };
    sound = sound;
    sphere = agrees-sphere (map_of s) T agrees (map-sound mesh.sound) (map-sphere mesh.sound mesh.sphere);
    some_face = let e = linked.faces in let some = mesh.sized.outer in omega arith;
    inner = λ f inside f_in.
        let there : f < face_count s = let e = linked.faces in omega arith in
        let kept : gives_up_face s.removal f ≡ false = ap (λ r. gives_up_face r f) linked.closed ∙ gives_up_face-closed f in
        word f (mesh.sound.inner f inside (is_live-from (gives_up_face s.removal) (face_count s) f there kept));
    outer = λ some.
        let first : edge_is_live s 0 ≡ true = closed-live s linked.closed 0 (let e = linked.half_edges in omega arith) in
        word 0 (λ empty. both_ways (edge_is_live s 0) (mesh.sound.outer.0 empty 0) first);
  }
