-- Stored lists stand for a mesh.
use Rattle.std.proofs.Common.{◌≡◌, ◌≢◌, ◌↔◌, ◌⊎◌, ℕ, ◌*◌, ◌/◌, ◌<◌, true, false, List, [], ◌∷◌, length, Option, Some, None, inl, inr, sym, refl, ap, ◌∙◌, subst, arith}
use Rattle.std.specs.Prelude.{slice_index, slice_index_or}
use Rattle.std.proofs.lemmas.List.{get_or_past}
use Rattle.std.proofs.lemmas.Bool.{both_ways, cases_eq, cases_lt, false_from_ne_true, true_from_ne_false}
use Rattle.dcel_store.specs.Lists.{Lists}
use Rattle.dcel_maps.specs.theory.Sound.{Sound, Sphere, has_word}
use Rattle.dcel_maps.specs.Removals.{Removal, gives_up_edge, gives_up_face}
use Rattle.dcel_maps.specs.Shapes.{AnchorsVertex, AnchorsWord, IsAnchored, IsLive, IsMesh, IsSized, IsSound, IsSphere, Mesh, edge_is_live, face_is_live, face_of, map_of}
use Rattle.dcel_edits.specs.Stored.{IsStored, mesh_of, stored_map, stored_words}
use Rattle.dcel_maps.specs.Words.{IsLeastFirst, count_of, word_of}
use Rattle.dcel_maps.proofs.Liveness.{IsWithin-grown, is_live-cases, is_live-parts}
use Rattle.dcel_edits.proofs.Reading.{anchor_starts, face_of-is, none_starts, origin_of-live, public_agrees, stands_in_word, word-lies}
use Rattle.dcel_maps.proofs.maps.Agreement.{agrees-sound, agrees-sphere}
use Rattle.dcel_maps.proofs.maps.Counts.{count_same, same_tests, used_from, used_gives}
use Rattle.dcel_maps.proofs.words.Counts.{count-same}
use Rattle.dcel_maps.proofs.words.Reading.{dead_in_none}
use Rattle.dcel_maps.proofs.Shown.{length-shown}

-- a word is empty, or something stands in it
word_cases : (w : List ℕ) → (w ≡ []) ⊎ ((h : ℕ) × (0 < count_of h w))
word_cases [] = inl refl
word_cases (h ∷ w) = inr (h, omega (arith, count-same h w))

-- a word is empty just where its anchor is None
unanchored_word : (w : List ℕ) (a : Option ℕ) → AnchorsWord w a → a ≡ None → w ≡ []
unanchored_word w a anchors none = subst (AnchorsWord w) none anchors

anchored_word : (w : List ℕ) (a : Option ℕ) → AnchorsWord w a → a ≢ None → w ≢ []
anchored_word w None anchors some = absurd (some refl)
anchored_word w (Some h) anchors some = λ empty.
    let none : 0 < count_of h [] = subst (λ z. 0 < count_of h z) empty anchors in omega arith

module _ {V DE UE F : Type 0} where
  -- the public map is sound, and a sphere, as the stored one is
  pub public_sound : {s : Lists V DE UE F} {r : Removal} → IsStored s r → Sound (map_of (mesh_of s r).shape)
  public_sound {s = s} {r = r} stored = agrees-sound (stored_map s r) (map_of (mesh_of s r).shape) (public_agrees stored) stored.sound

  pub public_sphere : {s : Lists V DE UE F} {r : Removal} → IsStored s r → Sphere (map_of (mesh_of s r).shape)
  public_sphere {s = s} {r = r} stored =
      agrees-sphere (stored_map s r) (map_of (mesh_of s r).shape) (public_agrees stored) stored.sound stored.sphere

  -- each word is written from its least item, also where there is no such face
  least_first : {s : Lists V DE UE F} {r : Removal} → IsStored s r → (f : ℕ) → IsLeastFirst (word_of (stored_words s) f)
  least_first {s = s} stored f = elim (cases_lt f (length (stored_words s))) [
    | inl below ↦ stored.stands.least f below
    | inr past ↦ subst IsLeastFirst (sym (get_or_past (stored_words s) f [] past)) tt
  ]

  -- faces that are not live have no word, live inner faces have one, and the outer face has one where an edge is live
  bare_word : {s : Lists V DE UE F} {r : Removal} → IsStored s r → (f : ℕ) → face_is_live (mesh_of s r).shape f ≡ false
      → word_of (stored_words s) f ≡ []
  bare_word {s = s} {r = r} stored f dead = elim (is_live-cases (gives_up_face r) (length (stored_words s)) f dead) [
    | inl past ↦ get_or_past (stored_words s) f [] past
    | inr given ↦ unanchored_word (word_of (stored_words s) f) (slice_index_or s.face_anchors f None)
        (stored.face_anchored f (stored.within.faces f given).1) (stored.bare f given)
  ]

  inner_word : {s : Lists V DE UE F} {r : Removal} → IsStored s r → (f : ℕ) → 0 < f → face_is_live (mesh_of s r).shape f ≡ true
      → word_of (stored_words s) f ≢ []
  inner_word {s = s} {r = r} stored f inside live =
      let parts = is_live-parts (gives_up_face r) (length (stored_words s)) f live in
      let faces = stored.stands.faces in
      let below : f < length s.face_data = omega arith in
      anchored_word (word_of (stored_words s) f) (slice_index_or s.face_anchors f None)
      (stored.face_anchored f below) (stored.inner f inside below parts.1)

  outer_word : {s : Lists V DE UE F} {r : Removal} → IsStored s r
      → (word_of (stored_words s) 0 ≡ []) ↔ ((u : ℕ) → edge_is_live (mesh_of s r).shape u ≡ false)
  outer_word {s = s} {r = r} stored = (
    λ empty u. false_from_ne_true (edge_is_live (mesh_of s r).shape u) (λ live.
        let half : 2 * u / 2 ≡ u = omega arith in
        let half_lives : IsLive (mesh_of s r).shape (2 * u) = ap (edge_is_live (mesh_of s r).shape) half ∙ live in
        anchored_word (word_of (stored_words s) 0) (slice_index_or s.face_anchors 0 None)
        (stored.face_anchored 0 stored.some_face) (stored.outer (2 * u) half_lives) empty),
    λ dead. elim (word_cases (word_of (stored_words s) 0)) [
      | inl empty ↦ empty
      | inr held ↦
          absurd (both_ways (edge_is_live (mesh_of s r).shape (held.0 / 2)) (dead (held.0 / 2)) (word-lies stored held.0 0 held.1).0)
    ],
  )

  -- a live half edge lies on a live face
  pub face_of-live : {s : Lists V DE UE F} {r : Removal} → IsStored s r → (h : ℕ) → IsLive (mesh_of s r).shape h
      → face_is_live (mesh_of s r).shape (face_of (mesh_of s r).shape h) ≡ true
  face_of-live {s = s} {r = r} stored h live =
      let f = face_of (mesh_of s r).shape h in
      let stands : 0 < count_of h (word_of (stored_words s) f) = stands_in_word stored h live in
      true_from_ne_false (face_is_live (mesh_of s r).shape f)
      (λ dead. let none : 0 < count_of h [] = subst (λ w. 0 < count_of h w) (bare_word stored f dead) stands in omega arith)

  -- what the store reads as the face of a live half edge of the mesh m is the link, and live
  pub face-read : {s : Lists V DE UE F} {r : Removal} {m : Mesh V DE UE F} → IsStored s r → mesh_of s r ≡ m → (h : ℕ) → IsLive m.shape h
      → (slice_index s.face h ≡ face_of m.shape h) × (face_is_live m.shape (slice_index s.face h) ≡ true)
  face-read stored is h live =
      let here = rw (← is) at live in rw (← is) (sym (face_of-is stored h here), rw (← face_of-is stored h here) (face_of-live stored h here))

  -- the four parts of what is true of a mesh
  mesh_is_sound : {s : Lists V DE UE F} {r : Removal} → IsStored s r → IsSound (mesh_of s r).shape
  mesh_is_sound {s = s} {r = r} stored =
      let sound = public_sound stored in
      record {
        once = stored.stands.once;
        no_other = dead_in_none (stored_map s r) (stored_words s) stored.stands;
        least_first = least_first stored;
        bare = bare_word stored;
        inner = inner_word stored;
        outer = outer_word stored;
        joined = sound.origin-next;
        two_ends = sound.two_ends;
        starts_live = origin_of-live stored;
        one_origin = sound.one_origin;
      }

  -- a face where a live half edge lies is live
  has_word-live : {s : Lists V DE UE F} {r : Removal} → IsStored s r → (f : ℕ) → has_word (map_of (mesh_of s r).shape) f ≡ true
      → face_is_live (mesh_of s r).shape f ≡ true
  unfolding has_word
  has_word-live {s = s} {r = r} stored f has =
      let used = used_gives (map_of (mesh_of s r).shape) (face_of (mesh_of s r).shape) f has in
      subst (λ g. face_is_live (mesh_of s r).shape g ≡ true) used.is (face_of-live stored used.half used.live)

  -- where an edge is live, a live face has a word
  live_word : {s : Lists V DE UE F} {r : Removal} → IsStored s r → (u : ℕ) → edge_is_live (mesh_of s r).shape u ≡ true
      → (f : ℕ) → face_is_live (mesh_of s r).shape f ≡ true → word_of (stored_words s) f ≢ []
  live_word {s = s} {r = r} stored u live f lives empty = elim (cases_eq f 0) [
    | inl outer ↦ let outer_empty = subst (λ g. word_of (stored_words s) g ≡ []) outer empty in
        both_ways (edge_is_live (mesh_of s r).shape u) ((outer_word stored).0 outer_empty u) live
    | inr inside ↦ inner_word stored f (omega arith) lives empty
  ]

  live_has_word : {s : Lists V DE UE F} {r : Removal} → IsStored s r → (u : ℕ) → edge_is_live (mesh_of s r).shape u ≡ true
      → (f : ℕ) → face_is_live (mesh_of s r).shape f ≡ true → has_word (map_of (mesh_of s r).shape) f ≡ true
  unfolding has_word
  live_has_word {s = s} {r = r} stored u live f lives = elim (word_cases (word_of (stored_words s) f)) [
    | inl empty ↦ absurd (live_word stored u live f lives empty)
    | inr held ↦ let lies = word-lies stored held.0 f held.1 in
        used_from (map_of (mesh_of s r).shape) (public_sound stored) (face_of (mesh_of s r).shape) f
        record { half = held.0; live = lies.0; is = lies.1 }
  ]

  has_word-is : {s : Lists V DE UE F} {r : Removal} → IsStored s r → (u : ℕ) → edge_is_live (mesh_of s r).shape u ≡ true
      → (f : ℕ) → has_word (map_of (mesh_of s r).shape) f ≡ face_is_live (mesh_of s r).shape f
  has_word-is {s = s} {r = r} stored u live f =
      same_tests (has_word (map_of (mesh_of s r).shape) f) (face_is_live (mesh_of s r).shape f)
      (has_word-live stored f) (live_has_word stored u live f)

  mesh_is_sphere : {s : Lists V DE UE F} {r : Removal} → IsStored s r → IsSphere (mesh_of s r).shape
  mesh_is_sphere {s = s} {r = r} stored =
      let sphere = public_sphere stored in
      record {
        connected = sphere.connected;
        euler = λ u live.
            let euler = sphere.euler u live in
            let faces = count_same (has_word (map_of (mesh_of s r).shape)) (face_is_live (mesh_of s r).shape)
            (length (stored_words s)) (λ f below. has_word-is stored u live f) in
            omega arith;
      }

  mesh_is_anchored : {s : Lists V DE UE F} {r : Removal} → IsStored s r → IsAnchored (mesh_of s r)
  mesh_is_anchored {s = s} {r = r} stored = record {
    vertices = λ v below. elim (slice_index_or s.vertex_anchors v None)
        as (λ a. slice_index_or s.vertex_anchors v None ≡ a → AnchorsVertex (mesh_of s r).shape v a) [
          | None ↦ none_starts stored v
          | Some out ↦ anchor_starts stored v out
        ] refl;
    faces = λ f below. let faces = stored.stands.faces in stored.face_anchored f (omega arith);
  }

  mesh_is_sized : {s : Lists V DE UE F} {r : Removal} → IsStored s r → IsSized (mesh_of s r)
  mesh_is_sized {s = s} {r = r} stored = record {
    vertex_data = refl;
    vertex_anchors = stored.lengths.of_vertex_anchors;
    undirected_data = refl;
    directed_data = stored.lengths.of_directed_data ∙ stored.lengths.of_next;
    origins = length-shown (gives_up_edge r) s.origin ∙ stored.lengths.of_origin ∙ stored.lengths.of_next;
    face_data = sym stored.stands.faces;
    face_anchors = stored.lengths.of_face_anchors ∙ sym stored.stands.faces;
    outer = let faces = stored.stands.faces in let some = stored.some_face in omega arith;
    few_vertices = stored.few_vertices;
    few_edges = stored.few_edges;
    few_faces = let faces = stored.stands.faces in let few = stored.few_faces in omega arith;
    within = let faces = stored.stands.faces in IsWithin-grown stored.within (omega arith) (omega arith) (omega arith);
  }

  -- stored lists stand for a mesh
  pub mesh-is-mesh : (s : Lists V DE UE F) (r : Removal) → IsStored s r → IsMesh (mesh_of s r)
  mesh-is-mesh s r stored = record {
    sound = mesh_is_sound stored;
    sphere = mesh_is_sphere stored;
    anchored = mesh_is_anchored stored;
    sized = mesh_is_sized stored;
  }
