-- Lists that were given hold a mesh where their map is sound and a sphere, and their anchors are right.
use Rattle.std.proofs.Common.{◌≡◌, ◌≢◌, ℕ, ◌/◌, ◌<◌, ◌≤◌, ◌^◌, true, List, [], ◌∷◌, length, slice_index_or, Option, Some, None, refl, sym, ap, ◌∙◌, subst, arith}
use Rattle.std.proofs.lemmas.Bool.{false≢true}
use Rattle.std.proofs.lemmas.List.{get_or-map, length-map}
use Rattle.dcel_store.specs.Lists.{Lists, LengthsAgree}
use Rattle.dcel_maps.specs.Cyclic.{from_least}
use Rattle.dcel_maps.specs.Maps.{By, Live, Map, Starts}
use Rattle.dcel_maps.specs.Removals.{Closed, Removal, gives_up_edge}
use Rattle.dcel_maps.specs.Shapes.{Shape}
use Rattle.dcel_maps.specs.Walking.{IsLawful, IsUnderWay, StepsTo}
use Rattle.dcel_maps.specs.Walks.{anchored_word, anchored_words}
use Rattle.dcel_maps.specs.theory.Cycles.{Path}
use Rattle.dcel_maps.specs.theory.Sound.{Sound, Sphere, has_word}
use Rattle.dcel_maps.specs.theory.Standing.{Follows, Stands}
use Rattle.dcel_maps.proofs.Liveness.{IsWithin-closed, gives_up_face-closed, gives_up_vertex-closed, is_live-parts}
use Rattle.dcel_maps.proofs.maps.Counts.{used_gives}
use Rattle.dcel_maps.proofs.maps.Labels.{Labelled}
use Rattle.dcel_maps.proofs.maps.Reaching.{step}
use Rattle.dcel_maps.proofs.shapes.Shown.{anchors-word}
use Rattle.dcel_maps.proofs.walks.Returning.{starts}
use Rattle.dcel_maps.proofs.words.Counts.{count-same}
use Rattle.dcel_maps.proofs.words.Cyclic.{count-from_least, from_least-word}
use Rattle.dcel_maps.proofs.words.Faces.{IsWordOf, stands_from_faces}
use Rattle.dcel_maps.proofs.words.Paths.{IsCycle-weaker}
use Rattle.dcel_maps.proofs.words.Turns.{from_least-turn, length-turn}
use Rattle.dcel_maps.proofs.words.Walking.{anchored_word-is}
use Rattle.dcel_edits.specs.Stored.{IsStored, stored_map, stored_words}

module _ {V DE UE F : Type 0} (s : Lists V DE UE F) (r : Removal) (lengths : LengthsAgree s) (sound : Sound (stored_map s r)) where
  abbrev M : Map
  M = stored_map s r

  -- a shape with as many edges: walks ask no more of one
  abbrev plain : Shape
  plain = record { vertices = 0; edges = length s.undirected_data; words = []; origins = []; removal = r }

  lawful : IsLawful plain M.next M.prev
  lawful = record { stays = sound.live_next; stays_back = sound.live_prev; back-step = sound.prev-next; step-back = sound.next-prev }

  same_face : (x : ℕ) → Live M x → M.face (M.next x) ≡ M.face x
  same_face x live = sym ((sound.one_face x (M.next x) live (sound.live_next x live)).1 (step refl))

  -- a walk that starts on a face stays there
  along : (f x : ℕ) (w : List ℕ) (e : ℕ) → M.face x ≡ f → Path (StepsTo plain M.next M.prev) x w e → Path (Follows M f) x w e
  along f x [] e at path = record { live = path.live; next = path.forth; prev = path.back; face = at }
  along f x (y ∷ w) e at path = (
    record { live = path.0.live; next = path.0.forth; prev = path.0.back; face = at },
    along f y w e (ap M.face (sym path.0.forth) ∙ same_face x path.0.live ∙ at) path.1,
  )

  -- from a half edge of a face the links lead round the word of the face
  module _ (f h : ℕ) (live : Live M h) (at : M.face h ≡ f) where
    walk_round : IsUnderWay plain M.next M.prev h h
    walk_round = starts plain M.next M.prev lawful h live

    spelled : IsWordOf M f (from_least (h ∷ walk_round.rest))
    spelled = from_least-word M sound f h walk_round.rest (along f h walk_round.rest h at walk_round.path) walk_round.once

    spelled-is : anchored_word M.next (length s.next) (Some h) ≡ from_least (h ∷ walk_round.rest)
    spelled-is =
        let w : List ℕ = from_least (h ∷ walk_round.rest) in
        anchored_word-is M.next (length s.next) w (Some h)
        (IsCycle-weaker (Follows M f) (By M.next) w (λ p q i j k. k.next) spelled.cycle) spelled.least
        (λ k. omega (arith, walk_round.once k, count-from_least k (h ∷ walk_round.rest)))
        (omega (arith, walk_round.few, length-turn (from_least-turn (h ∷ walk_round.rest)), lengths.of_next))
        (omega (arith, count-from_least h (h ∷ walk_round.rest), count-same h walk_round.rest))

  word : (f : ℕ) (o : Option ℕ) → Labelled M M.face f o → IsWordOf M f (anchored_word M.next (length s.next) o)
  unfolding anchored_word
  word f None none = record { cycle = tt; once = λ x live at. absurd (none x live at); least = tt }
  word f (Some h) some = subst (λ w. IsWordOf M f w) (sym (spelled-is f h some.0 some.1)) (spelled f h some.0 some.1)

  -- where each face is anchored at a half edge of it, if there is one, the links stand for the words that they lead round
  pub given_stand : ((f : ℕ) → f < length s.face_data → Labelled M M.face f (slice_index_or s.face_anchors f None)) → Stands M (stored_words s)
  unfolding anchored_words
  given_stand anchored =
      let long = length-map s.face_anchors (anchored_word M.next (length s.next)) in
      stands_from_faces M sound (stored_words s) (long ∙ lengths.of_face_anchors)
      (λ f within.
      let f_in : f < length s.face_anchors = omega (arith, long) in
      subst (λ w. IsWordOf M f w) (sym (get_or-map (anchored_word M.next (length s.next)) s.face_anchors f None [] f_in))
      (word f (slice_index_or s.face_anchors f None) (anchored f (omega (arith, lengths.of_face_anchors)))))

-- what is asked of lists that are given, with no removal open
pub record IsGiven {V DE UE F : Type 0} (s : Lists V DE UE F) : Type 0 where
  pub lengths : LengthsAgree s
  pub few_vertices : length s.vertex_data ≤ 2 ^ 32
  pub few_edges : length s.undirected_data ≤ 2 ^ 31
  pub few_faces : length s.face_data ≤ 2 ^ 32
  pub some_face : 0 < length s.face_data
  pub sound : Sound (stored_map s Closed)
  pub sphere : Sphere (stored_map s Closed)
  pub vertices : (v : ℕ) → v < length s.vertex_data → Labelled (stored_map s Closed) (stored_map s Closed).origin v (slice_index_or s.vertex_anchors v None)
  pub faces : (f : ℕ) → f < length s.face_data → Labelled (stored_map s Closed) (stored_map s Closed).face f (slice_index_or s.face_anchors f None)
  pub inner : (f : ℕ) → 0 < f → f < length s.face_data → has_word (stored_map s Closed) f ≡ true
  pub outer : 0 < length s.undirected_data → has_word (stored_map s Closed) 0 ≡ true

starts_from : (M : Map) (v : ℕ) (o : Option ℕ) → Labelled M M.origin v o → Starts M v o
starts_from M v None none = none
starts_from M v (Some h) some = some

-- a face with a word has an anchor
anchor_of : (M : Map) (f : ℕ) (o : Option ℕ) → Labelled M M.face f o → has_word M f ≡ true → o ≢ None
unfolding has_word
anchor_of M f o labelled has none =
    let used = used_gives M M.face f has in
    let bare = subst (λ a. Labelled M M.face f a) none labelled in
    bare used.half used.live used.is

-- then they hold a mesh
pub given_stored : {V DE UE F : Type 0} (s : Lists V DE UE F) → IsGiven s → IsStored s Closed
given_stored s given =
    let M : Map = stored_map s Closed in
    let stands = given_stand s Closed given.lengths given.sound given.faces in
    record {
      lengths = given.lengths;
      few_vertices = given.few_vertices;
      few_edges = given.few_edges;
      few_faces = given.few_faces;
      some_face = given.some_face;
      within = IsWithin-closed (length s.vertex_data) (length s.undirected_data) (length s.face_data);
      stands = stands;
      sound = given.sound;
      sphere = given.sphere;
      vertex_anchored = λ v below. starts_from M v (slice_index_or s.vertex_anchors v None) (given.vertices v below);
      face_anchored = λ f below. anchors-word M (stored_words s) stands f (slice_index_or s.face_anchors f None) (given.faces f below);
      starts_live = λ h live. gives_up_vertex-closed (M.origin h);
      bare = λ f gone. absurd (false≢true (sym (gives_up_face-closed f) ∙ gone));
      inner = λ f inside below kept. anchor_of M f (slice_index_or s.face_anchors f None) (given.faces f below) (given.inner f inside below);
      outer = λ h live.
          let below = (is_live-parts (gives_up_edge Closed) (length s.undirected_data) (h / 2) live).0 in
          anchor_of M 0 (slice_index_or s.face_anchors 0 None) (given.faces 0 given.some_face) (given.outer (omega arith));
    }
