-- What the stored lists of a mesh say of what is public: ranges, links and anchors.
use Rattle.std.proofs.Common.{◌≡◌, ◌≢◌, ◌↔◌, ℕ, ◌/◌, ◌<◌, true, false, length, Some, None, inl, inr, sym, refl, ap, ◌∙◌, subst, arith}
use Rattle.std.specs.Prelude.{slice_index, slice_index_or}
use Rattle.std.proofs.lemmas.List.{get_or_past}
use Rattle.std.proofs.lemmas.Bool.{cases_lt}
use Rattle.dcel_fixed.specs.HalfEdges.{rev}
use Rattle.dcel_fixed.proofs.Halves.{rev-half}
use Rattle.dcel_store.specs.Lists.{Lists}
use Rattle.dcel_maps.specs.Maps.{By, Reaches, ccw, Starts}
use Rattle.dcel_maps.specs.Removals.{Removal, gives_up_vertex, gives_up_edge}
use Rattle.dcel_maps.specs.Shapes.{AnchorsWord, IsLive, Mesh, face_of, map_of, next_of, origin_of, prev_of, vertex_is_live}
use Rattle.dcel_edits.specs.Stored.{IsStored, mesh_of, stored_map, stored_words}
use Rattle.dcel_maps.specs.Words.{count_of, word_of}
use Rattle.dcel_maps.proofs.Liveness.{is_live-parts, is_live-from}
use Rattle.dcel_maps.proofs.maps.Agreement.{Agrees}
use Rattle.dcel_maps.proofs.maps.Reaching.{reaches_stays, step}
use Rattle.dcel_maps.proofs.words.Reading.{face_in-is, face_in_word, live_in, next_in-is, prev_in-is, stands_in_face}
use Rattle.dcel_maps.proofs.Shown.{slice_index-shown_live}

module _ {V DE UE F : Type 0} where
  -- a half edge in range is live where its edge is not given up
  pub half-live : {s : Lists V DE UE F} {r : Removal} → IsStored s r → (h : ℕ) → h < length s.next → gives_up_edge r (h / 2) ≡ false
      → IsLive (mesh_of s r).shape h
  half-live {s = s} {r = r} stored h below kept =
      let halves = stored.lengths.of_next in is_live-from (gives_up_edge r) (length s.undirected_data) (h / 2) (omega arith) kept

  -- the half edges that a live one is linked to are live
  pub rev-live : (s : Lists V DE UE F) (r : Removal) (h : ℕ) → IsLive (mesh_of s r).shape h → IsLive (mesh_of s r).shape (rev h)
  rev-live s r h live = rw (rev-half h) live

  pub next-live : {s : Lists V DE UE F} {r : Removal} → IsStored s r → (h : ℕ) → IsLive (mesh_of s r).shape h
      → IsLive (mesh_of s r).shape (slice_index s.next h)
  next-live stored h live = stored.sound.live_next h live

  pub prev-live : {s : Lists V DE UE F} {r : Removal} → IsStored s r → (h : ℕ) → IsLive (mesh_of s r).shape h
      → IsLive (mesh_of s r).shape (slice_index s.prev h)
  prev-live stored h live = stored.sound.live_prev h live

  -- a live half edge, and what its links name, is in range
  pub half-below : {s : Lists V DE UE F} {r : Removal} → IsStored s r → (h : ℕ) → IsLive (mesh_of s r).shape h → h < length s.next
  half-below stored h live = let below = stored.sound.below_edges h live in let halves = stored.lengths.of_next in omega arith

  pub next-below : {s : Lists V DE UE F} {r : Removal} → IsStored s r → (h : ℕ) → IsLive (mesh_of s r).shape h
      → slice_index s.next h < length s.next
  next-below {s = s} stored h live = half-below stored (slice_index s.next h) (next-live stored h live)

  pub origin-below : {s : Lists V DE UE F} {r : Removal} → IsStored s r → (h : ℕ) → IsLive (mesh_of s r).shape h
      → slice_index s.origin h < length s.vertex_data
  origin-below stored h live = stored.sound.below_vertices h live

  -- the public links of a live half edge are the stored ones
  pub next_of-is : {s : Lists V DE UE F} {r : Removal} → IsStored s r → (h : ℕ) → IsLive (mesh_of s r).shape h
      → next_of (mesh_of s r).shape h ≡ slice_index s.next h
  next_of-is {s = s} {r = r} stored h live = next_in-is (stored_map s r) (stored_words s) stored.stands h live

  pub prev_of-is : {s : Lists V DE UE F} {r : Removal} → IsStored s r → (h : ℕ) → IsLive (mesh_of s r).shape h
      → prev_of (mesh_of s r).shape h ≡ slice_index s.prev h
  prev_of-is {s = s} {r = r} stored h live = prev_in-is (stored_map s r) (stored_words s) stored.stands h live

  pub face_of-is : {s : Lists V DE UE F} {r : Removal} → IsStored s r → (h : ℕ) → IsLive (mesh_of s r).shape h
      → face_of (mesh_of s r).shape h ≡ slice_index s.face h
  face_of-is {s = s} {r = r} stored h live = face_in-is (stored_map s r) (stored_words s) stored.stands h live

  pub origin_of-is : (s : Lists V DE UE F) (r : Removal) (h : ℕ) → IsLive (mesh_of s r).shape h
      → origin_of (mesh_of s r).shape h ≡ slice_index s.origin h
  origin_of-is s r h live =
      slice_index-shown_live (gives_up_edge r) s.origin h (is_live-parts (gives_up_edge r) (length s.undirected_data) (h / 2) live).1

  -- the public map agrees with the stored one on what is live
  pub public_agrees : {s : Lists V DE UE F} {r : Removal} → IsStored s r → Agrees (stored_map s r) (map_of (mesh_of s r).shape)
  public_agrees {s = s} {r = r} stored = record {
    vertices = refl;
    edges = refl;
    faces = stored.stands.faces;
    edge = λ u. refl;
    links = record {
      next = next_of-is stored;
      prev = prev_of-is stored;
      origin = origin_of-is s r;
      face = face_of-is stored;
    };
  }

  -- no live half edge starts at a vertex without an anchor
  pub none_starts : {s : Lists V DE UE F} {r : Removal} → IsStored s r → (v : ℕ) → slice_index_or s.vertex_anchors v None ≡ None
      → (h : ℕ) → IsLive (mesh_of s r).shape h → origin_of (mesh_of s r).shape h ≢ v
  none_starts {s = s} {r = r} stored v none h live starts =
      let at : slice_index s.origin h ≡ v = sym (origin_of-is s r h live) ∙ starts in
      let below = origin-below stored h live in
      subst (Starts (stored_map s r) v) none (stored.vertex_anchored v (omega arith)) h live at

  -- a vertex's anchor is a live half edge that starts there
  pub anchor_starts : {s : Lists V DE UE F} {r : Removal} → IsStored s r → (v out : ℕ) → slice_index_or s.vertex_anchors v None ≡ Some out
      → IsLive (mesh_of s r).shape out × (origin_of (mesh_of s r).shape out ≡ v)
  anchor_starts {s = s} {r = r} stored v out some = elim (cases_lt v (length s.vertex_data)) [
    | inl below ↦ let anchored = subst (Starts (stored_map s r) v) some (stored.vertex_anchored v below) in
        (anchored.0, origin_of-is s r out anchored.0 ∙ anchored.1)
    | inr past ↦ let agree = stored.lengths.of_vertex_anchors in
        let none = get_or_past s.vertex_anchors v None (omega arith) in cc
  ]

  -- a vertex is without an anchor just where no live half edge starts
  pub unanchored-iff : {s : Lists V DE UE F} {r : Removal} → IsStored s r → (v : ℕ)
      → (slice_index_or s.vertex_anchors v None ≡ None) ↔ ((h : ℕ) → IsLive (mesh_of s r).shape h → origin_of (mesh_of s r).shape h ≢ v)
  unanchored-iff {s = s} {r = r} stored v = (
    none_starts stored v,
    λ bare. elim (slice_index_or s.vertex_anchors v None) as (λ a. slice_index_or s.vertex_anchors v None ≡ a → a ≡ None) [
      | None ↦ λ none. refl
      | Some out ↦ λ some. let starts = anchor_starts stored v out some in absurd (bare out starts.0 starts.1)
    ] refl,
  )

  -- a live half edge starts at a live vertex
  pub origin_of-live : {s : Lists V DE UE F} {r : Removal} → IsStored s r → (h : ℕ) → IsLive (mesh_of s r).shape h
      → vertex_is_live (mesh_of s r).shape (origin_of (mesh_of s r).shape h) ≡ true
  origin_of-live {s = s} {r = r} stored h live =
      rw (origin_of-is s r h live)
      (is_live-from (gives_up_vertex r) (length s.vertex_data) (slice_index s.origin h) (origin-below stored h live) (stored.starts_live h live))

  -- a vertex with an anchor is live
  pub anchored-live : {s : Lists V DE UE F} {r : Removal} → IsStored s r → (v out : ℕ) → slice_index_or s.vertex_anchors v None ≡ Some out
      → vertex_is_live (mesh_of s r).shape v ≡ true
  anchored-live {s = s} {r = r} stored v out some =
      let anchored = anchor_starts stored v out some in
      subst (λ z. vertex_is_live (mesh_of s r).shape z ≡ true) anchored.1 (origin_of-live stored out anchored.0)

  -- the half edges that start where a live one does are those that turning reaches
  same_origin-iff : {s : Lists V DE UE F} {r : Removal} → IsStored s r
      → (h k : ℕ) → IsLive (mesh_of s r).shape h → IsLive (mesh_of s r).shape k
      → (origin_of (mesh_of s r).shape h ≡ origin_of (mesh_of s r).shape k) ↔ Reaches (By (ccw (stored_map s r))) h k
  same_origin-iff {s = s} {r = r} stored h k live_h live_k =
      let one = stored.sound.one_origin h k live_h live_k in
      let at_h = origin_of-is s r h live_h in
      let at_k = origin_of-is s r k live_k in
      (λ same. one.0 (sym at_h ∙ same ∙ at_k), λ reached. at_h ∙ one.1 reached ∙ sym at_k)

  -- turning round its vertex leads from a vertex's anchor to itself just where no other live half edge starts there
  pub only_out-iff : {s : Lists V DE UE F} {r : Removal} → IsStored s r → (v out : ℕ) → slice_index_or s.vertex_anchors v None ≡ Some out
      → (rev (slice_index s.prev out) ≡ out) ↔ ((k : ℕ) → IsLive (mesh_of s r).shape k → origin_of (mesh_of s r).shape k ≡ v → k ≡ out)
  unfolding ccw
  only_out-iff {s = s} {r = r} stored v out some =
      let anchored = anchor_starts stored v out some in
      let turned : ℕ = rev (slice_index s.prev out) in
      let live : IsLive (mesh_of s r).shape turned = rev-live s r (slice_index s.prev out) (prev-live stored out anchored.0) in (
        λ stays k live_k starts.
            reaches_stays (By (ccw (stored_map s r))) (λ z. z ≡ out)
            (λ x y at_out turn. sym turn ∙ ap (λ z. rev (slice_index s.prev z)) at_out ∙ stays)
            refl ((same_origin-iff stored out k anchored.0 live_k).0 (anchored.1 ∙ sym starts)),
        λ only. only turned live (sym ((same_origin-iff stored out turned anchored.0 live).1 (step refl)) ∙ anchored.1),
      )

  -- what stands in a face's word is live and lies on the face
  pub word-lies : {s : Lists V DE UE F} {r : Removal} → IsStored s r → (h f : ℕ) → 0 < count_of h (word_of (stored_words s) f)
      → IsLive (mesh_of s r).shape h × (face_of (mesh_of s r).shape h ≡ f)
  word-lies {s = s} {r = r} stored h f holds =
      let live = live_in (stored_map s r) (stored_words s) stored.stands h f holds in
      (live, face_of-is stored h live ∙ face_in_word (stored_map s r) (stored_words s) stored.stands h f holds)

  -- a live half edge stands in the word of its face
  pub stands_in_word : {s : Lists V DE UE F} {r : Removal} → IsStored s r → (h : ℕ) → IsLive (mesh_of s r).shape h
      → 0 < count_of h (word_of (stored_words s) (face_of (mesh_of s r).shape h))
  stands_in_word {s = s} {r = r} stored h live =
      rw (face_of-is stored h live) (stands_in_face (stored_map s r) (stored_words s) stored.stands h live)

  -- a face's anchor is a live half edge that lies on it
  pub face_anchor-lies : {s : Lists V DE UE F} {r : Removal} → IsStored s r → (f h : ℕ) → slice_index_or s.face_anchors f None ≡ Some h
      → IsLive (mesh_of s r).shape h × (face_of (mesh_of s r).shape h ≡ f)
  face_anchor-lies {s = s} {r = r} stored f h some = elim (cases_lt f (length s.face_data)) [
    | inl below ↦ word-lies stored h f (subst (AnchorsWord (word_of (stored_words s) f)) some (stored.face_anchored f below))
    | inr past ↦ let agree = stored.lengths.of_face_anchors in
        let none = get_or_past s.face_anchors f None (omega arith) in cc
  ]

-- what the store reads of a live half edge of the mesh m is the link, and live
module _ {V DE UE F : Type 0} {s : Lists V DE UE F} {r : Removal} {m : Mesh V DE UE F} (stored : IsStored s r) (is : mesh_of s r ≡ m)
    (h : ℕ) where
  pub next-read : IsLive m.shape h → (slice_index s.next h ≡ next_of m.shape h) × IsLive m.shape (slice_index s.next h)
  next-read live = let here = rw (← is) at live in rw (← is) (sym (next_of-is stored h here), next-live stored h here)

  pub prev-read : IsLive m.shape h → (slice_index s.prev h ≡ prev_of m.shape h) × IsLive m.shape (slice_index s.prev h)
  prev-read live = let here = rw (← is) at live in rw (← is) (sym (prev_of-is stored h here), prev-live stored h here)

  pub origin-read : IsLive m.shape h → (slice_index s.origin h ≡ origin_of m.shape h) × (vertex_is_live m.shape (slice_index s.origin h) ≡ true)
  origin-read live =
      let here = rw (← is) at live in rw (← is) (sym (origin_of-is s r h here), rw (← origin_of-is s r h here) (origin_of-live stored h here))
