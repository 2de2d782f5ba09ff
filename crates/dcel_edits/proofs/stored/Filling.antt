-- Lists that are written as the hole of a vertex is filled hold the mesh with the hole filled.
use Rattle.std.proofs.Common.{◌≡◌, inl, inr, ◌+◌, ◌-◌, ◌*◌, ◌/◌, ◌<◌, ◌≤◌, ℕ, Bool, zero, suc, cond, false, List, [], ◌∷◌, ◌++◌, length, slice_index, sym, refl, ap, ◌∙◌, subst, arith}
use Rattle.std.proofs.lemmas.Bool.{cases_lt, false_from_ne_true}
use Rattle.std.proofs.lemmas.List.{ext_get_or, get_or-append-add, get_or_append_left, length-append}
use Rattle.dcel_store.specs.Lists.{Lists, LengthsAgree}
use Rattle.dcel_maps.specs.Conditions.{HasRoom}
use Rattle.dcel_maps.specs.Maps.{Live, Map}
use Rattle.dcel_maps.specs.Removals.{Closed, Removal, gives_up_edge, shown}
use Rattle.dcel_maps.specs.Shapes.{IsLive, IsMesh, Mesh, Shape, face_count, face_of, map_of, origin_of}
use Rattle.dcel_maps.specs.edits.Fill.{ear_origins, ring_filled}
use Rattle.dcel_maps.specs.theory.Sound.{Sound}
use Rattle.dcel_maps.specs.Words.{count_of}
use Rattle.dcel_maps.proofs.Shown.{length-shown, shown_from-kept, slice_index-shown, slice_index-shown_live}
use Rattle.dcel_maps.proofs.Liveness.{gives_up_edge-closed, is_live-parts}
use Rattle.dcel_maps.proofs.maps.Triangles.{IsTriangleOf, by_triangle, off_triangle}
use Rattle.dcel_maps.proofs.removal.Ears.{ring_in_ears}
use Rattle.dcel_maps.proofs.removal.Fans.{EarTriangles}
use Rattle.dcel_maps.proofs.removal.Filled.{ears_held, face_held, filled-sound, given_below, new_or_held, words_long}
use Rattle.dcel_maps.proofs.removal.FilledMeshes.{ring_filled-mesh}
use Rattle.dcel_maps.proofs.removal.Hollows.{HollowOf}
use Rattle.dcel_maps.proofs.shapes.Maps.{map-sound}
use Rattle.dcel_edits.proofs.stored.Changes.{held_edges, held_faces, held_lists, held_mesh, held_removal}
use Rattle.dcel_edits.proofs.stored.Held.{ListsMesh, lists_hold, HasData}
use Rattle.dcel_edits.proofs.stored.Holding.{Holds}

-- the stored links lead from a to b on the face f
pub record Linked {V DE UE F : Type 0} (u : Lists V DE UE F) (f a b : ℕ) : Type 0 where
  pub next : slice_index u.next a ≡ b
  pub prev : slice_index u.prev b ≡ a
  pub face : slice_index u.face a ≡ f

-- and round each ear
abbrev pub EarsLinked : {V DE UE F : Type 0} → Lists V DE UE F → ℕ → ℕ → ℕ → ℕ → ℕ → List ℕ → Type 0
EarsLinked u m g p q r [] = Linked u g p q × Linked u g q r × Linked u g r p
EarsLinked u m g p q r (x ∷ rest) =
    Linked u g p q × Linked u g q (2 * m) × Linked u g (2 * m) p × EarsLinked u (suc m) (suc g) (2 * m + 1) r x rest

-- the links of one half edge are those of the map
pub record SameLinks {V DE UE F : Type 0} (u : Lists V DE UE F) (M : Map) (x : ℕ) : Type 0 where
  pub next : slice_index u.next x ≡ M.next x
  pub prev : slice_index u.prev x ≡ M.prev x
  pub face : slice_index u.face x ≡ M.face x

module _ {V DE UE F : Type 0} (u : Lists V DE UE F) (M : Map) (sound : Sound M) where
  -- round a triangle, which is all of its face
  triangle_same : (f a b c : ℕ) → IsTriangleOf M f a b c → Linked u f a b → Linked u f b c → Linked u f c a
      → (x : ℕ) → Live M x → M.face x ≡ f → SameLinks u M x
  triangle_same f a b c t ab bc ca x live at =
      by_triangle (SameLinks u M) a b c x (
        record { next = ab.next ∙ sym t.next_x; prev = ca.prev ∙ sym t.prev_x; face = ab.face ∙ sym t.face_x },
        record { next = bc.next ∙ sym t.next_y; prev = ab.prev ∙ sym t.prev_y; face = bc.face ∙ sym t.face_y },
        record { next = ca.next ∙ sym t.next_z; prev = bc.prev ∙ sym t.prev_z; face = ca.face ∙ sym t.face_z },
      )
      (λ off. absurd (off_triangle M sound f a b c t x live off at))

  ears_same : (m g p q r : ℕ) (rest : List ℕ) → EarTriangles M m g p q r rest → EarsLinked u m g p q r rest → (x i : ℕ) → Live M x → M.face x ≡ g + i
      → i < suc (length rest) → SameLinks u M x
  ears_same m g p q r [] t left x zero live at within = triangle_same g p q r t left.0 left.1 left.2 x live (omega (arith, at))
  ears_same m g p q r [] t left x (suc i) live at within = absurd (omega (arith, within))
  ears_same m g p q r (y ∷ rest) t left x zero live at within = triangle_same g p q (2 * m) t.0 left.0 left.1 left.2 x live (omega (arith, at))
  ears_same m g p q r (y ∷ rest) t left x (suc i) live at within =
      ears_same (suc m) (suc g) (2 * m + 1) r y rest t.1 left.3 x i live (omega (arith, at)) (omega (arith, within))

-- origins put at the end show, where their edges are not given up
shown-append : (g : ℕ → Bool) (vs us : List ℕ) (m : ℕ) → length vs ≡ 2 * m → ((n : ℕ) → m ≤ n → g n ≡ false) → shown g (vs ++ us) ≡ shown g vs ++ us
shown-append g vs us m long kept =
    let all = length-shown g (vs ++ us) in
    let old = length-shown g vs in
    ext_get_or 0 (shown g (vs ++ us)) (shown g vs ++ us) (omega (arith, all, old, length-append vs us, length-append (shown g vs) us)) (λ i within.
    elim (cases_lt i (2 * m)) [
      | inl below ↦
          slice_index-shown g (vs ++ us) i ∙ ap (cond (g (i / 2)) 0) (get_or_append_left vs us 0 i (omega (arith, below, long)))
          ∙ sym (get_or_append_left (shown g vs) us 0 i (omega (arith, below, long, old)) ∙ slice_index-shown g vs i)
      | inr past ↦
          let j = i - 2 * m in
          let place : length vs + j ≡ i = omega (arith, past, long) in
          let place_shown : length (shown g vs) + j ≡ i = omega (arith, past, long, old) in
          slice_index-shown_live g (vs ++ us) i (kept (i / 2) (omega (arith, past)))
          ∙ ap (slice_index (vs ++ us)) (sym place) ∙ get_or-append-add vs us j 0
          ∙ sym (ap (slice_index (shown g vs ++ us)) (sym place_shown) ∙ get_or-append-add (shown g vs) us j 0)
    ])

-- with a closed record all origins show
pub same_origins : {V DE UE F : Type 0} (s : Lists V DE UE F) (m : Mesh V DE UE F) → Holds s Closed m → s.origin ≡ m.shape.origins
same_origins s m held =
    let closed = held_removal s Closed m held in
    sym (shown_from-kept (gives_up_edge m.shape.removal) 0 s.origin (λ n past. ap (λ rec. gives_up_edge rec n) closed ∙ gives_up_edge-closed n))
    ∙ (held_lists s Closed m held).shown_origins

-- s is before and u after: the links round the ears, all others as they were, and the anchors and data of the edit. Links of given-up
-- half edges are no part of it.
pub record LeavesFilled {V DE UE F : Type 0} (s u : Lists V DE UE F) (m : Mesh V DE UE F) (removal : Removal) (p q r : ℕ) (rest : List ℕ) (halves : List DE) (edges : List UE) (faces : List F) : Type 0 where
  pub lengths : LengthsAgree u
  pub ears : EarsLinked u (length s.undirected_data) (length s.face_data) p q r rest
  pub next : (x : ℕ) → x < length s.next → count_of x (p ∷ q ∷ r ∷ rest) ≡ 0 → slice_index u.next x ≡ slice_index s.next x
  pub prev : (x : ℕ) → x < length s.next → count_of x (p ∷ q ∷ r ∷ rest) ≡ 0 → slice_index u.prev x ≡ slice_index s.prev x
  pub face : (x : ℕ) → x < length s.next → count_of x (p ∷ q ∷ r ∷ rest) ≡ 0 → slice_index u.face x ≡ slice_index s.face x
  pub origin : u.origin ≡ s.origin ++ ear_origins (slice_index s.origin) (slice_index s.origin p) r rest
  pub vertex_anchors : u.vertex_anchors ≡ (ring_filled m removal p q r rest halves edges faces).vertex_anchors
  pub face_anchors : u.face_anchors ≡ (ring_filled m removal p q r rest halves edges faces).face_anchors
  pub has_data : HasData u s.vertex_data (s.directed_data ++ halves) (s.undirected_data ++ edges) (s.face_data ++ faces)
  pub open has_data use *

module _ {V DE UE F : Type 0} (s u : Lists V DE UE F) (m : Mesh V DE UE F) (held : Holds s Closed m) (p q r : ℕ) (rest : List ℕ) (halves : List DE) (edges : List UE) (faces : List F) (removal : Removal) (hole : HollowOf m.shape removal (p ∷ q ∷ r ∷ rest) (face_count m.shape + length rest)) (left : LeavesFilled s u m removal p q r rest halves edges faces) where
  mesh : IsMesh m
  mesh = held_mesh s Closed m held

  lists : ListsMesh s m
  lists = held_lists s Closed m held

  closed : m.shape.removal ≡ Closed
  closed = held_removal s Closed m held

  abbrev t : Shape
  t = (ring_filled m removal p q r rest halves edges faces).shape

  sound : Sound (map_of t)
  sound = map-sound (filled-sound m p q r rest halves edges faces mesh closed removal hole)

  triangles : EarTriangles (map_of t) m.shape.edges (face_count m.shape) p q r rest
  triangles = ears_held m p q r rest halves edges faces mesh closed removal hole

  many_edges : length s.undirected_data ≡ m.shape.edges
  many_edges = held_edges s Closed m held

  many_faces : length s.face_data ≡ face_count m.shape
  many_faces = held_faces s Closed m held

  links : (x : ℕ) → IsLive t x → SameLinks u (map_of t) x
  links x live = elim (new_or_held m p q r rest halves edges faces mesh closed removal hole x live) [
    | inl above ↦
        let below = sound.below_faces x live in
        ears_same u (map_of t) sound m.shape.edges (face_count m.shape) p q r rest triangles
        (subst (λ n. EarsLinked u n (face_count m.shape) p q r rest) many_edges
        (subst (λ g. EarsLinked u (length s.undirected_data) g p q r rest) many_faces left.ears))
        x (face_of t x - face_count m.shape) live (omega (arith, above))
        (omega (arith, above, below, words_long m p q r rest halves edges faces mesh closed removal hole))
    | inr (below, kept) ↦
        let keeps = face_held m p q r rest halves edges faces mesh closed removal hole (face_of t x) below kept in
        let (was, at) = keeps.comes x live refl in
        let in_range : x < length s.next = let e = (map-sound mesh.sound).below_edges x was in omega (arith, e, many_edges, lists.lengths.of_next) in
        let off : count_of x (p ∷ q ∷ r ∷ rest) ≡ 0 =
        elim (cases_lt 0 (count_of x (p ∷ q ∷ r ∷ rest))) [
          | inl found ↦
              let above = ring_in_ears (map_of t) m.shape.edges (face_count m.shape) p q r rest triangles x found in
              absurd (omega (arith, above, below))
          | inr not ↦ omega (arith, not)
        ] in
        record {
          next = left.next x in_range off ∙ lists.next x was ∙ sym (keeps.next x was at);
          prev = left.prev x in_range off ∙ lists.prev x was ∙ sym (keeps.prev x was at);
          face = left.face x in_range off ∙ lists.face x was ∙ at;
        }
  ]

  not_given : (n : ℕ) → m.shape.edges ≤ n → gives_up_edge removal n ≡ false
  not_given n past = false_from_ne_true (gives_up_edge removal n) (λ given.
      let below = given_below m p q r rest halves edges faces mesh closed removal hole n given in omega (arith, past, below))

  old_origins : s.origin ≡ m.shape.origins
  old_origins = same_origins s m held

  shown_origins : shown (gives_up_edge removal) u.origin ≡ t.origins
  shown_origins =
      ap (shown (gives_up_edge removal)) left.origin
      ∙ shown-append (gives_up_edge removal) s.origin (ear_origins (slice_index s.origin) (slice_index s.origin p) r rest) m.shape.edges
      (omega (arith, lists.lengths.of_origin, lists.lengths.of_next, many_edges)) not_given
      ∙ ap (λ (os : List ℕ). shown (gives_up_edge removal) os ++ ear_origins (slice_index os) (slice_index os p) r rest) old_origins

  origin : (x : ℕ) → IsLive t x → slice_index u.origin x ≡ origin_of t x
  origin x live =
      let parts = is_live-parts (gives_up_edge removal) t.edges (x / 2) live in
      sym (slice_index-shown_live (gives_up_edge removal) u.origin x parts.1) ∙ ap (λ os. slice_index os x) shown_origins

  module _ (room : HasRoom m.shape 0 (length rest) (suc (length rest))) (half_count : length halves ≡ 2 * length rest) (edge_count : length edges ≡ length rest) (new_faces : length faces ≡ suc (length rest)) where
    -- such lists hold the mesh with the hole filled
    pub filled_holds : Holds u removal (ring_filled m removal p q r rest halves edges faces)
    filled_holds =
        lists_hold u (ring_filled m removal p q r rest halves edges faces)
        (ring_filled-mesh m p q r rest halves edges faces mesh closed removal hole room half_count edge_count new_faces)
        record {
          lengths = left.lengths;
          links = record { next = λ x live. (links x live).next; prev = λ x live. (links x live).prev; origin = origin; face = λ x live. (links x live).face };
          shown_origins = shown_origins;
          vertex_anchors = left.vertex_anchors;
          face_anchors = left.face_anchors;
          has_data = record {
            vertex_data = left.vertex_data ∙ lists.vertex_data;
            directed_data = left.directed_data ∙ ap (λ d. d ++ halves) lists.directed_data;
            undirected_data = left.undirected_data ∙ ap (λ d. d ++ edges) lists.undirected_data;
            face_data = left.face_data ∙ ap (λ d. d ++ faces) lists.face_data;
          };
        }
