-- A ring cut into ears in the stored lists, and what lies inside it given up: the lists hold the mesh with the hole filled.
use Rattle.std.proofs.Common.{◌≡◌, ◌≢◌, ◌↔◌, ℕ, suc, ◌+◌, ◌*◌, ◌<◌, ◌≤◌, Bool, true, List, [], ◌∷◌, ◌++◌, length, reverse, slice_index, Option, Some, None, IfSome, eq-eqb, refl, sym, ap, ◌∙◌, subst, arith}
use Rattle.std.proofs.lemmas.Bool.{false_from_ne_true}
use Rattle.std.proofs.lemmas.List.{get_or-set_other, get_or-set_same, length-append, length-set}
use Rattle.dcel_store.specs.Lists.{HasPlaces, Lists, LengthsAgree}
use Rattle.dcel_maps.specs.Hiding.{hiding}
use Rattle.dcel_maps.specs.Conditions.{HasRoom}
use Rattle.dcel_maps.specs.Removals.{Closed, Removal, gives_up_face, gives_up_vertex, is_this}
use Rattle.dcel_maps.specs.Shapes.{IsLive, IsMesh, Mesh, face_count, origin_of}
use Rattle.dcel_maps.specs.Words.{count_of}
use Rattle.dcel_maps.specs.edits.Fill.{anchors_round, ear_anchors, ring_filled}
use Rattle.dcel_maps.specs.edits.Strip.{each_set}
use Rattle.dcel_maps.proofs.removal.Ears.{length-anchors_round}
use Rattle.dcel_maps.proofs.removal.Hollows.{HollowOf}
use Rattle.dcel_maps.proofs.removal.RingItems.{item_live as items_live, items_once}
use Rattle.dcel_maps.proofs.removal.Hiding.{hiding-append, hiding-each, hiding-none, hiding-one}
use Rattle.dcel_maps.proofs.Liveness.{closed-vertex_live}
use Rattle.dcel_maps.proofs.words.Counts.{absent_head, count-later, count-same, count-reverse}
use Rattle.dcel_maps.proofs.words.EachSet.{length-each_set}
use Rattle.dcel_edits.specs.Fill.{CanGiveUp, CanPutEars, EarsPut, IsRingItem, begun_stored, closing, given_up, without_anchor}
use Rattle.dcel_edits.proofs.stored.Changes.{HoldsAdded, held_edges, held_faces, held_half, held_lists, held_mesh, held_removal, held_space, held_vertex}
use Rattle.dcel_edits.proofs.stored.Ears.{IsBegun, IsCut, ears_cut}
use Rattle.dcel_edits.proofs.stored.Filling.{EarsLinked, LeavesFilled, Linked, filled_holds, same_origins}
use Rattle.dcel_edits.proofs.stored.Held.{ListsMesh}
use Rattle.dcel_edits.proofs.stored.Holding.{Holds}

-- lists with other anchors link as before
same_link : {V DE UE F : Type 0} (u : Lists V DE UE F) (v : Option ℕ) (gone : List ℕ) (f a b : ℕ) → Linked u f a b → Linked (given_up u v gone) f a b
same_link u v gone f a b k = record { next = k.next; prev = k.prev; face = k.face }

ears_same_lists : {V DE UE F : Type 0} (u : Lists V DE UE F) (v : Option ℕ) (gone : List ℕ) (m g p q r : ℕ) (rest : List ℕ) → EarsLinked u m g p q r rest
    → EarsLinked (given_up u v gone) m g p q r rest
ears_same_lists u v gone m g p q r [] k = (same_link u v gone g p q k.0, same_link u v gone g q r k.1, same_link u v gone g r p k.2)
ears_same_lists u v gone m g p q r (x ∷ rest) k = (
  same_link u v gone g p q k.0,
  same_link u v gone g q (2 * m) k.1,
  same_link u v gone g (2 * m) p k.2,
  ears_same_lists u v gone (suc m) (suc g) (2 * m + 1) r x rest k.3,
)

-- a vertex, if there is one, loses its anchor
vertex_within : (v : Option ℕ) (n : ℕ) → ((w : ℕ) → is_this w v ≡ true → w < n) → IfSome v (λ w. w < n)
vertex_within None n below = tt
vertex_within (Some w) n below = below w (eq-eqb w w refl)

without_anchor-hides : (test : ℕ → Bool) (v : Option ℕ) (anchors : List (Option ℕ)) → ((w : ℕ) → test w ≡ is_this w v)
    → without_anchor anchors v ≡ hiding test None anchors
without_anchor-hides test None anchors gives = hiding-none test None anchors gives
without_anchor-hides test (Some v) anchors gives = hiding-one test None v anchors gives

length-without_anchor : (v : Option ℕ) (anchors : List (Option ℕ)) → length (without_anchor anchors v) ≡ length anchors
length-without_anchor None anchors = refl
length-without_anchor (Some v) anchors = length-set anchors v None

module _ {V DE UE F : Type 0} (s : Lists V DE UE F) (m : Mesh V DE UE F) (held : Holds s Closed m) (p q r : ℕ) (rest : List ℕ) (removal : Removal) (n : ℕ) (hole : HollowOf m.shape removal (p ∷ q ∷ r ∷ rest) n) where
  is_mesh : IsMesh m
  is_mesh = held_mesh s Closed m held

  -- the items of the ring are live and in range, and none stands there twice
  item_live : (h : ℕ) → 0 < count_of h (p ∷ q ∷ r ∷ rest) → IsLive m.shape h
  item_live = items_live m.shape removal p (q ∷ r ∷ rest) n hole

  ring_once : (h : ℕ) → count_of h (p ∷ q ∷ r ∷ rest) ≤ 1
  ring_once = items_once m.shape removal p (q ∷ r ∷ rest) n hole

  ring_in : (h : ℕ) → 0 < count_of h (p ∷ q ∷ r ∷ rest) → h < length s.next
  ring_in h found = held_half s Closed m held h (item_live h found)

  ring_item : (h : ℕ) → 0 < count_of h (p ∷ q ∷ r ∷ rest) → IsRingItem s h
  ring_item h found =
      let lists = held_lists s Closed m held in
      let live = item_live h found in
      record {
        edge_in = ring_in h found;
        origin_in = omega (arith, ring_in h found, lists.lengths.of_origin);
        start_in = subst (λ w. w < length s.vertex_anchors) (sym (lists.origin h live)) (held_vertex s Closed m held (origin_of m.shape h) (is_mesh.sound.starts_live h live));
      }

  -- where there are places for it, the ring can be cut into ears
  pub can_put_ears : (left : List ℕ) → rest ≡ reverse left → HasRoom m.shape 0 (length left) (length left + 1) → HasPlaces s 0 (length left) (length left + 1)
      → CanPutEars s p q r left
  can_put_ears left turned room places = record {
    space = held_space s Closed m held room places;
    first_in = ring_item p (omega (arith, count-same p (q ∷ r ∷ rest)));
    second_in = ring_item q (count-later q p (q ∷ r ∷ rest) (omega (arith, count-same q (r ∷ rest))));
    third_in = ring_item r (count-later r p (q ∷ r ∷ rest) (count-later r q (r ∷ rest) (omega (arith, count-same r rest))));
    items = λ h found.
        ring_item h (count-later h p (q ∷ r ∷ rest) (count-later h q (r ∷ rest) (count-later h r rest
        (omega (arith, found, count-reverse h left, ap (count_of h) turned)))));
  }

module _ {V DE UE F : Type 0} (is_half : DE → Type 0) (is_edge : UE → Type 0) (is_face : F → Type 0) (s u : Lists V DE UE F) (m : Mesh V DE UE F) (held : Holds s Closed m) (v : Option ℕ) (p q r : ℕ) (rest gone : List ℕ) (removal : Removal) (hole : HollowOf m.shape removal (p ∷ q ∷ r ∷ rest) (face_count m.shape + length rest)) (gives : (w : ℕ) → gives_up_vertex removal w ≡ is_this w v) (lists_faces : (f : ℕ) → (gives_up_face removal f ≡ true) ↔ (0 < count_of f gone)) (put : EarsPut is_half is_edge is_face (slice_index s.origin p) (begun_stored s p q (closing (length s.undirected_data) r rest)) p q r rest u) where
  mesh : IsMesh m
  mesh = held_mesh s Closed m held

  lists : ListsMesh s m
  lists = held_lists s Closed m held

  abbrev B : Lists V DE UE F
  B = begun_stored s p q (closing (length s.undirected_data) r rest)

  w : LengthsAgree s
  w = lists.lengths

  in_range : (h : ℕ) → 0 < count_of h (p ∷ q ∷ r ∷ rest) → h < length s.next
  in_range = ring_in s m held p q r rest removal (face_count m.shape + length rest) hole

  first_in : p < length s.next
  first_in = in_range p (omega (arith, count-same p (q ∷ r ∷ rest)))

  begun : IsBegun is_half is_edge is_face (slice_index s.origin p) B p q r rest
  begun =
      let k = closing (length s.undirected_data) r rest in
      let nexts = length-set s.next p q in
      record {
        lengths = record {
          of_vertex_anchors = w.of_vertex_anchors;
          of_next = nexts ∙ w.of_next;
          of_prev = omega (arith, nexts, length-set s.prev p k, w.of_prev);
          of_origin = omega (arith, nexts, w.of_origin);
          of_face = omega (arith, nexts, length-set s.face p (length s.face_data), w.of_face);
          of_directed_data = omega (arith, nexts, w.of_directed_data);
          of_face_anchors = w.of_face_anchors;
        };
        next = get_or-set_same s.next p q 0 first_in;
        prev = get_or-set_same s.prev p k 0 (omega (arith, first_in, w.of_prev));
        face = get_or-set_same s.face p (length s.face_data) 0 (omega (arith, first_in, w.of_face));
        items_in = λ h found. omega (arith, in_range h found, nexts);
        once = ring_once s m held p q r rest removal (face_count m.shape + length rest) hole;
      }

  cut : IsCut is_half is_edge is_face (slice_index s.origin p) B u p q r rest
  cut = ears_cut is_half is_edge is_face (slice_index s.origin p) rest B u p q r put begun

  -- what lies inside can be given up
  pub can_give_up : CanGiveUp u v gone
  can_give_up = record {
    vertex_in = vertex_within v (length u.vertex_anchors) (λ w this.
        let below = hole.within.vertices w (gives w ∙ this) in
        omega (
          arith,
          ap length cut.vertex_anchors,
          length-anchors_round (slice_index s.origin) (slice_index s.origin p) s.vertex_anchors (length s.undirected_data) p q r rest,
          held_vertex s Closed m held w (closed-vertex_live m.shape (held_removal s Closed m held) w below),
        ));
    faces_in = λ f found.
        let below = hole.within.faces f ((lists_faces f).1 found) in
        omega (arith, below.1, ap length cut.face_anchors, length-append s.face_anchors (ear_anchors (length s.undirected_data) p rest), w.of_face_anchors, held_faces s Closed m held);
  }

  abbrev after : Lists V DE UE F
  after = given_up u v gone

  origins : s.origin ≡ m.shape.origins
  origins = same_origins s m held

  many_edges : length s.undirected_data ≡ m.shape.edges
  many_edges = held_edges s Closed m held

  abbrev N : Mesh V DE UE F
  N = ring_filled m removal p q r rest cut.halves cut.edges cut.faces

  vertex_anchors : after.vertex_anchors ≡ N.vertex_anchors
  vertex_anchors =
      ap (λ a. without_anchor a v)
      (cut.vertex_anchors
      ∙ ap (λ (os : List ℕ). anchors_round (slice_index os) (slice_index os p) s.vertex_anchors (length s.undirected_data) p q r rest) origins
      ∙ ap (λ a. anchors_round (origin_of m.shape) (origin_of m.shape p) a (length s.undirected_data) p q r rest) lists.vertex_anchors
      ∙ ap (λ n. anchors_round (origin_of m.shape) (origin_of m.shape p) m.vertex_anchors n p q r rest) many_edges)
      ∙ without_anchor-hides (gives_up_vertex removal) v (anchors_round (origin_of m.shape) (origin_of m.shape p) m.vertex_anchors m.shape.edges p q r rest) gives

  face_anchors : after.face_anchors ≡ N.face_anchors
  face_anchors =
      ap (λ a. each_set (λ f. f) (λ f. None) a gone)
      (cut.face_anchors ∙ ap (λ a. a ++ ear_anchors (length s.undirected_data) p rest) lists.face_anchors ∙ ap (λ n. m.face_anchors ++ ear_anchors n p rest) many_edges)
      ∙ hiding-each (gives_up_face removal) None (λ f. f) gone (m.face_anchors ++ ear_anchors m.shape.edges p rest)
      (λ f. (λ given. (f, (lists_faces f).0 given, refl), λ (e, found, is). (lists_faces f).1 (subst (λ z. 0 < count_of z gone) is found)))
      ∙ hiding-append (gives_up_face removal) None m.face_anchors (ear_anchors m.shape.edges p rest) (λ f past.
      false_from_ne_true (gives_up_face removal f) (λ given.
      let below = hole.within.faces f given in
      omega (arith, past, below.1, mesh.sized.face_anchors)))

  off_first : (x : ℕ) → count_of x (p ∷ q ∷ r ∷ rest) ≡ 0 → x ≢ p
  off_first x none = absent_head x p (q ∷ r ∷ rest) none

  left : LeavesFilled s after m removal p q r rest cut.halves cut.edges cut.faces
  left = record {
    lengths = record {
      of_vertex_anchors = length-without_anchor v u.vertex_anchors ∙ cut.lengths.of_vertex_anchors;
      of_next = cut.lengths.of_next;
      of_prev = cut.lengths.of_prev;
      of_origin = cut.lengths.of_origin;
      of_face = cut.lengths.of_face;
      of_directed_data = cut.lengths.of_directed_data;
      of_face_anchors = length-each_set (λ f. f) (λ f. None) gone u.face_anchors ∙ cut.lengths.of_face_anchors;
    };
    ears = ears_same_lists u v gone (length s.undirected_data) (length s.face_data) p q r rest cut.ears;
    next = λ x within none.
        cut.next x (omega (arith, within, length-set s.next p q)) (omega (arith, none)) ∙ get_or-set_other s.next p x q 0 (off_first x none);
    prev = λ x within none.
        cut.prev x (omega (arith, within, length-set s.next p q)) (omega (arith, none))
        ∙ get_or-set_other s.prev p x (closing (length s.undirected_data) r rest) 0 (off_first x none);
    face = λ x within none.
        cut.face x (omega (arith, within, length-set s.next p q)) (omega (arith, none)) ∙ get_or-set_other s.face p x (length s.face_data) 0 (off_first x none);
    origin = cut.origin;
    vertex_anchors = vertex_anchors;
    face_anchors = face_anchors;
    has_data = record { vertex_data = cut.vertex_data; directed_data = cut.directed_data; undirected_data = cut.undirected_data; face_data = cut.face_data };
  }

  module _ (room : HasRoom m.shape 0 (length rest) (suc (length rest))) where
    holds_filled : Holds after removal N
    holds_filled =
        filled_holds s after m held p q r rest cut.halves cut.edges cut.faces removal hole left room cut.half_count cut.edge_count cut.face_count

    -- the writers leave the invariant, and the mesh with the hole filled
    pub opened_holds : HoldsAdded is_half is_edge is_face (length rest) (suc (length rest)) after removal
        (λ halves edges faces. ring_filled m removal p q r rest halves edges faces)
    opened_holds = record {
      stored = holds_filled.stored;
      edit = record {
        added = record {
          directed_data = cut.halves;
          undirected_data = cut.edges;
          face_data = cut.faces;
          directed_count = cut.half_count;
          undirected_count = cut.edge_count;
          face_data_count = cut.face_count;
        };
        directed_default = cut.half_default;
        undirected_default = cut.edge_default;
        face_default = cut.face_default;
        is = holds_filled.is;
      };
    }
