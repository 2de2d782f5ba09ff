-- What the writes leave that take a vertex out of a degenerate mesh holds the mesh without it.
use Rattle.std.proofs.Common.{◌≡◌, ◌≢◌, inl, inr, ◌/◌, ◌<◌, ◌≤◌, ℕ, true, List, [], ◌∷◌, length, map, slice_index, slice_index_or, slice_set, unwrap_or, Option, Some, None, eq-eqb, refl, sym, ap, ◌∙◌, subst, subst₂, arith}
use Rattle.std.proofs.lemmas.Bool.{cases_eq, ne_eqb}
use Rattle.std.proofs.lemmas.List.{ext_get_or, get_or-map, get_or-set_other, get_or-set_same, length-map, length-set}
use Rattle.dcel_fixed.specs.HalfEdges.{rev}
use Rattle.dcel_store.specs.Lists.{Lists, LengthsAgree}
use Rattle.dcel_edits.specs.Degenerate.{CanLoseDegenerate, CanLoseOnPath, CanUnlink, anchor_at, degenerate_out, going_from, path_stored, stand_in, unlinked}
use Rattle.dcel_edits.specs.TakingOut.{CanLoseEdge, CanLoseVertex, edge_out, vertex_out}
use Rattle.dcel_maps.specs.Degenerate.{CanRemoveDegenerate, IsPath}
use Rattle.dcel_maps.specs.edits.Degenerate.{anchor_instead, anchor_off, going, path_given_up, removed_degenerate, word_without}
use Rattle.dcel_maps.specs.Removals.{Closed, Removal, gives_up_edge, gives_up_vertex, shown}
use Rattle.dcel_maps.specs.Renumbering.{edge_taken_out, vertex_taken_out, without_edge}
use Rattle.dcel_maps.specs.Shapes.{AnchorsVertex, IsLive, IsMesh, Mesh, Shape, edge_is_live, end_of, face_of, map_of, next_of, origin_of, out_edge_of, prev_of, vertex_anchor}
use Rattle.dcel_maps.specs.theory.Cycles.{IsCycle}
use Rattle.dcel_maps.specs.theory.Standing.{Follows, Stands}
use Rattle.dcel_maps.specs.Walking.{IsOutEdge}
use Rattle.dcel_maps.specs.Words.{become, count_of, next_in_word, prev_in_word, word_of}
use Rattle.dcel_maps.proofs.Shown.{shown-kept}
use Rattle.dcel_maps.proofs.Liveness.{gives_up_edge-closed}
use Rattle.dcel_maps.proofs.maps.Halves.{rev_differs, rev_or_same}
use Rattle.dcel_maps.proofs.maps.Soundness.{rev_live}
use Rattle.dcel_maps.proofs.removal.DegenerateMeshes.{PathGone, alone, path_gone, path_out}
use Rattle.dcel_maps.proofs.removal.Hiding.{hiding-one}
use Rattle.dcel_maps.proofs.removal.PathCuts.{count-out_other, count-out_same, edge_kept, gives_one_vertex, origin-after, word-after}
use Rattle.dcel_maps.proofs.removal.Paths.{out_b}
use Rattle.dcel_maps.proofs.shapes.Maps.{map-sound}
use Rattle.dcel_maps.proofs.walks.Links.{links_stand}
use Rattle.dcel_maps.proofs.words.Paths.{IsCycle-weaker, next_in_word-follows, prev_in_word-leads}
use Rattle.dcel_maps.proofs.words.Reading.{Says, count-le, live_in, says, stands_in_face}
use Rattle.dcel_maps.proofs.words.Turns.{IsCycle-turn, from_least-turn}
use Rattle.dcel_edits.proofs.Unlinking.{Linked, cycle_past}
use Rattle.dcel_edits.proofs.stored.Changes.{held_face, held_half, held_lists, held_mesh, held_removal, held_vertex}
use Rattle.dcel_edits.proofs.stored.Held.{ListsMesh, lists_hold}
use Rattle.dcel_edits.proofs.stored.Holding.{Holds}
use Rattle.dcel_edits.proofs.stored.TakingOut.{lose_edge, lose_vertex}

-- where a map changes the items at w and v alone, it can be used at w, if the item at v is replaced
changed_at : {A : Type 0} (f : A → A) (d : A) (l : List A) (w v : ℕ) (z : A)
    → ((k : ℕ) → k < length l → k ≢ w → k ≢ v → f (slice_index_or l k d) ≡ slice_index_or l k d)
    → slice_set (slice_set l w (f (slice_index_or l w d))) v z ≡ slice_set (map f l) v z
changed_at f d l w v z kept =
    let item = f (slice_index_or l w d) in
    let long = length-set l w item in
    let long_left = length-set (slice_set l w item) v z in
    let long_right = length-set (map f l) v z in
    let mapped = length-map l f in
    ext_get_or d (slice_set (slice_set l w item) v z) (slice_set (map f l) v z) (omega (arith, long, long_left, long_right, mapped)) (λ k within.
    elim (cases_eq k v) [
      | inl is ↦
          ap (λ i. slice_index_or (slice_set (slice_set l w item) v z) i d) is
          ∙ get_or-set_same (slice_set l w item) v z d (omega (arith, within, is, long_left))
          ∙ sym (get_or-set_same (map f l) v z d (omega (arith, within, is, long_left, long, mapped)))
          ∙ sym (ap (λ i. slice_index_or (slice_set (map f l) v z) i d) is)
      | inr not_v ↦
          let below : k < length l = omega (arith, within, long_left, long) in
          let inside : slice_index_or (slice_set l w item) k d ≡ f (slice_index_or l k d) = elim (cases_eq k w) [
            | inl is ↦
                ap (λ i. slice_index_or (slice_set l w item) i d) is ∙ get_or-set_same l w item d (omega (arith, below, is))
                ∙ sym (ap (λ i. f (slice_index_or l i d)) is)
            | inr not_w ↦ get_or-set_other l w k item d not_w ∙ sym (kept k below not_w not_v)
          ] in
          get_or-set_other (slice_set l w item) v k z d not_v ∙ inside ∙ sym (get_or-map f l k d d below)
          ∙ sym (get_or-set_other (map f l) v k z d not_v)
    ])

-- and where there is one item, at that
changed_first : {A : Type 0} (f : A → A) (d : A) (l : List A) → length l ≡ 1 → slice_set l 0 (f (slice_index_or l 0 d)) ≡ map f l
changed_first f d [] one = absurd (omega (arith, one))
changed_first f d (x ∷ []) one = refl
changed_first f d (x ∷ y ∷ r) one = absurd (omega (arith, one))

some_anchor : (s : Shape) (v : ℕ) (o : Option ℕ) → AnchorsVertex s v o → (x : ℕ) → IsOutEdge s v x → o ≢ None
some_anchor s v o anchors x out none = subst (AnchorsVertex s v) none anchors x out.live out.start

module _ {V DE UE F : Type 0} {s : Lists V DE UE F} {r : Removal} {m : Mesh V DE UE F} (held : Holds s r m) (v : ℕ) (can : CanRemoveDegenerate m.shape v) where
  mesh : IsMesh m
  mesh = held_mesh s r m held

  lists : ListsMesh s m
  lists = held_lists s r m held

  vertices : length s.vertex_data ≡ m.shape.vertices
  vertices = ap length lists.vertex_data ∙ mesh.sized.vertex_data

  module _ (some : m.shape.vertices ≢ 1) (path : IsPath m.shape) where
    abbrev a : ℕ
    a = out_edge_of m v

    abbrev b : ℕ
    b = going m v

    abbrev w : ℕ
    w = end_of m.shape (going m v)

    abbrev N : Mesh V DE UE F
    N = path_given_up m v

    abbrev t : Shape
    t = N.shape

    gone : PathGone m v mesh can path
    gone = path_gone m v mesh can path some

    out : IsOutEdge m.shape v a
    out = path_out m v mesh can path

    b_out : IsOutEdge m.shape v b
    b_out = out_b m.shape mesh.sound mesh.sphere path v a can.within out

    rev_b_live : IsLive m.shape (rev b)
    rev_b_live = rev_live (map_of m.shape) b b_out.live

    -- the numbers that are read are those of the mesh
    read_a : anchor_at s v ≡ a
    read_a = ap (λ l. unwrap_or (slice_index_or l v None) 0) lists.vertex_anchors

    read_b : going_from s v ≡ b
    read_b = ap rev (ap (slice_index s.prev) read_a ∙ lists.prev a out.live)

    read_w : slice_index s.origin (rev (going_from s v)) ≡ w
    read_w = ap (λ x. slice_index s.origin (rev x)) read_b ∙ lists.origin (rev b) rev_b_live

    read_next : slice_index s.next a ≡ next_of m.shape a
    read_next = lists.next a out.live

    read_instead : stand_in s (anchor_at s v) (going_from s v) ≡ anchor_instead m v
    read_instead = rw (read_b, read_a, read_next, vertices) refl

    -- the lists written out
    abbrev nexts : List ℕ
    nexts = slice_set s.next (slice_index s.prev b) (slice_index s.next b)

    abbrev prevs : List ℕ
    prevs = slice_set s.prev (slice_index s.next b) (slice_index s.prev b)

    abbrev off : Option ℕ → Option ℕ
    off = anchor_off (going m v / 2) (anchor_instead m v)

    abbrev written : Lists V DE UE F
    written = record s {
      next = slice_set nexts (slice_index prevs (rev b)) (slice_index nexts (rev b));
      prev = slice_set prevs (slice_index nexts (rev b)) (slice_index prevs (rev b));
      origin = slice_set s.origin a w;
      vertex_anchors = slice_set (slice_set s.vertex_anchors w (off (slice_index_or s.vertex_anchors w None))) v None;
      face_anchors = slice_set s.face_anchors 0 (off (slice_index_or s.face_anchors 0 None));
    }

    written_is : path_stored s v ≡ written
    written_is = rw (read_instead, read_w, read_b, read_a) refl

    long_nexts : length nexts ≡ length s.next
    long_nexts = length-set s.next (slice_index s.prev b) (slice_index s.next b)

    long_prevs : length prevs ≡ length s.prev
    long_prevs = length-set s.prev (slice_index s.next b) (slice_index s.prev b)

    -- the links lead round the word, round it without b, and round it without both halves
    abbrev word : List ℕ
    word = word_of m.shape.words 0

    abbrev half_left : List ℕ
    half_left = become b [] word

    stands : Stands (map_of m.shape) m.shape.words
    stands = links_stand mesh.sound

    in_word : (x : ℕ) → 0 < count_of x word → IsLive m.shape x
    in_word x found = live_in (map_of m.shape) m.shape.words stands x 0 found

    on_word : (x : ℕ) → IsLive m.shape x → 0 < count_of x word
    on_word x live =
        let outer : face_of m.shape x ≡ 0 = omega (arith, (map-sound mesh.sound).below_faces x live, path.one_face) in
        subst (λ f. 0 < count_of x (word_of m.shape.words f)) outer (stands_in_face (map_of m.shape) m.shape.words stands x live)

    once : (x : ℕ) → count_of x word ≤ 1
    once x = count-le (map_of m.shape) m.shape.words stands x 0

    still : (x : ℕ) → count_of x half_left ≤ count_of x word
    still x = elim (cases_eq x b) [
      | inl is ↦ omega (arith, ap (λ z. count_of z half_left) is, count-out_same b word)
      | inr other ↦ omega (arith, count-out_other x b word other)
    ]

    within : (x : ℕ) → IsLive m.shape x → (x < length s.next) × (x < length s.prev)
    within x live = let below = held_half s r m held x live in (below, omega (arith, below, lists.lengths.of_prev))

    around : IsCycle (Linked s.next s.prev) word
    around =
        IsCycle-weaker (Follows (map_of m.shape) 0) (Linked s.next s.prev) word
        (λ p q p_in q_in link. record {
          next = lists.next p link.live ∙ link.next;
          prev = lists.prev q (in_word q q_in) ∙ link.prev;
        })
        (stands.cycles 0 mesh.sized.outer)

    past_one : IsCycle (Linked nexts prevs) half_left
    past_one = cycle_past s.next s.prev b word around once (λ x found. within x (in_word x found)) (on_word b b_out.live)

    past_both : IsCycle (Linked written.next written.prev) (word_without m.shape b)
    past_both =
        IsCycle-turn (Linked written.next written.prev) (from_least-turn (become (rev b) [] half_left))
        (cycle_past nexts prevs (rev b) half_left past_one (λ x. omega (arith, once x, still x))
        (λ x found.
        let (next_in, prev_in) = within x (in_word x (omega (arith, found, still x))) in
        (omega (arith, next_in, long_nexts), omega (arith, prev_in, long_prevs)))
        (omega (arith, on_word (rev b) rev_b_live, count-out_other (rev b) b word (rev_differs b))))

    -- a half edge that is live stands in the word that is left
    said : (x : ℕ) → IsLive t x → Says x t.words
    said x live = says x t.words (omega (arith, gone.given_up.sound.once x live))

    one_word : length t.words ≡ 1
    one_word = length-set m.shape.words 0 (word_without m.shape b) ∙ path.one_face

    word_left : word_of t.words 0 ≡ word_without m.shape b
    word_left = word-after m.shape v a b can.closed path.one_face

    outer_left : (x : ℕ) → IsLive t x → face_of t x ≡ 0
    outer_left x live = omega (arith, (said x live).within, one_word)

    left_word : (x : ℕ) → IsLive t x → word_of t.words (face_of t x) ≡ word_without m.shape b
    left_word x live = ap (word_of t.words) (outer_left x live) ∙ word_left

    stands_left : (x : ℕ) → IsLive t x → 0 < count_of x (word_without m.shape b)
    stands_left x live = subst (λ l. 0 < count_of x l) (left_word x live) (said x live).holds

    was_live : (x : ℕ) → IsLive t x → IsLive m.shape x
    was_live x live = elim (cases_eq (x / 2) (b / 2)) [
      | inl same ↦ subst (λ u. edge_is_live m.shape u ≡ true) (sym same) b_out.live
      | inr other ↦ sym (edge_kept m.shape v a b can.closed path.one_face (x / 2) other) ∙ live
    ]

    origins : s.origin ≡ m.shape.origins
    origins =
        sym (shown-kept (gives_up_edge m.shape.removal) s.origin (λ u. ap (λ q. gives_up_edge q u) can.closed ∙ gives_up_edge-closed u))
        ∙ lists.shown_origins

    written_origins : slice_set s.origin a w ≡ slice_set m.shape.origins a w
    written_origins = ap (λ l. slice_set l a w) origins

    -- an anchor of another vertex than v and w is no half of the edge that goes
    kept_anchor : (k : ℕ) (o : Option ℕ) → AnchorsVertex m.shape k o → k ≢ w → k ≢ v → off o ≡ o
    kept_anchor k None bare not_w not_v = refl
    kept_anchor k (Some x) anchors not_w not_v =
        rw (ne_eqb (x / 2) (b / 2) (λ same. elim (rev_or_same x b same) [
          | inl is ↦ not_v (sym anchors.1 ∙ ap (origin_of m.shape) is ∙ b_out.start)
          | inr is ↦ not_w (sym anchors.1 ∙ ap (origin_of m.shape) is)
        ])) refl

    vertex_anchors : written.vertex_anchors ≡ N.vertex_anchors
    vertex_anchors =
        ap (λ l. slice_set (slice_set l w (off (slice_index_or l w None))) v None) lists.vertex_anchors
        ∙ changed_at off None m.vertex_anchors w v None
        (λ k below not_w not_v.
        kept_anchor k (vertex_anchor m k) (mesh.anchored.vertices k (omega (arith, below, mesh.sized.vertex_anchors))) not_w not_v)
        ∙ hiding-one (gives_up_vertex t.removal) None v (map off m.vertex_anchors) (gives_one_vertex (b / 2) v)

    face_anchors : written.face_anchors ≡ N.face_anchors
    face_anchors =
        ap (λ l. slice_set l 0 (off (slice_index_or l 0 None))) lists.face_anchors
        ∙ changed_first off None m.face_anchors (mesh.sized.face_anchors ∙ path.one_face)

    written_lengths : LengthsAgree written
    written_lengths =
        let k = lists.lengths in
        let mended = slice_set s.vertex_anchors w (off (slice_index_or s.vertex_anchors w None)) in
        let long = length-set nexts (slice_index prevs (rev b)) (slice_index nexts (rev b)) in
        record {
          of_vertex_anchors = omega (
            arith,
            k.of_vertex_anchors,
            length-set mended v None,
            length-set s.vertex_anchors w (off (slice_index_or s.vertex_anchors w None)),
          );
          of_next = omega (arith, k.of_next, long, long_nexts);
          of_prev = omega (arith, k.of_prev, long, long_nexts, long_prevs, length-set prevs (slice_index nexts (rev b)) (slice_index prevs (rev b)));
          of_origin = omega (arith, k.of_origin, long, long_nexts, length-set s.origin a w);
          of_face = omega (arith, k.of_face, long, long_nexts);
          of_directed_data = omega (arith, k.of_directed_data, long, long_nexts);
          of_face_anchors = omega (arith, k.of_face_anchors, length-set s.face_anchors 0 (off (slice_index_or s.face_anchors 0 None)));
        }

    written_lists : ListsMesh written N
    written_lists = record {
      lengths = written_lengths;
      links = record {
        next = λ x live.
            (next_in_word-follows (Linked written.next written.prev) (word_without m.shape b) past_both x (stands_left x live)).next
            ∙ sym ((said x live).next ∙ ap (next_in_word x) (left_word x live));
        prev = λ x live.
            (prev_in_word-leads (Linked written.next written.prev) (word_without m.shape b) past_both x (stands_left x live)).prev
            ∙ sym ((said x live).prev ∙ ap (prev_in_word x) (left_word x live));
        origin = λ x live.
            ap (λ l. slice_index l x) written_origins ∙ sym (origin-after m.shape v a b can.closed path.one_face x live);
        face = λ x live.
            let was = was_live x live in
            lists.face x was ∙ omega (arith, (map-sound mesh.sound).below_faces x was, path.one_face, outer_left x live);
      };
      shown_origins = ap (shown (gives_up_edge t.removal)) written_origins;
      vertex_anchors = vertex_anchors;
      face_anchors = face_anchors;
      has_data = record {
        vertex_data = lists.vertex_data;
        directed_data = lists.directed_data;
        undirected_data = lists.undirected_data;
        face_data = lists.face_data;
      };
    }

    given_up_holds : Holds (path_stored s v) t.removal (path_given_up m v)
    given_up_holds = rw written_is (lists_hold written N gone.given_up written_lists)

    without_holds : Holds (edge_out (path_stored s v) (b / 2)) (without_edge t.removal (b / 2)) (edge_taken_out (path_given_up m v) (going m v / 2))
    without_holds = (lose_edge given_up_holds (b / 2) gone.edge).1

    edge_is : b / 2 ≡ going_from s v / 2
    edge_is = sym (ap (λ x. x / 2) read_b)

    -- both are out, and the lists hold the mesh without them
    path_out_holds : Holds (vertex_out (edge_out (path_stored s v) (going_from s v / 2)) v) Closed (vertex_taken_out (edge_taken_out (path_given_up m v) (going m v / 2)) v)
    path_out_holds =
        subst (λ u. Holds (vertex_out (edge_out (path_stored s v) u) v) Closed (vertex_taken_out (edge_taken_out (path_given_up m v) (going m v / 2)) v))
        edge_is ((lose_vertex without_holds v gone.vertex).1)

    -- the links of an item lead to items
    links_between : IsCycle (λ p q. Linked nexts prevs p q × (0 < count_of p half_left) × (0 < count_of q half_left)) half_left
    links_between =
        IsCycle-weaker (Linked nexts prevs) (λ p q. Linked nexts prevs p q × (0 < count_of p half_left) × (0 < count_of q half_left)) half_left
        (λ p q p_in q_in link. (link, p_in, q_in)) past_one

    item_in : (x : ℕ) → 0 < count_of x half_left → x < length nexts
    item_in x found = omega (arith, (within x (in_word x (omega (arith, found, still x)))).0, long_nexts)

    can_unlink : CanUnlink s b
    can_unlink =
        let sound = map-sound mesh.sound in
        record {
          edge_in = (within b b_out.live).0;
          next_in = rw (lists.next b b_out.live) (within (next_of m.shape b) (sound.live_next b b_out.live)).0;
          prev_in = rw (lists.prev b b_out.live) (within (prev_of m.shape b) (sound.live_prev b b_out.live)).0;
        }

    can_unlink_other : CanUnlink (unlinked s b) (rev b)
    can_unlink_other =
        let there : 0 < count_of (rev b) half_left = omega (arith, on_word (rev b) rev_b_live, count-out_other (rev b) b word (rev_differs b)) in
        let after = next_in_word-follows (λ p q. Linked nexts prevs p q × (0 < count_of p half_left) × (0 < count_of q half_left)) half_left links_between (rev b) there in
        let before = prev_in_word-leads (λ p q. Linked nexts prevs p q × (0 < count_of p half_left) × (0 < count_of q half_left)) half_left links_between (rev b) there in
        record {
          edge_in = item_in (rev b) there;
          next_in = rw after.0.next (item_in (next_in_word (rev b) half_left) after.2);
          prev_in = rw before.0.prev (item_in (prev_in_word (rev b) half_left) before.1);
        }

    can_lose_on_path : CanLoseOnPath s v
    can_lose_on_path = record {
      given_up = record {
        vertex_in = omega (arith, can.within, ap length lists.vertex_anchors, mesh.sized.vertex_anchors);
        anchored = λ none.
            some_anchor m.shape v (vertex_anchor m v) (mesh.anchored.vertices v can.within) a out
            (ap (λ l. slice_index_or l v None) (sym lists.vertex_anchors) ∙ none);
        anchor_in = rw read_a (within a out.live).0;
        going = rw read_b can_unlink;
        coming = rw read_b can_unlink_other;
        end_in = rw read_w (held_vertex s r m held w (mesh.sound.starts_live (rev b) rev_b_live));
        outer_in = held_face s r m held 0 mesh.sized.outer;
      };
      edge = subst (CanLoseEdge (path_stored s v)) edge_is ((lose_edge given_up_holds (b / 2) gone.edge).0);
      vertex = subst (λ u. CanLoseVertex (edge_out (path_stored s v) u) v) edge_is ((lose_vertex without_holds v gone.vertex).0);
    }

  pub can_lose_degenerate : CanLoseDegenerate s v
  can_lose_degenerate = record {
    alone = λ one. (lose_vertex held v (alone m v mesh can (sym vertices ∙ one))).0;
    on_path = λ some. elim can.shape [
      | inl one ↦ absurd (some (vertices ∙ one))
      | inr path ↦ can_lose_on_path (λ one. some (vertices ∙ one)) path
    ];
  }

  removed_holds : Holds (degenerate_out s v) Closed (removed_degenerate m v)
  removed_holds = elim (cases_eq m.shape.vertices 1) [
    | inl one ↦
        rw (eq-eqb (length s.vertex_data) 1 (vertices ∙ one), eq-eqb m.shape.vertices 1 one)
        ((lose_vertex held v (alone m v mesh can one)).1)
    | inr some ↦
        rw (ne_eqb (length s.vertex_data) 1 (λ one. some (sym vertices ∙ one)), ne_eqb m.shape.vertices 1 some)
        (elim can.shape [ inl one ↦ absurd (some one) | inr path ↦ path_out_holds some path ])
  ]

  -- no removal is open, before and after
  pub degenerate_out_holds : {t : Lists V DE UE F} → t ≡ degenerate_out s v → Holds t r (removed_degenerate m v)
  degenerate_out_holds is =
      subst₂ (λ (u : Lists V DE UE F) q. Holds u q (removed_degenerate m v)) (sym is) (sym can.closed ∙ held_removal s r m held) removed_holds
