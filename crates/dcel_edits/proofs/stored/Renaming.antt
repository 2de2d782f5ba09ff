-- What the writes leave that exchange two vertices holds the mesh where they are swapped.
use Rattle.std.proofs.Common.{◌≡◌, ◌≢◌, inl, inr, ℕ, ◌*◌, ◌/◌, ◌%◌, ◌<◌, true, List, length, slice_index, Some, refl, sym, ap, ◌∙◌, subst, arith}
use Rattle.dcel_edits.proofs.stored.Rounds.{all_set-away, all_set-here, anchor_comes_back, length-all_set, round-from}
use Rattle.std.specs.Prelude.{swap}
use Rattle.std.proofs.lemmas.Bool.{cases_eq, cases_lt, cases_Bool}
use Rattle.std.proofs.lemmas.List.{ext_get_or}
use Rattle.std.proofs.lemmas.List.Edits.{length-swap}
use Rattle.dcel_fixed.specs.HalfEdges.{rev}
use Rattle.dcel_fixed.proofs.Halves.{rev-half}
use Rattle.dcel_store.specs.Lists.{Lists}
use Rattle.dcel_maps.specs.edits.Rename.{exchanged, vertices_swapped}
use Rattle.dcel_maps.specs.Removals.{Removal, gives_up_edge, shown}
use Rattle.dcel_maps.specs.Shapes.{AnchorsVertex, IsLive, IsMesh, Mesh, origin_of, vertex_anchor, vertex_is_live}
use Rattle.dcel_maps.specs.Walking.{IsOutEdge, ListsOnce, ccw_of, cw_of, out_edges_of}
use Rattle.dcel_maps.specs.Words.{count_of}
use Rattle.dcel_maps.proofs.Liveness.{is_live-from, is_live-given_up, vertex_live-parts}
use Rattle.dcel_maps.proofs.edits.Swaps.{exchanged-first, exchanged-other, exchanged-second, length-renamed_origins, renamed_origins-at, swapped-origin, swapped_is_mesh}
use Rattle.dcel_maps.proofs.walks.Links.{ccw-lawful, half-below}
use Rattle.dcel_maps.proofs.walks.Turning.{mesh-out_edges}
use Rattle.dcel_edits.specs.Rename.{CanExchange, CanTurn, ccw_by, cw_by, turn_of, vertices_exchanged, stored_anchor}
use Rattle.dcel_edits.specs.Rounds.{AnchorComesBack, all_set}
use Rattle.dcel_maps.proofs.Shown.{length-shown, slice_index-shown, slice_index-shown_live}
use Rattle.dcel_edits.proofs.stored.Changes.{held_edges, held_lists, held_mesh, held_removal, held_vertex, held_vertex_anchor}
use Rattle.dcel_edits.proofs.stored.Held.{ListsMesh, lists_hold}
use Rattle.dcel_edits.proofs.stored.Holding.{Holds}

module _ {V DE UE F : Type 0} {s : Lists V DE UE F} {r : Removal} {m : Mesh V DE UE F} (held : Holds s r m) where
  mesh : IsMesh m
  mesh = held_mesh s r m held

  lists : ListsMesh s m
  lists = held_lists s r m held

  halves : length s.next ≡ 2 * m.shape.edges
  halves = omega (arith, lists.lengths.of_next, held_edges s r m held)

  -- turning by the stored `prev` is turning in the mesh
  ccw-stored : (h : ℕ) → IsLive m.shape h → ccw_by s.prev h ≡ ccw_of m.shape h
  ccw-stored h live = ap rev (lists.prev h live)

  -- and by the stored `next`, back
  cw-stored : (h : ℕ) → IsLive m.shape h → cw_by s.next h ≡ cw_of m.shape h
  cw-stored h live = lists.next (rev h) (rw (rev-half h) live)

  -- whole edges are stored
  pub halves_whole : length s.next % 2 ≡ 0
  halves_whole = omega (arith, halves)

  module _ (v : ℕ) (v_live : vertex_is_live m.shape v ≡ true) where
    v_below : v < m.shape.vertices
    v_below = (vertex_live-parts m.shape v v_live).0

    -- its anchor is live
    anchor-live : (h : ℕ) → vertex_anchor m v ≡ Some h → IsLive m.shape h
    anchor-live h some = (subst (AnchorsVertex m.shape v) some (mesh.anchored.vertices v v_below)).0

    pub turn_comes_back : AnchorComesBack (ccw_by s.prev) (cw_by s.next) (length s.next) (stored_anchor s v)
    turn_comes_back =
        rw (← held_vertex_anchor s r m held v)
        (anchor_comes_back held (ccw-lawful mesh.sound) (ccw_by s.prev) ccw-stored (cw_by s.next) cw-stored (vertex_anchor m v) anchor-live)

    can_turn : CanTurn s v
    can_turn = record { anchor_in = held_vertex s r m held v v_live; whole = halves_whole; turns = turn_comes_back }

    -- and the turn leads through the vertex's out edges
    turn-lists : ListsOnce (IsOutEdge m.shape v) (turn_of s v)
    turn-lists =
        let same : turn_of s v ≡ out_edges_of m v =
        rw (← held_vertex_anchor s r m held v)
        (round-from held (ccw-lawful mesh.sound) (ccw_by s.prev) ccw-stored (vertex_anchor m v) anchor-live) in
        subst (ListsOnce (IsOutEdge m.shape v)) (sym same) (mesh-out_edges mesh v v_below)

    -- a half edge stands in it just where it starts there
    pub in_turn : (h : ℕ) → IsLive m.shape h → origin_of m.shape h ≡ v → 0 < count_of h (turn_of s v)
    in_turn h live starts = omega (arith, turn-lists.each h (record { live = live; start = starts }))

    pub not_in_turn : (h : ℕ) → origin_of m.shape h ≢ v → count_of h (turn_of s v) ≡ 0
    not_in_turn h elsewhere = elim (cases_lt 0 (count_of h (turn_of s v))) [
      | inl found ↦ absurd (elsewhere (turn-lists.no_other h found).start)
      | inr none ↦ omega (arith, none)
    ]

  module _ (a b : ℕ) (a_live : vertex_is_live m.shape a ≡ true) (b_live : vertex_is_live m.shape b ≡ true) where
    pub exchange_can : CanExchange s a b
    exchange_can =
        let anchors = lists.lengths.of_vertex_anchors in
        record {
          first_in = omega (arith, anchors, held_vertex s r m held a a_live);
          second_in = omega (arith, anchors, held_vertex s r m held b b_live);
          first_turns = can_turn a a_live;
          second_turns = can_turn b b_live;
        }

    abbrev t : Lists V DE UE F
    t = vertices_exchanged s a b

    abbrev n : Mesh V DE UE F
    n = vertices_swapped m a b

    origin-renamed : (h : ℕ) → IsLive m.shape h → slice_index t.origin h ≡ exchanged a b (origin_of m.shape h)
    origin-renamed h live =
        let first : List ℕ = all_set s.origin (turn_of s b) a in
        let within : h < length s.origin = omega (arith, half-below m.shape h live, lists.lengths.of_origin, halves) in
        elim (cases_eq (origin_of m.shape h) a) [
          | inl at_a ↦
              all_set-here first (turn_of s a) b h (in_turn a a_live h live at_a) (omega (arith, within, length-all_set s.origin (turn_of s b) a))
              ∙ sym (ap (exchanged a b) at_a ∙ exchanged-first a b)
          | inr not_a ↦ all_set-away first (turn_of s a) b h (not_in_turn a a_live h not_a) ∙ elim (cases_eq (origin_of m.shape h) b) [
            | inl at_b ↦
                all_set-here s.origin (turn_of s b) a h (in_turn b b_live h live at_b) within
                ∙ sym (ap (exchanged a b) at_b ∙ exchanged-second a b)
            | inr not_b ↦
                all_set-away s.origin (turn_of s b) a h (not_in_turn b b_live h not_b) ∙ lists.origin h live
                ∙ sym (exchanged-other a b (origin_of m.shape h) not_a not_b)
          ]
        ]

    origin-after : (h : ℕ) → IsLive m.shape h → slice_index t.origin h ≡ origin_of n.shape h
    origin-after h live = origin-renamed h live ∙ sym (swapped-origin m mesh a b a_live b_live h live)

    origins-long : length t.origin ≡ length s.origin
    origins-long = length-all_set (all_set s.origin (turn_of s b) a) (turn_of s a) b ∙ length-all_set s.origin (turn_of s b) a

    -- origins that are masked stay
    shown-after : shown (gives_up_edge m.shape.removal) t.origin ≡ n.shape.origins
    shown-after =
        let g = gives_up_edge m.shape.removal in
        let long : length (shown g t.origin) ≡ length m.shape.origins =
        length-shown g t.origin ∙ origins-long ∙ sym (length-shown g s.origin) ∙ ap length lists.shown_origins in
        ext_get_or 0 (shown g t.origin) n.shape.origins (long ∙ sym (length-renamed_origins m.shape (exchanged a b))) (λ h below.
        let within : h < length m.shape.origins = omega (arith, below, long) in
        elim (cases_Bool (g (h / 2))) [
          | inl given ↦
              let masked : (l : List ℕ) → slice_index (shown g l) h ≡ 0 = λ l. slice_index-shown g l h ∙ rw given refl in
              let was : origin_of m.shape h ≡ 0 = ap (λ l. slice_index l h) (sym lists.shown_origins) ∙ masked s.origin in
              masked t.origin
              ∙ sym (renamed_origins-at m.shape (exchanged a b) h within ∙ rw (is_live-given_up g m.shape.edges (h / 2) given) was)
          | inr kept ↦
              slice_index-shown_live g t.origin h kept
              ∙ origin-after h (is_live-from g m.shape.edges (h / 2) (omega (arith, within, mesh.sized.origins)) kept)
        ])

    exchanged_lists : ListsMesh t n
    exchanged_lists =
        let w = lists.lengths in
        let anchors = length-swap s.vertex_anchors a b in
        let vertices = length-swap s.vertex_data a b in
        record {
          lengths = record {
            of_vertex_anchors = omega (arith, anchors, vertices, w.of_vertex_anchors);
            of_next = w.of_next;
            of_prev = w.of_prev;
            of_origin = origins-long ∙ w.of_origin;
            of_face = w.of_face;
            of_directed_data = w.of_directed_data;
            of_face_anchors = w.of_face_anchors;
          };
          links = record { next = lists.next; prev = lists.prev; origin = origin-after; face = lists.face };
          shown_origins = shown-after;
          vertex_anchors = ap (λ l. swap l a b) lists.vertex_anchors;
          face_anchors = lists.face_anchors;
          has_data = record {
            vertex_data = ap (λ l. swap l a b) lists.vertex_data;
            directed_data = lists.directed_data;
            undirected_data = lists.undirected_data;
            face_data = lists.face_data;
          };
        }

    pub exchange_holds : {u : Lists V DE UE F} → u ≡ t → Holds u r n
    exchange_holds is =
        subst (λ u. Holds u r n) (sym is)
        (subst (λ q. Holds t q n) (held_removal s r m held)
        (lists_hold t n (swapped_is_mesh m mesh a b a_live b_live) exchanged_lists))
