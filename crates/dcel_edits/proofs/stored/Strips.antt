-- What the writes leave that cut a strip holds the mesh with the strip cut.
use Rattle.std.proofs.Common.{◌≡◌, ◌↔◌, ◌⊎◌, inl, inr, ◌+◌, ◌<◌, ◌≤◌, ◌==◌, ℕ, true, List, [], ◌∷◌, ◌++◌, length, map, slice_index, slice_set, Some, None, refl, sym, ap, ◌∙◌, subst, arith}
use Rattle.std.proofs.lemmas.Bool.{cases_eq, cases_lt}
use Rattle.std.proofs.lemmas.List.{length-set}
use Rattle.dcel_store.specs.Lists.{Lists, LengthsAgree}
use Rattle.dcel_edits.specs.Strip.{CanCutStrip, next_along, prev_along, rooted, strip_stored}
use Rattle.dcel_maps.specs.edits.Strip.{each_set, strip_cut, strip_faces, strip_half, strip_record}
use Rattle.dcel_maps.specs.Hiding.{hiding}
use Rattle.dcel_maps.specs.Removals.{Closed, Removal, gives_up_edge, gives_up_face, gives_up_vertex, shown}
use Rattle.dcel_maps.specs.Shapes.{IsLive, IsMesh, Mesh, Shape, face_of, next_of, origin_of, prev_of}
use Rattle.dcel_maps.specs.Strips.{IsEdgeStrip}
use Rattle.dcel_maps.specs.Words.{count_of}
use Rattle.dcel_maps.proofs.Shown.{shown-kept}
use Rattle.dcel_maps.proofs.Liveness.{gives_up_edge-closed}
use Rattle.dcel_maps.proofs.removal.Hiding.{hiding-each, hiding-one}
use Rattle.dcel_maps.proofs.removal.StripLinks.{CutLinks, LeadsOn, strip_links}
use Rattle.dcel_maps.proofs.removal.StripMeshes.{strip_cut-mesh}
use Rattle.dcel_maps.proofs.walks.Links.{links_lawful}
use Rattle.dcel_maps.proofs.words.Ascending.{any-ascending}
use Rattle.dcel_maps.proofs.words.Counts.{count-append, count-equal, count-other, count-same, first_or_later}
use Rattle.dcel_maps.proofs.words.EachSet.{but_last-is, each_set-append, each_set-cases, each_set-same, last_of-is, length-each_set}
use Rattle.dcel_maps.proofs.words.Mapped.{any_stands, count-mapped, mapped_from, stands_any}
use Rattle.dcel_maps.proofs.words.Paths.{Path-changed, path_next}
use Rattle.dcel_edits.proofs.Along.{length-next_along, length-prev_along, moved_rest}
use Rattle.dcel_edits.proofs.AlongLinks.{moved_anchors, moved_faces, next_along-append, next_along-off, next_along-on, prev_along-append, prev_along-off, prev_along-on}
use Rattle.dcel_edits.proofs.stored.Changes.{held_face, held_half, held_lists, held_mesh}
use Rattle.dcel_edits.proofs.stored.Halves.{HoldsHalf, holds_half}
use Rattle.dcel_edits.proofs.stored.Held.{ListsMesh, lists_hold}
use Rattle.dcel_edits.proofs.stored.Holding.{Holds}

-- a number is the first of a list, or counted as in the rest
first_or_not : (k x : ℕ) (rest : List ℕ) → (k ≡ x) ⊎ (count_of k (x ∷ rest) ≡ count_of k rest)
first_or_not k x rest = elim (cases_eq k x) [ inl is ↦ inl is | inr other ↦ inr (count-other k x rest other) ]

count-le_one : (k x : ℕ) (rest : List ℕ) → count_of k (x ∷ rest) ≤ 1 + count_of k rest
count-le_one k x rest = elim (cases_eq k x) [
  | inl is ↦ omega (arith, count-equal k x rest is)
  | inr other ↦ omega (arith, count-other k x rest other)
]

module _ {V DE UE F : Type 0} {s : Lists V DE UE F} {r : Removal} {m : Mesh V DE UE F} (held : Holds s r m) (closed : m.shape.removal ≡ Closed)
    (items : List ℕ) (last : ℕ) (strip : IsEdgeStrip m.shape (items ++ last ∷ [])) where
  abbrev list : List ℕ
  list = items ++ last ∷ []

  abbrev N : Mesh V DE UE F
  N = strip_cut m (items ++ last ∷ [])

  abbrev t : Shape
  t = N.shape

  abbrev h : ℕ
  h = prev_of m.shape last

  abbrev before : ℕ
  before = prev_of m.shape (prev_of m.shape h)

  mesh : IsMesh m
  mesh = held_mesh s r m held

  lists : ListsMesh s m
  lists = held_lists s r m held

  links : CutLinks m.shape t before last items
  links = strip_links m items last mesh closed strip

  -- half edges of the path are live
  on_path : (k : ℕ) → 0 < count_of k (before ∷ items) → IsLive t k
  on_path k found = let (j, link, rest) = path_next (LeadsOn t 0) before items last links.path k found in link.live

  half : (k : ℕ) → IsLive m.shape k → HoldsHalf s m k
  half k live = holds_half held k live

  item_live : (k : ℕ) → 0 < count_of k items → IsLive m.shape k
  item_live k found = links.was_live k (on_path k (omega (arith, found)))

  last_live : IsLive m.shape last
  last_live = links.was_live last links.last_live

  -- the numbers that are read are those of the mesh
  read_half : slice_index s.prev last ≡ h
  read_half = lists.prev last last_live

  half_live : IsLive m.shape h
  half_live = (links_lawful mesh.sound).stays_back last last_live

  inner_live : IsLive m.shape (prev_of m.shape h)
  inner_live = (links_lawful mesh.sound).stays_back h half_live

  read_inner : slice_index s.prev (slice_index s.prev last) ≡ prev_of m.shape h
  read_inner = ap (slice_index s.prev) read_half ∙ lists.prev h half_live

  read_before : slice_index s.prev (slice_index s.prev (slice_index s.prev last)) ≡ before
  read_before = ap (slice_index s.prev) read_inner ∙ lists.prev (prev_of m.shape h) inner_live

  before_live : IsLive m.shape before
  before_live = links.was_live before (on_path before (omega (arith, count-same before items)))

  pub strip_can : CanCutStrip s items last
  strip_can = record {
    last_in = (half last last_live).within.edge_in;
    half_in = rw read_half (half h half_live).within.edge_in;
    inner_in = rw read_inner (half (prev_of m.shape h) inner_live).within.edge_in;
    before_in = rw read_before (half before before_live).within.edge_in;
    vertex_in = rw read_half (half h half_live).origin_in;
    end_in = (half last last_live).origin_in;
    outer_in = held_face s r m held 0 mesh.sized.outer;
    edge_in = λ e found. (half e (item_live e found)).within.edge_in;
    origin_in = λ e found. (half e (item_live e found)).origin_in;
    face_in = λ e found. (half e (item_live e found)).within.face_in;
  }

  -- the lists written out
  abbrev written : Lists V DE UE F
  written = record s {
    next = next_along before (items ++ last ∷ []) s.next;
    prev = prev_along before (items ++ last ∷ []) s.prev;
    face = each_set (λ e. e) (λ e. 0) s.face items;
    vertex_anchors = slice_set (each_set (λ e. slice_index s.origin e) (λ e. Some e) s.vertex_anchors (items ++ last ∷ [])) (slice_index s.origin h) None;
    face_anchors = each_set (λ e. slice_index s.face e) (λ e. None) (slice_set s.face_anchors 0 (Some last)) items;
  }

  written_is : strip_stored s items last ≡ written
  written_is =
      rw (
        read_before,
        read_half,
        moved_rest (rooted s last) items,
        moved_faces (rooted s last) items,
        moved_anchors (rooted s last) items links.once,
        next_along-append before items last s.next,
        prev_along-append before items last s.prev,
        ← each_set-append (λ e. slice_index s.origin e) (λ e. Some e) items last s.vertex_anchors,
      )
      refl

  -- their lengths
  written_lengths : LengthsAgree written
  written_lengths =
      let w = lists.lengths in
      let anchors = length-each_set (λ e. slice_index s.origin e) (λ e. Some e) list s.vertex_anchors in
      record {
        of_vertex_anchors = omega (
          arith,
          w.of_vertex_anchors,
          anchors,
          length-set (each_set (λ e. slice_index s.origin e) (λ e. Some e) s.vertex_anchors list) (slice_index s.origin h) None,
        );
        of_next = omega (arith, w.of_next, length-next_along before list s.next);
        of_prev = omega (arith, w.of_prev, length-next_along before list s.next, length-prev_along before list s.prev);
        of_origin = omega (arith, w.of_origin, length-next_along before list s.next);
        of_face = omega (arith, w.of_face, length-next_along before list s.next, length-each_set (λ e. e) (λ e. 0) items s.face);
        of_directed_data = omega (arith, w.of_directed_data, length-next_along before list s.next);
        of_face_anchors = omega (
          arith,
          w.of_face_anchors,
          length-each_set (λ e. slice_index s.face e) (λ e. None) items (slice_set s.face_anchors 0 (Some last)),
          length-set s.face_anchors 0 (Some last),
        );
      }

  within : (k : ℕ) → IsLive m.shape k → k < length s.next
  within k live = held_half s r m held k live

  once_before : (k : ℕ) → count_of k (before ∷ items) ≤ 1
  once_before k = elim (first_or_not k before items) [
    | inl is ↦ omega (arith, ap (λ z. count_of z items) is, links.before_apart, count-le_one k before items)
    | inr none ↦ omega (arith, none, links.once k)
  ]

  once_last : (k : ℕ) → count_of k (items ++ last ∷ []) ≤ 1
  once_last k = elim (first_or_not k last []) [
    | inl is ↦ omega (arith, ap (λ z. count_of z items) is, links.last_apart, count-append k items (last ∷ []), count-le_one k last [])
    | inr none ↦ omega (arith, none, links.once k, count-append k items (last ∷ []))
  ]

  -- an item of the strip, its last one included
  in_list : (k : ℕ) → 0 < count_of k (items ++ last ∷ []) → IsLive t k
  in_list k found = elim (cases_lt 0 (count_of k items)) [
    | inl item ↦ on_path k (omega (arith, item))
    | inr none ↦ elim (first_or_later k last [] (omega (arith, found, none, count-append k items (last ∷ [])))) [
      | inl is ↦ subst (IsLive t) (sym is) links.last_live
      | inr nothing ↦ absurd (omega (arith, nothing))
    ]
  ]

  nexts : (x : ℕ) → IsLive t x → slice_index written.next x ≡ next_of t x
  nexts x live = elim (cases_lt 0 (count_of x (before ∷ items))) [
    | inl found ↦
        next_along-on (next_of t) before items last s.next
        (Path-changed (LeadsOn t 0) (λ a b. next_of t a ≡ b) before items last last (λ a b _ _ link. link.next) (λ a _ link. link.next) links.path)
        once_before (λ k there. within k (links.was_live k (on_path k there))) x found
    | inr none ↦
        next_along-off before items last s.next x (omega (arith, none)) ∙ lists.next x (links.was_live x live)
        ∙ sym (links.next_other x live (omega (arith, none)) (λ is. omega (arith, none, ap (λ z. count_of z (before ∷ items)) is, count-same before items)))
  ]

  prevs : (x : ℕ) → IsLive t x → slice_index written.prev x ≡ prev_of t x
  prevs x live = elim (cases_lt 0 (count_of x (items ++ last ∷ []))) [
    | inl found ↦
        prev_along-on (prev_of t) before items last s.prev
        (Path-changed (LeadsOn t 0) (λ a b. prev_of t b ≡ a) before items last last (λ a b _ _ link. link.prev) (λ a _ link. link.prev) links.path)
        once_last (λ k there. omega (arith, within k (links.was_live k (in_list k there)), lists.lengths.of_prev)) x found
    | inr none ↦
        prev_along-off before items last s.prev x (omega (arith, none)) ∙ lists.prev x (links.was_live x live)
        ∙ sym (links.prev_other x live (omega (arith, none, count-append x items (last ∷ [])))
        (λ is. omega (arith, none, ap (λ z. count_of z (items ++ last ∷ [])) is, count-append last items (last ∷ []), count-same last [])))
  ]

  faces : (x : ℕ) → IsLive t x → slice_index written.face x ≡ face_of t x
  faces x live =
      elim (each_set-cases (λ e. e) (λ e. 0) items s.face x 0 (omega (arith, within x (links.was_live x live), lists.lengths.of_face))) [
        | inl put ↦
            let (j, link, rest) = path_next (LeadsOn t 0) before items last links.path put.from (omega (arith, put.listed)) in
            put.is ∙ sym (ap (face_of t) (sym put.at) ∙ link.face)
        | inr (none, same) ↦
            let off : count_of x items ≡ 0 = elim (cases_lt 0 (count_of x items)) [
              | inl found ↦ absurd (none x found refl)
              | inr nothing ↦ omega (arith, nothing)
            ] in
            same ∙ lists.face x (links.was_live x live) ∙ sym (links.face_other x live off)
      ]

  origins : shown (gives_up_edge t.removal) s.origin ≡ t.origins
  origins =
      let all : s.origin ≡ m.shape.origins =
      sym (shown-kept (gives_up_edge m.shape.removal) s.origin (λ u. ap (λ q. gives_up_edge q u) closed ∙ gives_up_edge-closed u)) ∙ lists.shown_origins in
      ap (shown (gives_up_edge t.removal)) all

  half_of_list : strip_half m.shape (items ++ last ∷ []) ≡ h
  half_of_list = ap (prev_of m.shape) (last_of-is 0 items last)

  gives_vertex : (w : ℕ) → gives_up_vertex t.removal w ≡ (origin_of m.shape h == w)
  unfolding gives_up_vertex
  gives_vertex w = ap (λ k. origin_of m.shape k == w) half_of_list

  gives_face : (f : ℕ) → (gives_up_face t.removal f ≡ true) ↔ ((e : ℕ) × (0 < count_of e items) × (face_of m.shape e ≡ f))
  unfolding gives_up_face
  gives_face f =
      let fs = strip_faces m.shape (items ++ last ∷ []) in
      let is : fs ≡ map (face_of m.shape) items = ap (map (face_of m.shape)) (but_last-is items last) in (
        λ given. mapped_from (face_of m.shape) items f (omega (arith, any_stands f fs (sym (any-ascending (λ g. g == f) fs) ∙ given), ap (count_of f) is)),
        λ from.
            let (e, found, at) = from in
            any-ascending (λ g. g == f) fs
            ∙ stands_any f fs (subst (λ z. 0 < count_of z fs) at (omega (arith, count-mapped (face_of m.shape) items e found, ap (count_of (face_of m.shape e)) is))),
      )

  vertex_anchors : written.vertex_anchors ≡ N.vertex_anchors
  vertex_anchors =
      ap (λ v. slice_set (each_set (λ e. slice_index s.origin e) (λ e. Some e) s.vertex_anchors list) v None) (lists.origin h half_live)
      ∙ ap (λ l. slice_set l (origin_of m.shape h) None)
      (each_set-same (λ e. slice_index s.origin e) (origin_of m.shape) (λ e. Some e) list s.vertex_anchors
      (λ e found. lists.origin e (links.was_live e (in_list e found)))
      ∙ ap (λ l. each_set (origin_of m.shape) (λ e. Some e) l list) lists.vertex_anchors)
      ∙ hiding-one (gives_up_vertex t.removal) None (origin_of m.shape h) (each_set (origin_of m.shape) (λ e. Some e) m.vertex_anchors list) gives_vertex

  face_anchors : written.face_anchors ≡ N.face_anchors
  face_anchors =
      each_set-same (λ e. slice_index s.face e) (face_of m.shape) (λ e. None) items (slice_set s.face_anchors 0 (Some last))
      (λ e found. lists.face e (item_live e found))
      ∙ ap (λ l. each_set (face_of m.shape) (λ e. None) (slice_set l 0 (Some last)) items) lists.face_anchors
      ∙ hiding-each (gives_up_face t.removal) None (face_of m.shape) items (slice_set m.face_anchors 0 (Some last)) gives_face
      ∙ ap (λ z. hiding (gives_up_face t.removal) None (slice_set m.face_anchors 0 (Some z))) (sym (last_of-is 0 items last))

  written_lists : ListsMesh written N
  written_lists = record {
    lengths = written_lengths;
    links = record {
      next = nexts;
      prev = prevs;
      origin = λ x live. lists.origin x (links.was_live x live) ∙ sym (links.origin x live);
      face = faces;
    };
    shown_origins = origins;
    vertex_anchors = vertex_anchors;
    face_anchors = face_anchors;
    has_data = record {
      vertex_data = lists.vertex_data;
      directed_data = lists.directed_data;
      undirected_data = lists.undirected_data;
      face_data = lists.face_data;
    };
  }

  pub strip_holds : Holds (strip_stored s items last) (strip_record m.shape (items ++ last ∷ [])) (strip_cut m (items ++ last ∷ []))
  strip_holds = rw written_is (lists_hold written N (strip_cut-mesh m list mesh closed strip) written_lists)
