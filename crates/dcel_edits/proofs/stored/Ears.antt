-- What cutting a ring into ears leaves in the stored lists as a whole: links, origins, anchors and data.
use Rattle.std.proofs.Common.{◌≡◌, ◌≢◌, inl, inr, All, ℕ, suc, ◌+◌, ◌*◌, ◌<◌, ◌≤◌, List, [], ◌∷◌, ◌++◌, length, slice_index, slice_set, Option, Some, refl, sym, ap, ◌∙◌, subst, arith, append_assoc, append-nil}
use Rattle.std.proofs.lemmas.Bool.{cases_eq, cases_lt}
use Rattle.std.proofs.lemmas.List.{get_or-append-add, get_or-set_other, get_or-set_same, get_or_append_left, length-append, length-set}
use Rattle.std.proofs.lemmas.List.Elements.{All-append, All-cons, All-nil}
use Rattle.dcel_store.specs.Lists.{Lists, LengthsAgree}
use Rattle.dcel_maps.specs.edits.Fill.{anchors_round, ear_anchors, ear_origins}
use Rattle.dcel_maps.specs.Words.{count_of}
use Rattle.dcel_maps.proofs.words.Counts.{count-equal, count-later, count-other, count-same, first_or_later}
use Rattle.dcel_edits.specs.Fill.{EarsPut, closing, ear_stored, last_ear_stored}
use Rattle.dcel_edits.specs.Outside.{two_set}
use Rattle.dcel_edits.proofs.stored.Filling.{EarsLinked}
use Rattle.dcel_edits.proofs.stored.Held.{HasData}

-- a list with two items replaced
module _ (l : List ℕ) (i a j b : ℕ) where
  two_away : (k : ℕ) → k ≢ i → k ≢ j → slice_index (two_set l i a j b) k ≡ slice_index l k
  two_away k not_i not_j = get_or-set_other (slice_set l i a) j k b 0 not_j ∙ get_or-set_other l i k a 0 not_i

  two_first : i ≢ j → i < length l → slice_index (two_set l i a j b) i ≡ a
  two_first differs within = get_or-set_other (slice_set l i a) j i b 0 differs ∙ get_or-set_same l i a 0 within

  two_second : j < length l → slice_index (two_set l i a j b) j ≡ b
  two_second within = get_or-set_same (slice_set l i a) j b 0 (omega (arith, within, length-set l i a))

-- a list with one item replaced, and two put at its end
module _ (l : List ℕ) (q v a b : ℕ) where
  abbrev put : List ℕ
  put = slice_set l q v ++ a ∷ b ∷ []

  put_old : (k : ℕ) → k < length l → k ≢ q → slice_index put k ≡ slice_index l k
  put_old k within differs =
      get_or_append_left (slice_set l q v) (a ∷ b ∷ []) 0 k (omega (arith, within, length-set l q v)) ∙ get_or-set_other l q k v 0 differs

  put_here : q < length l → slice_index put q ≡ v
  put_here within =
      get_or_append_left (slice_set l q v) (a ∷ b ∷ []) 0 q (omega (arith, within, length-set l q v)) ∙ get_or-set_same l q v 0 within

  put_first : (k : ℕ) → k ≡ length l → slice_index put k ≡ a
  put_first k is = ap (slice_index put) (omega (arith, is, length-set l q v)) ∙ get_or-append-add (slice_set l q v) (a ∷ b ∷ []) 0 0

  put_second : (k : ℕ) → k ≡ length l + 1 → slice_index put k ≡ b
  put_second k is = ap (slice_index put) (omega (arith, is, length-set l q v)) ∙ get_or-append-add (slice_set l q v) (a ∷ b ∷ []) 1 0

-- origins that are the same along the ring
origins_alike : (o o' : ℕ → ℕ) (apex r : ℕ) (rest : List ℕ) → ((y : ℕ) → 0 < count_of y (r ∷ rest) → o y ≡ o' y) → ear_origins o apex r rest ≡ ear_origins o' apex r rest
origins_alike o o' apex r [] same = refl
origins_alike o o' apex r (x ∷ rest) same =
    ap (λ k. k ∷ apex ∷ ear_origins o apex x rest) (same r (omega (arith, count-same r (x ∷ rest))))
    ∙ ap (λ w. o' r ∷ apex ∷ w) (origins_alike o o' apex x rest (λ y found. same y (count-later y r (x ∷ rest) found)))

round_alike : (o o' : ℕ → ℕ) (apex : ℕ) (anchors : List (Option ℕ)) (m p q r : ℕ) (rest : List ℕ) → ((y : ℕ) → 0 < count_of y (q ∷ r ∷ rest) → o y ≡ o' y)
    → anchors_round o apex anchors m p q r rest ≡ anchors_round o' apex anchors m p q r rest
round_alike o o' apex anchors m p q r [] same =
    let at_q = same q (omega (arith, count-same q (r ∷ []))) in
    let at_r = same r (count-later r q (r ∷ []) (omega (arith, count-same r []))) in
    ap (λ k. slice_set (slice_set (slice_set anchors k (Some r)) (o q) (Some q)) apex (Some p)) at_r
    ∙ ap (λ k. slice_set (slice_set (slice_set anchors (o' r) (Some r)) k (Some q)) apex (Some p)) at_q
round_alike o o' apex anchors m p q r (x ∷ rest) same =
    round_alike o o' apex (slice_set anchors (o q) (Some q)) (suc m) (2 * m + 1) r x rest (λ y found. same y (count-later y q (r ∷ x ∷ rest) found))
    ∙ ap (λ k. anchors_round o' apex (slice_set anchors k (Some q)) (suc m) (2 * m + 1) r x rest) (same q (omega (arith, count-same q (r ∷ x ∷ rest))))

module _ {V DE UE F : Type 0} (is_half : DE → Type 0) (is_edge : UE → Type 0) (is_face : F → Type 0) (apex : ℕ) where
  -- the ring (p, q, r, ..) is left in s, and p begins its first ear
  pub record IsBegun (s : Lists V DE UE F) (p q r : ℕ) (rest : List ℕ) : Type 0 where
    pub lengths : LengthsAgree s
    pub next : slice_index s.next p ≡ q
    pub prev : slice_index s.prev p ≡ closing (length s.undirected_data) r rest
    pub face : slice_index s.face p ≡ length s.face_data
    pub items_in : (h : ℕ) → 0 < count_of h (p ∷ q ∷ r ∷ rest) → h < length s.next
    pub once : (h : ℕ) → count_of h (p ∷ q ∷ r ∷ rest) ≤ 1

  -- u is s with the ring cut into ears
  pub record IsCut (s u : Lists V DE UE F) (p q r : ℕ) (rest : List ℕ) : Type 0 where
    pub halves : List DE
    pub edges : List UE
    pub faces : List F
    pub half_count : length halves ≡ 2 * length rest
    pub edge_count : length edges ≡ length rest
    pub face_count : length faces ≡ suc (length rest)
    pub half_default : All is_half halves
    pub edge_default : All is_edge edges
    pub face_default : All is_face faces
    pub lengths : LengthsAgree u
    pub ears : EarsLinked u (length s.undirected_data) (length s.face_data) p q r rest
    pub next : (x : ℕ) → x < length s.next → count_of x (q ∷ r ∷ rest) ≡ 0 → slice_index u.next x ≡ slice_index s.next x
    pub prev : (x : ℕ) → x < length s.next → count_of x (q ∷ r ∷ rest) ≡ 0 → slice_index u.prev x ≡ slice_index s.prev x
    pub face : (x : ℕ) → x < length s.next → count_of x (q ∷ r ∷ rest) ≡ 0 → slice_index u.face x ≡ slice_index s.face x
    pub origin : u.origin ≡ s.origin ++ ear_origins (slice_index s.origin) apex r rest
    pub vertex_anchors : u.vertex_anchors ≡ anchors_round (slice_index s.origin) apex s.vertex_anchors (length s.undirected_data) p q r rest
    pub face_anchors : u.face_anchors ≡ s.face_anchors ++ ear_anchors (length s.undirected_data) p rest
    pub has_data : HasData u s.vertex_data (s.directed_data ++ halves) (s.undirected_data ++ edges) (s.face_data ++ faces)
    pub open has_data use *

  -- the last ear
  last_cut : (s : Lists V DE UE F) (p q r : ℕ) (datum : F) → is_face datum → IsBegun s p q r [] → IsCut s (last_ear_stored s apex p q r datum) p q r []
  last_cut s p q r datum default b =
      let w = b.lengths in
      let in_p = b.items_in p (omega (arith, count-same p (q ∷ r ∷ []))) in
      let in_q = b.items_in q (count-later q p (q ∷ r ∷ []) (omega (arith, count-same q (r ∷ [])))) in
      let in_r = b.items_in r (count-later r p (q ∷ r ∷ []) (count-later r q (r ∷ []) (omega (arith, count-same r [])))) in
      let p≢q : p ≢ q = λ i. let two = subst (λ z. 0 < count_of z (q ∷ r ∷ [])) (sym i) (omega (arith, count-same q (r ∷ []))) in omega (arith, b.once p, count-same p (q ∷ r ∷ []), two) in
      let p≢r : p ≢ r = λ i. let two = subst (λ z. 0 < count_of z (q ∷ r ∷ [])) (sym i) (count-later r q (r ∷ []) (omega (arith, count-same r []))) in omega (arith, b.once p, count-same p (q ∷ r ∷ []), two) in
      let q≢r : q ≢ r = λ i. let two = subst (λ z. 0 < count_of z (r ∷ [])) (sym i) (omega (arith, count-same r [])) in omega (arith, b.once q, count-same q (r ∷ []), two) in
      let g = length s.face_data in
      let off : (x : ℕ) → count_of x (q ∷ r ∷ []) ≡ 0 → (x ≢ q) × (x ≢ r) = λ x none. (
        λ i. let one = subst (λ z. 0 < count_of z (q ∷ r ∷ [])) (sym i) (omega (arith, count-same q (r ∷ []))) in omega (arith, none, one),
        λ i. let one = subst (λ z. 0 < count_of z (q ∷ r ∷ [])) (sym i) (count-later r q (r ∷ []) (omega (arith, count-same r []))) in omega (arith, none, one),
      ) in
      record {
        halves = [];
        edges = [];
        faces = datum ∷ [];
        half_count = refl;
        edge_count = refl;
        face_count = refl;
        half_default = All-nil is_half;
        edge_default = All-nil is_edge;
        face_default = All-cons is_face datum [] default (All-nil is_face);
        lengths = record {
          of_vertex_anchors =
              length-set (slice_set (slice_set s.vertex_anchors (slice_index s.origin r) (Some r)) (slice_index s.origin q) (Some q)) apex (Some p)
              ∙ length-set (slice_set s.vertex_anchors (slice_index s.origin r) (Some r)) (slice_index s.origin q) (Some q)
              ∙ length-set s.vertex_anchors (slice_index s.origin r) (Some r) ∙ w.of_vertex_anchors;
          of_next = length-set (slice_set s.next q r) r p ∙ length-set s.next q r ∙ w.of_next;
          of_prev = omega (arith, length-set (slice_set s.prev q p) r q, length-set s.prev q p, length-set (slice_set s.next q r) r p, length-set s.next q r, w.of_prev);
          of_origin = omega (arith, length-set (slice_set s.next q r) r p, length-set s.next q r, w.of_origin);
          of_face = omega (arith, length-set (slice_set s.face q g) r g, length-set s.face q g, length-set (slice_set s.next q r) r p, length-set s.next q r, w.of_face);
          of_directed_data = omega (arith, length-set (slice_set s.next q r) r p, length-set s.next q r, w.of_directed_data);
          of_face_anchors = omega (arith, length-append s.face_anchors (Some p ∷ []), length-append s.face_data (datum ∷ []), w.of_face_anchors);
        };
        ears = (
          record { next = two_away s.next q r r p p p≢q p≢r ∙ b.next; prev = two_first s.prev q p r q q≢r (omega (arith, in_q, w.of_prev)); face = two_away s.face q g r g p p≢q p≢r ∙ b.face },
          record { next = two_first s.next q r r p q≢r in_q; prev = two_second s.prev q p r q (omega (arith, in_r, w.of_prev)); face = two_first s.face q g r g q≢r (omega (arith, in_q, w.of_face)) },
          record { next = two_second s.next q r r p in_r; prev = two_away s.prev q p r q p p≢q p≢r ∙ b.prev; face = two_second s.face q g r g (omega (arith, in_r, w.of_face)) },
        );
        next = λ x within none. two_away s.next q r r p x (off x none).0 (off x none).1;
        prev = λ x within none. two_away s.prev q p r q x (off x none).0 (off x none).1;
        face = λ x within none. two_away s.face q g r g x (off x none).0 (off x none).1;
        origin = sym (append-nil s.origin);
        vertex_anchors = refl;
        face_anchors = refl;
        has_data = record {
          vertex_data = refl;
          directed_data = sym (append-nil s.directed_data);
          undirected_data = sym (append-nil s.undirected_data);
          face_data = refl;
        };
      }

  -- one ear, and then the others
  module _ (s : Lists V DE UE F) (p q r x : ℕ) (rest : List ℕ) (halves : List DE) (edges : List UE) (faces : List F) (two_halves : length halves ≡ 2) (one_edge : length edges ≡ 1) (one_face : length faces ≡ 1) (b : IsBegun s p q r (x ∷ rest)) where
    abbrev m : ℕ
    m = length s.undirected_data

    abbrev n : ℕ
    n = 2 * length s.undirected_data

    abbrev g : ℕ
    g = length s.face_data

    abbrev k : ℕ
    k = closing (length s.undirected_data + 1) x rest

    abbrev M : Lists V DE UE F
    M = ear_stored s apex p q r (closing (length s.undirected_data + 1) x rest) halves edges faces

    w : LengthsAgree s
    w = b.lengths

    edges_after : length M.undirected_data ≡ suc m
    edges_after = omega (arith, length-append s.undirected_data edges, one_edge)

    faces_after : length M.face_data ≡ suc g
    faces_after = omega (arith, length-append s.face_data faces, one_face)

    nexts_after : length M.next ≡ length s.next + 2
    nexts_after = omega (arith, length-append (slice_set s.next q n) (p ∷ r ∷ []), length-set s.next q n)

    lengths_after : LengthsAgree M
    lengths_after = record {
      of_vertex_anchors = length-set s.vertex_anchors (slice_index s.origin q) (Some q) ∙ w.of_vertex_anchors;
      of_next = omega (arith, nexts_after, edges_after, w.of_next);
      of_prev = omega (arith, nexts_after, length-append (slice_set s.prev q p) (q ∷ k ∷ []), length-set s.prev q p, w.of_prev);
      of_origin = omega (arith, nexts_after, length-append s.origin (slice_index s.origin r ∷ apex ∷ []), w.of_origin);
      of_face = omega (arith, nexts_after, length-append (slice_set s.face q g) (g ∷ (g + 1) ∷ []), length-set s.face q g, w.of_face);
      of_directed_data = omega (arith, nexts_after, length-append s.directed_data halves, two_halves, w.of_directed_data);
      of_face_anchors = omega (arith, length-append s.face_anchors (Some n ∷ []), faces_after, w.of_face_anchors);
    }

    later_in : (h : ℕ) → 0 < count_of h (r ∷ x ∷ rest) → h < length s.next
    later_in h found = b.items_in h (count-later h p (q ∷ r ∷ x ∷ rest) (count-later h q (r ∷ x ∷ rest) found))

    -- the ring that is left begins with the other half of the new edge
    begun_after : IsBegun M (n + 1) r x rest
    begun_after = record {
      lengths = lengths_after;
      next = put_second s.next q n p r (n + 1) (omega (arith, w.of_next));
      prev = put_second s.prev q p q k (n + 1) (omega (arith, w.of_next, w.of_prev)) ∙ ap (λ z. closing z x rest) (omega (arith, edges_after));
      face = put_second s.face q g g (g + 1) (n + 1) (omega (arith, w.of_next, w.of_face)) ∙ omega (arith, faces_after);
      items_in = λ h found. elim (first_or_later h (n + 1) (r ∷ x ∷ rest) found) [
        | inl is ↦ omega (arith, is, nexts_after, w.of_next)
        | inr later ↦ let below = later_in h later in omega (arith, below, nexts_after)
      ];
      once = λ h. elim (cases_eq h (n + 1)) [
        | inr differs ↦ omega (arith, b.once h, count-other h (n + 1) (r ∷ x ∷ rest) differs)
        | inl is ↦ elim (cases_lt 0 (count_of h (r ∷ x ∷ rest))) [
          | inl found ↦ let below = later_in h found in absurd (omega (arith, below, is, w.of_next))
          | inr none ↦ omega (arith, none, count-equal h (n + 1) (r ∷ x ∷ rest) is)
        ]
      ];
    }

    in_p : p < length s.next
    in_p = b.items_in p (omega (arith, count-same p (q ∷ r ∷ x ∷ rest)))

    in_q : q < length s.next
    in_q = b.items_in q (count-later q p (q ∷ r ∷ x ∷ rest) (omega (arith, count-same q (r ∷ x ∷ rest))))

    p≢q : p ≢ q
    p≢q is =
        let twice = subst (λ z. 0 < count_of z (q ∷ r ∷ x ∷ rest)) (sym is) (omega (arith, count-same q (r ∷ x ∷ rest))) in
        omega (arith, b.once p, count-same p (q ∷ r ∷ x ∷ rest), twice)

    off_p : count_of p (r ∷ x ∷ rest) ≡ 0
    off_p = omega (arith, b.once p, count-same p (q ∷ r ∷ x ∷ rest))

    off_q : count_of q (r ∷ x ∷ rest) ≡ 0
    off_q = omega (arith, b.once q, count-same q (r ∷ x ∷ rest))

    off_n : count_of n (r ∷ x ∷ rest) ≡ 0
    off_n = elim (cases_lt 0 (count_of n (r ∷ x ∷ rest))) [
      | inl found ↦ let below = later_in n found in absurd (omega (arith, below, w.of_next))
      | inr none ↦ omega (arith, none)
    ]

    same_origin : (y : ℕ) → 0 < count_of y (r ∷ x ∷ rest) → slice_index M.origin y ≡ slice_index s.origin y
    same_origin y found =
        let below = later_in y found in
        get_or_append_left s.origin (slice_index s.origin r ∷ apex ∷ []) 0 y (omega (arith, below, w.of_origin))

    then_cut : All is_half halves → All is_edge edges → All is_face faces → (u : Lists V DE UE F) → IsCut M u (n + 1) r x rest → IsCut s u p q r (x ∷ rest)
    then_cut half_default edge_default face_default u c =
        let long = nexts_after in
        let differs : (y : ℕ) → count_of y (q ∷ r ∷ x ∷ rest) ≡ 0 → y ≢ q = λ y none is.
        let one = subst (λ z. 0 < count_of z (q ∷ r ∷ x ∷ rest)) (sym is) (omega (arith, count-same q (r ∷ x ∷ rest))) in omega (arith, none, one) in
        record {
          halves = halves ++ c.halves;
          edges = edges ++ c.edges;
          faces = faces ++ c.faces;
          half_count = omega (arith, length-append halves c.halves, two_halves, c.half_count);
          edge_count = omega (arith, length-append edges c.edges, one_edge, c.edge_count);
          face_count = omega (arith, length-append faces c.faces, one_face, c.face_count);
          half_default = All-append is_half halves c.halves half_default c.half_default;
          edge_default = All-append is_edge edges c.edges edge_default c.edge_default;
          face_default = All-append is_face faces c.faces face_default c.face_default;
          lengths = c.lengths;
          ears = (
            record {
              next = c.next p (omega (arith, in_p, long)) off_p ∙ put_old s.next q n p r p in_p p≢q ∙ b.next;
              prev = c.prev q (omega (arith, in_q, long)) off_q ∙ put_here s.prev q p q k (omega (arith, in_q, w.of_prev));
              face = c.face p (omega (arith, in_p, long)) off_p ∙ put_old s.face q g g (g + 1) p (omega (arith, in_p, w.of_face)) p≢q ∙ b.face;
            },
            record {
              next = c.next q (omega (arith, in_q, long)) off_q ∙ put_here s.next q n p r in_q;
              prev = c.prev n (omega (arith, w.of_next, long)) off_n ∙ put_first s.prev q p q k n (omega (arith, w.of_next, w.of_prev));
              face = c.face q (omega (arith, in_q, long)) off_q ∙ put_here s.face q g g (g + 1) (omega (arith, in_q, w.of_face));
            },
            record {
              next = c.next n (omega (arith, w.of_next, long)) off_n ∙ put_first s.next q n p r n (omega (arith, w.of_next));
              prev = c.prev p (omega (arith, in_p, long)) off_p ∙ put_old s.prev q p q k p (omega (arith, in_p, w.of_prev)) p≢q ∙ b.prev;
              face = c.face n (omega (arith, w.of_next, long)) off_n ∙ put_first s.face q g g (g + 1) n (omega (arith, w.of_next, w.of_face));
            },
            subst (λ z. EarsLinked u (suc m) z (2 * m + 1) r x rest) faces_after (subst (λ z. EarsLinked u z (length M.face_data) (2 * m + 1) r x rest) edges_after c.ears),
          );
          next = λ y within none. c.next y (omega (arith, within, long)) (omega (arith, none)) ∙ put_old s.next q n p r y within (differs y none);
          prev = λ y within none.
              c.prev y (omega (arith, within, long)) (omega (arith, none)) ∙ put_old s.prev q p q k y (omega (arith, within, w.of_prev)) (differs y none);
          face = λ y within none.
              c.face y (omega (arith, within, long)) (omega (arith, none)) ∙ put_old s.face q g g (g + 1) y (omega (arith, within, w.of_face)) (differs y none);
          origin =
              c.origin ∙ append_assoc s.origin (slice_index s.origin r ∷ apex ∷ []) (ear_origins (slice_index M.origin) apex x rest)
              ∙ ap (λ v. s.origin ++ slice_index s.origin r ∷ apex ∷ v)
              (origins_alike (slice_index M.origin) (slice_index s.origin) apex x rest (λ y found. same_origin y (count-later y r (x ∷ rest) found)));
          vertex_anchors =
              c.vertex_anchors
              ∙ round_alike (slice_index M.origin) (slice_index s.origin) apex M.vertex_anchors (length M.undirected_data) (2 * m + 1) r x rest same_origin
              ∙ ap (λ z. anchors_round (slice_index s.origin) apex M.vertex_anchors z (2 * m + 1) r x rest) edges_after;
          face_anchors =
              c.face_anchors ∙ append_assoc s.face_anchors (Some n ∷ []) (ear_anchors (length M.undirected_data) (2 * m + 1) rest)
              ∙ ap (λ z. s.face_anchors ++ Some n ∷ ear_anchors z (2 * m + 1) rest) edges_after;
          has_data = record {
            vertex_data = c.vertex_data;
            directed_data = c.directed_data ∙ append_assoc s.directed_data halves c.halves;
            undirected_data = c.undirected_data ∙ append_assoc s.undirected_data edges c.edges;
            face_data = c.face_data ∙ append_assoc s.face_data faces c.faces;
          };
        }

  -- so what the writer leaves is cut
  pub ears_cut : (rest : List ℕ) (s u : Lists V DE UE F) (p q r : ℕ) → EarsPut is_half is_edge is_face apex s p q r rest u → IsBegun s p q r rest → IsCut s u p q r rest
  ears_cut [] s u p q r (datum, default, is) b = subst (λ (v : Lists V DE UE F). IsCut s v p q r []) (sym is) (last_cut s p q r datum default b)
  ears_cut (x ∷ rest) s u p q r (t, ear, put) b =
      then_cut s p q r x rest ear.directed_data ear.undirected_data ear.face_data ear.directed_count ear.undirected_count ear.face_data_count b
      ear.directed_default ear.undirected_default ear.face_default u
      (ears_cut rest
      (ear_stored s apex p q r (closing (length s.undirected_data + 1) x rest) ear.directed_data ear.undirected_data ear.face_data) u
      (2 * length s.undirected_data + 1) r x
      (subst (λ (v : Lists V DE UE F). EarsPut is_half is_edge is_face apex v (2 * length s.undirected_data + 1) r x rest u) ear.is put)
      (begun_after s p q r x rest ear.directed_data ear.undirected_data ear.face_data ear.directed_count ear.undirected_count ear.face_data_count b))
