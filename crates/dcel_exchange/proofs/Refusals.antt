-- Where faces are refused, no simple mesh has their corners.
use Rattle.std.proofs.Common.{◌≡◌, ◌≢◌, ◌⊎◌, ◌∙◌, inl, inr, ℕ, ◌+◌, ◌/◌, ◌<◌, ◌≤◌, List, [], ◌∷◌, length, map, slice_index, slice_index_or, refl, sym, ap, subst, arith}
use Rattle.std.proofs.lemmas.Bool.{both_ways, cases_eq}
use Rattle.std.proofs.lemmas.List.{get_or-map, length-map}
use Rattle.dcel_fixed.specs.HalfEdges.{rev}
use Rattle.dcel_fixed.proofs.Halves.{rev_within}
use Rattle.dcel_links.specs.Claims.{Claim, IsFew, halves}
use Rattle.dcel_links.specs.Faults.{Means}
use Rattle.dcel_links.specs.declared.fault.LinksFault.{LinksFault}
use Rattle.dcel_links.proofs.Refuting.{refutes}
use Rattle.dcel_maps.specs.Maps.{By, Map, NextOrRev}
use Rattle.dcel_maps.specs.Removals.{gives_up_face}
use Rattle.dcel_maps.specs.Shapes.{IsLive, IsMesh, Mesh, Shape, edge_is_live, end_of, face_count, face_of, map_of, next_of, origin_of}
use Rattle.dcel_maps.specs.Words.{count_of, word_of}
use Rattle.dcel_maps.specs.theory.Cycles.{IsCycle}
use Rattle.dcel_maps.specs.theory.Standing.{Stands}
use Rattle.dcel_maps.proofs.Liveness.{gives_up_face-closed, is_live-from}
use Rattle.dcel_maps.proofs.maps.Halves.{rev-rev}
use Rattle.dcel_maps.proofs.maps.Reaching.{reaches_stays}
use Rattle.dcel_maps.proofs.maps.Soundness.{rev_live}
use Rattle.dcel_maps.proofs.shapes.Maps.{map-sound, map-sphere, word_cases}
use Rattle.dcel_maps.proofs.walks.Links.{links_stand, next-live}
use Rattle.dcel_maps.proofs.words.Counts.{count-same}
use Rattle.dcel_maps.proofs.words.Reading.{face-next, face_in_word, live_in}
use Rattle.dcel_maps.proofs.words.Turns.{count-turn}
use Rattle.dcel_exchange.specs.Corners.{LeadsBack, afters, ends, owners, starts}
use Rattle.dcel_exchange.specs.Meshes.{AreLinks, IsNoSide, side_count}
use Rattle.dcel_exchange.specs.Reasons.{EndTwice}
use Rattle.dcel_exchange.specs.Simple.{HasCorners, IsSimple, PassesTwice}
use Rattle.dcel_exchange.proofs.FaceCorners.{told_by_ends}
use Rattle.dcel_exchange.proofs.FirstSides.{count_few}
use Rattle.dcel_exchange.proofs.Placed.{Placed, as_many, find_below, item_of, placed, round_cycle}
use Rattle.dcel_exchange.proofs.SameEnds.{Matches, SameEnds, matched_mesh, prevs}

module _ {V DE UE F : Type 0} (m : Mesh V DE UE F) (mesh : IsMesh m) (simple : IsSimple m.shape) (vertices : ℕ) (faces : List (List ℕ))
    (has : HasCorners m.shape vertices faces) where
  abbrev s : Shape
  s = m.shape

  abbrev n : ℕ
  n = side_count faces

  abbrev M : Map
  M = map_of s

  abbrev item : ℕ → ℕ
  item = item_of s mesh.sound vertices faces has

  sides : Placed s faces item
  sides = placed s mesh.sound vertices faces has

  stands : Stands M s.words
  stands = links_stand mesh.sound

  back_live : (x : ℕ) → IsLive s x → IsLive s (rev x)
  back_live x live = rev_live M x live

  -- a face that is to have a half edge has one
  in_word : (f : ℕ) → word_of s.words f ≢ [] → (x : ℕ) × IsLive s x × (face_of s x ≡ f)
  in_word f full = elim (word_cases (word_of s.words f)) [
    | inl empty ↦ absurd (full empty)
    | inr (x, found) ↦ (x, live_in M s.words stands x f found, face_in_word M s.words stands x f found)
  ]

  inner_word : (f : ℕ) → 0 < f → f < face_count s → word_of s.words f ≢ []
  inner_word f inner below =
      mesh.sound.inner f inner (is_live-from (gives_up_face s.removal) (face_count s) f below (ap (λ r. gives_up_face r f) has.closed ∙ gives_up_face-closed f))

  outer_word : (x : ℕ) → IsLive s x → word_of s.words 0 ≢ []
  outer_word x live empty = both_ways (edge_is_live s (x / 2)) (mesh.sound.outer.0 empty (x / 2)) live

  -- sides with the same ends are one
  pub same_side : (i j : ℕ) → i < n → j < n → slice_index (starts faces) i ≡ slice_index (starts faces) j
      → slice_index (ends faces) i ≡ slice_index (ends faces) j → i ≡ j
  same_side i j i_in j_in start end =
      sides.apart i j i_in j_in (simple (item i) (item j) (sides.live i i_in) (sides.live j j_in)
      (sides.start i i_in ∙ start ∙ sym (sides.start j j_in)) (sides.end i i_in ∙ end ∙ sym (sides.end j j_in)))

  -- sides start at vertices, and end elsewhere
  pub start_below : (i : ℕ) → i < n → slice_index (starts faces) i < vertices
  start_below i below =
      let at = (map-sound mesh.sound).below_vertices (item i) (sides.live i below) in
      let start = sides.start i below in
      let many = has.vertices_are in
      omega (arith, at, start, many)

  pub two_ends : (i : ℕ) → i < n → slice_index (starts faces) i ≢ slice_index (ends faces) i
  two_ends i below same = mesh.sound.two_ends (item i) (sides.live i below) (sides.start i below ∙ same ∙ sym (sides.end i below))

  -- the half edge beyond a side that none leads back from lies on the outer face
  alone_outer : (q : ℕ) → q < n → ((i : ℕ) → i < n → ¬ LeadsBack (starts faces) (ends faces) q i) → face_of s (rev (item q)) ≡ 0
  alone_outer q below alone = elim (cases_eq (face_of s (rev (item q))) 0) [
    | inl outer ↦ outer
    | inr inner ↦
        let r = sides.onto (rev (item q)) (back_live (item q) (sides.live q below)) inner in
        absurd (alone r.0 r.1 (
          sym (sides.start r.0 r.1) ∙ ap (origin_of s) r.2 ∙ sides.end q below,
          sym (sides.end r.0 r.1) ∙ ap (end_of s) r.2 ∙ ap (origin_of s) (rev-rev (item q)) ∙ sides.start q below,
        ))
  ]

  -- and where two such start at one vertex, the outer face passes it twice
  pub passes_twice : (a : ℕ) → EndTwice (starts faces) (ends faces) (owners 0 faces) a → PassesTwice s a
  passes_twice a e =
      let start : (i : ℕ) → i < n → slice_index (ends faces) i ≡ a → origin_of s (rev (item i)) ≡ a = λ i below is. sides.end i below ∙ is in record {
        one = rev (item e.one);
        other = rev (item e.other);
        apart = λ same.
            e.apart (sides.apart e.one e.other e.one_below e.other_below (sym (rev-rev (item e.one)) ∙ ap rev same ∙ rev-rev (item e.other)));
        one_live = back_live (item e.one) (sides.live e.one e.one_below);
        other_live = back_live (item e.other) (sides.live e.other e.other_below);
        one_outer = alone_outer e.one e.one_below e.one_alone;
        other_outer = alone_outer e.other e.other_below e.other_alone;
        one_starts = start e.one e.one_below e.one_ends;
        other_starts = start e.other e.other_below e.other_ends;
      }

  -- a round of two half edges is a whole edge, with nothing outside
  no_two : (f x : ℕ) → 0 < f → IsLive s x → face_of s x ≡ f → next_of s x ≡ rev x → next_of s (rev x) ≡ x → ⊥
  no_two f x inner live at out back =
      let turned : face_of s (rev x) ≡ f = ap (face_of s) (sym out) ∙ face-next M s.words stands x live ∙ at in
      let y = in_word 0 (outer_word x live) in
      let around : (y.0 ≡ x) ⊎ (y.0 ≡ rev x) =
      reaches_stays (NextOrRev M) (λ z. (z ≡ x) ⊎ (z ≡ rev x)) stays (inl refl) (mesh.sphere.connected x y.0 live y.1) in
      elim around [
        | inl same ↦ omega (arith, inner, y.2, ap (face_of s) same, at)
        | inr same ↦ omega (arith, inner, y.2, ap (face_of s) same, turned)
      ]
    where
      stays : (a b : ℕ) → (a ≡ x) ⊎ (a ≡ rev x) → NextOrRev M a b → (b ≡ x) ⊎ (b ≡ rev x)
      stays a b (inl is) (inl leads) = inr (sym leads ∙ ap (next_of s) is ∙ out)
      stays a b (inl is) (inr turns) = inr (sym turns ∙ ap rev is)
      stays a b (inr is) (inl leads) = inl (sym leads ∙ ap (next_of s) is ∙ back)
      stays a b (inr is) (inr turns) = inl (sym turns ∙ ap rev is ∙ rev-rev x)

  -- so each round has three half edges at least
  long_round : (f : ℕ) → 0 < f → (w : List ℕ) → IsCycle (By (next_of s)) w → ((x : ℕ) → 0 < count_of x w → IsLive s x × (face_of s x ≡ f)) → w ≢ [] → 3 ≤ length w
  long_round f inner [] round on full = absurd (full refl)
  long_round f inner (x ∷ []) round on full =
      let live = (on x (omega (arith, count-same x []))).0 in
      absurd (mesh.sound.two_ends x live (ap (origin_of s) (sym round) ∙ mesh.sound.joined x live))
  long_round f inner (x ∷ y ∷ []) round on full =
      let first = on x (omega (arith, count-same x (y ∷ []))) in
      let second = on y (omega (arith, count-same y [])) in
      let is : y ≡ rev x =
      simple y (rev x) second.0 (back_live x first.0) (ap (origin_of s) (sym round.0) ∙ mesh.sound.joined x first.0)
      (sym (mesh.sound.joined y second.0) ∙ ap (origin_of s) (round.1 ∙ sym (rev-rev x))) in
      absurd (no_two f x inner first.0 first.1 (round.0 ∙ is) (ap (next_of s) (sym is) ∙ round.1))
  long_round f inner (x ∷ y ∷ z ∷ w) round on full = omega arith

  pub long_faces : (f : ℕ) → f < length faces → 3 ≤ length (slice_index_or faces f [])
  long_faces f below =
      let within : f < length has.rounds = omega (arith, below, as_many s mesh.sound vertices faces has) in
      let w : List ℕ = word_of has.rounds f in
      let turn = has.turns f below in
      let on : (x : ℕ) → 0 < count_of x w → IsLive s x × (face_of s x ≡ f + 1) =
      λ x found.
      let there : 0 < count_of x (word_of s.words (f + 1)) = omega (arith, found, count-turn x turn) in
      (live_in M s.words stands x (f + 1) there, face_in_word M s.words stands x (f + 1) there) in
      let some : word_of s.words (f + 1) ≢ [] = inner_word (f + 1) (omega arith) (let many = has.faces_are in omega (arith, many, below)) in
      let full : w ≢ [] = λ empty. elim (word_cases (word_of s.words (f + 1))) [
        | inl none ↦ some none
        | inr (x, found) ↦ omega (arith, found, count-turn x turn, ap (count_of x) empty)
      ] in
      let as_long : length (slice_index_or faces f []) ≡ length w =
      ap (λ list. length (slice_index_or list f [])) (sym has.corners) ∙ ap length (get_or-map (map (origin_of s)) has.rounds f [] [] within)
      ∙ length-map w (origin_of s) in
      omega (arith, as_long, long_round (f + 1) (omega arith) w (round_cycle s mesh.sound vertices faces has f within) on full)

  -- links of the faces are those of a mesh
  module _ (c : Claim) (l : AreLinks vertices faces c) where
    -- a side has the ends of its half edge, and the other half of that those of the other half
    side_same : (q h : ℕ) → q < n → l.number q ≡ h → SameEnds M c (item q) h
    side_same q h below is =
        subst (SameEnds M c (item q)) is
        record { start = sides.start q below ∙ sym (l.start q below); end = sides.end q below ∙ sym (l.end q below) }

    turned_same : (x h : ℕ) → SameEnds M c x h → SameEnds M c (rev x) (rev h)
    turned_same x h same =
        record { start = same.end; end = ap (origin_of s) (rev-rev x) ∙ same.start ∙ ap (slice_index c.origin) (sym (rev-rev h)) }

    beyond_same : (q h : ℕ) → q < n → rev (l.number q) ≡ h → SameEnds M c (rev (item q)) h
    beyond_same q h below is = subst (SameEnds M c (rev (item q))) is (turned_same (item q) (l.number q) (side_same q (l.number q) below refl))

    one_with : (x y h : ℕ) → IsLive s x → IsLive s y → SameEnds M c x h → SameEnds M c y h → x ≡ y
    one_with x y h live_x live_y same_x same_y =
        simple x y live_x live_y (same_x.start ∙ sym same_y.start) (same_x.end ∙ sym same_y.end)

    which : (h : ℕ) → ((p : ℕ) × (p < n) × (l.number p ≡ h)) ⊎ IsNoSide faces l.number h
    which h = find_below l.number h n

    -- what has the ends of no side lies on the outer face
    bare_outer : (x h : ℕ) → IsLive s x → h < halves c → SameEnds M c x h → IsNoSide faces l.number h → face_of s x ≡ 0
    bare_outer x h live below same bare =
        let b = l.beyond h below bare in
        let is : x ≡ rev (item b.side) =
        one_with x (rev (item b.side)) h live (back_live (item b.side) (sides.live b.side b.within)) same (beyond_same b.side h b.within b.turn) in
        ap (face_of s) is ∙ alone_outer b.side b.within b.alone

    -- and what lies there has the ends of none
    outer_bare : (x h : ℕ) → IsLive s x → SameEnds M c x h → face_of s x ≡ 0 → IsNoSide faces l.number h
    outer_bare x h live same outer p below is =
        let one = one_with (item p) x h (sides.live p below) live (side_same p h below is) same in
        omega (arith, sides.face p below, ap (face_of s) one, outer)

    forth : (x : ℕ) → IsLive s x → (h : ℕ) × (h < halves c) × SameEnds M c x h
    forth x live = elim (cases_eq (face_of s x) 0) [
      | inr inner ↦
          let r = sides.onto x live inner in
          (l.number r.0, l.below r.0 r.1, subst (λ y. SameEnds M c y (l.number r.0)) r.2 (side_same r.0 (l.number r.0) r.1 refl))
      | inl outer ↦
          let r = sides.onto (rev x) (back_live x live) (has.inside x live outer) in (
            rev (l.number r.0),
            rev_within (l.number r.0) (halves c) l.lists.even (l.below r.0 r.1),
            subst (λ y. SameEnds M c y (rev (l.number r.0))) (ap rev r.2 ∙ rev-rev x) (beyond_same r.0 (rev (l.number r.0)) r.1 refl),
          )
    ]

    back : (h : ℕ) → h < halves c → (x : ℕ) × IsLive s x × SameEnds M c x h
    back h below = elim (which h) [
      | inl (p, p_in, is) ↦ (item p, sides.live p p_in, side_same p h p_in is)
      | inr bare ↦ let b = l.beyond h below bare in
          (rev (item b.side), back_live (item b.side) (sides.live b.side b.within), beyond_same b.side h b.within b.turn)
    ]

    next : (x h : ℕ) → IsLive s x → h < halves c → SameEnds M c x h
        → (slice_index c.next h < halves c) × SameEnds M c (next_of s x) (slice_index c.next h)
    next x h live below same = elim (which h) [
      | inl (p, p_in, is) ↦
          let a : ℕ = slice_index (afters 0 faces) p in
          let a_in : a < n = sides.after_below p p_in in
          let one : x ≡ item p = one_with x (item p) h live (sides.live p p_in) same (side_same p h p_in is) in
          let leads : l.number a ≡ slice_index c.next h = sym (l.next p p_in) ∙ ap (slice_index c.next) is in (
            subst (λ k. k < halves c) leads (l.below a a_in),
            subst (λ y. SameEnds M c y (slice_index c.next h)) (sym (ap (next_of s) one ∙ sides.next p p_in)) (side_same a (slice_index c.next h) a_in leads),
          )
      | inr bare ↦
          let y : ℕ = next_of s x in
          let y_live : IsLive s y = next-live mesh.sound x live in
          let y_outer : face_of s y ≡ 0 = face-next M s.words stands x live ∙ bare_outer x h live below same bare in
          let k = forth y y_live in
          let leads : slice_index c.next h ≡ k.0 =
          l.around h k.0 below k.1 bare (outer_bare y k.0 y_live k.2 y_outer) (sym k.2.start ∙ mesh.sound.joined x live ∙ same.end) in
          (subst (λ z. z < halves c) (sym leads) k.1, subst (SameEnds M c y) (sym leads) k.2)
    ]

    on_face : (x h : ℕ) → IsLive s x → h < halves c → SameEnds M c x h → face_of s x ≡ slice_index c.face h
    on_face x h live below same = elim (which h) [
      | inl (p, p_in, is) ↦
          ap (face_of s) (one_with x (item p) h live (sides.live p p_in) same (side_same p h p_in is)) ∙ sides.face p p_in
          ∙ sym (l.face p p_in) ∙ ap (slice_index c.face) is
      | inr bare ↦ bare_outer x h live below same bare ∙ sym (l.border h below bare)
    ]

    matches : Matches M c
    matches = record {
      told = simple;
      told_claim = told_by_ends vertices faces c l;
      forth = forth;
      back = back;
      next = next;
      face = on_face;
      vertices = has.vertices_are ∙ sym l.vertices_are;
      faces = has.faces_are ∙ sym l.faces_are;
    }

    few : IsFew c
    few = record {
      vertices = let v = l.vertices_are in let w = has.vertices_are in let most = mesh.sized.few_vertices in omega (arith, v, w, most);
      half_edges =
          let e = l.half_edges in
          let most = l.few in
          omega (arith, e, most, count_few (starts faces) (ends faces) n);
      faces = let f = l.faces_are in let g = has.faces_are in let most = mesh.sized.few_faces in omega (arith, f, g, most);
    }

    -- so nothing is wrong with them
    pub no_fault : (fault : LinksFault) → ¬ Means c fault
    no_fault =
        refutes c (prevs M c (map-sound mesh.sound) l.lists matches)
        (matched_mesh M c (map-sound mesh.sound) l.lists matches (map-sphere mesh.sound mesh.sphere) few
        (let f = l.faces_are in omega (arith, f))
        (λ f inner below. in_word f (inner_word f inner (let g = l.faces_are in let k = has.faces_are in omega (arith, below, g, k))))
        (λ x live. in_word 0 (outer_word x live)))
