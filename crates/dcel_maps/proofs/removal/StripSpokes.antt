-- The spokes of a strip joined away: what is left goes round the outer face, past the triangles.
use Rattle.std.proofs.Common.{◌≡◌, ◌≢◌, inl, inr, ◌<◌, ◌≤◌, ℕ, List, [], ◌∷◌, ◌++◌, length, length-append, append-nil, map, drop, sym, refl, ap, ◌∙◌, subst, arith}
use Rattle.std.proofs.lemmas.Bool.{cases_eq}
use Rattle.dcel_fixed.specs.HalfEdges.{rev}
use Rattle.dcel_maps.specs.Maps.{By, Live, Map, ccw}
use Rattle.dcel_maps.specs.Shapes.{IsSound, IsSphere, Shape, face_of, map_of, next_of, origin_of, prev_of}
use Rattle.dcel_maps.specs.Strips.{IsStripAround, spokes_after}
use Rattle.dcel_maps.specs.theory.Cycles.{IsCycle, Path}
use Rattle.dcel_maps.specs.theory.Sound.{Sound}
use Rattle.dcel_maps.specs.theory.Standing.{Follows, Stands}
use Rattle.dcel_maps.specs.Walking.{IsOutEdge, IsRoundTrip, ccw_of, walk_of}
use Rattle.dcel_maps.specs.Words.{TurnsTo, count_of, word_of}
use Rattle.dcel_maps.proofs.maps.Halves.{rev-rev}
use Rattle.dcel_maps.proofs.maps.Lists.{extends_same}
use Rattle.dcel_maps.proofs.maps.Soundness.{ccw_live, vertex_cycles}
use Rattle.dcel_maps.proofs.removal.Holes.{HoleOf, hollow, is_hollow}
use Rattle.dcel_maps.proofs.removal.Spokes.{Different, Merged, Opened, Sector, opened}
use Rattle.dcel_maps.proofs.shapes.Maps.{map-sound, map-sphere}
use Rattle.dcel_maps.proofs.walks.Links.{ccw-lawful, links_stand}
use Rattle.dcel_maps.proofs.walks.Turning.{walk-out_edges}
use Rattle.dcel_maps.proofs.walks.UnderWay.{walk-round}
use Rattle.dcel_maps.proofs.words.Counts.{count-append, count-same, first_or_later}
use Rattle.dcel_maps.proofs.words.Paths.{Path-split}
use Rattle.dcel_maps.proofs.words.Reading.{stands_in_face}
use Rattle.dcel_maps.proofs.words.Triangles.{WrittenFrom, is_triangle, triangle_turn, written_from}
use Rattle.dcel_maps.proofs.words.Turns.{count-turn, length-turn}

-- a list that is not empty has a last item
last_split : (r : List ℕ) → 0 < length r → (front : List ℕ) × (last : ℕ) × (r ≡ front ++ last ∷ [])
last_split [] some = absurd (omega (arith, some))
last_split (x ∷ []) some = ([], x, refl)
last_split (x ∷ y ∷ r) some = let (front, last, is) = last_split (y ∷ r) (omega arith) in (x ∷ front, last, ap (λ l. x ∷ l) is)

front_inside : (front : List ℕ) (last : ℕ) (r : List ℕ) → r ≡ front ++ last ∷ [] → 1 < length r → 0 < length front
front_inside front last r is long = omega (arith, ap length is, long, length-append front (last ∷ []))

-- nothing is joined away yet
nothing_away : (T : Map) (f h : ℕ) (w : List ℕ) → Merged T f h w h → Opened T T f h [] w f
nothing_away T f h w m = record {
  merged = m;
  origin = λ x. refl;
  gone = λ x found. absurd (omega (arith, found));
  kept = λ u apart. refl;
  edges = refl;
  vertices = refl;
  faces = refl;
  keeps_face = λ n untouched. record {
    comes = λ x live at. (live, at);
    live = λ x live at. live;
    next = λ x live at. refl;
    prev = λ x live at. refl;
    face = λ x live at. at;
  };
  cases = λ x live. elim (cases_eq (T.face x) f) [
    | inl same ↦ inl same
    | inr other ↦ inr record { off = other; away = λ y found. absurd (omega (arith, found)) }
  ];
  comes = extends_same T;
}

module _ (s : Shape) (sound : IsSound s) (sphere : IsSphere s) (v h : ℕ) (around : IsStripAround s v h) where
  abbrev T : Map
  T = map_of s

  abbrev f : ℕ
  f = face_of s h

  t : Sound T
  t = map-sound sound

  stands : Stands T s.words
  stands = links_stand sound

  -- a spoke: an out edge of v that is not h
  pub record IsSpoke (x : ℕ) : Type 0 where
    pub out : IsOutEdge s v x
    pub other : x ≢ h

  pub spoke_inner : (x : ℕ) → IsSpoke x → face_of s x ≢ 0
  spoke_inner x k at = k.other (around.only x k.out at)

  triangle : (x : ℕ) → IsSpoke x → TurnsTo (word_of s.words (face_of s x)) (x ∷ next_of s x ∷ prev_of s x ∷ [])
  triangle x k = triangle_turn T s.words stands x k.out.live (around.triangles x k.out (spoke_inner x k))

  turned : (x : ℕ) → IsOutEdge s v x → IsOutEdge s v (ccw_of s x)
  unfolding ccw
  turned x o = record { live = ccw_live T t x o.live; start = (vertex_cycles T t).along x o.live ∙ o.start }

  -- no other out edge lies on the triangle of a spoke
  pub spoke_alone : (x y : ℕ) → IsSpoke x → IsOutEdge s v y → face_of s x ≡ face_of s y → y ≡ x
  spoke_alone x y k out_y same =
      let found : 0 < count_of y (x ∷ next_of s x ∷ prev_of s x ∷ []) = omega (
        arith,
        count-turn y (triangle x k),
        subst (λ g. 0 < count_of y (word_of s.words g)) (sym same) (stands_in_face T s.words stands y out_y.live),
      ) in
      let c = turned x k.out in
      elim (first_or_later y x (next_of s x ∷ prev_of s x ∷ []) found) [
        | inl i ↦ i
        | inr later ↦ elim (first_or_later y (next_of s x) (prev_of s x ∷ []) later) [
          | inl i ↦
              absurd (t.two_ends x k.out.live (k.out.start ∙ sym out_y.start ∙ ap (origin_of s) i ∙ t.origin-next x k.out.live))
          | inr last ↦ elim (first_or_later y (prev_of s x) [] last) [
            | inl i ↦
                absurd (t.two_ends (ccw_of s x) c.live (c.start ∙ sym out_y.start ∙ ap (origin_of s) (i ∙ sym (rev-rev (prev_of s x)))))
            | inr none ↦ absurd (omega (arith, none))
          ]
        ]
      ]

  -- the triangle between a spoke and the next one
  sector : (x q : ℕ) → IsSpoke x → ccw_of s x ≡ q → Sector T x q
  sector x q k next =
      let back : prev_of s x ≡ rev q = sym (rev-rev (prev_of s x)) ∙ ap rev next in
      record {
        live = k.out.live;
        next = (is_triangle T s.words stands x k.out.live t).0 (around.triangles x k.out (spoke_inner x k)) ∙ back;
        back = ap (next_of s) (sym back) ∙ t.next-prev x k.out.live;
      }

  sectors : (x : ℕ) (xs : List ℕ) → ((k : ℕ) → 0 < count_of k (x ∷ xs) → IsSpoke k) → Path (By (ccw_of s)) x xs h → Path (Sector T) x xs h
  sectors x [] spoke path = sector x h (spoke x (omega (arith, count-same x []))) path
  sectors x (y ∷ xs) spoke path = (
    sector x y (spoke x (omega (arith, count-same x (y ∷ xs)))) path.0,
    sectors y xs (λ k found. spoke k (omega (arith, found))) path.1,
  )

  different : (g : ℕ) (xs : List ℕ) → ((k : ℕ) → 0 < count_of k xs → IsSpoke k) → ((k : ℕ) → count_of k xs ≤ 1)
      → ((k : ℕ) → 0 < count_of k xs → face_of s k ≢ g) → Different T g xs
  different g [] spoke once apart = tt
  different g (x ∷ xs) spoke once apart = (
    apart,
    different (face_of s x) xs (λ k found. spoke k (omega (arith, found))) (λ k. omega (arith, once k)) (λ k found same.
        let is = spoke_alone x k (spoke x (omega (arith, count-same x xs))) (spoke k (omega (arith, found))).out (sym same) in
        omega (arith, once x, count-same x xs, ap (λ z. count_of z xs) is, found)),
  )

  -- the spokes, in the order of `ccw`
  pub trip : IsRoundTrip (ccw_of s) h (walk_of s (ccw_of s) h)
  trip = walk-round (ccw-lawful sound) h around.out.live

  pub spokes_are : spokes_after s h ≡ trip.rest
  spokes_are = ap (drop 1) trip.from

  once_around : (k : ℕ) → count_of k (h ∷ trip.rest) ≤ 1
  once_around k = omega (arith, trip.once k, ap (count_of k) trip.from)

  pub each_out : (k : ℕ) → IsOutEdge s v k → 0 < count_of k (h ∷ trip.rest)
  each_out k out = omega (arith, (walk-out_edges sound v h around.out).each k out, ap (count_of k) trip.from)

  pub all_out : (k : ℕ) → 0 < count_of k (h ∷ trip.rest) → IsOutEdge s v k
  all_out k found = (walk-out_edges sound v h around.out).no_other k (omega (arith, found, ap (count_of k) trip.from))

  pub are_spokes : (k : ℕ) → 0 < count_of k trip.rest → IsSpoke k
  are_spokes k found = record {
    out = all_out k (omega (arith, found));
    other = λ i. omega (arith, once_around h, count-same h trip.rest, ap (λ z. count_of z trip.rest) i, found);
  }

  pub spokes_once : (k : ℕ) → count_of k trip.rest ≤ 1
  spokes_once k = omega (arith, once_around k)

  -- the outer word, written from h: h, y, r, and the half edge before h
  pub record OuterWord (y : ℕ) (r : List ℕ) : Type 0 where
    pub turn : TurnsTo (word_of s.words f) (h ∷ y ∷ r ++ prev_of s h ∷ [])
    pub single : (k : ℕ) → count_of k (h ∷ y ∷ r ++ prev_of s h ∷ []) ≤ 1
    pub cycle : IsCycle (Follows T f) (h ∷ y ∷ r ++ prev_of s h ∷ [])

  written : WrittenFrom T s.words h
  written = written_from T s.words stands h around.out.live

  written_long : 2 < length (h ∷ written.rest)
  written_long = omega (arith, length-turn written.turn, ap (λ g. length (word_of s.words g)) around.outer, around.long)

  named : (front : List ℕ) → written.rest ≡ front ++ prev_of s h ∷ [] → 0 < length front → (y : ℕ) × (r : List ℕ) × OuterWord y r
  named [] is some = absurd (omega (arith, some))
  named (y ∷ r) is some = (
    y,
    r,
    record {
      turn = subst (λ l. TurnsTo (word_of s.words f) (h ∷ l)) is written.turn;
      single = λ k. subst (λ l. count_of k (h ∷ l) ≤ 1) is (written.single k);
      cycle = subst (λ l. IsCycle (Follows T f) (h ∷ l)) is written.cycle;
    },
  )

  comes_before : (front : List ℕ) (last : ℕ) → IsCycle (Follows T f) (h ∷ front ++ last ∷ []) → last ≡ prev_of s h
  comes_before front last cycle = sym (Path-split (Follows T f) h front last [] h cycle).1.prev

  parted : (front : List ℕ) (last : ℕ) → written.rest ≡ front ++ last ∷ [] → (y : ℕ) × (r : List ℕ) × OuterWord y r
  parted front last is =
      let before = comes_before front last (subst (λ l. IsCycle (Follows T f) (h ∷ l)) is written.cycle) in
      named front (is ∙ ap (λ k. front ++ k ∷ []) before) (front_inside front last written.rest is (omega (arith, written_long)))

  pub outer_word : (y : ℕ) × (r : List ℕ) × OuterWord y r
  outer_word = let (front, last, is) = last_split written.rest (omega (arith, written_long)) in parted front last is

  module _ (y : ℕ) (r : List ℕ) (outer : OuterWord y r) where
    -- the outer face reaches up to the first spoke, or round to h where there is none
    merged : Merged T f h (y ∷ r) (ccw_of s h)
    merged =
        let g = prev_of s h in
        let back : prev_of s h ≡ rev (ccw_of s h) = sym (rev-rev (prev_of s h)) in
        let parts = Path-split (Follows T f) h (y ∷ r) g [] h outer.cycle in
        record {
          sound = t;
          sphere = map-sphere sound sphere;
          path = subst (λ z. Path (Follows T f) h (y ∷ r) z) back parts.0;
          close = subst (λ z. Follows T f z h) back parts.1;
          apart = subst (λ z. count_of z (h ∷ y ∷ r) ≡ 0) back
              (omega (arith, outer.single g, count-append g (h ∷ y ∷ r) (g ∷ []), count-same g []));
          once = omega (arith, outer.single h, count-same h (y ∷ r ++ g ∷ []), count-append h (y ∷ r) (g ∷ []));
        }

    -- all spokes joined away
    away_from : (xs : List ℕ) → ((k : ℕ) → 0 < count_of k xs → IsSpoke k) → ((k : ℕ) → count_of k xs ≤ 1) → Path (By (ccw_of s)) h xs h
        → (K : Map) × (g : ℕ) × Opened T K f h xs (y ∷ r ++ map (next_of s) xs) g
    away_from [] spoke once path = (
      T,
      f,
      subst (λ w. Opened T T f h [] w f) (sym (append-nil (y ∷ r))) (nothing_away T f h (y ∷ r) (subst (Merged T f h (y ∷ r)) path merged)),
    )
    away_from (x ∷ xs) spoke once path =
        opened xs T f h (y ∷ r) x (subst (Merged T f h (y ∷ r)) path.0 merged) (sectors x xs spoke path.1)
        (different f (x ∷ xs) spoke once (λ k found at. spoke_inner k (spoke k found) (at ∙ around.outer)))

    pub record StripAway : Type 0 where
      pub left : Map
      pub hole : HoleOf T left (h ∷ trip.rest) (y ∷ r ++ map (next_of s) trip.rest) f

    -- and h as a spur
    pub strip_away : StripAway
    strip_away =
        let (K, g, o) = away_from trip.rest are_spokes spokes_once trip.round in
        let free : (x : ℕ) → Live K x → K.face x ≢ g → K.face x ≢ f = λ x live other. elim (o.cases x live) [
          | inl same ↦ absurd (other same)
          | inr untouched ↦ untouched.off
        ] in
        record {
          left = hollow T K h trip.rest y (r ++ map (next_of s) trip.rest) g f o free;
          hole = is_hollow T K h trip.rest y (r ++ map (next_of s) trip.rest) g f o free;
        }
