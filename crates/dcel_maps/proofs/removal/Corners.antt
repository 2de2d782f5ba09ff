-- The triangles round a vertex with a border loop, in the map of the shape.
use Rattle.std.proofs.Common.{◌≡◌, ◌≢◌, inl, inr, ◌<◌, ◌≤◌, ℕ, List, [], ◌∷◌, length, map, reverse, sym, refl, ap, ◌∙◌, subst, arith}
use Rattle.std.proofs.lemmas.Bool.{cases_eq}
use Rattle.std.proofs.lemmas.List.{length-map, length-reverse}
use Rattle.dcel_fixed.specs.HalfEdges.{rev}
use Rattle.dcel_maps.specs.Maps.{By, Live, Map}
use Rattle.dcel_maps.specs.theory.Sound.{Sound, Sphere}
use Rattle.dcel_maps.specs.Shapes.{IsSound, IsSphere, Shape, map_of, next_of}
use Rattle.dcel_maps.specs.Walking.{IsOutEdge, IsRoundTrip, ccw_of, walk_of}
use Rattle.dcel_maps.specs.theory.Cycles.{Path}
use Rattle.dcel_maps.specs.Words.{count_of}
use Rattle.dcel_maps.proofs.maps.Halves.{rev-rev}
use Rattle.dcel_maps.proofs.maps.Soundness.{face_cycles, next_differs}
use Rattle.dcel_maps.proofs.maps.Triangles.{off_triangle, triangle_at}
use Rattle.dcel_maps.proofs.walks.Links.{ccw-lawful, links_stand}
use Rattle.dcel_maps.proofs.words.Mapped.{count-mapped}
use Rattle.dcel_maps.proofs.walks.Turning.{walk-out_edges}
use Rattle.dcel_maps.proofs.walks.UnderWay.{walk-round}
use Rattle.dcel_maps.proofs.words.Counts.{count-none, count-same, count-later, first_or_later}
use Rattle.dcel_maps.proofs.words.Paths.{Path-changed}
use Rattle.dcel_maps.proofs.words.Triangles.{is_triangle}
use Rattle.dcel_maps.proofs.shapes.Maps.{map-sound, map-sphere}
use Rattle.dcel_maps.specs.Borders.{IsBorderLoop}
use Rattle.dcel_maps.proofs.removal.Holes.{HoleOf, P, hole}
use Rattle.dcel_maps.proofs.removal.Spokes.{Different, Merged, Sector, follows, opened}

-- in a sound map: on a triangle no other half edge starts where one does
pub same_corner : (S : Map) → Sound S → (p : ℕ) → Live S p → S.next (S.next p) ≡ S.prev p
    → (q : ℕ) → Live S q → S.origin q ≡ S.origin p → S.face q ≡ S.face p → q ≡ p
same_corner S sound p live three q live_q start same = elim (cases_eq q p) [
  | inl is ↦ is
  | inr not_p ↦ elim (cases_eq q (S.next p)) [
    | inl is ↦ absurd (sound.two_ends p live (sym start ∙ ap S.origin is ∙ sound.origin-next p live))
    | inr not_next ↦ elim (cases_eq q (S.prev p)) [
      | inl is ↦
          absurd (sound.two_ends q live_q
          (start ∙ ap S.origin (sym (sound.next-prev p live)) ∙ ap (λ z. S.origin (S.next z)) (sym is) ∙ sound.origin-next q live_q))
      | inr not_prev ↦
          absurd (off_triangle S sound (S.face p) p (S.next p) (S.prev p) (triangle_at S sound p live three) q live_q (not_p, not_next, not_prev) same)
    ]
  ]
]

-- out edges of v with triangles, none of them twice, lie on different faces
module _ (S : Map) (sound : Sound S) (v : ℕ) where
  record Corner (p : ℕ) : Type 0 where
    live : Live S p
    start : S.origin p ≡ v
    three : S.next (S.next p) ≡ S.prev p

  corners_differ : (h : ℕ) (ks : List ℕ) → ((x : ℕ) → 0 < count_of x (h ∷ ks) → Corner x) → ((x : ℕ) → count_of x (h ∷ ks) ≤ 1) → Different S (S.face h) ks
  corners_differ h [] corner once = tt
  corners_differ h (k ∷ ks) corner once = (
    λ x found at.
        let at_h = corner h (omega (arith, count-same h (k ∷ ks))) in
        let at_x = corner x (count-later x h (k ∷ ks) found) in
        let same : x ≡ h = same_corner S sound h at_h.live at_h.three x at_x.live (at_x.start ∙ sym at_h.start) at in
        let again : 0 < count_of h (k ∷ ks) = subst (λ z. 0 < count_of z (k ∷ ks)) same found in
        omega (arith, once h, count-same h (k ∷ ks), again),
    corners_differ k ks (λ x found. corner x (count-later x h (k ∷ ks) found)) (λ x. omega (arith, once x)),
  )

  -- a corner and the one after it
  corner_sector : (p q : ℕ) → Corner p → rev (S.prev p) ≡ q → Sector S p q
  corner_sector p q c turn =
      let back : S.prev p ≡ rev q = sym (rev-rev (S.prev p)) ∙ ap rev turn in
      record { live = c.live; next = c.three ∙ back; back = ap S.next (sym back) ∙ sound.next-prev p c.live }

  -- the first triangle is merged with nothing yet
  first_merged : Sphere S → (h k : ℕ) → Corner h → rev (S.prev h) ≡ k → Merged S (S.face h) h (S.next h ∷ []) k
  first_merged sphere h k c turn =
      let sector = corner_sector h k c turn in
      let along = (face_cycles S sound).along in
      let r = S.next h in
      let live_r = sound.live_next h c.live in
      let live_k : Live S (rev k) = subst (Live S) sector.next (sound.live_next r live_r) in
      let face_r = along h c.live in
      let face_k : S.face (rev k) ≡ S.face h = ap S.face (sym sector.next) ∙ along r live_r ∙ face_r in
      let k≢h : rev k ≢ h = λ i. next_differs S sound (rev k) live_k (sector.back ∙ sym i) in
      let k≢r : rev k ≢ r = λ i. next_differs S sound r live_r (sector.next ∙ i) in
      record {
        sound = sound;
        sphere = sphere;
        path = (follows S sound (S.face h) h r c.live refl refl, follows S sound (S.face h) r (rev k) live_r sector.next face_r);
        close = follows S sound (S.face h) (rev k) h live_k sector.back face_k;
        apart = count-none (rev k) (h ∷ r ∷ []) (λ x found same. elim (first_or_later x h (r ∷ []) found) [
          | inl i ↦ k≢h (same ∙ i)
          | inr later ↦ elim (first_or_later x r [] later) [ inl i ↦ k≢r (same ∙ i) | inr none ↦ omega (arith, none) ]
        ]);
        once = count-none h (r ∷ []) (λ x found same. elim (first_or_later x r [] found) [
          | inl i ↦ next_differs S sound h c.live (sym (same ∙ i))
          | inr none ↦ omega (arith, none)
        ]);
      }

-- the hole of a vertex with a border loop: the spokes are taken away, and the face n goes along the ring
pub record HoleAt (s : Shape) (v : ℕ) (ring : List ℕ) (n : ℕ) : Type 0 where
  pub spokes : List ℕ
  pub map : Map
  pub is_hole : HoleOf (map_of s) map spokes ring n
  pub as_long : length spokes ≡ length ring
  pub out : (x : ℕ) → IsOutEdge s v x → 0 < count_of x spokes
  pub each_out : (x : ℕ) → 0 < count_of x spokes → IsOutEdge s v x
  pub along : (x : ℕ) → 0 < count_of x spokes → 0 < count_of (next_of s x) ring

module _ (s : Shape) (sound : IsSound s) (sphere : IsSphere s) (border : List ℕ) (v n : ℕ) (l : IsBorderLoop s border v) (above : length s.words ≤ n) where
  abbrev S : Map
  S = map_of s

  trip : IsRoundTrip (ccw_of s) l.first (walk_of s (ccw_of s) l.first)
  trip = walk-round (ccw-lawful sound) l.first l.out.live

  lists : (x : ℕ) → 0 < count_of x (l.first ∷ trip.rest) → IsOutEdge s v x
  lists x found = (walk-out_edges sound v l.first l.out).no_other x (rw trip.from found)

  corner : (x : ℕ) → 0 < count_of x (l.first ∷ trip.rest) → Corner S (map-sound sound) v x
  corner x found =
      let out = lists x found in
      record {
        live = out.live;
        start = out.start;
        three = (is_triangle S s.words (links_stand sound) x out.live (map-sound sound)).0 ((l.triangles x out).1.three);
      }

  once : (x : ℕ) → count_of x (l.first ∷ trip.rest) ≤ 1
  once x = subst (λ (w : List ℕ). count_of x w ≤ 1) trip.from (trip.once x)

  ring_is : reverse border ≡ map (next_of s) (l.first ∷ trip.rest)
  ring_is = l.ring ∙ ap (map (next_of s)) trip.from

  long : 3 ≤ length (l.first ∷ trip.rest)
  long =
      let same = ap length ring_is in
      omega (arith, l.many, same, length-reverse border, length-map (l.first ∷ trip.rest) (next_of s))

  from_rest : (rest : List ℕ) → Path (By (ccw_of s)) l.first rest l.first → ((x : ℕ) → 0 < count_of x (l.first ∷ rest) → Corner S (map-sound sound) v x)
      → ((x : ℕ) → count_of x (l.first ∷ rest) ≤ 1) → 3 ≤ length (l.first ∷ rest)
      → (M : Map) × HoleOf S M (l.first ∷ rest) (map (next_of s) (l.first ∷ rest)) n
  from_rest [] round corner once enough = absurd (omega arith)
  from_rest (k ∷ ks) round corner once enough =
      let h = l.first in
      let snd = map-sound sound in
      let at_h = corner h (omega (arith, count-same h (k ∷ ks))) in
      let later : (x : ℕ) → 0 < count_of x (k ∷ ks) → Corner S snd v x = λ x found. corner x (count-later x h (k ∷ ks) found) in
      let o = opened ks S (S.face h) h (S.next h ∷ []) k
      (first_merged S snd v (map-sphere sound sphere) h k at_h round.0)
      (Path-changed (By (ccw_of s)) (Sector S) k ks h h
      (λ p q p_in q_in turn. corner_sector S snd v p q (later p p_in) turn)
      (λ p p_in turn. corner_sector S snd v p h (later p p_in) turn) round.1)
      (corners_differ S snd v h (k ∷ ks) corner once) in (
        P S o.0 h (k ∷ ks) (S.next h) (map S.next (k ∷ ks)) o.1 n o.2 snd at_h.live above,
        hole S o.0 h (k ∷ ks) (S.next h) (map S.next (k ∷ ks)) o.1 n o.2 snd at_h.live above,
      )

  pub hole_at : HoleAt s v (reverse border) n
  hole_at =
      let found = from_rest trip.rest trip.round corner once long in
      record {
        spokes = l.first ∷ trip.rest;
        map = found.0;
        is_hole = subst (λ (r : List ℕ). HoleOf S found.0 (l.first ∷ trip.rest) r n) (sym ring_is) found.1;
        as_long = sym (length-map (l.first ∷ trip.rest) (next_of s)) ∙ ap length (sym ring_is);
        out = λ x out. subst (λ (w : List ℕ). 0 < count_of x w) trip.from (let each = (walk-out_edges sound v l.first l.out).each x out in omega (arith, each));
        each_out = lists;
        along = λ x found. subst (λ (w : List ℕ). 0 < count_of (next_of s x) w) (sym ring_is) (count-mapped (next_of s) (l.first ∷ trip.rest) x found);
      }
