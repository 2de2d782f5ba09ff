-- A strip, sector by sector: each of its half edges but the last lies opposite a spoke, and turning leads from one spoke to the next.
use Rattle.std.proofs.Common.{◌≡◌, ◌≢◌, ◌↔◌, inl, inr, ℕ, ◌<◌, ◌≤◌, List, [], ◌∷◌, ◌++◌, drop, length, map, sym, refl, ap, ◌∙◌, subst, arith}
use Rattle.std.proofs.lemmas.Bool.{cases_eq}
use Rattle.dcel_maps.specs.Maps.{ccw}
use Rattle.dcel_maps.specs.Shapes.{IsLive, IsSound, Shape, face_of, map_of, next_of, origin_of, prev_of}
use Rattle.dcel_maps.specs.Strips.{IsEdgeStrip, IsStripAround, spokes_after}
use Rattle.dcel_maps.specs.Walking.{IsOutEdge, IsRoundTrip, ccw_of, walk_of}
use Rattle.dcel_maps.specs.Words.{count_of, last_of, word_of}
use Rattle.dcel_maps.specs.edits.Strip.{but_last}
use Rattle.dcel_maps.specs.theory.Cycles.{IsCycle}
use Rattle.dcel_maps.specs.theory.Sectors.{IsSector, IsStripFrom, Sectors}
use Rattle.dcel_maps.specs.theory.Sound.{Sound}
use Rattle.dcel_maps.specs.theory.Standing.{Follows}
use Rattle.dcel_maps.proofs.maps.Soundness.{ccw_live, face_cycles, face_prev, next_differs, vertex_cycles}
use Rattle.dcel_maps.proofs.removal.Sectors.{Seen, same_path, sectors_from, sectors_seen}
use Rattle.dcel_maps.proofs.shapes.Maps.{face-live, map-sound}
use Rattle.dcel_maps.proofs.walks.Links.{ccw-lawful, links_stand}
use Rattle.dcel_maps.proofs.walks.Turning.{walk-out_edges}
use Rattle.dcel_maps.proofs.walks.UnderWay.{walk-round}
use Rattle.dcel_maps.proofs.words.Counts.{count-none, count-same, first_or_later}
use Rattle.dcel_maps.proofs.words.EachSet.{but_last-is, last_of-is}
use Rattle.dcel_maps.proofs.words.Triangles.{written_from}
use Rattle.dcel_maps.proofs.words.Turns.{length-turn}

module _ (s : Shape) (sound : IsSound s) (h : ℕ) (live : IsLive s h) where
  abbrev v : ℕ
  v = origin_of s h

  t : Sound (map_of s)
  t = map-sound sound

  out : IsOutEdge s v h
  out = record { live = live; start = refl }

  trip : IsRoundTrip (ccw_of s) h (walk_of s (ccw_of s) h)
  trip = walk-round (ccw-lawful sound) h live

  each_out : (k : ℕ) → IsOutEdge s v k → 0 < count_of k (h ∷ trip.rest)
  each_out k at = omega (arith, (walk-out_edges sound v h out).each k at, ap (count_of k) trip.from)

  spoke_out : (k : ℕ) → 0 < count_of k trip.rest → IsOutEdge s v k
  spoke_out k found = (walk-out_edges sound v h out).no_other k (omega (arith, found, ap (count_of k) trip.from))

  not_spoke : count_of h trip.rest ≡ 0
  not_spoke = omega (arith, trip.once h, ap (count_of h) trip.from, count-same h trip.rest)

  spokes_are : spokes_after s h ≡ trip.rest
  spokes_are = ap (drop 1) trip.from

  -- a word has three half edges or more just where two steps don't lead back
  back_two : (r : List ℕ) → IsCycle (Follows (map_of s) (face_of s h)) (h ∷ r) → ((k : ℕ) → count_of k (h ∷ r) ≤ 1)
      → (2 < length (h ∷ r)) ↔ (next_of s (next_of s h) ≢ h)
  back_two [] cycle once = absurd (next_differs (map_of s) t h live cycle.next)
  back_two (x ∷ []) cycle once = (λ long. absurd (omega (arith, long)), λ goes_on. absurd (goes_on (ap (next_of s) cycle.0.next ∙ cycle.1.next)))
  back_two (x ∷ y ∷ r) cycle once = (
    λ long back.
        let is : y ≡ h = sym cycle.1.0.next ∙ ap (next_of s) (sym cycle.0.next) ∙ back in
        omega (arith, once h, count-same h (x ∷ y ∷ r), ap (λ z. count_of h (x ∷ z ∷ r)) is, count-same h r),
    λ goes_on. omega arith,
  )

  pub long_iff : (2 < length (word_of s.words (face_of s h))) ↔ (next_of s (next_of s h) ≢ h)
  long_iff =
      let w = written_from (map_of s) s.words (links_stand sound) h live in
      let both = back_two w.rest w.cycle w.single in
      (λ long. both.0 (omega (arith, long, length-turn w.turn)), λ goes_on. omega (arith, both.1 goes_on, length-turn w.turn))

  ends_elsewhere : (k : ℕ) → IsOutEdge s v k → origin_of s (next_of s k) ≢ v
  ends_elsewhere k at is = sound.two_ends k at.live (at.start ∙ sym is ∙ sound.joined k at.live)

  -- the spokes of a strip are sectors
  pub spokes_of-strip : IsStripAround s v h → Sectors s v (ccw_of s h) (map (next_of s) (spokes_after s h)) h
  spokes_of-strip around =
      subst (λ w. Sectors s v (ccw_of s h) (map (next_of s) w) h) (sym spokes_are)
      (sectors_from s v h h trip.rest trip.round (λ k found.
      let at = spoke_out k found in
      let inside : face_of s k ≢ 0 = λ outside. omega (arith, found, ap (λ z. count_of z trip.rest) (around.only k at outside), not_spoke) in (
        record {
          after = refl;
          inner = omega (arith, inside);
          triangle = record { live = face-live sound k at.live; three = around.triangles k at inside };
        },
        ends_elsewhere k at,
      )))

  -- and sectors round h are the spokes of a strip
  module _ (outer : face_of s h ≡ 0) (items : List ℕ) (sectors : Sectors s v (ccw_of s h) items h) where
    seen : Seen s v h h items
    seen = sectors_seen s v h h items sectors

    walked : trip.rest ≡ seen.rest
    walked = same_path (ccw_of s) h h trip.rest seen.rest trip.round seen.path not_spoke
        (count-none h seen.rest (λ k found is. omega (arith, (seen.sectors k found).0.inner, ap (face_of s) (sym is), outer)))

    pub items_are : items ≡ map (next_of s) (spokes_after s h)
    items_are = seen.ring ∙ ap (map (next_of s)) (sym walked ∙ sym spokes_are)

    sector_or : (k : ℕ) → IsOutEdge s v k → k ≢ h → IsSector s k (next_of s k)
    sector_or k at other = elim (first_or_later k h trip.rest (each_out k at)) [
      | inl is ↦ absurd (other is)
      | inr later ↦ (seen.sectors k (omega (arith, later, ap (count_of k) walked))).0
    ]

    pub strip_around : next_of s (next_of s h) ≢ h → IsStripAround s v h
    strip_around goes_on = record {
      out = out;
      outer = outer;
      only = λ x at outside. elim (cases_eq x h) [
        | inl is ↦ is
        | inr other ↦ absurd (omega (arith, (sector_or x at other).inner, outside))
      ];
      triangles = λ x at inside. (sector_or x at (λ is. inside (ap (face_of s) is ∙ outer))).triangle.three;
      long = subst (λ f. 2 < length (word_of s.words f)) outer (long_iff.1 goes_on);
    }

-- a list that ends with `last` is a strip just where it is one from there
pub strip_iff-from : (s : Shape) → IsSound s → (list others : List ℕ) (last : ℕ) → list ≡ others ++ last ∷ [] → IsEdgeStrip s list ↔ IsStripFrom s last others
strip_iff-from s sound list others last parts =
    let t = map-sound sound in (
      λ strip.
          let h = strip.half in
          let spokes = map (next_of s) (spokes_after s h) in
          let both : others ++ last ∷ [] ≡ spokes ++ next_of s h ∷ [] = sym parts ∙ strip.is in
          let end : last ≡ next_of s h = sym (last_of-is 0 others last) ∙ ap (last_of 0) both ∙ last_of-is 0 spokes (next_of s h) in
          let front : others ≡ spokes = sym (but_last-is others last) ∙ ap but_last both ∙ but_last-is spokes (next_of s h) in
          let live = strip.around.out.live in
          let back : prev_of s last ≡ h = ap (prev_of s) end ∙ t.prev-next h live in
          let around = subst (λ z. IsStripAround s z h) (sym strip.around.out.start) strip.around in
          record {
            live = subst (IsLive s) (sym end) (t.live_next h live);
            outer = ap (face_of s) end ∙ (face_cycles (map_of s) t).along h live ∙ strip.around.outer;
            long = λ is.
                (long_iff s sound h live).0 (subst (λ f. 2 < length (word_of s.words f)) (sym strip.around.outer) strip.around.long)
                (ap (next_of s) (sym end) ∙ is ∙ back);
            spokes =
                subst (λ k. Sectors s (origin_of s k) (ccw_of s k) others k) (sym back)
                (subst (λ w. Sectors s (origin_of s h) (ccw_of s h) w h) (sym front) (spokes_of-strip s sound h live around));
          },
      λ from.
          let h = prev_of s last in
          let live = t.live_prev last from.live in
          let outer : face_of s h ≡ 0 = face_prev (map_of s) t last from.live ∙ from.outer in
          let next : next_of s h ≡ last = t.next-prev last from.live in
          record {
            vertex = origin_of s h;
            half = h;
            around = strip_around s sound h live outer others from.spokes (λ is. from.long (ap (next_of s) (sym next) ∙ is));
            is = parts ∙ ap (λ w. w ++ last ∷ []) (items_are s sound h live outer others from.spokes)
                ∙ ap (λ z. map (next_of s) (spokes_after s h) ++ z ∷ []) (sym next);
          },
    )

turned_out : (s : Shape) → IsSound s → (h : ℕ) → IsLive s h → IsOutEdge s (origin_of s h) (ccw_of s h)
unfolding ccw
turned_out s sound h live =
    let t = map-sound sound in record { live = ccw_live (map_of s) t h live; start = (vertex_cycles (map_of s) t).along h live }

-- under way along the spokes: `left` is still to come
pub record GoesAlong (s : Shape) (first : ℕ) (others : List ℕ) (now : ℕ) (left : List ℕ) : Type 0 where
  pub live : IsLive s now
  pub start : origin_of s now ≡ origin_of s first
  pub same : Sectors s (origin_of s first) now left first ↔ Sectors s (origin_of s first) (ccw_of s first) others first

pub along_begins : (s : Shape) → IsSound s → (first : ℕ) (others : List ℕ) → IsLive s first → GoesAlong s first others (ccw_of s first) others
along_begins s sound first others live =
    record {
      live = (ccw-lawful sound).stays first live;
      start = (turned_out s sound first live).start;
      same = (λ is. is, λ is. is);
    }

module _ (s : Shape) (first : ℕ) (others : List ℕ) (now edge : ℕ) (left after : List ℕ) (on : GoesAlong s first others now left)
    (parts : left ≡ edge ∷ after) where
  -- it goes on by a sector
  pub along_goes_on : IsSound s → IsSector s now edge → GoesAlong s first others (ccw_of s now) after
  along_goes_on sound sector =
      let apart : origin_of s edge ≢ origin_of s first = λ is.
      sound.two_ends now on.live (on.start ∙ sym is ∙ ap (origin_of s) (sym sector.after) ∙ sound.joined now on.live) in
      record {
        live = (ccw-lawful sound).stays now on.live;
        start = (turned_out s sound now on.live).start ∙ on.start;
        same = (
          λ rest. on.same.0 (subst (λ w. Sectors s (origin_of s first) now w first) (sym parts) (sector, apart, rest)),
          λ whole. (subst (λ w. Sectors s (origin_of s first) now w first) parts (on.same.1 whole)).2,
        );
      }
