-- A triangle closed where the outer face turns in, while the old vertices are a line: their order along it stays.
use Rattle.std.proofs.Common.{◌≡◌, ◌≢◌, ◌⊎◌, inl, inr, ℕ, sym, ap, ◌∙◌, subst, pos, ◌<ℤ◌, ◌≤ℤ◌, arith}
use Rattle.dcel_fixed.specs.HalfEdges.{rev}
use Rattle.dcel_predicates.specs.Determinants.{orient2d_of}
use Rattle.dcel_predicates.specs.declared.point.Point.{Point}
use Rattle.dcel_predicates.proofs.Points.{orient2d-first_swapped, orient2d-last_swapped, orient2d-sum, orient2d-turned}
use Rattle.dcel_predicates.proofs.Signs.{ordered}
use Rattle.dcel_maps.specs.Shapes.{IsLive, Shape, end_of, face_of, map_of, next_of, origin_of, prev_of}
use Rattle.dcel_maps.proofs.maps.Soundness.{rev_live}
use Rattle.dcel_maps.proofs.shapes.Maps.{map-sound}
use Rattle.dcel_maps.proofs.walks.Links.{links_stand, next-live}
use Rattle.dcel_maps.proofs.words.Reading.{face-next}
use Rattle.dcel_plane.specs.Plane.{IsLeftOf}
use Rattle.dcel_plane.proofs.covering.Inside.{on_end, on_start}
use Rattle.dcel_plane.specs.hull.Closing.{IsClosing, IsThin}
use Rattle.dcel_plane.specs.covering.Covering.{dot}
use Rattle.dcel_plane.specs.hull.Straight.{dot_of_steps}
use Rattle.dcel_plane.proofs.hull.ClosingStep.{tip_cases, start_is, end_is, of_start, of_old, tip_before, tip_after}
use Rattle.dcel_plane.proofs.hull.Step.{IsStep, Stays}

fan_ahead : (r t u w : Point) → orient2d_of t u r ≤ℤ pos 0 → pos 0 <ℤ orient2d_of t u w → orient2d_of u w r ≤ℤ pos 0 → orient2d_of t w r ≤ℤ pos 0
fan_ahead r t u w first turns right =
    let sum = orient2d-sum t u w r in
    let a = orient2d-turned r u w in
    let b = orient2d-turned r t u in
    let c = orient2d-turned t w r in
    let d = orient2d-turned w r t in
    let f = orient2d-last_swapped r t w in
    omega (arith, ordered, sum, a, b, c, d, f, first, turns, right)

fan_behind : (r q t u : Point) → orient2d_of q t u ≤ℤ pos 0 → pos 0 <ℤ orient2d_of r q t → orient2d_of r q u ≤ℤ pos 0 → orient2d_of r t u ≤ℤ pos 0
fan_behind r q t u first turns right =
    let sum = orient2d-sum r q t u in
    let a = orient2d-turned u q t in
    let b = orient2d-turned u r q in
    let c = orient2d-turned u t r in
    let d = orient2d-first_swapped r t u in
    omega (arith, ordered, sum, a, b, c, d, first, turns, right)

module _ (at : ℕ → Point) (s q : Shape) (e t : ℕ) (step : IsStep s q e) (closing : IsClosing at s t)
    (turns : IsLeftOf at s (at (end_of s (next_of s e))) e) where
  open step use {live_x, on_x, joined, back_x, sound, sound_after, live, on, new, new_outer, new_start, new_end, outer_cases, stays_outer, live_q, old, new_not_old, or_new}

  abbrev x : ℕ
  x = next_of s e

  abbrev a : ℕ
  a = origin_of s e

  abbrev b : ℕ
  b = end_of s e

  abbrev c : ℕ
  c = end_of s (next_of s e)

  tip_stands : ((a ≡ t) × (b ≢ t) × (c ≢ t)) ⊎ ((a ≢ t) × (b ≢ t) × (c ≡ t))
  tip_stands = tip_cases at s q e t step closing turns

  -- a half edge between old vertices was there
  was_here : (h : ℕ) → IsLive q h → origin_of q h ≢ t → end_of q h ≢ t → IsLive s h
  was_here h live_h not_start not_end = elim (or_new h live_h) [
    | inl was ↦ was
    | inr part ↦ absurd
        (elim part [
          | inl back ↦ elim tip_stands [ inl first ↦ not_end (back.1 ∙ first.0) | inr last ↦ not_start (back.0 ∙ last.2) ]
          | inr forth ↦ elim tip_stands [ inl first ↦ not_start (forth.0 ∙ first.0) | inr last ↦ not_end (forth.1 ∙ last.2) ]
        ])
  ]

  -- where a half edge from t ends
  from_tip : (P : ℕ → Type 0) → ((i : ℕ) → IsLive s i → origin_of s i ≡ t → P (end_of s i)) → (a ≡ t → c ≢ t → P c) → (a ≢ t → c ≡ t → P a)
      → (i : ℕ) → IsLive q i → origin_of q i ≡ t → P (end_of q i)
  from_tip P was at_c at_a i live_i starts_i = elim (or_new i live_i) [
    | inl live_s ↦ subst P (old (rev i) (rev_live (map_of s) i live_s)) (was i live_s (old i live_s ∙ starts_i))
    | inr part ↦ elim part [
      | inl back ↦ elim tip_stands [ inl first ↦ absurd (first.2 (sym back.0 ∙ starts_i)) | inr last ↦ subst P (sym back.1) (at_a last.0 last.2) ]
      | inr forth ↦ elim tip_stands [ inl first ↦ subst P (sym forth.1) (at_c first.0 first.2) | inr last ↦ absurd (last.0 (sym forth.0 ∙ starts_i)) ]
    ]
  ]

  abbrev Same : ℕ → ℕ → Type 0
  Same i j = (at i).x ≡ (at j).x → (at i).y ≡ (at j).y → i ≡ j

  module _ (thin : IsThin at s t) where
    -- the tip's half edges of the outer face
    only_first : a ≡ t → (h : ℕ) → Stays s q e h → origin_of s h ≡ t → ⊥
    only_first first h was starts_h = was.off (thin.once_t h e was.here live was.outer on starts_h first)

    only_last : c ≡ t → (h : ℕ) → Stays s q e h → end_of s h ≡ t → ⊥
    only_last last h was ends_h =
        let map_sound = map-sound sound in
        let nexts = thin.once_t (next_of s h) (next_of s x) (next-live sound h was.here) (next-live sound x live_x)
        (face-next (map_of s) s.words (links_stand sound) h was.here ∙ was.outer) (face-next (map_of s) s.words (links_stand sound) x live_x ∙ on_x)
        (sound.joined h was.here ∙ ends_h) (sound.joined x live_x ∙ last) in
        was.off_x (sym (map_sound.prev-next h was.here) ∙ ap (prev_of s) nexts ∙ map_sound.prev-next x live_x)

    old_end : (i : ℕ) → IsLive s i → origin_of s i ≡ t → end_of s i ≢ t
    old_end i live_i starts_i is = sound.two_ends i live_i (starts_i ∙ sym is)

    -- where the outer face goes on from the tip, and comes to it
    fans_after : (h i : ℕ) → IsLive q h → face_of q h ≡ 0 → origin_of q h ≡ t → IsLive q i → origin_of q i ≡ t → orient2d_of (at t) (at (end_of q h)) (at (end_of q i)) ≤ℤ pos 0
    fans_after h i live_h on_h is_h live_i is_i = elim (outer_cases h live_h on_h) [
      | inl was ↦
          let starts_h = was.start ∙ is_h in
          subst (λ (j : ℕ). orient2d_of (at t) (at j) (at (end_of q i)) ≤ℤ pos 0) was.end
          (from_tip (λ k. orient2d_of (at t) (at (end_of s h)) (at k) ≤ℤ pos 0)
          (λ j live_j starts_j. thin.fan_after h j was.here was.outer starts_h live_j starts_j)
          (λ first not_c. absurd (only_first first h was starts_h))
          (λ not_a last.
          let back = rev_live (map_of s) h was.here in
          let one : orient2d_of (at b) (at t) (at (end_of s h)) <ℤ pos 0 =
          subst (λ (j : ℕ). orient2d_of (at j) (at t) (at (end_of s h)) <ℤ pos 0) joined (closing.tip h x was.here was.outer starts_h live_x on_x last) in
          let two : pos 0 <ℤ orient2d_of (at a) (at b) (at t) = subst (λ (j : ℕ). pos 0 <ℤ orient2d_of (at a) (at b) (at j)) last turns in
          let not_b : b ≢ t = λ is. sound.two_ends x live_x (joined ∙ is ∙ sym last) in
          let three = (closing.supports e (rev h) live on not_a not_b back (old_end h was.here starts_h)).0 in
          let k = tip_before (at a) (at b) (at t) (at (end_of s h)) one two three in
          let o = orient2d-turned (at a) (at t) (at (end_of s h)) in
          omega (arith, ordered, k, o)) i live_i is_i)
      | inr new ↦ elim tip_stands [
        | inr last ↦ absurd (last.0 (sym (start_is at s q e t step closing turns h new) ∙ is_h))
        | inl first ↦
            subst (λ (j : ℕ). orient2d_of (at t) (at j) (at (end_of q i)) ≤ℤ pos 0) (sym (end_is at s q e t step closing turns h new))
            (from_tip (λ k. orient2d_of (at t) (at c) (at k) ≤ℤ pos 0)
            (λ j live_j starts_j.
            let two : pos 0 <ℤ orient2d_of (at t) (at b) (at c) = subst (λ (l : ℕ). pos 0 <ℤ orient2d_of (at l) (at b) (at c)) first.0 turns in
            let three : orient2d_of (at b) (at c) (at (end_of s j)) ≤ℤ pos 0 =
            subst (λ (l : ℕ). orient2d_of (at l) (at c) (at (end_of s j)) ≤ℤ pos 0) joined
            (closing.supports x (rev j) live_x on_x (λ is. first.1 (sym joined ∙ is)) first.2 (rev_live (map_of s) j live_j) (old_end j live_j starts_j)).0 in
            fan_ahead (at (end_of s j)) (at t) (at b) (at c) (thin.fan_after e j live on first.0 live_j starts_j) two three)
            (λ is not_c. let o = on_start (at t) (at c) in omega (arith, ordered, o))
            (λ not_a last. absurd (not_a first.0)) i live_i is_i)
      ]
    ]

    fans_before : (h i : ℕ) → IsLive q h → face_of q h ≡ 0 → end_of q h ≡ t → IsLive q i → origin_of q i ≡ t → orient2d_of (at (origin_of q h)) (at t) (at (end_of q i)) ≤ℤ pos 0
    fans_before h i live_h on_h is_h live_i is_i = elim (outer_cases h live_h on_h) [
      | inl was ↦
          let ends_h = was.end ∙ is_h in
          subst (λ (j : ℕ). orient2d_of (at j) (at t) (at (end_of q i)) ≤ℤ pos 0) was.start
          (from_tip (λ k. orient2d_of (at (origin_of s h)) (at t) (at k) ≤ℤ pos 0)
          (λ j live_j starts_j. thin.fan_before h j was.here was.outer ends_h live_j starts_j)
          (λ first not_c.
          let r : origin_of s h ≢ t = λ is. sound.two_ends h was.here (is ∙ sym ends_h) in
          let one : orient2d_of (at (origin_of s h)) (at t) (at b) <ℤ pos 0 = closing.tip e h live on first was.here was.outer ends_h in
          let two : pos 0 <ℤ orient2d_of (at t) (at b) (at c) = subst (λ (l : ℕ). pos 0 <ℤ orient2d_of (at l) (at b) (at c)) first turns in
          let not_b : b ≢ t = λ is. sound.two_ends e live (first ∙ sym is) in
          let three : orient2d_of (at b) (at c) (at (origin_of s h)) ≤ℤ pos 0 =
          subst (λ (l : ℕ). orient2d_of (at l) (at c) (at (origin_of s h)) ≤ℤ pos 0) joined
          (closing.supports x h live_x on_x (λ is. not_b (sym joined ∙ is)) not_c was.here r).0 in
          let k = tip_after (at (origin_of s h)) (at t) (at b) (at c) one two three in
          omega (arith, ordered, k))
          (λ not_a last. absurd (only_last last h was ends_h)) i live_i is_i)
      | inr new ↦ elim tip_stands [
        | inl first ↦ absurd (first.2 (sym (end_is at s q e t step closing turns h new) ∙ is_h))
        | inr last ↦
            subst (λ (j : ℕ). orient2d_of (at j) (at t) (at (end_of q i)) ≤ℤ pos 0) (sym (start_is at s q e t step closing turns h new))
            (from_tip (λ k. orient2d_of (at a) (at t) (at k) ≤ℤ pos 0)
            (λ j live_j starts_j.
            let one : orient2d_of (at b) (at t) (at (end_of s j)) ≤ℤ pos 0 =
            subst (λ (l : ℕ). orient2d_of (at l) (at t) (at (end_of s j)) ≤ℤ pos 0) joined (thin.fan_before x j live_x on_x last.2 live_j starts_j) in
            let two : pos 0 <ℤ orient2d_of (at a) (at b) (at t) = subst (λ (l : ℕ). pos 0 <ℤ orient2d_of (at a) (at b) (at l)) last.2 turns in
            let three = (closing.supports e (rev j) live on last.0 last.1 (rev_live (map_of s) j live_j) (old_end j live_j starts_j)).0 in
            fan_behind (at a) (at b) (at t) (at (end_of s j)) one two three)
            (λ first not_c. absurd (last.0 first))
            (λ not_a is. let o = on_end (at a) (at t) in omega (arith, ordered, o)) i live_i is_i)
      ]
    ]

    pub step_thin : IsThin at q t
    step_thin = record {
      distinct = λ h k live_h live_k.
          of_start at s q e t step closing turns (λ i. Same i (origin_of q k)) (λ i live_i. of_start at s q e t step closing turns (λ j. Same (origin_of s i) j) (λ j live_j. thin.distinct i j live_i live_j) k live_k) h live_h;
      line = λ h k live_h not_start not_end live_k old_k.
          let was = was_here h live_h not_start not_end in
          let start = old h was in
          let end = old (rev h) (rev_live (map_of s) h was) in
          of_old at s q e t step closing turns (λ l. orient2d_of (at (origin_of q h)) (at (end_of q h)) (at l) ≡ pos 0)
          (λ j live_j old_j. subst (λ (l : ℕ). orient2d_of (at (origin_of q h)) (at l) (at (origin_of s j)) ≡ pos 0) end
          (subst (λ (l : ℕ). orient2d_of (at l) (at (end_of s h)) (at (origin_of s j)) ≡ pos 0) start
          (thin.line h j was (λ is. not_start (sym start ∙ is)) (λ is. not_end (sym end ∙ is)) live_j old_j))) k live_k old_k;
      once = λ h k live_h live_k not_start not_end not_end_k same side.
          let was = was_here h live_h not_start not_end in
          let too = was_here k live_k (λ is. not_start (same ∙ is)) not_end_k in
          let start = old h was in
          let end = old (rev h) (rev_live (map_of s) h was) in
          let end_k = old (rev k) (rev_live (map_of s) k too) in
          thin.once h k was too (λ is. not_start (sym start ∙ is)) (λ is. not_end (sym end ∙ is)) (λ is. not_end_k (sym end_k ∙ is)) (start ∙ same ∙ sym (old k too))
          (subst (λ (l : ℕ). pos 0 <ℤ dot (at l) (at (end_of s k)) (at (origin_of s h))) (sym end)
          (subst (λ (l : ℕ). pos 0 <ℤ dot (at (end_of q h)) (at l) (at (origin_of s h))) (sym end_k)
          (subst (λ (l : ℕ). pos 0 <ℤ dot (at (end_of q h)) (at (end_of q k)) (at l)) (sym start) side)));
      onward = λ h k live_h not_start not_end live_k old_k.
          let was = was_here h live_h not_start not_end in
          let start = old h was in
          let end = old (rev h) (rev_live (map_of s) h was) in
          of_old at s q e t step closing turns (λ l. pos 0 <ℤ dot_of_steps (at (origin_of q h)) (at (end_of q h)) (at l)
          → (g : ℕ) × IsLive q g × (origin_of q g ≡ end_of q h) × (end_of q g ≢ t) × (pos 0 <ℤ dot_of_steps (at (origin_of q h)) (at (end_of q h)) (at (end_of q g))))
          (λ j live_j old_j more.
          let found = thin.onward h j was (λ is. not_start (sym start ∙ is)) (λ is. not_end (sym end ∙ is)) live_j old_j
          (subst (λ (l : ℕ). pos 0 <ℤ dot_of_steps (at (origin_of s h)) (at l) (at (origin_of s j))) (sym end)
          (subst (λ (l : ℕ). pos 0 <ℤ dot_of_steps (at l) (at (end_of q h)) (at (origin_of s j))) (sym start) more)) in
          let g = found.0 in
          let end_g = old (rev g) (rev_live (map_of s) g found.1) in (
            g,
            live_q g found.1,
            sym (old g found.1) ∙ found.2 ∙ end,
            (λ is. found.3 (end_g ∙ is)),
            subst (λ (l : ℕ). pos 0 <ℤ dot_of_steps (at (origin_of q h)) (at (end_of q h)) (at l)) end_g
                (subst (λ (l : ℕ). pos 0 <ℤ dot_of_steps (at (origin_of q h)) (at l) (at (end_of s g))) end
                (subst (λ (l : ℕ). pos 0 <ℤ dot_of_steps (at l) (at (end_of s h)) (at (end_of s g))) start found.4)),
          )) k live_k old_k;
      fan_after = fans_after;
      fan_before = fans_before;
      once_t = λ h k live_h live_k on_h on_k starts_h starts_k. elim (outer_cases h live_h on_h) [
        | inl was ↦ elim (outer_cases k live_k on_k) [
          | inl too ↦ thin.once_t h k was.here too.here was.outer too.outer (was.start ∙ starts_h) (too.start ∙ starts_k)
          | inr new ↦ absurd (only_first (sym (start_is at s q e t step closing turns k new) ∙ starts_k) h was (was.start ∙ starts_h))
        ]
        | inr new_h ↦ elim (outer_cases k live_k on_k) [
          | inl too ↦ absurd (only_first (sym (start_is at s q e t step closing turns h new_h) ∙ starts_h) k too (too.start ∙ starts_k))
          | inr new ↦ new_h ∙ sym new
        ]
      ];
    }
