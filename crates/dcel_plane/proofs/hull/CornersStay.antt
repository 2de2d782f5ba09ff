-- When a triangle is closed on one side of the new vertex, the corner on its other side stays as it is.
use Rattle.std.proofs.Common.{◌≡◌, ◌≢◌, ◌⊎◌, inl, inr, ℕ, sym, ap, ◌∙◌, subst, pos, ◌<ℤ◌, ◌≤ℤ◌, arith}
use Rattle.dcel_predicates.specs.Determinants.{orient2d_of}
use Rattle.dcel_predicates.specs.declared.point.Point.{Point}
use Rattle.dcel_predicates.proofs.Points.{orient2d-turned}
use Rattle.dcel_predicates.proofs.Signs.{ordered}
use Rattle.dcel_maps.specs.Shapes.{IsLive, Shape, end_of, face_of, map_of, next_of, origin_of, prev_of}
use Rattle.dcel_maps.proofs.shapes.Maps.{map-sound}
use Rattle.dcel_maps.proofs.walks.Links.{links_stand, next-live, prev-live}
use Rattle.dcel_maps.proofs.words.Reading.{face-next, face-prev}
use Rattle.dcel_plane.specs.Plane.{IsLeftOf}
use Rattle.dcel_plane.specs.covering.Covering.{IsHull}
use Rattle.dcel_plane.proofs.covering.Inside.{on_end, on_start}
use Rattle.dcel_plane.specs.hull.Closing.{IsClosing}
use Rattle.dcel_plane.proofs.hull.ClosingStep.{tip_cases, start_is, end_is}
use Rattle.dcel_plane.proofs.hull.Step.{IsStep}

module _ (at : ℕ → Point) (s q : Shape) (e t : ℕ) (step : IsStep s q e) (closing : IsClosing at s t)
    (turns : IsLeftOf at s (at (end_of s (next_of s e))) e) where
  open step use {live_x, on_x, joined, back_x, sound, sound_after, live, on, new, new_outer, new_start, new_end, outer_cases, stays_outer, live_q, old, new_not_old, or_new}

  abbrev x : ℕ
  x = next_of s e

  abbrev a : ℕ
  a = origin_of s e

  abbrev b : ℕ
  b = end_of s e

  abbrev c : ℕ
  c = end_of s (next_of s e)

  tip_stands : ((a ≡ t) × (b ≢ t) × (c ≢ t)) ⊎ ((a ≢ t) × (b ≢ t) × (c ≡ t))
  tip_stands = tip_cases at s q e t step closing turns

  -- the corner on the other side of the tip stays closed
  pub after_stays_by : ((h k : ℕ) → IsLive s h → face_of s h ≡ 0 → origin_of s h ≡ t → IsLive s k → face_of s k ≡ 0 → origin_of s k ≡ end_of s h
      → orient2d_of (at (end_of s h)) (at (end_of s k)) (at t) ≤ℤ pos 0)
      → (h : ℕ) → IsLive q h → face_of q h ≡ 0 → origin_of q h ≡ t → orient2d_of (at (end_of q h)) (at (end_of q (next_of q h))) (at t) ≤ℤ pos 0
  after_stays_by after h live_h on_h is =
      let n' = next_of q h in
      let live_n : IsLive q n' = next-live sound_after h live_h in
      let on_n : face_of q n' ≡ 0 = face-next (map_of q) q.words (links_stand sound_after) h live_h ∙ on_h in
      let joined_n : origin_of q n' ≡ end_of q h = sound_after.joined h live_h in
      let not_first : a ≢ t = λ first.
      (let b' = after e (next_of s e) live on first (next-live sound e live) (face-next (map_of s) s.words (links_stand sound) e live ∙ on) (sound.joined e live) in
      let y : pos 0 <ℤ orient2d_of (at t) (at b) (at c) = subst (λ (l : ℕ). pos 0 <ℤ orient2d_of (at l) (at b) (at c)) first turns in
      let o = orient2d-turned (at t) (at b) (at c) in omega (arith, ordered, b', y, o)) in
      elim (outer_cases h live_h on_h) [
        | inr new ↦ absurd (not_first (sym (start_is at s q e t step closing turns h new) ∙ is))
        | inl was ↦ elim (outer_cases n' live_n on_n) [
          | inr new ↦ elim tip_stands [
            | inl first ↦ absurd (not_first first.0)
            | inr last ↦
                subst (λ (l : ℕ). orient2d_of (at (end_of q h)) (at l) (at t) ≤ℤ pos 0) (sym (end_is at s q e t step closing turns n' new ∙ last.2)) (let o = on_start (at (end_of q h)) (at t) in omega (arith, ordered, o))
          ]
          | inl too ↦
              subst (λ (l : ℕ). orient2d_of (at (end_of q h)) (at l) (at t) ≤ℤ pos 0) too.end
              (subst (λ (l : ℕ). orient2d_of (at l) (at (end_of s n')) (at t) ≤ℤ pos 0) was.end
              (after h n' was.here was.outer (was.start ∙ is) too.here too.outer (too.start ∙ joined_n ∙ sym was.end)))
        ]
      ]

  pub after_stays : IsHull at s → ((h : ℕ) → IsLive s h → face_of s h ≡ 0 → origin_of s h ≡ t → orient2d_of (at (end_of s h)) (at (end_of s (next_of s h))) (at t) ≤ℤ pos 0)
      → (h : ℕ) → IsLive q h → face_of q h ≡ 0 → origin_of q h ≡ t → orient2d_of (at (end_of q h)) (at (end_of q (next_of q h))) (at t) ≤ℤ pos 0
  after_stays hull after =
      after_stays_by (λ h k live_h on_h is live_k on_k from.
      let live_s = next-live sound h live_h in
      let on_s = face-next (map_of s) s.words (links_stand sound) h live_h ∙ on_h in
      let same : next_of s h ≡ k = hull.once (next_of s h) k live_s live_k on_s on_k (sound.joined h live_h ∙ sym from) in
      subst (λ (l : ℕ). orient2d_of (at (end_of s h)) (at (end_of s l)) (at t) ≤ℤ pos 0) same (after h live_h on_h is))

  pub before_stays_by : ((h k : ℕ) → IsLive s h → face_of s h ≡ 0 → end_of s h ≡ t → IsLive s k → face_of s k ≡ 0 → end_of s k ≡ origin_of s h
      → orient2d_of (at (origin_of s k)) (at (origin_of s h)) (at t) ≤ℤ pos 0)
      → (h : ℕ) → IsLive q h → face_of q h ≡ 0 → end_of q h ≡ t → orient2d_of (at (origin_of q (prev_of q h))) (at (origin_of q h)) (at t) ≤ℤ pos 0
  before_stays_by before h live_h on_h is =
      let map_sound = map-sound sound in
      let i = prev_of q h in
      let live_i : IsLive q i = prev-live sound_after h live_h in
      let on_i : face_of q i ≡ 0 = face-prev (map_of q) q.words (links_stand sound_after) h live_h ∙ on_h in
      let joined_i : origin_of q h ≡ end_of q i = ap (origin_of q) (sym ((map-sound sound_after).next-prev h live_h)) ∙ sound_after.joined i live_i in
      let not_last : c ≢ t = λ last.
      (let b' = before x e live_x on_x last live on (sym (sound.joined e live)) in
      let b'' : orient2d_of (at a) (at b) (at t) ≤ℤ pos 0 = subst (λ (l : ℕ). orient2d_of (at a) (at l) (at t) ≤ℤ pos 0) joined b' in
      let y : pos 0 <ℤ orient2d_of (at a) (at b) (at t) = subst (λ (l : ℕ). pos 0 <ℤ orient2d_of (at a) (at b) (at l)) last turns in
      omega (arith, ordered, b'', y)) in
      elim (outer_cases h live_h on_h) [
        | inr new ↦ absurd (not_last (sym (end_is at s q e t step closing turns h new) ∙ is))
        | inl was ↦ elim (outer_cases i live_i on_i) [
          | inr new ↦ elim tip_stands [
            | inr last ↦ absurd (not_last last.2)
            | inl first ↦
                subst (λ (l : ℕ). orient2d_of (at l) (at (origin_of q h)) (at t) ≤ℤ pos 0) (sym (start_is at s q e t step closing turns i new ∙ first.0)) (let o = on_end (at t) (at (origin_of q h)) in omega (arith, ordered, o))
          ]
          | inl too ↦
              subst (λ (l : ℕ). orient2d_of (at l) (at (origin_of q h)) (at t) ≤ℤ pos 0) too.start
              (subst (λ (l : ℕ). orient2d_of (at (origin_of s i)) (at l) (at t) ≤ℤ pos 0) was.start
              (before h i was.here was.outer (was.end ∙ is) too.here too.outer (too.end ∙ sym joined_i ∙ sym was.start)))
        ]
      ]

  pub before_stays : IsHull at s → ((h : ℕ) → IsLive s h → face_of s h ≡ 0 → end_of s h ≡ t → orient2d_of (at (origin_of s (prev_of s h))) (at (origin_of s h)) (at t) ≤ℤ pos 0)
      → (h : ℕ) → IsLive q h → face_of q h ≡ 0 → end_of q h ≡ t → orient2d_of (at (origin_of q (prev_of q h))) (at (origin_of q h)) (at t) ≤ℤ pos 0
  before_stays hull before =
      before_stays_by (λ h k live_h on_h is live_k on_k to.
      let live_s = next-live sound k live_k in
      let on_s = face-next (map_of s) s.words (links_stand sound) k live_k ∙ on_k in
      let same : next_of s k ≡ h = hull.once (next_of s k) h live_s live_h on_s on_h (sound.joined k live_k ∙ to) in
      let back : prev_of s h ≡ k = ap (prev_of s) (sym same) ∙ (map-sound sound).prev-next k live_k in
      subst (λ (l : ℕ). orient2d_of (at (origin_of s l)) (at (origin_of s h)) (at t) ≤ℤ pos 0) back (before h live_h on_h is))
