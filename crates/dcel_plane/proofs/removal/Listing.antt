-- An edge whose two triangles stay is circled where it was.
use Rattle.std.proofs.Common.{◌≡◌, inl, inr, ℕ, ◌+◌, ◌*◌, ◌/◌, ◌<◌, ◌≤◌, true, List, ◌++◌, length, sym, ap, ◌∙◌, subst, arith}
use Rattle.std.proofs.lemmas.Bool.{cases_lt}
use Rattle.dcel_predicates.specs.declared.point.Point.{Point}
use Rattle.dcel_maps.specs.Shapes.{IsLive, IsSound, Shape, edge_is_live, face_of, map_of, origin_of, prev_of}
use Rattle.dcel_maps.specs.Words.{count_of, prev_in_word, word_of}
use Rattle.dcel_maps.proofs.Liveness.{even_live, odd_live}
use Rattle.dcel_maps.proofs.shapes.Maps.{face-live}
use Rattle.dcel_maps.proofs.walks.Links.{links_stand, prev-live, prev-said}
use Rattle.dcel_maps.proofs.words.Counts.{count-append}
use Rattle.dcel_maps.proofs.words.Reading.{face_in_word, live_in, stands_in_face}
use Rattle.dcel_plane.specs.Plane.{IsCircled, IsInner, ListsCircled}
use Rattle.dcel_plane.proofs.edits.Written.{circle_at}

-- the shape t has of s what stays live, with its origins
module _ (s t : Shape) (sound : IsSound s) (after : IsSound t) (starts : (x : ℕ) → IsLive s x → IsLive t x → origin_of t x ≡ origin_of s x) where
  -- a half edge of a face whose word stays
  pub record Stays (h : ℕ) : Type 0 where
    pub live : IsLive s h
    pub face : face_of s h ≡ face_of t h
    pub long : length (word_of s.words (face_of s h)) ≡ length (word_of t.words (face_of t h))
    pub origin : origin_of t h ≡ origin_of s h
    pub corner : origin_of t (prev_of t h) ≡ origin_of s (prev_of s h)

  pub stays : (h : ℕ) → IsLive t h → word_of t.words (face_of t h) ≡ word_of s.words (face_of t h) → Stays h
  stays h live same =
      let k = face_of t h in
      let found : 0 < count_of h (word_of s.words k) = subst (λ (w : List ℕ). 0 < count_of h w) same (stands_in_face (map_of t) t.words (links_stand after) h live) in
      let was : IsLive s h = live_in (map_of s) s.words (links_stand sound) h k found in
      let on : face_of s h ≡ k = face_in_word (map_of s) s.words (links_stand sound) h k found in
      let word : word_of s.words (face_of s h) ≡ word_of t.words k = ap (word_of s.words) on ∙ sym same in
      let before : prev_of t h ≡ prev_of s h = prev-said after h live ∙ ap (prev_in_word h) (sym word) ∙ sym (prev-said sound h was) in
      record {
        live = was;
        face = on;
        long = ap length word;
        origin = starts h was live;
        corner =
            ap (origin_of t) before
            ∙ starts (prev_of s h) (prev-live sound h was) (subst (λ (x : ℕ). IsLive t x) before (prev-live after h live));
      }

  module _ (at : ℕ → Point) where
    pub was_circled : (u : ℕ) → Stays (2 * u) → Stays (2 * u + 1) → IsInner t u → IsCircled at t u → IsInner s u × IsCircled at s u
    was_circled u near far inner circled =
        let even : 2 * u / 2 ≡ u = omega arith in (
          record {
            live = subst (λ (k : ℕ). edge_is_live s k ≡ true) even near.live;
            triangle = record { live = face-live sound (2 * u) near.live; three = near.long ∙ inner.triangle.three };
            facing = record { live = face-live sound (2 * u + 1) far.live; three = far.long ∙ inner.facing.three };
            inner = subst (λ (k : ℕ). 0 < k) (sym near.face) inner.inner;
            inner_facing = subst (λ (k : ℕ). 0 < k) (sym far.face) inner.inner_facing;
          },
          circle_at (ap at near.origin) (ap at far.origin) (ap at near.corner) (ap at far.corner) circled,
        )

    -- where the words of inner faces below n stay, the edges of the others are listed
    pub lists_still : (n : ℕ) → ((f : ℕ) → 0 < f → f < n → 0 < length (word_of t.words f) → word_of t.words f ≡ word_of s.words f)
        → (due list : List ℕ) → ((h : ℕ) → IsLive t h → n ≤ face_of t h → 0 < count_of (h / 2) list) → ListsCircled at s due → ListsCircled at t (due ++ list)
    lists_still n words due list new lists u inner circled =
        let even : 2 * u / 2 ≡ u = omega arith in
        let odd : (2 * u + 1) / 2 ≡ u = omega arith in
        let both = count-append u due list in
        let live = even_live t u inner.live in
        let live_too = odd_live t u inner.live in
        elim (cases_lt (face_of t (2 * u)) n) [
          | inr past ↦
              let listed : 0 < count_of u list = subst (λ (k : ℕ). 0 < count_of k list) even (new (2 * u) live past) in omega (arith, both, listed)
          | inl below ↦ elim (cases_lt (face_of t (2 * u + 1)) n) [
            | inr past ↦
                let listed : 0 < count_of u list = subst (λ (k : ℕ). 0 < count_of k list) odd (new (2 * u + 1) live_too past) in omega (arith, both, listed)
            | inl below_too ↦
                let near = stays (2 * u) live (words (face_of t (2 * u)) inner.inner below (omega (arith, inner.triangle.three))) in
                let far = stays (2 * u + 1) live_too (words (face_of t (2 * u + 1)) inner.inner_facing below_too (omega (arith, inner.facing.three))) in
                let was = was_circled u near far inner circled in
                let listed = lists u was.0 was.1 in
                omega (arith, both, listed)
          ]
        ]
