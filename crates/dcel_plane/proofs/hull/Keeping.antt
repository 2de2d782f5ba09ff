-- Edits inside of the hull keep it: a flip, and an insertion of a vertex that lies on the right of each outer half edge.
use Rattle.std.proofs.Common.{◌≡◌, ◌≢◌, ◌⊎◌, inl, inr, ℕ, ◌+◌, ◌*◌, ◌<◌, List, refl, sym, ap, ◌∙◌, subst, pos, ◌<ℤ◌, arith}
use Rattle.std.proofs.lemmas.Bool.{cases_eq}
use Rattle.dcel_fixed.specs.HalfEdges.{rev}
use Rattle.dcel_fixed.proofs.Halves.{rev-double, rev-rev}
use Rattle.dcel_predicates.specs.Determinants.{orient2d_of}
use Rattle.dcel_predicates.specs.declared.point.Point.{Point}
use Rattle.dcel_maps.specs.Conditions.{CanFlip}
use Rattle.dcel_maps.specs.Shapes.{IsLive, IsMesh, IsSound, Mesh, Shape, end_of, face_of, map_of, origin_of, prev_of}
use Rattle.dcel_maps.specs.Words.{count_of, word_of}
use Rattle.dcel_maps.specs.edits.Flip.{edge_flipped}
use Rattle.dcel_maps.proofs.Liveness.{even_live, odd_live}
use Rattle.dcel_maps.proofs.edits.Flips.{flipped_mesh}
use Rattle.dcel_maps.proofs.maps.Soundness.{rev_live}
use Rattle.dcel_maps.proofs.walks.Links.{links_stand, prev-live}
use Rattle.dcel_maps.proofs.words.Reading.{stands_in_face}
use Rattle.dcel_plane.proofs.edits.Flipped.{origin_e, origin_same, origin_t, word_else}
use Rattle.dcel_plane.specs.covering.Covering.{HasDistinctPoints, IsConvex, IsHull, Supports}
use Rattle.dcel_plane.proofs.hull.Becomes.{was_live, was_on}
use Rattle.dcel_plane.proofs.hull.Beside.{supports_right}

-- each outer half edge was one, with the same ends
pub record WasOuter (s n : Shape) (h : ℕ) : Type 0 where
  pub live : IsLive s h
  pub on : face_of s h ≡ 0
  pub start : origin_of s h ≡ origin_of n h
  pub end : end_of s h ≡ end_of n h

abbrev pub KeepsOuter : Shape → Shape → Type 0
KeepsOuter s n = (h : ℕ) → IsLive n h → face_of n h ≡ 0 → WasOuter s n h

-- each vertex with an edge was one
abbrev pub StartsOld : Shape → Shape → Type 0
StartsOld s n = (k : ℕ) → IsLive n k → (i : ℕ) × IsLive s i × (origin_of s i ≡ origin_of n k)

-- or is v
abbrev pub StartsOldOr : Shape → Shape → ℕ → Type 0
StartsOldOr s n v = (k : ℕ) → IsLive n k → (origin_of n k ≡ v) ⊎ ((i : ℕ) × IsLive s i × (origin_of s i ≡ origin_of n k))

-- the new vertex lies on the right of each outer half edge, and where no other one stands
pub record LiesWithin (at : ℕ → Point) (s : Shape) (v : ℕ) : Type 0 where
  pub right : (h : ℕ) → IsLive s h → face_of s h ≡ 0 → orient2d_of (at (origin_of s h)) (at (end_of s h)) (at v) <ℤ pos 0
  pub alone : (k : ℕ) → IsLive s k → (at (origin_of s k)).x ≡ (at v).x → (at (origin_of s k)).y ≡ (at v).y → ⊥

-- where no vertex stood at v, different vertices stand at different points still
pub gains_distinct : (at : ℕ → Point) (s n : Shape) (v : ℕ) → StartsOldOr s n v → ((k : ℕ) → IsLive s k → (at (origin_of s k)).x ≡ (at v).x → (at (origin_of s k)).y ≡ (at v).y → ⊥)
    → HasDistinctPoints at s → HasDistinctPoints at n
gains_distinct at s n v starts alone distinct h k live_h live_k =
    of_start (λ a. Same a (origin_of n k))
    (of_start (λ b. Same v b) (λ ex ey. refl) (λ j live_j ex ey. absurd (alone j live_j (sym ex) (sym ey))) k live_k)
    (λ i live_i. of_start (λ b. Same (origin_of s i) b) (λ ex ey. absurd (alone i live_i ex ey)) (λ j live_j. distinct i j live_i live_j) k live_k)
    h live_h
  where
    Same : ℕ → ℕ → Type 0
    Same a b = (at a).x ≡ (at b).x → (at a).y ≡ (at b).y → a ≡ b

    of_start : (P : ℕ → Type 0) → P v → ((j : ℕ) → IsLive s j → P (origin_of s j)) → (k : ℕ) → IsLive n k → P (origin_of n k)
    of_start P new was k live = elim (starts k live) [ inl is ↦ subst P (sym is) new | inr found ↦ subst P found.2 (was found.0 found.1) ]

-- an outer half edge that stays, and isn't e
pub record StaysOuter (s n : Shape) (e h : ℕ) : Type 0 where
  pub here : IsLive s h
  pub outer : face_of s h ≡ 0
  pub off : h ≢ e
  pub start : origin_of s h ≡ origin_of n h
  pub end : end_of s h ≡ end_of n h

-- where two half edges come for e, i from where it starts and j from v, where no vertex was, the outer face passes each vertex once still
module _ (at : ℕ → Point) (s n : Shape) (e v i j : ℕ) (hull : IsHull at s) (live : IsLive s e) (on : face_of s e ≡ 0) (not_v : (k : ℕ) → IsLive s k → origin_of s k ≢ v)
    (cases : (h : ℕ) → IsLive n h → face_of n h ≡ 0 → StaysOuter s n e h ⊎ ((h ≡ i) ⊎ (h ≡ j))) (starts_i : origin_of n i ≡ origin_of s e) (starts_j : origin_of n j ≡ v) where
  not_both : (h k : ℕ) → StaysOuter s n e h → (k ≡ i) ⊎ (k ≡ j) → origin_of n h ≡ origin_of n k → ⊥
  not_both h k was (inl is) same = was.off (hull.once h e was.here live was.outer on (was.start ∙ same ∙ ap (origin_of n) is ∙ starts_i))
  not_both h k was (inr is) same = not_v h was.here (was.start ∙ same ∙ ap (origin_of n) is ∙ starts_j)

  not_one : (h k : ℕ) → h ≡ i → k ≡ j → origin_of n h ≡ origin_of n k → ⊥
  not_one h k is_i is_j same = not_v e live (sym starts_i ∙ sym (ap (origin_of n) is_i) ∙ same ∙ ap (origin_of n) is_j ∙ starts_j)

  pub gains_once : (h k : ℕ) → IsLive n h → IsLive n k → face_of n h ≡ 0 → face_of n k ≡ 0 → origin_of n h ≡ origin_of n k → h ≡ k
  gains_once h k live_h live_k on_h on_k same = elim (cases h live_h on_h) [
    | inl was ↦ elim (cases k live_k on_k) [
      | inl too ↦ hull.once h k was.here too.here was.outer too.outer (was.start ∙ same ∙ sym too.start)
      | inr new ↦ absurd (not_both h k was new same)
    ]
    | inr new_h ↦ elim (cases k live_k on_k) [
      | inl too ↦ absurd (not_both k h too new_h (sym same))
      | inr new ↦ elim new_h [
        | inl h_i ↦ elim new [ inl k_i ↦ h_i ∙ sym k_i | inr k_j ↦ absurd (not_one h k h_i k_j same) ]
        | inr h_j ↦ elim new [ inl k_i ↦ absurd (not_one k h k_i h_j (sym same)) | inr k_j ↦ h_j ∙ sym k_j ]
      ]
    ]
  ]

-- where the outer face's word stays, each outer half edge was one
pub same_outer : (s n : Shape) → IsSound s → IsSound n → word_of n.words 0 ≡ word_of s.words 0 → (h : ℕ) → IsLive n h → face_of n h ≡ 0 → IsLive s h × (face_of s h ≡ 0)
same_outer s n sound sound_after same h live on =
    let there : 0 < count_of h (word_of n.words 0) = subst (λ (f : ℕ). 0 < count_of h (word_of n.words f)) on (stands_in_face (map_of n) n.words (links_stand sound_after) h live) in
    let found : 0 < count_of h (word_of s.words 0) = subst (λ (w : List ℕ). 0 < count_of h w) same there in
    (was_live s sound h found, was_on s sound h found)

module _ (at : ℕ → Point) (s n : Shape) (v : ℕ) (outer : KeepsOuter s n) (starts : StartsOldOr s n v) (within : LiesWithin at s v) where
  pub gains_convex : IsConvex at s → IsConvex at n
  gains_convex convex = record {
    supports = λ h k live on live_k.
        let was = outer h live on in
        subst (λ (b : ℕ). B (origin_of n h) b (origin_of n k)) was.end
        (subst (λ (a : ℕ). B a (end_of s h) (origin_of n k)) was.start
        (elim (starts k live_k) [
          | inl new ↦ subst (λ (c : ℕ). B (origin_of s h) (end_of s h) c) (sym new) (supports_right (at (origin_of s h)) (at (end_of s h)) (at v) (within.right h was.live was.on))
          | inr old ↦ subst (λ (c : ℕ). B (origin_of s h) (end_of s h) c) old.2 (convex.supports h old.0 was.live was.on old.1)
        ]));
  }
    where
      B : ℕ → ℕ → ℕ → Type 0
      B a b c = Supports (at a) (at b) (at c)

  pub gains_hull : IsHull at s → IsHull at n
  gains_hull hull = record {
    distinct = gains_distinct at s n v starts within.alone hull.distinct;
    once = λ h k live_h live_k on_h on_k same.
        let was_h = outer h live_h on_h in
        let was_k = outer k live_k on_k in
        hull.once h k was_h.live was_k.live was_h.on was_k.on (was_h.start ∙ same ∙ sym was_k.start);
  }

-- without a new vertex
module _ (at : ℕ → Point) (s n : Shape) (outer : KeepsOuter s n) (starts : StartsOld s n) where
  pub keeps_convex : IsConvex at s → IsConvex at n
  keeps_convex convex = record {
    supports = λ h k live on live_k.
        let was = outer h live on in
        let (i, live_i, is) = starts k live_k in
        subst (λ (c : ℕ). Supports (at (origin_of n h)) (at (end_of n h)) (at c)) is
        (subst (λ (b : ℕ). Supports (at (origin_of n h)) (at b) (at (origin_of s i))) was.end
        (subst (λ (a : ℕ). Supports (at a) (at (end_of s h)) (at (origin_of s i))) was.start (convex.supports h i was.live was.on live_i)));
  }

  pub keeps_hull : IsHull at s → IsHull at n
  keeps_hull hull = record {
    distinct = λ h k live_h live_k.
        let (i, live_i, is) = starts h live_h in
        let (j, live_j, js) = starts k live_k in
        subst (λ (l : ℕ). (at (origin_of n h)).x ≡ (at l).x → (at (origin_of n h)).y ≡ (at l).y → origin_of n h ≡ l) js
        (subst (λ (l : ℕ). (at l).x ≡ (at (origin_of s j)).x → (at l).y ≡ (at (origin_of s j)).y → l ≡ origin_of s j) is (hull.distinct i j live_i live_j));
    once = λ h k live_h live_k on_h on_k same.
        let was_h = outer h live_h on_h in
        let was_k = outer k live_k on_k in
        hull.once h k was_h.live was_k.live was_h.on was_k.on (was_h.start ∙ same ∙ sym was_k.start);
  }

-- a flip between inner triangles
module _ {V DE UE F : Type 0} (m : Mesh V DE UE F) (mesh : IsMesh m) (u : ℕ) (can : CanFlip m.shape u) (at : ℕ → Point)
    (inner : 0 < face_of m.shape (2 * u)) (inner_facing : 0 < face_of m.shape (2 * u + 1)) where
  abbrev s : Shape
  s = m.shape

  abbrev n : Shape
  n = (edge_flipped m u).shape

  pub outer_word : word_of n.words 0 ≡ word_of s.words 0
  outer_word = word_else m mesh u can 0 (λ is. omega (arith, is, inner)) (λ is. omega (arith, is, inner_facing))

  -- an outer half edge is none of that edge
  pub away : (h : ℕ) → face_of s h ≡ 0 → (h ≢ 2 * u) × (h ≢ 2 * u + 1)
  away h on = (
    λ is. let e = ap (face_of s) is in omega (arith, e, on, inner),
    λ is. let e = ap (face_of s) is in omega (arith, e, on, inner_facing),
  )

  pub flip_outer : KeepsOuter s n
  flip_outer h live on =
      let (was, outside) = same_outer s n mesh.sound (flipped_mesh m u mesh can).sound outer_word h live on in
      let off = away h outside in
      let back = rev_live (map_of s) h was in
      record {
        live = was;
        on = outside;
        start = sym (origin_same m mesh u can at h was off.0 off.1);
        end =
            sym
            (origin_same m mesh u can at (rev h) back
            (λ is. off.1 (sym (rev-rev h) ∙ ap rev is ∙ rev-double u))
            (λ is. off.0 (sym (rev-rev h) ∙ ap rev is ∙ ap rev (sym (rev-double u)) ∙ rev-rev (2 * u))));
      }

  flip_starts : StartsOld s n
  flip_starts k live = elim (cases_eq k (2 * u)) [
    | inl is ↦ (
      prev_of s (2 * u),
      prev-live mesh.sound (2 * u) (even_live s u can.live),
      sym (ap (origin_of n) is ∙ origin_e m mesh u can),
    )
    | inr not_e ↦ elim (cases_eq k (2 * u + 1)) [
      | inl is ↦ (
        prev_of s (2 * u + 1),
        prev-live mesh.sound (2 * u + 1) (odd_live s u can.live),
        sym (ap (origin_of n) is ∙ origin_t m mesh u can),
      )
      | inr not_t ↦ (k, live, sym (origin_same m mesh u can at k live not_e not_t))
    ]
  ]

  pub flip_keeps_convex : IsConvex at s → IsConvex at n
  flip_keeps_convex = keeps_convex at s n flip_outer flip_starts

  pub flip_keeps_hull : IsHull at s → IsHull at n
  flip_keeps_hull = keeps_hull at s n flip_outer flip_starts
