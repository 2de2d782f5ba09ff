-- A vertex put beside an edge of the hull that has it on the left: the hull is then being closed.
use Rattle.std.proofs.Common.{◌≡◌, ◌≢◌, ◌⊎◌, inl, inr, ℕ, zero, suc, ◌+◌, ◌*◌, ◌<◌, List, [], ◌∷◌, slice_set, slice_index, refl, sym, ap, ◌∙◌, subst, pos, ◌<ℤ◌, ◌≤ℤ◌, eq-zero-or-pos, arith}
use Rattle.std.proofs.lemmas.List.{get_or-set_same, get_or_append_left, length-set}
use Rattle.dcel_fixed.specs.HalfEdges.{rev}
use Rattle.dcel_fixed.proofs.Halves.{rev-double, rev-double-suc}
use Rattle.dcel_predicates.specs.Determinants.{orient2d_of}
use Rattle.dcel_predicates.specs.declared.point.Point.{Point}
use Rattle.dcel_predicates.proofs.Points.{orient2d-last_swapped, orient2d-turned}
use Rattle.dcel_predicates.proofs.Signs.{ordered}
use Rattle.dcel_maps.specs.Cyclic.{from_least}
use Rattle.dcel_maps.specs.Shapes.{IsLive, IsMesh, Mesh, Shape, end_of, face_of, map_of, next_of, origin_of, prev_of}
use Rattle.dcel_maps.specs.Triangulations.{AllTriangles}
use Rattle.dcel_maps.specs.Words.{become, count_of, word_of}
use Rattle.dcel_maps.specs.edits.Outside.{face_put_beside}
use Rattle.dcel_maps.proofs.edits.Patches.{Patch, pushing}
use Rattle.dcel_maps.proofs.maps.Soundness.{rev_live}
use Rattle.dcel_maps.proofs.walks.Links.{half-below, links_stand}
use Rattle.dcel_maps.proofs.words.Counts.{count-later, count-same}
use Rattle.dcel_maps.proofs.words.Reading.{stands_in_face}
use Rattle.dcel_plane.specs.Plane.{IsLeftOf, TrianglesTurnLeft}
use Rattle.dcel_plane.proofs.edits.Written.{IsWritten, origin_away, origin_more}
use Rattle.dcel_plane.specs.covering.Covering.{IsConvex, IsHull, Supports, dot}
use Rattle.dcel_plane.proofs.covering.Inside.{on_end, on_start, same_place}
use Rattle.dcel_plane.proofs.covering.Triangles.{left_at, round}
use Rattle.dcel_plane.specs.hull.Closing.{IsClosing, IsThick, IsThin, Sees, SeesAfter, SeesBefore}
use Rattle.dcel_plane.specs.hull.Straight.{IsStraight, dot_of_steps}
use Rattle.dcel_plane.proofs.hull.Becomes.{in_become, in_outer, of_pair, old_or_new, out_outer, put_in, rev-2, rev-3, still_live, was_live, was_on}
use Rattle.dcel_plane.proofs.hull.Keeping.{StaysOuter, gains_distinct, gains_once}

module _ {V DE UE F : Type 0} (m : Mesh V DE UE F) (mesh : IsMesh m) (at : ℕ → Point)
    (convex : IsConvex at m.shape) (e v : ℕ) (live : IsLive m.shape e) (on : face_of m.shape e ≡ 0)
    (left : IsLeftOf at m.shape (at v) e) (halves : List DE) (edges : List UE) (faces : List F) where
  abbrev s : Shape
  s = m.shape

  abbrev r : Shape
  r = (face_put_beside m e v halves edges faces).shape

  abbrev n : ℕ
  n = 2 * m.shape.edges

  abbrev f : ℕ
  f = face_of m.shape e

  abbrev p : ℕ → Point
  p h = at (origin_of s h)

  abbrev x : ℕ
  x = origin_of m.shape e

  abbrev y : ℕ
  y = end_of m.shape e

  back : IsLive s (rev e)
  back = rev_live (map_of s) e live

  -- no vertex stands where v does
  alone : (k : ℕ) → IsLive s k → (p k).x ≡ (at v).x → (p k).y ≡ (at v).y → ⊥
  alone k live_k ex ey =
      let q = (convex.supports e k live on live_k).0 in
      let z = same_place (at x) (at y) (p k) (at v) ex ey in
      omega (arith, ordered, q, z, left)

  not_v : (k : ℕ) → IsLive s k → origin_of s k ≢ v
  not_v k live_k is = alone k live_k (ap (λ (i : ℕ). (at i).x) is) (ap (λ (i : ℕ). (at i).y) is)

  abbrev outer_items : List ℕ
  outer_items = become e ((n + 3) ∷ (n + 1) ∷ []) (word_of s.words f)

  abbrev words : Patch (List ℕ)
  words = record { set = (f, from_least outer_items) ∷ []; more = (e ∷ n ∷ (n + 2) ∷ []) ∷ [] }

  abbrev origins : Patch ℕ
  origins = pushing (y ∷ v ∷ v ∷ x ∷ [])

  written : IsWritten s r words origins
  written = record { words_are = refl; origins_are = refl; many = mesh.sized.origins; starts_stay = λ h lives inner away. tt }

  old : (h : ℕ) → IsLive s h → origin_of s h ≡ origin_of r h
  old h lives = sym (origin_away at s r words origins written mesh.sound h lives tt)

  more_at : (k i : ℕ) → k ≡ 2 * s.edges + i → origin_of r k ≡ slice_index origins.more i
  more_at k i is = origin_more at s r words origins written mesh.sound k i is

  outer_word : word_of r.words 0 ≡ from_least outer_items
  outer_word =
      subst (λ (k : ℕ). word_of r.words k ≡ from_least outer_items) on
      (get_or_append_left (slice_set s.words f (from_least outer_items)) words.more [] f
      (let l = length-set s.words f (from_least outer_items) in let o = mesh.sized.outer in omega (arith, l, o, on))
      ∙ get_or-set_same s.words f (from_least outer_items) [] (let o = mesh.sized.outer in omega (arith, o, on)))

  module _ (result : IsMesh (face_put_beside m e v halves edges faces)) where
    -- an outer half edge afterwards: one that stays, or one of the two at v
    outer_cases : (h : ℕ) → IsLive r h → face_of r h ≡ 0 → StaysOuter s r e h ⊎ ((h ≡ n + 3) ⊎ (h ≡ n + 1))
    outer_cases h live_h on_h =
        let found = in_outer s r mesh.sound result.sound outer_items outer_word h live_h on_h in
        elim (in_become h e ((n + 3) ∷ (n + 1) ∷ []) (word_of s.words f) found) [
          | inl put ↦ inr (of_pair h (n + 3) (n + 1) put)
          | inr stood ↦
              let there : 0 < count_of h (word_of s.words 0) = subst (λ (k : ℕ). 0 < count_of h (word_of s.words k)) on stood.0 in
              let was = was_live s mesh.sound h there in
              inl (record { here = was; outer = was_on s mesh.sound h there; off = stood.1; start = old h was; end = old (rev h) (rev_live (map_of s) h was) })
        ]

    starts : (k : ℕ) → IsLive r k → (origin_of r k ≡ v) ⊎ ((j : ℕ) × IsLive s j × (origin_of s j ≡ origin_of r k))
    starts k live_k = elim (old_or_new s r 2 refl refl k live_k) [
      | inl was ↦ inr (k, was, old k was)
      | inr new ↦ new_start k new.0 new.1 new.2
    ]
      where
        new_start : (k i : ℕ) → k ≡ 2 * s.edges + i → i < 4 → (origin_of r k ≡ v) ⊎ ((j : ℕ) × IsLive s j × (origin_of s j ≡ origin_of r k))
        new_start k zero is few = inr (rev e, back, sym (more_at k 0 is))
        new_start k (suc zero) is few = inl (more_at k 1 is)
        new_start k (suc (suc zero)) is few = inl (more_at k 2 is)
        new_start k (suc (suc (suc zero))) is few = inr (e, live, sym (more_at k 3 is))
        new_start k (suc (suc (suc (suc i)))) is few = absurd (omega (arith, few))

    -- what holds of old vertices holds of those that aren't v
    of_old : (P : ℕ → Type 0) → ((j : ℕ) → IsLive s j → P (origin_of s j)) → (k : ℕ) → IsLive r k → origin_of r k ≢ v → P (origin_of r k)
    of_old P was k live_k old_k = elim (starts k live_k) [ inl is ↦ absurd (old_k is) | inr found ↦ subst P found.2 (was found.0 found.1) ]

    starts_3 : origin_of r (n + 3) ≡ x
    starts_3 = more_at (n + 3) 3 refl

    ends_3 : end_of r (n + 3) ≡ v
    ends_3 = ap (origin_of r) (rev-3 s.edges) ∙ more_at (n + 2) 2 refl

    starts_1 : origin_of r (n + 1) ≡ v
    starts_1 = more_at (n + 1) 1 refl

    ends_1 : end_of r (n + 1) ≡ y
    ends_1 = ap (origin_of r) (rev-double-suc s.edges) ∙ more_at n 0 (omega arith)

    abbrev B : ℕ → ℕ → ℕ → Type 0
    B a b c = Supports (at a) (at b) (at c)

    beside : (h k : ℕ) → IsLive r h → face_of r h ≡ 0 → origin_of r h ≢ v → end_of r h ≢ v → IsLive r k → origin_of r k ≢ v → B (origin_of r h) (end_of r h) (origin_of r k)
    beside h k live_h on_h not_start not_end live_k old_k = elim (outer_cases h live_h on_h) [
      | inl was ↦
          subst (λ (b : ℕ). B (origin_of r h) b (origin_of r k)) was.end
          (subst (λ (a : ℕ). B a (end_of s h) (origin_of r k)) was.start
          (of_old (λ c. B (origin_of s h) (end_of s h) c) (λ j live_j. convex.supports h j was.here was.outer live_j) k live_k old_k))
      | inr part ↦ elim part [
        | inl is_3 ↦ absurd (not_end (ap (end_of r) is_3 ∙ ends_3))
        | inr is_1 ↦ absurd (not_start (ap (origin_of r) is_1 ∙ starts_1))
      ]
    ]

    none_left : (k : ℕ) → IsLive r k → origin_of r k ≢ v → orient2d_of (at x) (at y) (at (origin_of r k)) ≤ℤ pos 0
    none_left k live_k old_k = of_old (λ c. orient2d_of (at x) (at y) (at c) ≤ℤ pos 0) (λ j live_j. (convex.supports e j live on live_j).0) k live_k old_k

    is_1 : (h : ℕ) → IsLive r h → face_of r h ≡ 0 → origin_of r h ≡ v → h ≡ n + 1
    is_1 h live_h on_h is = elim (outer_cases h live_h on_h) [
      | inl was ↦ absurd (not_v h was.here (was.start ∙ is))
      | inr part ↦ elim part [ inl is_3 ↦ absurd (not_v e live (sym starts_3 ∙ sym (ap (origin_of r) is_3) ∙ is)) | inr one ↦ one ]
    ]

    is_3 : (h : ℕ) → IsLive r h → face_of r h ≡ 0 → end_of r h ≡ v → h ≡ n + 3
    is_3 h live_h on_h is = elim (outer_cases h live_h on_h) [
      | inl was ↦ absurd (not_v (rev h) (rev_live (map_of s) h was.here) (was.end ∙ is))
      | inr part ↦ elim part [ inl three ↦ three | inr one ↦ absurd (not_v (rev e) back (sym ends_1 ∙ sym (ap (end_of r) one) ∙ is)) ]
    ]

    ends_y : (h : ℕ) → IsLive r h → face_of r h ≡ 0 → origin_of r h ≡ v → y ≡ end_of r h
    ends_y h live_h on_h is = sym ends_1 ∙ sym (ap (end_of r) (is_1 h live_h on_h is))

    starts_x : (h : ℕ) → IsLive r h → face_of r h ≡ 0 → end_of r h ≡ v → x ≡ origin_of r h
    starts_x h live_h on_h is = sym starts_3 ∙ sym (ap (origin_of r) (is_3 h live_h on_h is))

    live_r : (h : ℕ) → IsLive s h → IsLive r h
    live_r h lives = still_live s r 2 refl refl h lives

    inner_e : 0 < face_of r e
    inner_e = elim (eq-zero-or-pos (face_of r e)) [
      | inr inner ↦ inner
      | inl zero_face ↦ absurd
          (elim (outer_cases e (live_r e live) zero_face) [
            | inl was ↦ was.off refl
            | inr part ↦ (let b = half-below s e live in elim part [ inl three ↦ omega (arith, b, three) | inr one ↦ omega (arith, b, one) ])
          ])
    ]

    sees : Sees at r v x y
    sees = record {
      seen = left;
      supports = λ k live_k old_k. of_old (λ c. B x y c) (λ j live_j. convex.supports e j live on live_j) k live_k old_k;
      side = e;
      live_side = live_r e live;
      inner_side = inner_e;
      from = sym (old e live);
      to = sym (old (rev e) back);
    }

    stands : (h : ℕ) × IsLive r h × (face_of r h ≡ 0) × (origin_of r h ≡ v)
    stands =
        let there : 0 < count_of e (word_of s.words f) = stands_in_face (map_of s) s.words (links_stand mesh.sound) e live in
        let item : 0 < count_of (n + 1) ((n + 3) ∷ (n + 1) ∷ []) = count-later (n + 1) (n + 3) ((n + 1) ∷ []) (let c = count-same (n + 1) [] in omega (arith, c)) in
        let found = out_outer r result.sound outer_items outer_word (n + 1) (put_in (n + 1) e ((n + 3) ∷ (n + 1) ∷ []) (word_of s.words f) item there) in
        (n + 1, found.0, found.1, starts_1)

    pub beside_closing : IsClosing at r v
    beside_closing = record {
      supports = beside;
      after = λ h live_h on_h is. subst (λ (u : ℕ). SeesAfter at r v u) (ends_y h live_h on_h is) (record { a = x; sees = sees });
      before = λ h live_h on_h is. subst (λ (u : ℕ). SeesBefore at r v u) (starts_x h live_h on_h is) (record { b = y; sees = sees });
      tip = λ h k live_h on_h is_h live_k on_k is_k.
          subst (λ (b : ℕ). orient2d_of (at (origin_of r k)) (at v) (at b) <ℤ pos 0) (ends_y h live_h on_h is_h)
          (subst (λ (a : ℕ). orient2d_of (at a) (at v) (at y) <ℤ pos 0) (starts_x k live_k on_k is_k)
          (let o = orient2d-last_swapped (at x) (at y) (at v) in omega (arith, ordered, o, left)));
      stands = stands;
    }

    pub beside_hull : IsHull at s → IsHull at r
    beside_hull hull = record {
      distinct = gains_distinct at s r v starts alone hull.distinct;
      once = gains_once at s r e v (n + 3) (n + 1) hull live on not_v outer_cases starts_3 starts_1;
    }

    -- the old vertices don't all lie on one line, if there was a triangle
    pub beside_thick : IsHull at s → AllTriangles m.shape → TrianglesTurnLeft at m.shape → (h : ℕ) → IsLive s h → 0 < face_of s h → IsThick at r v
    beside_thick hull triangles plane h live_h inner_h =
        let j = next_of s h in
        let k = prev_of s h in
        let tri = round m mesh triangles h live_h inner_h in
        record {
          i = h;
          j = j;
          k = k;
          live_i = live_r h live_h;
          live_j = live_r j tri.live_y;
          live_k = live_r k tri.live_z;
          old_i = λ is. not_v h live_h (old h live_h ∙ is);
          old_j = λ is. not_v j tri.live_y (old j tri.live_y ∙ is);
          old_k = λ is. not_v k tri.live_z (old k tri.live_z ∙ is);
          turn =
              subst (λ (l : ℕ). pos 0 <ℤ orient2d_of (at (origin_of r h)) (at (origin_of r j)) (at l)) (old k tri.live_z)
              (subst (λ (l : ℕ). pos 0 <ℤ orient2d_of (at (origin_of r h)) (at l) (at (origin_of s k))) (old j tri.live_y)
              (subst (λ (l : ℕ). pos 0 <ℤ orient2d_of (at l) (at (origin_of s j)) (at (origin_of s k))) (old h live_h)
              (left_at m mesh triangles at plane h live_h inner_h)));
        }

    -- a half edge between old vertices was there
    was_here : (h : ℕ) → IsLive r h → origin_of r h ≢ v → end_of r h ≢ v → IsLive s h
    was_here h live_h not_start not_end = elim (old_or_new s r 2 refl refl h live_h) [
      | inl was ↦ was
      | inr new ↦ absurd (not_new h new.0 new.1 new.2 not_start not_end)
    ]
      where
        not_new : (h i : ℕ) → h ≡ 2 * s.edges + i → i < 4 → origin_of r h ≢ v → end_of r h ≢ v → ⊥
        not_new h zero is few not_start not_end =
            let even : h ≡ 2 * s.edges = omega (arith, is) in
            not_end (ap (λ k. origin_of r (rev k)) even ∙ ap (origin_of r) (rev-double s.edges) ∙ starts_1)
        not_new h (suc zero) is few not_start not_end = not_start (more_at h 1 is)
        not_new h (suc (suc zero)) is few not_start not_end = not_start (more_at h 2 is)
        not_new h (suc (suc (suc zero))) is few not_start not_end = not_end (ap (end_of r) is ∙ ends_3)
        not_new h (suc (suc (suc (suc i)))) is few not_start not_end = absurd (omega (arith, few))

    -- where a half edge from v ends
    from_v : (P : ℕ → Type 0) → P x → P y → (i : ℕ) → IsLive r i → origin_of r i ≡ v → P (end_of r i)
    from_v P at_x at_y i live_i starts_i = elim (old_or_new s r 2 refl refl i live_i) [
      | inl was ↦ absurd (not_v i was (old i was ∙ starts_i))
      | inr new ↦ of_new i new.0 new.1 new.2 starts_i
    ]
      where
        of_new : (i j : ℕ) → i ≡ 2 * s.edges + j → j < 4 → origin_of r i ≡ v → P (end_of r i)
        of_new i zero is few starts_i = absurd (not_v (rev e) back (sym (more_at i 0 is) ∙ starts_i))
        of_new i (suc zero) is few starts_i = subst P (sym (ap (end_of r) is ∙ ends_1)) at_y
        of_new i (suc (suc zero)) is few starts_i =
            subst P (sym (ap (end_of r) is ∙ ap (origin_of r) (rev-2 s.edges) ∙ starts_3)) at_x
        of_new i (suc (suc (suc zero))) is few starts_i = absurd (not_v e live (sym (more_at i 3 is) ∙ starts_i))
        of_new i (suc (suc (suc (suc j)))) is few starts_i = absurd (omega (arith, few))

    pub beside_thin : IsStraight at s → IsThin at r v
    beside_thin straight = record {
      distinct = gains_distinct at s r v starts alone straight.distinct;
      line = λ h k live_h not_start not_end live_k old_k.
          let was = was_here h live_h not_start not_end in
          of_old (λ c. orient2d_of (at (origin_of r h)) (at (end_of r h)) (at c) ≡ pos 0)
          (λ j live_j. subst (λ (b : ℕ). orient2d_of (at (origin_of r h)) (at b) (at (origin_of s j)) ≡ pos 0) (old (rev h) (rev_live (map_of s) h was))
          (subst (λ (a : ℕ). orient2d_of (at a) (at (end_of s h)) (at (origin_of s j)) ≡ pos 0) (old h was) (straight.line h j was live_j))) k live_k old_k;
      once = λ h k live_h live_k not_start not_end not_end_k same side.
          let was = was_here h live_h not_start not_end in
          let too = was_here k live_k (λ is. not_start (same ∙ is)) not_end_k in
          straight.once h k was too (old h was ∙ same ∙ sym (old k too))
          (subst (λ (a : ℕ). pos 0 <ℤ dot (at a) (at (end_of s k)) (at (origin_of s h))) (sym (old (rev h) (rev_live (map_of s) h was)))
          (subst (λ (a : ℕ). pos 0 <ℤ dot (at (end_of r h)) (at a) (at (origin_of s h))) (sym (old (rev k) (rev_live (map_of s) k too)))
          (subst (λ (a : ℕ). pos 0 <ℤ dot (at (end_of r h)) (at (end_of r k)) (at a)) (sym (old h was)) side)));
      onward = λ h k live_h not_start not_end live_k old_k.
          let was = was_here h live_h not_start not_end in
          let back_h = old (rev h) (rev_live (map_of s) h was) in
          of_old (λ c. pos 0 <ℤ dot_of_steps (at (origin_of r h)) (at (end_of r h)) (at c)
          → (g : ℕ) × IsLive r g × (origin_of r g ≡ end_of r h) × (end_of r g ≢ v) × (pos 0 <ℤ dot_of_steps (at (origin_of r h)) (at (end_of r h)) (at (end_of r g))))
          (λ j live_j more.
          let found = straight.onward h j was live_j
          (subst (λ (b : ℕ). pos 0 <ℤ dot_of_steps (at (origin_of s h)) (at b) (at (origin_of s j))) (sym back_h)
          (subst (λ (a : ℕ). pos 0 <ℤ dot_of_steps (at a) (at (end_of r h)) (at (origin_of s j))) (sym (old h was)) more)) in
          let g = found.0 in
          let live_g = found.1 in
          let back_g = rev_live (map_of s) g live_g in (
            g,
            live_r g live_g,
            sym (old g live_g) ∙ found.2 ∙ back_h,
            (λ is. not_v (rev g) back_g (old (rev g) back_g ∙ is)),
            subst (λ (c : ℕ). pos 0 <ℤ dot_of_steps (at (origin_of r h)) (at (end_of r h)) (at c)) (old (rev g) back_g)
                (subst (λ (b : ℕ). pos 0 <ℤ dot_of_steps (at (origin_of r h)) (at b) (at (end_of s g))) back_h
                (subst (λ (a : ℕ). pos 0 <ℤ dot_of_steps (at a) (at (end_of s h)) (at (end_of s g))) (old h was) found.3)),
          )) k live_k old_k;
      fan_after = λ h i live_h on_h is live_i starts_i.
          subst (λ (b : ℕ). orient2d_of (at v) (at b) (at (end_of r i)) ≤ℤ pos 0) (ends_y h live_h on_h is)
          (from_v (λ c. orient2d_of (at v) (at y) (at c) ≤ℤ pos 0)
          (let o = orient2d-last_swapped (at x) (at y) (at v) in let w = orient2d-turned (at x) (at v) (at y) in omega (arith, ordered, o, w, left))
          (let o = on_start (at v) (at y) in omega (arith, ordered, o)) i live_i starts_i);
      fan_before = λ h i live_h on_h is live_i starts_i.
          subst (λ (a : ℕ). orient2d_of (at a) (at v) (at (end_of r i)) ≤ℤ pos 0) (starts_x h live_h on_h is)
          (from_v (λ c. orient2d_of (at x) (at v) (at c) ≤ℤ pos 0)
          (let o = on_end (at x) (at v) in omega (arith, ordered, o))
          (let o = orient2d-last_swapped (at x) (at y) (at v) in omega (arith, ordered, o, left)) i live_i starts_i);
      once_t = λ h k live_h live_k on_h on_k starts_h starts_k. is_1 h live_h on_h starts_h ∙ sym (is_1 k live_k on_k starts_k);
    }

-- a straight mesh is convex
pub straight_convex : (at : ℕ → Point) (s : Shape) → IsStraight at s → IsConvex at s
straight_convex at s straight = record {
  supports = λ h k live on live_k. ((let z = straight.line h k live live_k in omega (arith, ordered, z)), λ zero_side. straight.between h k live live_k);
}
