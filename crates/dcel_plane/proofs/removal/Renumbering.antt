-- A mesh whose elements have other numbers lies in the plane as it did, with the same hull.
use Rattle.std.proofs.Common.{◌≡◌, inl, inr, ℕ, ◌+◌, ◌-◌, ◌*◌, ◌/◌, ◌%◌, ◌<◌, true, List, [], ◌∷◌, length, map, slice_index, refl, sym, ap, ◌∙◌, subst, pos, ◌<ℤ◌, ◌≤ℤ◌, eq-zero-or-pos, arith}
use Rattle.std.proofs.lemmas.List.{length-map}
use Rattle.dcel_fixed.specs.HalfEdges.{rev}
use Rattle.dcel_fixed.proofs.Halves.{rev-double}
use Rattle.dcel_predicates.specs.declared.point.Point.{Point}
use Rattle.dcel_predicates.specs.Determinants.{orient2d_of}
use Rattle.dcel_maps.specs.Conditions.{IsTriangle}
use Rattle.dcel_maps.specs.Cyclic.{from_least}
use Rattle.dcel_maps.specs.Removals.{Cleaned, gives_up_face}
use Rattle.dcel_maps.specs.Renumbered.{LeavesLive, new_edge, new_face, new_half}
use Rattle.dcel_maps.specs.Renumbering.{cleaned_up, edges_down, faces_down, half_of, moved, renumbered, vertex_taken_out}
use Rattle.dcel_maps.specs.Shapes.{IsLive, IsMesh, Mesh, Shape, edge_is_live, end_of, face_count, face_is_live, face_of, map_of, origin_of, prev_of, vertex_is_live}
use Rattle.dcel_maps.specs.theory.Cycles.{IsCycle}
use Rattle.dcel_maps.specs.theory.Standing.{Follows}
use Rattle.dcel_maps.specs.Words.{count_of, word_of}
use Rattle.dcel_maps.proofs.Liveness.{even_live, gives_up_face-outer, is_live-from, is_live-parts}
use Rattle.dcel_maps.proofs.maps.Soundness.{rev_live}
use Rattle.dcel_maps.proofs.renumbering.Renumbered.{leaves_live, numbered, vertex_leaves_live}
use Rattle.dcel_maps.proofs.shapes.Maps.{face-live, map-sound}
use Rattle.dcel_maps.proofs.walks.Links.{links_stand, next-live, prev-live, prev-said}
use Rattle.dcel_maps.proofs.words.Counts.{count-later, count-same}
use Rattle.dcel_maps.proofs.words.Mapped.{count-mapped}
use Rattle.dcel_maps.proofs.words.Paths.{prev_in_word-leads}
use Rattle.dcel_maps.proofs.words.Reading.{face_in_word, live_in, stands_in_face}
use Rattle.dcel_maps.proofs.words.Renames.{IsCycle-map}
use Rattle.dcel_maps.proofs.words.Turns.{IsCycle-turn, count-turn, from_least-turn, length-turn}
use Rattle.dcel_plane.specs.Plane.{IsCircled, IsInner, ListsCircled, TrianglesTurnLeft, TurnsLeft, origin_point}
use Rattle.dcel_plane.proofs.edits.Corners.{left-from_least, three_items}
use Rattle.dcel_plane.specs.covering.Covering.{HasDistinctPoints, IsConvex, IsHull, Supports, dot}
use Rattle.dcel_plane.specs.hull.Straight.{IsStraight, dot_of_steps}
use Rattle.dcel_plane.proofs.removal.Listing.{}
use Rattle.dcel_plane.proofs.edits.Written.{circle_at}

-- three points by other names
three_points : (P : Point → Point → Point → Type 0) → {a b c x y z : Point} → a ≡ x → b ≡ y → c ≡ z → P a b c → P x y z
three_points P {a} {b} {c} {x} {y} {z} ea eb ec holds =
    subst (λ (q : Point). P x y q) ec (subst (λ (q : Point). P x q c) eb (subst (λ (q : Point). P q b c) ea holds))

module _ {V DE UE F : Type 0} (m t : Mesh V DE UE F) (mesh : IsMesh m) (result : IsMesh t) (half vertex face : ℕ → ℕ) (leaves : LeavesLive m t half vertex face)
    (apart : (h k : ℕ) → IsLive m.shape h → IsLive m.shape k → half h ≡ half k → h ≡ k) (faces_apart : (f : ℕ) → face_is_live m.shape f ≡ true → face f ≡ 0 → f ≡ 0)
    (at after : ℕ → Point) (same : (v : ℕ) → vertex_is_live m.shape v ≡ true → after (vertex v) ≡ at v) where
  abbrev s : Shape
  s = m.shape

  abbrev n : Shape
  n = t.shape

  -- each half edge stands where it did
  stands_at : (h : ℕ) → IsLive s h → after (origin_of n (half h)) ≡ at (origin_of s h)
  stands_at h live = ap after (leaves.origin h live) ∙ same (origin_of s h) (mesh.sound.starts_live h live)

  ends_at : (h : ℕ) → IsLive s h → after (end_of n (half h)) ≡ at (end_of s h)
  ends_at h live = ap (λ k. after (origin_of n k)) (leaves.turn h) ∙ stands_at (rev h) (rev_live (map_of s) h live)

  pub renumbered_plane : TrianglesTurnLeft at s → TrianglesTurnLeft after n
  renumbered_plane plane = record {
    left = λ g x y z inner is.
        let live_x : IsLive n x =
        live_in (map_of n) n.words (links_stand result.sound) x g (subst (λ (w : List ℕ). 0 < count_of x w) (sym is) (let c = count-same x (y ∷ z ∷ []) in omega (arith, c))) in
        let on_x : face_of n x ≡ g =
        face_in_word (map_of n) n.words (links_stand result.sound) x g (subst (λ (w : List ℕ). 0 < count_of x w) (sym is) (let c = count-same x (y ∷ z ∷ []) in omega (arith, c))) in
        let live_g : face_is_live n g ≡ true = subst (λ (k : ℕ). face_is_live n k ≡ true) on_x (face-live result.sound x live_x) in
        let (f, live_f, is_g) = leaves.each_face g live_g in
        let word : from_least (map half (word_of s.words f)) ≡ x ∷ y ∷ z ∷ [] = sym (leaves.word f live_f) ∙ ap (word_of n.words) is_g ∙ is in
        let long : length (word_of s.words f) ≡ 3 =
        sym (length-map (word_of s.words f) half) ∙ sym (length-turn (from_least-turn (map half (word_of s.words f)))) ∙ ap length word in
        let (a, b, c, items) = three_items (word_of s.words f) long in
        let found : (h : ℕ) → 0 < count_of h (a ∷ b ∷ c ∷ []) → IsLive s h =
        λ h there. live_in (map_of s) s.words (links_stand mesh.sound) h f (subst (λ (w : List ℕ). 0 < count_of h w) (sym items) there) in
        let inner_f : 0 < f = inner_face f g live_f is_g inner in
        left-from_least after n (half a) (half b) (half c) x y z (ap (λ w. from_least (map half w)) (sym items) ∙ word)
        (three_stand a b c (found a (let k = count-same a (b ∷ c ∷ []) in omega (arith, k))) (found b (second a b c)) (found c (third a b c))
        (plane.left f a b c inner_f items));
  }
    where
      inner_face : (f g : ℕ) → face_is_live s f ≡ true → face f ≡ g → 0 < g → 0 < f
      inner_face f g live_f is inner = elim (eq-zero-or-pos f) [
        | inr more ↦ more
        | inl zero_f ↦ absurd (let o = leaves.outer in let e = ap face zero_f in omega (arith, o, e, is, inner))
      ]

      second : (a b c : ℕ) → 0 < count_of b (a ∷ b ∷ c ∷ [])
      second a b c = count-later b a (b ∷ c ∷ []) (let k = count-same b (c ∷ []) in omega (arith, k))

      third : (a b c : ℕ) → 0 < count_of c (a ∷ b ∷ c ∷ [])
      third a b c = count-later c a (b ∷ c ∷ []) (count-later c b (c ∷ []) (let k = count-same c [] in omega (arith, k)))

      three_stand : (a b c : ℕ) → IsLive s a → IsLive s b → IsLive s c → TurnsLeft (at (origin_of s a)) (at (origin_of s b)) (at (origin_of s c))
          → TurnsLeft (after (origin_of n (half a))) (after (origin_of n (half b))) (after (origin_of n (half c)))
      three_stand a b c live_a live_b live_c left =
          subst (λ (q : Point). TurnsLeft (after (origin_of n (half a))) (after (origin_of n (half b))) q) (sym (stands_at c live_c))
          (subst (λ (q : Point). TurnsLeft (after (origin_of n (half a))) q (at (origin_of s c))) (sym (stands_at b live_b))
          (subst (λ (q : Point). TurnsLeft q (at (origin_of s b)) (at (origin_of s c))) (sym (stands_at a live_a)) left))

  -- an outer half edge was one
  was_outer : (h : ℕ) → IsLive s h → face_of n (half h) ≡ 0 → face_of s h ≡ 0
  was_outer h live on =
      let there : 0 < count_of h (word_of s.words (face_of s h)) = stands_in_face (map_of s) s.words (links_stand mesh.sound) h live in
      let live_f = face-live mesh.sound h live in
      let moved : 0 < count_of (half h) (map half (word_of s.words (face_of s h))) = count-mapped half (word_of s.words (face_of s h)) h there in
      let turn = count-turn (half h) (from_least-turn (map half (word_of s.words (face_of s h)))) in
      let in_word : 0 < count_of (half h) (word_of n.words (face (face_of s h))) =
      subst (λ (w : List ℕ). 0 < count_of (half h) w) (sym (leaves.word (face_of s h) live_f)) (omega (arith, moved, turn)) in
      faces_apart (face_of s h) live_f (sym (face_in_word (map_of n) n.words (links_stand result.sound) (half h) (face (face_of s h)) in_word) ∙ on)

  both : IsConvex at s → (h k : ℕ) → IsLive n h → face_of n h ≡ 0 → IsLive n k → Supports (after (origin_of n h)) (after (end_of n h)) (after (origin_of n k))
  both convex h k live on live_k =
      let (i, live_i, is) = leaves.each_half_edge h live in
      let (j, live_j, is_j) = leaves.each_half_edge k live_k in
      let on_i = was_outer i live_i (ap (face_of n) is ∙ on) in
      subst (λ (l : ℕ). Supports (after (origin_of n l)) (after (end_of n l)) (after (origin_of n k))) is
      (subst (λ (l : ℕ). Supports (after (origin_of n (half i))) (after (end_of n (half i))) (after (origin_of n l))) is_j
      (subst (λ (q : Point). Supports q (after (end_of n (half i))) (after (origin_of n (half j)))) (sym (stands_at i live_i))
      (subst (λ (q : Point). Supports (at (origin_of s i)) q (after (origin_of n (half j)))) (sym (ends_at i live_i))
      (subst (λ (q : Point). Supports (at (origin_of s i)) (at (end_of s i)) q) (sym (stands_at j live_j))
      (convex.supports i j live_i on_i live_j)))))

  pub renumbered_convex : IsConvex at s → IsConvex after n
  renumbered_convex convex = record {
    supports = both convex;
  }

  one_start : HasDistinctPoints at s → (i j : ℕ) → IsLive s i → IsLive s j → (after (origin_of n (half i))).x ≡ (after (origin_of n (half j))).x
      → (after (origin_of n (half i))).y ≡ (after (origin_of n (half j))).y → origin_of s i ≡ origin_of s j
  one_start distinct i j live_i live_j ex ey =
      distinct i j live_i live_j (sym (ap (λ (q : Point). q.x) (stands_at i live_i)) ∙ ex ∙ ap (λ (q : Point). q.x) (stands_at j live_j))
      (sym (ap (λ (q : Point). q.y) (stands_at i live_i)) ∙ ey ∙ ap (λ (q : Point). q.y) (stands_at j live_j))

  distinct_after : HasDistinctPoints at s → HasDistinctPoints after n
  distinct_after distinct h k live_h live_k =
      let (i, live_i, is) = leaves.each_half_edge h live_h in
      let (j, live_j, is_j) = leaves.each_half_edge k live_k in
      subst (λ (l : ℕ). (after (origin_of n l)).x ≡ (after (origin_of n k)).x → (after (origin_of n l)).y ≡ (after (origin_of n k)).y → origin_of n l ≡ origin_of n k) is
      (subst (λ (l : ℕ). (after (origin_of n (half i))).x ≡ (after (origin_of n l)).x → (after (origin_of n (half i))).y ≡ (after (origin_of n l)).y → origin_of n (half i) ≡ origin_of n l) is_j
      (λ ex ey. leaves.origin i live_i ∙ ap vertex (one_start distinct i j live_i live_j ex ey) ∙ sym (leaves.origin j live_j)))

  pub renumbered_hull : IsHull at s → IsHull after n
  renumbered_hull hull = record {
    distinct = distinct_after hull.distinct;
    once = λ h k live_h live_k on_h on_k from.
        let (i, live_i, is) = leaves.each_half_edge h live_h in
        let (j, live_j, is_j) = leaves.each_half_edge k live_k in
        let at_one : after (origin_of n (half i)) ≡ after (origin_of n (half j)) = ap after (ap (origin_of n) is ∙ from ∙ sym (ap (origin_of n) is_j)) in
        sym is
        ∙ ap half
        (hull.once i j live_i live_j (was_outer i live_i (ap (face_of n) is ∙ on_h)) (was_outer j live_j (ap (face_of n) is_j ∙ on_k))
        (one_start hull.distinct i j live_i live_j (ap (λ (q : Point). q.x) at_one) (ap (λ (q : Point). q.y) at_one)))
        ∙ is_j;
  }

  -- a line too
  stands_there : (i h : ℕ) → IsLive s i → half i ≡ h → at (origin_of s i) ≡ after (origin_of n h)
  stands_there i h live is = sym (stands_at i live) ∙ ap (λ k. after (origin_of n k)) is

  ends_there : (i h : ℕ) → IsLive s i → half i ≡ h → at (end_of s i) ≡ after (end_of n h)
  ends_there i h live is = sym (ends_at i live) ∙ ap (λ k. after (end_of n k)) is

  told_of : (P : Point → Point → Point → Type 0) → ((i j : ℕ) → IsLive s i → IsLive s j → P (at (origin_of s i)) (at (end_of s i)) (at (origin_of s j)))
      → (h k : ℕ) → IsLive n h → IsLive n k → P (after (origin_of n h)) (after (end_of n h)) (after (origin_of n k))
  told_of P told h k live_h live_k =
      let (i, live_i, is) = leaves.each_half_edge h live_h in
      let (j, live_j, is_j) = leaves.each_half_edge k live_k in
      three_points P (stands_there i h live_i is) (ends_there i h live_i is) (stands_there j k live_j is_j) (told i j live_i live_j)

  pub renumbered_straight : IsStraight at s → IsStraight after n
  renumbered_straight straight = record {
    distinct = distinct_after straight.distinct;
    line = told_of (λ a b c. orient2d_of a b c ≡ pos 0) straight.line;
    between = told_of (λ a b c. pos 0 ≤ℤ dot a b c) straight.between;
    once = λ h k live_h live_k same near.
        let (i, live_i, is) = leaves.each_half_edge h live_h in
        let (j, live_j, is_j) = leaves.each_half_edge k live_k in
        let at_one : after (origin_of n (half i)) ≡ after (origin_of n (half j)) = ap after (ap (origin_of n) is ∙ same ∙ sym (ap (origin_of n) is_j)) in
        sym is
        ∙ ap half
        (straight.once i j live_i live_j (one_start straight.distinct i j live_i live_j (ap (λ (q : Point). q.x) at_one) (ap (λ (q : Point). q.y) at_one))
        (three_points (λ a b c. pos 0 <ℤ dot a b c) (sym (ends_there i h live_i is)) (sym (ends_there j k live_j is_j)) (sym (stands_there i h live_i is)) near))
        ∙ is_j;
    onward = λ h k live_h live_k more.
        let (i, live_i, is) = leaves.each_half_edge h live_h in
        let (j, live_j, is_j) = leaves.each_half_edge k live_k in
        let (g, live_g, starts, more_g) = straight.onward i j live_i live_j
        (three_points (λ a b c. pos 0 <ℤ dot_of_steps a b c) (sym (stands_there i h live_i is)) (sym (ends_there i h live_i is)) (sym (stands_there j k live_j is_j)) more) in
        let ends : end_of n h ≡ vertex (end_of s i) =
        ap (end_of n) (sym is) ∙ ap (origin_of n) (leaves.turn i) ∙ leaves.origin (rev i) (rev_live (map_of s) i live_i) in (
          half g,
          leaves.half_edge g live_g,
          leaves.origin g live_g ∙ ap vertex starts ∙ sym ends,
          three_points (λ a b c. pos 0 <ℤ dot_of_steps a b c) (stands_there i h live_i is) (ends_there i h live_i is) (ends_there g (half g) live_g refl) more_g,
        );
  }

  -- on which face it lies
  face_at : (h : ℕ) → IsLive s h → face_of n (half h) ≡ face (face_of s h)
  face_at h live =
      let there : 0 < count_of h (word_of s.words (face_of s h)) = stands_in_face (map_of s) s.words (links_stand mesh.sound) h live in
      let moved : 0 < count_of (half h) (map half (word_of s.words (face_of s h))) = count-mapped half (word_of s.words (face_of s h)) h there in
      let turn = count-turn (half h) (from_least-turn (map half (word_of s.words (face_of s h)))) in
      face_in_word (map_of n) n.words (links_stand result.sound) (half h) (face (face_of s h))
      (subst (λ (w : List ℕ). 0 < count_of (half h) w) (sym (leaves.word (face_of s h) (face-live mesh.sound h live))) (omega (arith, moved, turn)))

  word_at : (h : ℕ) → IsLive s h → word_of n.words (face_of n (half h)) ≡ from_least (map half (word_of s.words (face_of s h)))
  word_at h live = ap (word_of n.words) (face_at h live) ∙ leaves.word (face_of s h) (face-live mesh.sound h live)

  -- what comes before it
  Leads : ℕ → ℕ → Type 0
  Leads p q = (k : ℕ) → IsLive s k → half k ≡ q → p ≡ half (prev_of s k)

  follows_leads : (f p q : ℕ) → Follows (map_of s) f p q → Leads (half p) (half q)
  unfolding Leads
  follows_leads f p q follows k live_k is =
      let live_q : IsLive s q = subst (λ (x : ℕ). IsLive s x) follows.next (next-live mesh.sound p follows.live) in
      ap half (sym follows.prev ∙ ap (prev_of s) (sym (apart k q live_k live_q is)))

  before_at : (h : ℕ) → IsLive s h → prev_of n (half h) ≡ half (prev_of s h)
  unfolding Leads
  before_at h live =
      let f = face_of s h in
      let below = (is_live-parts (gives_up_face s.removal) (face_count s) f (face-live mesh.sound h live)).0 in
      let cycle : IsCycle Leads (map half (word_of s.words f)) =
      IsCycle-map (Follows (map_of s) f) Leads half (follows_leads f) (word_of s.words f) ((links_stand mesh.sound).cycles f below) in
      let turned : IsCycle Leads (word_of n.words (face_of n (half h))) =
      subst (IsCycle Leads) (sym (word_at h live)) (IsCycle-turn Leads (from_least-turn (map half (word_of s.words f))) cycle) in
      let there = stands_in_face (map_of n) n.words (links_stand result.sound) (half h) (leaves.half_edge h live) in
      prev-said result.sound (half h) (leaves.half_edge h live)
      ∙ prev_in_word-leads Leads (word_of n.words (face_of n (half h))) turned (half h) there h live refl

  triangle_at : (h : ℕ) → IsLive s h → length (word_of n.words (face_of n (half h))) ≡ 3 → IsTriangle s (face_of s h)
  triangle_at h live three = record {
    live = face-live mesh.sound h live;
    three =
        sym (length-map (word_of s.words (face_of s h)) half) ∙ sym (length-turn (from_least-turn (map half (word_of s.words (face_of s h)))))
        ∙ ap length (sym (word_at h live)) ∙ three;
  }

  inner_at : (h : ℕ) → IsLive s h → 0 < face_of n (half h) → 0 < face_of s h
  inner_at h live inside = elim (eq-zero-or-pos (face_of s h)) [
    | inr more ↦ more
    | inl none ↦ absurd (let o = leaves.outer in let e = ap face none in let f = face_at h live in omega (arith, o, e, f, inside))
  ]

  -- an inner half edge was one
  pub was_inner : (k : ℕ) → IsLive n k → 0 < face_of n k → (h : ℕ) × IsLive s h × (0 < face_of s h)
  was_inner k live inside =
      let (h, live_h, is) = leaves.each_half_edge k live in
      (h, live_h, inner_at h live_h (subst (λ (j : ℕ). 0 < face_of n j) (sym is) inside))

  corner_at : (h : ℕ) → IsLive s h → after (origin_of n (prev_of n (half h))) ≡ at (origin_of s (prev_of s h))
  corner_at h live = ap (λ k. after (origin_of n k)) (before_at h live) ∙ stands_at (prev_of s h) (prev-live mesh.sound h live)

  -- an edge under its new number
  module _ (edge : ℕ → ℕ) (parts : (h : ℕ) → half h ≡ 2 * edge (h / 2) + h % 2) where
    was_listed : (due : List ℕ) → ListsCircled at s due → (u w : ℕ) → IsLive s (2 * w) → half (2 * w) ≡ 2 * u → half (2 * w + 1) ≡ 2 * u + 1
        → IsInner n u → IsCircled after n u → 0 < count_of w due
    was_listed due lists u w live is is_too inner circled =
        let live_too : IsLive s (2 * w + 1) = subst (λ (k : ℕ). IsLive s k) (rev-double w) (rev_live (map_of s) (2 * w) live) in
        let back : 2 * w / 2 ≡ w = omega arith in
        let inner' : IsInner s w = record {
          live = subst (λ (k : ℕ). edge_is_live s k ≡ true) back live;
          triangle = triangle_at (2 * w) live (ap (λ k. length (word_of n.words (face_of n k))) is ∙ inner.triangle.three);
          facing = triangle_at (2 * w + 1) live_too (ap (λ k. length (word_of n.words (face_of n k))) is_too ∙ inner.facing.three);
          inner = inner_at (2 * w) live (subst (λ (k : ℕ). 0 < face_of n k) (sym is) inner.inner);
          inner_facing = inner_at (2 * w + 1) live_too (subst (λ (k : ℕ). 0 < face_of n k) (sym is_too) inner.inner_facing);
        } in
        lists w inner'
        (circle_at (ap (λ k. after (origin_of n k)) (sym is) ∙ stands_at (2 * w) live) (ap (λ k. after (origin_of n k)) (sym is_too) ∙ stands_at (2 * w + 1) live_too)
        (ap (λ k. after (origin_of n (prev_of n k))) (sym is) ∙ corner_at (2 * w) live)
        (ap (λ k. after (origin_of n (prev_of n k))) (sym is_too) ∙ corner_at (2 * w + 1) live_too) circled)

    pub renumbered_lists : (due : List ℕ) → ListsCircled at s due → ListsCircled after n (map edge due)
    renumbered_lists due lists u inner circled =
        let (h, live, is) = leaves.each_half_edge (2 * u) (even_live n u inner.live) in
        let p = parts h in
        let e = edge (h / 2) in
        let even : 2 * (h / 2) ≡ h = even_of e u h (sym p ∙ is) in
        let same : e ≡ u = half_same e u h (sym p ∙ is) in
        let live' : IsLive s (2 * (h / 2)) = subst (λ (k : ℕ). IsLive s k) (sym even) live in
        let is' : half (2 * (h / 2)) ≡ 2 * u = ap half even ∙ is in
        let is_too : half (2 * (h / 2) + 1) ≡ 2 * u + 1 =
        ap half (sym (rev-double (h / 2))) ∙ sym (leaves.turn (2 * (h / 2))) ∙ ap rev is' ∙ rev-double u in
        let found : 0 < count_of (h / 2) due = was_listed due lists u (h / 2) live' is' is_too inner circled in
        subst (λ (k : ℕ). 0 < count_of k (map edge due)) same (count-mapped edge due (h / 2) found)
      where
        even_of : (e u h : ℕ) → 2 * e + h % 2 ≡ 2 * u → 2 * (h / 2) ≡ h
        even_of e u h is = omega (arith, is)

        half_same : (e u h : ℕ) → 2 * e + h % 2 ≡ 2 * u → e ≡ u
        half_same e u h is = omega (arith, is)

map-same : (l : List ℕ) → map (λ (u : ℕ). u) l ≡ l
map-same [] = refl
map-same (x ∷ l) = ap (λ (r : List ℕ). x ∷ r) (map-same l)

-- cleanup, and then the vertex taken out
module _ {V DE UE F : Type 0} (m : Mesh V DE UE F) (mesh : IsMesh m) where
  one_edge : (u w : ℕ) → edge_is_live m.shape u ≡ true → edge_is_live m.shape w ≡ true → new_edge m.shape u ≡ new_edge m.shape w → u ≡ w
  one_edge u w live_u live_w same =
      let places = (numbered m mesh).edges in
      sym (places u live_u) ∙ ap (slice_index (renumbered m.shape.edges (edges_down m.shape.removal))) same ∙ places w live_w

  pub one_half : (h k : ℕ) → IsLive m.shape h → IsLive m.shape k → new_half m.shape h ≡ new_half m.shape k → h ≡ k
  unfolding half_of
  one_half h k live_h live_k same =
      let e : 2 * new_edge m.shape (h / 2) + h % 2 ≡ 2 * new_edge m.shape (k / 2) + k % 2 = same in
      let r : new_edge m.shape (h / 2) ≡ new_edge m.shape (k / 2) = halved (new_edge m.shape (h / 2)) (new_edge m.shape (k / 2)) (h % 2) (k % 2) (omega arith) (omega arith) e in
      let u = one_edge (h / 2) (k / 2) live_h live_k r in
      omega (arith, e, r, u)
    where
      halved : (x y a b : ℕ) → a < 2 → b < 2 → 2 * x + a ≡ 2 * y + b → x ≡ y
      halved x y a b few_a few_b e = omega (arith, e, few_a, few_b)

  outer_live : face_is_live m.shape 0 ≡ true
  outer_live = is_live-from (gives_up_face m.shape.removal) (face_count m.shape) 0 mesh.sized.outer (gives_up_face-outer mesh.sized.within)

  outer_face : (f : ℕ) → face_is_live m.shape f ≡ true → new_face m.shape f ≡ 0 → f ≡ 0
  outer_face f live is =
      let places = (numbered m mesh).faces in
      let o = (leaves_live m mesh).outer in
      sym (places f live) ∙ ap (slice_index (renumbered (face_count m.shape) (faces_down m.shape.removal))) (is ∙ sym o) ∙ places 0 outer_live

  pub cleanup_keeps : (at : ℕ → Point) → IsMesh (cleaned_up m)
      → (TrianglesTurnLeft at m.shape → TrianglesTurnLeft at (cleaned_up m).shape) × (IsConvex at m.shape → IsConvex at (cleaned_up m).shape) × (IsHull at m.shape → IsHull at (cleaned_up m).shape)
  cleanup_keeps at result = (
    renumbered_plane m (cleaned_up m) mesh result (new_half m.shape) (λ v. v) (new_face m.shape) (leaves_live m mesh) one_half outer_face at at (λ v live. refl),
    renumbered_convex m (cleaned_up m) mesh result (new_half m.shape) (λ v. v) (new_face m.shape) (leaves_live m mesh) one_half outer_face at at (λ v live. refl),
    renumbered_hull m (cleaned_up m) mesh result (new_half m.shape) (λ v. v) (new_face m.shape) (leaves_live m mesh) one_half outer_face at at (λ v live. refl),
  )

  -- an inner face stays one
  pub cleanup_inner : IsMesh (cleaned_up m) → (h : ℕ) → IsLive m.shape h → 0 < face_of m.shape h → 1 < face_count (cleaned_up m).shape
  cleanup_inner result h live inside =
      let at : ℕ → Point = λ v. origin_point in
      let on =
      face_at m (cleaned_up m) mesh result (new_half m.shape) (λ v. v) (new_face m.shape) (leaves_live m mesh) one_half outer_face at at (λ v live_v. refl) h live in
      let below = (map-sound result.sound).below_faces (new_half m.shape h) ((leaves_live m mesh).half_edge h live) in
      elim (eq-zero-or-pos (new_face m.shape (face_of m.shape h))) [
        | inr more ↦ omega (arith, on, below, more)
        | inl none ↦ absurd (let outside = outer_face (face_of m.shape h) (face-live mesh.sound h live) none in omega (arith, outside, inside))
      ]

  pub cleanup_lists : (at : ℕ → Point) → IsMesh (cleaned_up m) → (due : List ℕ) → ListsCircled at m.shape due → ListsCircled at (cleaned_up m).shape (map (new_edge m.shape) due)
  unfolding half_of
  cleanup_lists at result =
      renumbered_lists m (cleaned_up m) mesh result (new_half m.shape) (λ v. v) (new_face m.shape) (leaves_live m mesh) one_half outer_face at at (λ v live. refl)
      (new_edge m.shape) (λ h. refl)

  pub taken_out_lists : (at after : ℕ → Point) (d : ℕ) → m.shape.removal ≡ Cleaned d → IsMesh (vertex_taken_out m d)
      → ((v : ℕ) → vertex_is_live m.shape v ≡ true → after (moved (m.shape.vertices - 1) d v) ≡ at v)
      → (due : List ℕ) → ListsCircled at m.shape due → ListsCircled after (vertex_taken_out m d).shape due
  taken_out_lists at after d given result same due lists =
      subst (λ (l : List ℕ). ListsCircled after (vertex_taken_out m d).shape l) (map-same due)
      (renumbered_lists m (vertex_taken_out m d) mesh result (λ h. h) (moved (m.shape.vertices - 1) d) (λ f. f) (vertex_leaves_live m mesh d given)
      (λ h k live_h live_k is. is) (λ f live is. is) at after same (λ u. u) (λ h. omega arith) due lists)

  pub taken_out_keeps : (at after : ℕ → Point) (d : ℕ) → m.shape.removal ≡ Cleaned d → IsMesh (vertex_taken_out m d)
      → ((v : ℕ) → vertex_is_live m.shape v ≡ true → after (moved (m.shape.vertices - 1) d v) ≡ at v)
      → (TrianglesTurnLeft at m.shape → TrianglesTurnLeft after (vertex_taken_out m d).shape) × (IsConvex at m.shape → IsConvex after (vertex_taken_out m d).shape)
      × (IsHull at m.shape → IsHull after (vertex_taken_out m d).shape)
  taken_out_keeps at after d given result same = (
    renumbered_plane m (vertex_taken_out m d) mesh result (λ h. h) (moved (m.shape.vertices - 1) d) (λ f. f) (vertex_leaves_live m mesh d given) (λ h k live_h live_k is. is) (λ f live is. is) at after same,
    renumbered_convex m (vertex_taken_out m d) mesh result (λ h. h) (moved (m.shape.vertices - 1) d) (λ f. f) (vertex_leaves_live m mesh d given) (λ h k live_h live_k is. is) (λ f live is. is) at after same,
    renumbered_hull m (vertex_taken_out m d) mesh result (λ h. h) (moved (m.shape.vertices - 1) d) (λ f. f) (vertex_leaves_live m mesh d given) (λ h k live_h live_k is. is) (λ f live is. is) at after same,
  )

  pub cleanup_straight : (at : ℕ → Point) → IsMesh (cleaned_up m) → IsStraight at m.shape → IsStraight at (cleaned_up m).shape
  cleanup_straight at result =
      renumbered_straight m (cleaned_up m) mesh result (new_half m.shape) (λ v. v) (new_face m.shape) (leaves_live m mesh) one_half outer_face at at (λ v live. refl)

  pub taken_out_straight : (at after : ℕ → Point) (d : ℕ) → m.shape.removal ≡ Cleaned d → IsMesh (vertex_taken_out m d)
      → ((v : ℕ) → vertex_is_live m.shape v ≡ true → after (moved (m.shape.vertices - 1) d v) ≡ at v)
      → IsStraight at m.shape → IsStraight after (vertex_taken_out m d).shape
  taken_out_straight at after d given result same =
      renumbered_straight m (vertex_taken_out m d) mesh result (λ h. h) (moved (m.shape.vertices - 1) d) (λ f. f) (vertex_leaves_live m mesh d given)
      (λ h k live_h live_k is. is) (λ f live is. is) at after same

  pub cleanup_was_inner : IsMesh (cleaned_up m) → (k : ℕ) → IsLive (cleaned_up m).shape k → 0 < face_of (cleaned_up m).shape k
      → (h : ℕ) × IsLive m.shape h × (0 < face_of m.shape h)
  cleanup_was_inner result =
      let at : ℕ → Point = λ v. origin_point in
      was_inner m (cleaned_up m) mesh result (new_half m.shape) (λ v. v) (new_face m.shape) (leaves_live m mesh) one_half outer_face at at (λ v live. refl)

  pub taken_out_was_inner : (d : ℕ) → m.shape.removal ≡ Cleaned d → IsMesh (vertex_taken_out m d) → (k : ℕ) → IsLive (vertex_taken_out m d).shape k
      → 0 < face_of (vertex_taken_out m d).shape k → (h : ℕ) × IsLive m.shape h × (0 < face_of m.shape h)
  taken_out_was_inner d given result =
      let at : ℕ → Point = λ v. origin_point in
      was_inner m (vertex_taken_out m d) mesh result (λ h. h) (moved (m.shape.vertices - 1) d) (λ f. f) (vertex_leaves_live m mesh d given)
      (λ h k live_h live_k is. is) (λ f live is. is) at at (λ v live. refl)
