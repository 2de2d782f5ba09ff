-- A vertex put into an edge of the hull keeps the hull: its two parts lie on the line of the edge.
use Rattle.std.proofs.Common.{◌≡◌, ◌≢◌, ◌⊎◌, inl, inr, ℕ, zero, suc, ◌+◌, ◌*◌, ◌<◌, List, [], ◌∷◌, slice_set, refl, sym, ap, ◌∙◌, subst, pos, ◌-ℤ◌, ◌<ℤ◌, ◌≤ℤ◌, slice_index, arith}
use Rattle.std.proofs.lemmas.Bool.{cases_eq}
use Rattle.std.proofs.lemmas.List.{get_or-set_same, get_or_append_left, length-set}
use Rattle.dcel_fixed.specs.HalfEdges.{rev}
use Rattle.dcel_fixed.proofs.Halves.{rev-ne, rev-rev}
use Rattle.dcel_predicates.specs.Determinants.{orient2d_of}
use Rattle.dcel_predicates.specs.declared.point.Point.{Point}
use Rattle.dcel_predicates.proofs.Points.{orient2d-first_swapped}
use Rattle.dcel_predicates.proofs.Signs.{ordered}
use Rattle.dcel_maps.specs.Around.{around}
use Rattle.dcel_maps.specs.Conditions.{IsTriangle}
use Rattle.dcel_maps.specs.Cyclic.{from_least}
use Rattle.dcel_maps.specs.Shapes.{IsLive, IsMesh, Mesh, Shape, end_of, face_of, map_of, origin_of}
use Rattle.dcel_maps.specs.Words.{become, count_of, word_of}
use Rattle.dcel_maps.specs.edits.Split.{half_edge_split}
use Rattle.dcel_maps.proofs.maps.Soundness.{rev_live}
use Rattle.dcel_maps.proofs.maps.Triangles.{IsTriangleOf}
use Rattle.dcel_plane.specs.Plane.{LiesAcross, TrianglesTurnLeft, TurnsLeft}
use Rattle.dcel_plane.proofs.edits.Corners.{left_of_triangle}
use Rattle.dcel_plane.proofs.edits.Splits.{half_more, half_old, half_start, half_words, seen_after, seen_before, side_triangle}
use Rattle.dcel_plane.specs.covering.Covering.{IsConvex, IsHull, Supports, dot}
use Rattle.dcel_plane.proofs.covering.Along.{IsBetween, between_ends, dot_start, edges_long, placed, sides}
use Rattle.dcel_plane.proofs.covering.Inside.{on_end, on_start}
use Rattle.dcel_plane.proofs.hull.Becomes.{in_become, in_outer, of_pair, old_or_new, rev-3, was_live, was_on}
use Rattle.dcel_plane.proofs.hull.Beside.{supports_end, supports_start, end_beside, other_beside, start_beside}
use Rattle.dcel_plane.proofs.hull.Keeping.{StaysOuter, gains_distinct, gains_once}

module _ {V DE UE F : Type 0} (m : Mesh V DE UE F) (mesh : IsMesh m) (at : ℕ → Point) (plane : TrianglesTurnLeft at m.shape)
    (convex : IsConvex at m.shape) (hull : IsHull at m.shape) (e v : ℕ) (live : IsLive m.shape e) (triangle : IsTriangle m.shape (face_of m.shape e)) (inner : 0 < face_of m.shape e)
    (bare : face_of m.shape (rev e) ≡ 0) (across : LiesAcross at m.shape e (at v)) (on : orient2d_of (at (origin_of m.shape e)) (at (end_of m.shape e)) (at v) ≡ pos 0)
    (halves : List DE) (edges : List UE) (faces : List F) where
  open (around m.shape e) use {n, t, f, g, before as ep, after as en, end}

  abbrev s : Shape
  s = m.shape

  abbrev r : Shape
  r = (half_edge_split m e v halves edges faces).shape

  abbrev p : ℕ → Point
  p h = at (origin_of s h)

  live_t : IsLive s t
  live_t = rev_live (map_of s) e live

  near : IsTriangleOf (map_of s) f e en ep
  near = side_triangle m mesh at (at v) e live triangle

  from_end : origin_of s en ≡ origin_of s t
  from_end = mesh.sound.joined e live

  abc : TurnsLeft (p e) (p t) (p ep)
  abc = subst (λ (i : ℕ). TurnsLeft (p e) (at i) (p ep)) from_end (left_of_triangle at s mesh.sound plane f e en ep inner near)

  bc : TurnsLeft (p t) (p ep) (at v)
  bc = subst (λ (i : ℕ). TurnsLeft (at i) (p ep) (at v)) from_end (seen_after m mesh at (at v) e live triangle across)

  ca : TurnsLeft (p ep) (p e) (at v)
  ca = seen_before m mesh at (at v) e live triangle across

  -- half edges have a length
  far : (h : ℕ) → IsLive s h → pos 0 <ℤ dot (at (end_of s h)) (at (end_of s h)) (p h)
  far = edges_long at s mesh.sound hull.distinct

  ends_t : end_of s t ≡ origin_of s e
  ends_t = ap (origin_of s) (rev-rev e)

  between : IsBetween (p t) (p e) (at v)
  between =
      between_ends (p e) (p t) (p ep) (at v) (subst (λ (i : ℕ). pos 0 <ℤ dot (at i) (at i) (p t)) ends_t (far t live_t)) abc bc ca on
      (let o = orient2d-first_swapped (p e) (p t) (at v) in omega (arith, ordered, o, on))

  right_t : (k : ℕ) → IsLive s k → orient2d_of (p t) (p e) (p k) ≤ℤ pos 0
  right_t k live_k = subst (λ (i : ℕ). orient2d_of (p t) (at i) (p k) ≤ℤ pos 0) ends_t (convex.supports t k live_t bare live_k).0

  apart_t : (k : ℕ) → IsLive s k → orient2d_of (p t) (p e) (p k) ≡ pos 0 → pos 0 ≤ℤ dot (p t) (p e) (p k)
  apart_t k live_k =
      subst (λ (i : ℕ). orient2d_of (p t) (at i) (p k) ≡ pos 0 → pos 0 ≤ℤ dot (p t) (at i) (p k)) ends_t (convex.supports t k live_t bare live_k).1

  -- no vertex stands where v does
  alone : (k : ℕ) → IsLive s k → (p k).x ≡ (at v).x → (p k).y ≡ (at v).y → ⊥
  alone k live_k ex ey =
      let is = between in
      let i = is.above in
      let j = is.below in
      let on_k : orient2d_of (p t) (p e) (p k) ≡ pos 0 = same_height (p t) (p e) (p k) (at v) ex ey ∙ is.on in
      let apart = apart_t k live_k on_k in
      let l : pos 0 <ℤ dot (p e) (p e) (p t) = omega (arith, ordered, i, j) in
      let q = placed (p t) (p e) (p t) (p e) (p k) l (on_end (p t) (p e)) (on_start (p t) (p e)) on_k apart in
      let z = dot_start (p e) (p t) in
      let d = same_place (p t) (p e) (p k) (at v) ex ey in
      elim (sides (dot (p t) (p e) (p t) -ℤ dot (p k) (p e) (p t)) (dot (p e) (p e) (p t) -ℤ dot (p k) (p e) (p t)) q) [
        | inl both ↦ (let b = both.0 in omega (arith, ordered, z, d, b, i))
        | inr both ↦ (let b = both.1 in omega (arith, ordered, d, b, j))
      ]
    where
      same_height : (b a x y : Point) → x.x ≡ y.x → x.y ≡ y.y → orient2d_of b a x ≡ orient2d_of b a y
      same_height b a x y ex ey = rw (ex, ey) refl

      same_place : (b a x y : Point) → x.x ≡ y.x → x.y ≡ y.y → dot x a b ≡ dot y a b
      same_place b a x y ex ey = rw (ex, ey) refl

  not_v : (k : ℕ) → IsLive s k → origin_of s k ≢ v
  not_v k live_k is = alone k live_k (ap (λ (i : ℕ). (at i).x) is) (ap (λ (i : ℕ). (at i).y) is)

  -- v beside another outer half edge
  beside_v : (h : ℕ) → IsLive s h → face_of s h ≡ 0 → h ≢ t → Supports (p h) (at (end_of s h)) (at v)
  beside_v h live_h on_h differs =
      let back = rev_live (map_of s) h live_h in
      other_beside (p t) (p e) (at v) between (p h) (at (end_of s h)) (far h live_h)
      (convex.supports h e live_h on_h live).0 (convex.supports h t live_h on_h live_t).0 (convex.supports h e live_h on_h live).1 (convex.supports h t live_h on_h live_t).1
      (apart_t h live_h) (apart_t (rev h) back)
      (λ ex ey fx fy. differs (hull.once h t live_h live_t on_h bare (hull.distinct h t live_h live_t ex ey)))
      (λ ex ey fx fy.
      let starts = hull.distinct h e live_h live ex ey in
      let ends = hull.distinct (rev h) t back live_t fx fy in
      let q : orient2d_of (p e) (p t) (p ep) ≤ℤ pos 0 =
      subst (λ (i : ℕ). orient2d_of (p e) (at i) (p ep) ≤ℤ pos 0) ends
      (subst (λ (i : ℕ). orient2d_of (at i) (at (end_of s h)) (p ep) ≤ℤ pos 0) starts (convex.supports h ep live_h on_h near.live_z).0) in
      let l = abc in
      omega (arith, ordered, q, l))

  old : (h : ℕ) → IsLive s h → h ≢ t → origin_of s h ≡ origin_of r h
  old = half_old m mesh e v live halves edges faces at

  from_t : origin_of r t ≡ v
  from_t = half_start m mesh e v live halves edges faces at

  more_at : (k i : ℕ) → k ≡ 2 * s.edges + i → origin_of r k ≡ slice_index (origin_of s ep ∷ v ∷ v ∷ end ∷ []) i
  more_at = half_more m mesh e v live halves edges faces at

  abbrev outer_items : List ℕ
  outer_items = become t ((n + 3) ∷ t ∷ []) (word_of s.words g)

  outer_word : word_of r.words 0 ≡ from_least outer_items
  outer_word =
      let first = from_least (e ∷ (n + 1) ∷ ep ∷ []) in
      let second = from_least outer_items in
      subst (λ (k : ℕ). word_of r.words k ≡ second) bare
      (get_or_append_left (slice_set (slice_set s.words f first) g second) (half_words m mesh e v live halves edges faces at).more [] g
      (let k = length-set (slice_set s.words f first) g second in let l = length-set s.words f first in let o = mesh.sized.outer in omega (arith, k, l, o, bare))
      ∙ get_or-set_same (slice_set s.words f first) g second [] (let l = length-set s.words f first in let o = mesh.sized.outer in omega (arith, l, o, bare)))

  module _ (result : IsMesh (half_edge_split m e v halves edges faces)) where
    -- an outer half edge afterwards: one that stays, or a part of t
    outer_cases : (h : ℕ) → IsLive r h → face_of r h ≡ 0 → StaysOuter s r t h ⊎ ((h ≡ n + 3) ⊎ (h ≡ t))
    outer_cases h live_h on_h =
        let found = in_outer s r mesh.sound result.sound outer_items outer_word h live_h on_h in
        elim (in_become h t ((n + 3) ∷ t ∷ []) (word_of s.words g) found) [
          | inl put ↦ inr (of_pair h (n + 3) t put)
          | inr stood ↦
              let there : 0 < count_of h (word_of s.words 0) = subst (λ (k : ℕ). 0 < count_of h (word_of s.words k)) bare stood.0 in
              let was = was_live s mesh.sound h there in
              let outside = was_on s mesh.sound h there in
              inl (record {
                here = was;
                outer = outside;
                off = stood.1;
                start = old h was stood.1;
                end =
                    old (rev h) (rev_live (map_of s) h was)
                    (λ is. let k = ap (face_of s) (sym (rev-rev h) ∙ ap rev is ∙ rev-rev e) in omega (arith, k, outside, inner));
              })
        ]

    starts : (k : ℕ) → IsLive r k → (origin_of r k ≡ v) ⊎ ((j : ℕ) × IsLive s j × (origin_of s j ≡ origin_of r k))
    starts k live_k = elim (old_or_new s r 2 refl refl k live_k) [
      | inl was ↦ elim (cases_eq k t) [ inl is ↦ inl (ap (origin_of r) is ∙ from_t) | inr differs ↦ inr (k, was, old k was differs) ]
      | inr new ↦ new_start k new.0 new.1 new.2
    ]
      where
        new_start : (k i : ℕ) → k ≡ 2 * s.edges + i → i < 4 → (origin_of r k ≡ v) ⊎ ((j : ℕ) × IsLive s j × (origin_of s j ≡ origin_of r k))
        new_start k zero is few = inr (ep, near.live_z, sym (more_at k 0 is))
        new_start k (suc zero) is few = inl (more_at k 1 is)
        new_start k (suc (suc zero)) is few = inl (more_at k 2 is)
        new_start k (suc (suc (suc zero))) is few = inr (t, live_t, sym (more_at k 3 is))
        new_start k (suc (suc (suc (suc i)))) is few = absurd (omega (arith, few))

    -- what holds of old vertices and of v
    of_start : (P : ℕ → Type 0) → P v → ((j : ℕ) → IsLive s j → P (origin_of s j)) → (k : ℕ) → IsLive r k → P (origin_of r k)
    of_start P new was k live_k = elim (starts k live_k) [ inl is ↦ subst P (sym is) new | inr found ↦ subst P found.2 (was found.0 found.1) ]

    abbrev B : ℕ → ℕ → ℕ → Type 0
    B a b c = Supports (at a) (at b) (at c)

    -- where they lead
    starts_3 : origin_of r (n + 3) ≡ origin_of s t
    starts_3 = more_at (n + 3) 3 refl

    ends_3 : end_of r (n + 3) ≡ v
    ends_3 = ap (origin_of r) (rev-3 s.edges) ∙ more_at (n + 2) 2 refl

    ends_at : end_of r t ≡ origin_of s e
    ends_at = ap (origin_of r) (rev-rev e) ∙ sym (old e live (λ is. rev-ne e (sym is)))

    beside : (h k : ℕ) → IsLive r h → face_of r h ≡ 0 → IsLive r k → B (origin_of r h) (end_of r h) (origin_of r k)
    beside h k live_h on_h live_k = elim (outer_cases h live_h on_h) [
      | inl was ↦
          subst (λ (b : ℕ). B (origin_of r h) b (origin_of r k)) was.end
          (subst (λ (a : ℕ). B a (end_of s h) (origin_of r k)) was.start
          (of_start (λ c. B (origin_of s h) (end_of s h) c) (beside_v h was.here was.outer was.off)
          (λ j live_j. convex.supports h j was.here was.outer live_j) k live_k))
      | inr part ↦ elim part [
        | inl is_3 ↦
            subst (λ (i : ℕ). B (origin_of r i) (end_of r i) (origin_of r k)) (sym is_3)
            (subst (λ (b : ℕ). B (origin_of r (n + 3)) b (origin_of r k)) (sym ends_3)
            (subst (λ (a : ℕ). B a v (origin_of r k)) (sym starts_3)
            (of_start (λ c. B (origin_of s t) v c) (supports_end (p t) (at v))
            (λ j live_j. start_beside (p t) (p e) (at v) between (p j) (right_t j live_j) (apart_t j live_j)) k live_k)))
        | inr is_t ↦
            subst (λ (i : ℕ). B (origin_of r i) (end_of r i) (origin_of r k)) (sym is_t)
            (subst (λ (b : ℕ). B (origin_of r t) b (origin_of r k)) (sym ends_at)
            (subst (λ (a : ℕ). B a (origin_of s e) (origin_of r k)) (sym from_t)
            (of_start (λ c. B v (origin_of s e) c) (supports_start (at v) (p e))
            (λ j live_j. end_beside (p t) (p e) (at v) between (p j) (right_t j live_j) (apart_t j live_j)) k live_k)))
      ]
    ]

    pub half_split_convex : IsConvex at r
    half_split_convex = record {
      supports = beside;
    }

    pub half_split_hull : IsHull at r
    half_split_hull = record {
      distinct = gains_distinct at s r v starts alone hull.distinct;
      once = gains_once at s r t v (n + 3) t hull live_t bare not_v outer_cases starts_3 from_t;
    }
