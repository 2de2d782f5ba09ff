-- A point lies in one place only: strictly inside of one triangle, strictly between the ends of an edge, at one vertex, or beyond the hull.
use Rattle.std.proofs.Common.{◌≡◌, ◌≢◌, inl, inr, ℕ, ◌<◌, List, [], ◌∷◌, refl, sym, ◌∙◌, subst, ℤ, pos, ◌+ℤ◌, ◌*ℤ◌, ◌<ℤ◌, ◌≤ℤ◌, eq-zero-or-pos, arith}
use Rattle.std.proofs.lemmas.Bool.{cases_eq}
use Rattle.dcel_fixed.specs.HalfEdges.{rev}
use Rattle.dcel_fixed.proofs.Halves.{rev-rev}
use Rattle.dcel_predicates.specs.Determinants.{orient2d_of}
use Rattle.dcel_predicates.specs.declared.point.Point.{Point}
use Rattle.dcel_predicates.proofs.Points.{orient2d-first_swapped}
use Rattle.dcel_predicates.proofs.Signs.{ordered, times_negative, times_positive}
use Rattle.dcel_maps.specs.Shapes.{IsLive, IsMesh, Mesh, Shape, end_of, face_of, map_of, next_of, origin_of, prev_of}
use Rattle.dcel_maps.specs.Triangulations.{AllTriangles}
use Rattle.dcel_maps.specs.Words.{count_of, word_of}
use Rattle.dcel_maps.proofs.maps.Soundness.{rev_live}
use Rattle.dcel_maps.proofs.walks.Links.{links_stand}
use Rattle.dcel_maps.proofs.words.Counts.{count-later, count-same}
use Rattle.dcel_maps.proofs.words.Reading.{face_in_word}
use Rattle.dcel_plane.specs.Plane.{IsLeftOf, LiesInFace, TrianglesTurnLeft, TurnsLeft}
use Rattle.dcel_plane.proofs.edits.Corners.{left_of_triangle}
use Rattle.dcel_plane.specs.covering.Covering.{Covers, IsConvex, IsHull, dot}
use Rattle.dcel_plane.specs.covering.Places.{orient_at}
use Rattle.dcel_plane.proofs.covering.Alone.{none_inside as none_in}
use Rattle.dcel_plane.proofs.covering.Apart.{apart_at}
use Rattle.dcel_plane.proofs.covering.Faces.{disjoint_at, not_bare}
use Rattle.dcel_plane.proofs.covering.Inside.{apart_end, apart_start, as_covered, as_place, closed_disjoint, on_start, place_of, same_place, weighed}
use Rattle.dcel_plane.proofs.covering.Triangles.{meets, turned_triangle, at_word, left_at, round}
use Rattle.dcel_plane.specs.location.Locating.{HasBeyond, LiesOn, StandsAt, orient2d_along}
use Rattle.dcel_plane.proofs.location.Ways.{left_of_both, lies_back}

module _ {V DE UE F : Type 0} (m : Mesh V DE UE F) (mesh : IsMesh m) (triangles : AllTriangles m.shape) (at : ℕ → Point) (plane : TrianglesTurnLeft at m.shape) (v : Point) where
  abbrev s : Shape
  s = m.shape

  abbrev p : ℕ → Point
  p h = at (origin_of s h)

  -- a point strictly inside is on the left of all three sides
  inner_sides : (h : ℕ) → IsLive s h → 0 < face_of s h → LiesInFace at s (face_of s h) v → TurnsLeft (p h) (p (next_of s h)) v × TurnsLeft (p (next_of s h)) (p (prev_of s h)) v × TurnsLeft (p (prev_of s h)) (p h) v
  inner_sides h live inner lies =
      let f = face_of s h in
      let b = next_of s h in
      let c = prev_of s h in
      let tri = round m mesh triangles h live inner in
      let tri_y = turned_triangle (map_of s) f h b c tri in
      let tri_z = turned_triangle (map_of s) f b c h tri_y in (
        subst (λ (j : ℕ). TurnsLeft (p h) (at j) v) (sym (meets m mesh f h b c tri)) (lies h live refl),
        subst (λ (j : ℕ). TurnsLeft (p b) (at j) v) (sym (meets m mesh f b c h tri_y)) (lies b tri.live_y tri.face_y),
        subst (λ (j : ℕ). TurnsLeft (p c) (at j) v) (sym (meets m mesh f c h b tri_z)) (lies c tri.live_z tri.face_z),
      )

  -- beyond an edge of the hull the point is in no triangle
  pub in_none : IsConvex at s → (e h : ℕ) → IsLive s e → face_of s e ≡ 0 → pos 0 <ℤ orient2d_along at s e v → IsLive s h → 0 < face_of s h
      → ¬ Covers (p h) (p (next_of s h)) (p (prev_of s h)) v
  in_none convex e h live_e outer sees live inner covers =
      let tri = round m mesh triangles h live inner in
      let a = p h in let b = p (next_of s h) in let c = p (prev_of s h) in
      nothing (orient_at (p e) (at (end_of s e)) (place_of v)) (orient2d_of a b c) (orient_at b c (place_of v)) (orient_at c a (place_of v)) (orient_at a b (place_of v))
      (orient2d_of (p e) (at (end_of s e)) a) (orient2d_of (p e) (at (end_of s e)) b) (orient2d_of (p e) (at (end_of s e)) c)
      (weighed a b c (p e) (at (end_of s e)) (place_of v)) (left_of_triangle at s mesh.sound plane (face_of s h) h (next_of s h) (prev_of s h) inner tri)
      (let i = as_place (p e) (at (end_of s e)) v in omega (arith, ordered, i, sees))
      (let i = as_place b c v in let j = covers.1 in omega (arith, ordered, i, j))
      (let i = as_place c a v in let j = covers.2 in omega (arith, ordered, i, j))
      (let i = as_place a b v in let j = covers.0 in omega (arith, ordered, i, j))
      (convex.supports e h live_e outer live).0 (convex.supports e (next_of s h) live_e outer tri.live_y).0 (convex.supports e (prev_of s h) live_e outer tri.live_z).0
    where
      nothing : (t u k l n x y z : ℤ) → t *ℤ u ≡ ((k *ℤ x) +ℤ (l *ℤ y)) +ℤ (n *ℤ z) → pos 0 <ℤ u → pos 0 <ℤ t → pos 0 ≤ℤ k → pos 0 ≤ℤ l → pos 0 ≤ℤ n
          → x ≤ℤ pos 0 → y ≤ℤ pos 0 → z ≤ℤ pos 0 → ⊥
      nothing t u k l n x y z is hu ht hk hl hn hx hy hz =
          let q = times_positive t u ht hu in
          let i = times_negative k x hk hx in
          let j = times_negative l y hl hy in
          let o = times_negative n z hn hz in
          omega (arith, ordered, is, q, i, j, o)

  pub in_none_word : IsConvex at s → (e f x y z : ℕ) → IsLive s e → face_of s e ≡ 0 → IsLeftOf at s v e → 0 < f → word_of s.words f ≡ x ∷ y ∷ z ∷ []
      → ¬ Covers (p x) (p y) (p z) v
  in_none_word convex e f x y z live_e outer sees inner is =
      at_word m mesh triangles (λ a b c. ¬ Covers (p a) (p b) (p c) v) (λ a b c not covers. not (covers.2, covers.0, covers.1))
      (λ h live inner_h. in_none convex e h live_e outer sees live inner_h) f x y z inner is

  -- a step out of the hull
  pub stepped_out : (h : ℕ) → HasBeyond at s v h → IsLive s (rev h) × IsLeftOf at s v (rev h)
  stepped_out h has = (
    rev_live (map_of s) h has.live,
    subst (λ (i : ℕ). pos 0 <ℤ orient2d_of (at (end_of s h)) (at (origin_of s i)) v) (sym (rev-rev h))
        (let e = orient2d-first_swapped (p h) (at (end_of s h)) v in let x = has.right in omega (arith, ordered, e, x)),
  )

  -- no vertex stands there
  pub none_beyond : IsConvex at s → (e k : ℕ) → IsLive s e → face_of s e ≡ 0 → pos 0 <ℤ orient2d_along at s e v → IsLive s k → StandsAt at v (origin_of s k) → ⊥
  none_beyond convex e k live outer sees live_k stands =
      let r = (convex.supports e k live outer live_k).0 in
      let i = same_place (p e) (at (end_of s e)) (p k) v stands.0 stands.1 in
      omega (arith, ordered, r, i, sees)

  module _ (convex : IsConvex at m.shape) (hull : IsHull at m.shape) where
    covers_too : (a b c d : Point) → d.x ≡ v.x → d.y ≡ v.y → Covers a b c v → Covers a b c d
    covers_too a b c d ex ey covers = (
      (let e = same_place a b d v ex ey in let i = covers.0 in omega (arith, ordered, e, i)),
      (let e = same_place b c d v ex ey in let i = covers.1 in omega (arith, ordered, e, i)),
      (let e = same_place c a d v ex ey in let i = covers.2 in omega (arith, ordered, e, i)),
    )

    -- at a corner, if it is in a triangle
    corner_by : (P : Type 0) → (h k : ℕ) → IsLive s h → 0 < face_of s h → IsLive s k → StandsAt at v (origin_of s k) → Covers (p h) (p (next_of s h)) (p (prev_of s h)) v
        → (origin_of s k ≡ origin_of s h → P) → (origin_of s k ≡ origin_of s (next_of s h) → P) → (origin_of s k ≡ origin_of s (prev_of s h) → P) → P
    corner_by P h k live inner live_k stands covers at_a at_b at_c = elim (cases_eq (origin_of s k) (origin_of s h)) [
      | inl is ↦ at_a is
      | inr not_a ↦ elim (cases_eq (origin_of s k) (origin_of s (next_of s h))) [
        | inl is ↦ at_b is
        | inr not_b ↦ elim (cases_eq (origin_of s k) (origin_of s (prev_of s h))) [
          | inl is ↦ at_c is
          | inr not_c ↦
              absurd
              (apart_at m mesh triangles at plane convex hull h live inner k live_k not_a not_b not_c
              (covers_too (p h) (p (next_of s h)) (p (prev_of s h)) (p k) stands.0 stands.1 covers))
        ]
      ]
    ]

    stands_there : (k i : ℕ) → origin_of s k ≡ i → StandsAt at v (origin_of s k) → StandsAt at v i
    stands_there k i is stands = subst (λ (j : ℕ). StandsAt at v j) is stands

    -- strictly inside of a triangle there is none
    pub none_inside : (h k : ℕ) → IsLive s h → 0 < face_of s h → LiesInFace at s (face_of s h) v → IsLive s k → StandsAt at v (origin_of s k) → ⊥
    none_inside h k live inner lies live_k stands =
        let sides = inner_sides h live inner lies in
        none_in m mesh triangles at plane convex hull v h live inner sides.0 sides.1 sides.2 k live_k stands.0 stands.1

    apart_place : (a b d : Point) → d.x ≡ v.x → d.y ≡ v.y → dot a b d ≡ dot a b v
    apart_place a b d ex ey = rw (ex, ey) refl

    -- nor strictly between the ends of an edge
    pub none_on : (h k : ℕ) → IsLive s h → LiesOn at s v h → IsLive s k → StandsAt at v (origin_of s k) → ⊥
    none_on h k live lies live_k stands = elim (eq-zero-or-pos (face_of s h)) [
      | inl outer ↦
          let e = same_place (p h) (at (end_of s h)) (p k) v stands.0 stands.1 in
          let on = lies.on in
          let b = (convex.supports h k live outer live_k).1 (omega (arith, ordered, e, on)) in
          let i = apart_place (p h) (at (end_of s h)) (p k) stands.0 stands.1 in
          let apart = lies.between in
          omega (arith, ordered, b, i, apart)
      | inr inner ↦
          let f = face_of s h in
          let b = next_of s h in
          let c = prev_of s h in
          let tri = round m mesh triangles h live inner in
          let turn = left_of_triangle at s mesh.sound plane f h b c inner tri in
          let on : orient2d_of (p h) (p b) v ≡ pos 0 = subst (λ (j : ℕ). orient2d_of (p h) (at j) v ≡ pos 0) (sym (meets m mesh f h b c tri)) lies.on in
          let apart : dot (p h) (p b) v <ℤ pos 0 = subst (λ (j : ℕ). dot (p h) (at j) v <ℤ pos 0) (sym (meets m mesh f h b c tri)) lies.between in
          let both = left_of_both (p h) (p b) (p c) v turn on apart in
          let bc = both.0 in let ca = both.1 in
          corner_by ⊥ h k live inner live_k stands (omega (arith, ordered, on), omega (arith, ordered, bc), omega (arith, ordered, ca))
          (λ is. let o = stands_there k (origin_of s h) is stands in
          let e = apart_place (p h) (p b) (p h) o.0 o.1 in let z = apart_start (p h) (p b) in omega (arith, ordered, e, z, apart))
          (λ is. let o = stands_there k (origin_of s b) is stands in
          let e = apart_place (p h) (p b) (p b) o.0 o.1 in let z = apart_end (p h) (p b) in omega (arith, ordered, e, z, apart))
          (λ is. let o = stands_there k (origin_of s c) is stands in
          let e = same_place (p b) (p c) (p c) v o.0 o.1 in let z = on_start (p b) (p c) in omega (arith, ordered, e, z, bc))
    ]

    -- what lies strictly inside of one triangle lies in no other
    pub in_one : (h t : ℕ) → IsLive s h → 0 < face_of s h → LiesInFace at s (face_of s h) v → IsLive s t → 0 < face_of s t → Covers (p t) (p (next_of s t)) (p (prev_of s t)) v
        → face_of s t ≡ face_of s h
    in_one h t live inner lies live_t inner_t covers = elim (cases_eq (face_of s t) (face_of s h)) [
      | inl is ↦ is
      | inr other ↦
          let b = next_of s h in
          let c = prev_of s h in
          let (ab, bc, ca) = inner_sides h live inner lies in
          absurd
          (closed_disjoint (p h) (p b) (p c) (p t) (p (next_of s t)) (p (prev_of s t))
          (disjoint_at m mesh triangles at plane convex hull h t live inner live_t inner_t (λ same. other (sym same))) (left_at m mesh triangles at plane t live_t inner_t) (place_of v) (
            (let i = as_place (p h) (p b) v in omega (arith, ordered, i, ab)),
            (let i = as_place (p b) (p c) v in omega (arith, ordered, i, bc)),
            (let i = as_place (p c) (p h) v in omega (arith, ordered, i, ca)),
          )
          (as_covered (p t) (p (next_of s t)) (p (prev_of s t)) v covers))
    ]

    pub in_one_word : (h f x y z : ℕ) → IsLive s h → 0 < face_of s h → LiesInFace at s (face_of s h) v → 0 < f → word_of s.words f ≡ x ∷ y ∷ z ∷ [] → f ≢ face_of s h
        → ¬ Covers (p x) (p y) (p z) v
    in_one_word h f x y z live inner lies inner_f is other =
        let found : 0 < count_of x (word_of s.words f) = subst (λ (l : List ℕ). 0 < count_of x l) (sym is) (omega (arith, count-same x (y ∷ z ∷ []))) in
        let on : face_of s x ≡ f = face_in_word (map_of s) s.words (links_stand mesh.sound) x f found in
        at_word m mesh triangles (λ i j k. face_of s i ≡ face_of s j → face_of s j ≡ face_of s k → face_of s i ≢ face_of s h → ¬ Covers (p i) (p j) (p k) v)
        (λ i j k not same same_too apart covers.
        not (sym (same ∙ same_too)) same (λ at_f. apart (same ∙ same_too ∙ at_f)) (covers.2, covers.0, covers.1))
        (λ i live_i inner_i same same_too apart covers. apart (in_one h i live inner lies live_i inner_i covers)) f x y z inner_f is
        (on ∙ sym (on_y found)) (on_y found ∙ sym (on_z found)) (λ same. other (sym on ∙ same))
      where
        on_y : 0 < count_of x (word_of s.words f) → face_of s y ≡ f
        on_y found = face_in_word (map_of s) s.words (links_stand mesh.sound) y f (subst (λ (l : List ℕ). 0 < count_of y l) (sym is) (count-later y x (y ∷ z ∷ []) (omega (arith, count-same y (z ∷ [])))))

        on_z : 0 < count_of x (word_of s.words f) → face_of s z ≡ f
        on_z found =
            face_in_word (map_of s) s.words (links_stand mesh.sound) z f
            (subst (λ (l : List ℕ). 0 < count_of z l) (sym is) (count-later z x (y ∷ z ∷ []) (count-later z y (z ∷ []) (omega (arith, count-same z [])))))

    -- an edge of a triangle at hand, with a point between its ends
    pub covers_on : (k : ℕ) → IsLive s k → 0 < face_of s k → LiesOn at s v k → Covers (p k) (p (next_of s k)) (p (prev_of s k)) v
    covers_on k live inner lies =
        let f = face_of s k in
        let b = next_of s k in
        let c = prev_of s k in
        let tri = round m mesh triangles k live inner in
        let turn = left_of_triangle at s mesh.sound plane f k b c inner tri in
        let on : orient2d_of (p k) (p b) v ≡ pos 0 = subst (λ (j : ℕ). orient2d_of (p k) (at j) v ≡ pos 0) (sym (meets m mesh f k b c tri)) lies.on in
        let apart : dot (p k) (p b) v <ℤ pos 0 = subst (λ (j : ℕ). dot (p k) (at j) v <ℤ pos 0) (sym (meets m mesh f k b c tri)) lies.between in
        let both = left_of_both (p k) (p b) (p c) v turn on apart in
        let bc = both.0 in let ca = both.1 in
        (omega (arith, ordered, on), omega (arith, ordered, bc), omega (arith, ordered, ca))

    -- one half of an edge lies in a triangle
    inner_half : (h k : ℕ) → IsLive s h → 0 < face_of s h → IsLive s k → LiesOn at s v k
        → ((i : ℕ) → IsLive s i → 0 < face_of s i → LiesOn at s v i → ⊥) → ⊥
    inner_half h k live_h inner_h live lies none = elim (eq-zero-or-pos (face_of s k)) [
      | inr inner ↦ none k live inner lies
      | inl outer ↦ elim (eq-zero-or-pos (face_of s (rev k))) [
        | inr inner ↦ none (rev k) (rev_live (map_of s) k live) inner (lies_back at s v k lies)
        | inl outer_too ↦ not_bare m mesh triangles at plane convex hull k h live outer outer_too live_h inner_h
      ]
    ]

    -- it lies on no edge
    pub on_none : (h k : ℕ) → IsLive s h → 0 < face_of s h → LiesInFace at s (face_of s h) v → IsLive s k → ¬ LiesOn at s v k
    on_none h k live inner lies live_k on_k =
        inner_half h k live inner live_k on_k
        (λ i live_i inner_i on_i.
        let same = in_one h i live inner lies live_i inner_i (covers_on i live_i inner_i on_i) in
        let a = lies i live_i same in let b = on_i.on in omega (arith, ordered, a, b))

    -- nor does a point beyond the hull
    pub outside_none : (e h k : ℕ) → IsLive s e → face_of s e ≡ 0 → IsLeftOf at s v e → IsLive s h → 0 < face_of s h → IsLive s k → ¬ LiesOn at s v k
    outside_none e h k live_e outer sees live inner live_k on_k =
        inner_half h k live inner live_k on_k
        (λ i live_i inner_i on_i. in_none convex e i live_e outer sees live_i inner_i (covers_on i live_i inner_i on_i))
