-- Points on the line of a straight path: where they lie, and a walk to them.
use Rattle.std.proofs.Common.{◌≡◌, ◌≢◌, ◌⊎◌, inl, inr, ℕ, zero, suc, ◌+◌, ◌<◌, ◌≤◌, List, [], ◌∷◌, length, refl, sym, ap, ◌∙◌, subst, ℤ, pos, ◌+ℤ◌, ◌-ℤ◌, ◌*ℤ◌, ◌<ℤ◌, ◌≤ℤ◌, arith}
use Rattle.std.proofs.lemmas.Bool.{cases_eq}
use Rattle.std.proofs.lemmas.Int.{by_lt_z}
use Rattle.dcel_fixed.specs.HalfEdges.{rev}
use Rattle.dcel_fixed.proofs.Halves.{rev-rev}
use Rattle.dcel_predicates.specs.Determinants.{orient2d_of}
use Rattle.dcel_predicates.specs.declared.point.Point.{Point}
use Rattle.dcel_predicates.proofs.Points.{orient2d-first_swapped}
use Rattle.dcel_predicates.proofs.Signs.{ordered, square}
use Rattle.dcel_maps.specs.Conditions.{IsLineEnd}
use Rattle.dcel_maps.specs.Maps.{By, ccw}
use Rattle.dcel_maps.specs.Shapes.{IsLive, IsMesh, Mesh, Shape, end_of, map_of, next_of, origin_of, prev_of}
use Rattle.dcel_maps.specs.Walking.{live_half_edges}
use Rattle.dcel_maps.specs.Words.{count_of}
use Rattle.dcel_maps.proofs.maps.Reaching.{reaches_stays}
use Rattle.dcel_maps.proofs.maps.Soundness.{rev_live}
use Rattle.dcel_maps.proofs.shapes.Maps.{map-sound}
use Rattle.dcel_maps.proofs.walks.Returning.{length-live}
use Rattle.dcel_maps.proofs.words.Counts.{count-equal, count-none, count-other, first_or_later}
use Rattle.dcel_plane.specs.covering.Covering.{dot}
use Rattle.dcel_plane.proofs.covering.Along.{dot_start, dot_swapped, edges_long, one_place}
use Rattle.dcel_plane.proofs.covering.Inside.{on_end, on_start}
use Rattle.dcel_plane.specs.hull.Straight.{IsStraight, dot_of_steps}
use Rattle.dcel_plane.proofs.hull.OneLine.{apart_up, near_down, on_line, past_down}
use Rattle.dcel_plane.proofs.hull.Thin.{back_dot, past_end}
use Rattle.dcel_plane.specs.location.Locating.{HasPlace, LiesBeyond, LiesOn, Passes, StandsAt, orient2d_along}

pub before_start : (b a q : Point) → dot_of_steps a b q +ℤ dot q a b ≡ pos 0
before_start b a q = let e = back_dot a b q in let c = dot_swapped a q b in omega (arith, ordered, e, c)

stands_place : (a b d q : Point) → d.x ≡ q.x → d.y ≡ q.y → dot_of_steps a b d ≡ dot_of_steps a b q
stands_place a b d q ex ey = rw (ex, ey) refl

apart_place : (a b d q : Point) → d.x ≡ q.x → d.y ≡ q.y → dot a b d ≡ dot a b q
apart_place a b d q ex ey = rw (ex, ey) refl

-- none comes back
never_beyond : (a b : Point) → dot_of_steps a b a ≤ℤ pos 0
never_beyond a b =
    let e = back_dot a b a in
    let x = square (a.x -ℤ b.x) in
    let y = square (a.y -ℤ b.y) in
    sums (dot_of_steps a b a) ((a.x -ℤ b.x) *ℤ (a.x -ℤ b.x)) ((a.y -ℤ b.y) *ℤ (a.y -ℤ b.y)) e x y
  where
    sums : (t x y : ℤ) → t +ℤ (x +ℤ y) ≡ pos 0 → pos 0 ≤ℤ x → pos 0 ≤ℤ y → t ≤ℤ pos 0
    sums t x y is hx hy = omega (arith, ordered, is, hx, hy)

module _ {V DE UE F : Type 0} (m : Mesh V DE UE F) (mesh : IsMesh m) (at : ℕ → Point) (straight : IsStraight at m.shape) where
  abbrev s : Shape
  s = m.shape

  abbrev p : ℕ → Point
  p h = at (origin_of s h)

  abbrev e : ℕ → Point
  e h = at (end_of s h)

  pub back : (h : ℕ) → IsLive s h → IsLive s (rev h)
  back h live = rev_live (map_of s) h live

  pub far : (h : ℕ) → IsLive s h → pos 0 <ℤ dot (e h) (e h) (p h)
  far = edges_long at s mesh.sound straight.distinct

  pub on_too : (h k : ℕ) → IsLive s h → IsLive s k → orient2d_of (p h) (e h) (e k) ≡ pos 0
  on_too h k live live_k = straight.line h (rev k) live (back k live_k)

  -- where a point on the line lies, as seen from one edge
  pub places : (h : ℕ) → IsLive s h → (v : Point) → orient2d_along at s h v ≡ pos 0
      → LiesOn at s v h ⊎ (StandsAt at v (origin_of s h) ⊎ (StandsAt at v (end_of s h) ⊎ (LiesBeyond at s v h ⊎ LiesBeyond at s v (rev h))))
  places h live v on =
      let b = p h in
      let a = e h in
      let l = far h live in
      let z = dot_start a b in
      by_lt_z (dot v a b) (pos 0)
      (λ less. inr (inr (inr (inr (record {
        on =
            subst (λ (i : ℕ). orient2d_of a (at (origin_of s i)) v ≡ pos 0) (sym (rev-rev h)) (let o = orient2d-first_swapped b a v in omega (arith, ordered, o, on));
        past = subst (λ (i : ℕ). pos 0 <ℤ dot_of_steps a (at (origin_of s i)) v) (sym (rev-rev h)) (let t = before_start b a v in omega (arith, ordered, t, less));
      })))))
      (λ not. by_lt_z (pos 0) (dot v a b)
      (λ more. by_lt_z (dot v a b) (dot a a b)
      (λ short. inl (record { on = on; between = apart_up b a b a v l (on_end b a) (on_start b a) on (omega (arith, ordered, z, more)) short }))
      (λ long. by_lt_z (dot a a b) (dot v a b)
      (λ longer. inr (inr (inr (inl (record { on = on; past = (let t = past_end b a v in omega (arith, ordered, t, longer)) })))))
      (λ nor. inr (inr (inl (one_place b a a v l (on_start b a) on (omega (arith, ordered, long, nor))))))))
      (λ nor. inr (inl (one_place b a b v l (on_end b a) on (omega (arith, ordered, z, not, nor))))))

  -- no vertex stands strictly between the ends of an edge
  pub none_between : (h k : ℕ) → IsLive s h → (v : Point) → LiesOn at s v h → IsLive s k → StandsAt at v (origin_of s k) → ⊥
  none_between h k live v lies live_k stands =
      let b = straight.between h k live live_k in
      let i = apart_place (p h) (e h) (p k) v stands.0 stands.1 in
      let x = lies.between in
      omega (arith, ordered, b, i, x)

  -- and none beyond an end of the line
  pub none_past : (h k : ℕ) → IsLive s h → IsLineEnd s (end_of s h) → IsLive s k → dot_of_steps (p h) (e h) (p k) ≤ℤ pos 0
  none_past h k live is_end live_k =
      by_lt_z (pos 0) (dot_of_steps (p h) (e h) (p k))
      (λ more. absurd
      (let found = straight.onward h k live live_k more in
      let only = is_end.one.1 in
      let same : found.0 ≡ rev h = only.only found.0 found.1 found.2 ∙ sym (only.only (rev h) (back h live) refl) in
      let past : pos 0 <ℤ dot_of_steps (p h) (e h) (p h) =
      subst (λ (i : ℕ). pos 0 <ℤ dot_of_steps (p h) (e h) (at (origin_of s i))) (rev-rev h) (subst (λ (i : ℕ). pos 0 <ℤ dot_of_steps (p h) (e h) (at (end_of s i))) same found.3) in
      let n = never_beyond (p h) (e h) in
      omega (arith, ordered, past, n)))
      (λ not. not)

  pub none_at : (h k : ℕ) → IsLive s h → IsLineEnd s (end_of s h) → (v : Point) → LiesBeyond at s v h → IsLive s k → StandsAt at v (origin_of s k) → ⊥
  none_at h k live is_end v lies live_k stands =
      let n = none_past h k live is_end live_k in
      let i = stands_place (p h) (e h) (p k) v stands.0 stands.1 in
      let x = lies.past in
      omega (arith, ordered, n, i, x)

  -- nor does it lie between the ends of another edge
  pub none_across : (h k : ℕ) → IsLive s h → IsLineEnd s (end_of s h) → (v : Point) → LiesBeyond at s v h → IsLive s k → LiesOn at s v k → ⊥
  none_across h k live is_end v lies live_k on_k =
      let b = p h in
      let a = e h in
      let x = lies.past in
      let t = past_end b a v in
      let first = none_past h k live is_end live_k in
      let t_first = past_end b a (p k) in
      let second = none_past h (rev k) live is_end (back k live_k) in
      let t_second = past_end b a (e k) in
      let near = near_down b a (p k) (e k) v (far h live) (straight.line h k live live_k) (on_too h k live live_k) lies.on
      (omega (arith, ordered, x, t, first, t_first)) (omega (arith, ordered, x, t, second, t_second)) in
      let y = on_k.between in
      omega (arith, ordered, near, y)

  -- a half edge that starts where one ends, and isn't the same edge, leads on
  pub leads_on : (h g : ℕ) → IsLive s h → IsLive s g → origin_of s g ≡ end_of s h → g ≢ rev h → pos 0 <ℤ dot_of_steps (p h) (e h) (e g)
  leads_on h g live live_g starts other =
      let b = p h in
      let a = e h in
      let t = past_end b a (e g) in
      by_lt_z (dot a a b) (dot (e g) a b) (λ more. omega (arith, ordered, t, more))
      (λ not. absurd (by_lt_z (dot (e g) a b) (dot a a b)
      (λ less.
      let near : pos 0 <ℤ dot (e g) b a =
      near_down b a (e g) b a (far h live) (on_too h g live live_g) (on_end b a) (on_start b a) less (let z = dot_start a b in let l = far h live in omega (arith, ordered, z, l)) in
      other (straight.once g (rev h) live_g (back h live) starts
      (subst (λ (i : ℕ). pos 0 <ℤ dot (e g) (at (origin_of s i)) (p g)) (sym (rev-rev h)) (subst (λ (i : ℕ). pos 0 <ℤ dot (e g) b (at i)) (sym starts) near))))
      (λ nor.
      let one = one_place b a a (e g) (far h live) (on_start b a) (on_too h g live live_g) (omega (arith, ordered, not, nor)) in
      mesh.sound.two_ends g live_g (starts ∙ straight.distinct (rev h) (rev g) (back h live) (back g live_g) one.0 one.1))))

  -- a point beyond the one's end lies on the other's line, and not beyond its start
  pub stays_ahead : (h g : ℕ) → IsLive s h → IsLive s g → origin_of s g ≡ end_of s h → g ≢ rev h → (v : Point) → LiesBeyond at s v h
      → (orient2d_along at s g v ≡ pos 0) × ¬ LiesBeyond at s v (rev g)
  stays_ahead h g live live_g starts other v lies =
      let b = p h in
      let a = e h in
      let more = leads_on h g live live_g starts other in
      let t = past_end b a (e g) in
      let x = lies.past in
      let u = past_end b a v in (
        on_line b a (p g) (e g) v (far h live) (straight.line h g live live_g) (on_too h g live live_g) lies.on,
        λ behind.
            let past : pos 0 <ℤ dot_of_steps (e g) a v =
            subst (λ (i : ℕ). pos 0 <ℤ dot_of_steps (e g) (at i) v) starts (subst (λ (i : ℕ). pos 0 <ℤ dot_of_steps (e g) (at (origin_of s i)) v) (rev-rev g) behind.past) in
            let c = back_dot (e g) a v in
            let gone = past_down b a (e g) v a (far h live) (on_too h g live live_g) lies.on (on_start b a) (omega (arith, ordered, past, c)) (omega (arith, ordered, more, t)) in
            omega (arith, ordered, gone, x, u),
      )

  -- one that can't is at the line's end
  pub end_by_next : (h : ℕ) → IsLive s h → next_of s h ≡ rev h → IsLineEnd s (end_of s h)
  unfolding ccw
  end_by_next h live turns = record {
    live = mesh.sound.starts_live (rev h) (back h live);
    one = (
      rev h,
      record {
        edge = record { live = back h live; start = refl };
        only =
            λ k live_k starts.
            reaches_stays (By (ccw (map_of s))) (λ i. i ≡ rev h)
            (λ i j is to. sym to ∙ ap (λ (x : ℕ). rev (prev_of s x)) is ∙ ap rev (ap (prev_of s) (sym turns) ∙ (map-sound mesh.sound).prev-next h live)) refl
            ((mesh.sound.one_origin (rev h) k (back h live) live_k).0 (sym starts));
      },
    );
  }

  pub goes_on : (h : ℕ) → IsLive s h → ¬ IsLineEnd s (end_of s h)
      → IsLive s (next_of s h) × (origin_of s (next_of s h) ≡ end_of s h) × (next_of s h ≢ rev h)
  goes_on h live not = ((map-sound mesh.sound).live_next h live, mesh.sound.joined h live, λ turns. not (end_by_next h live turns))

  -- the same backwards
  pub goes_back : (h : ℕ) → IsLive s h → ¬ IsLineEnd s (origin_of s h)
      → IsLive s (rev (prev_of s h)) × (origin_of s (rev (prev_of s h)) ≡ end_of s (rev h)) × (rev (prev_of s h) ≢ rev (rev h))
  goes_back h live not =
      let k = prev_of s h in
      let live_k : IsLive s k = (map-sound mesh.sound).live_prev h live in
      let next : next_of s k ≡ h = (map-sound mesh.sound).next-prev h live in
      let starts : end_of s k ≡ origin_of s h = sym (mesh.sound.joined k live_k) ∙ ap (origin_of s) next in (
        back k live_k,
        starts ∙ ap (origin_of s) (sym (rev-rev h)),
        λ is. not (subst (IsLineEnd s) starts (end_by_next k live_k (next ∙ sym (is ∙ rev-rev h)))),
      )

  -- along the line h of the last half edge
  module _ (b a : Point) (long_too : pos 0 <ℤ dot a a b) (on : (k : ℕ) → IsLive m.shape k → orient2d_of b a (at (origin_of m.shape k)) ≡ pos 0) where
    abbrev d : ℕ → ℤ
    d v = dot (at v) a b

    -- who leads on upwards came upwards
    came_up : (k h : ℕ) → IsLive s k → IsLive s h → origin_of s h ≡ end_of s k → h ≢ rev k → d (origin_of s h) <ℤ d (end_of s h) → d (origin_of s k) <ℤ d (end_of s k)
    came_up k h live_k live_h starts other up =
        let more = leads_on k h live_k live_h starts other in
        let c = back_dot (p k) (e k) (e h) in
        let up_too : d (end_of s k) <ℤ d (end_of s h) = subst (λ (i : ℕ). d i <ℤ d (end_of s h)) starts up in
        by_lt_z (d (origin_of s k)) (d (end_of s k)) (λ is. is)
        (λ not. absurd (by_lt_z (d (end_of s k)) (d (origin_of s k))
        (λ down.
        let gone = past_down b a (p k) (e h) (e k) long_too (on k live_k) (on (rev h) (back h live_h)) (on (rev k) (back k live_k)) (omega (arith, ordered, more, c)) down in
        omega (arith, ordered, gone, up_too))
        (λ nor.
        let one = one_place b a (p k) (e k) long_too (on k live_k) (on (rev k) (back k live_k)) (omega (arith, ordered, not, nor)) in
        mesh.sound.two_ends k live_k (straight.distinct k (rev k) live_k (back k live_k) one.0 one.1))))

    -- so each half edge of the walk ends below
    below : (g h : ℕ) (list : List ℕ) → IsLive s h → Passes s g list h → d (origin_of s h) <ℤ d (end_of s h)
        → (k : ℕ) → 0 < count_of k list → IsLive s k × (d (end_of s k) ≤ℤ d (origin_of s h))
    below g h [] live passes up k found = absurd (omega (arith, found))
    below g h (j ∷ rest) live passes up k found =
        let up_j = came_up j h passes.0 live passes.1 passes.2 up in
        elim (first_or_later k j rest found) [
          | inl is ↦ (
            subst (IsLive s) (sym is) passes.0,
            subst (λ (i : ℕ). d (end_of s i) ≤ℤ d (origin_of s h)) (sym is) (let same = ap d passes.1 in omega (arith, ordered, same)),
          )
          | inr later ↦
              let rest_is = below g j rest passes.0 passes.3 up_j k later in
              let x = rest_is.1 in
              let same = ap d passes.1 in
              (rest_is.0, omega (arith, ordered, x, same, up_j))
        ]

    once_up : (g h : ℕ) (list : List ℕ) → IsLive s h → Passes s g list h → d (origin_of s h) <ℤ d (end_of s h) → (k : ℕ) → count_of k (h ∷ list) ≤ 1
    once_up g h list live passes up k = elim (cases_eq k h) [
      | inl is ↦
          let none : count_of k list ≡ 0 =
          count-none k list
          (λ x found same.
          let under = (below g h list live passes up x found).1 in
          let there = ap (λ (i : ℕ). d (end_of s i)) (sym is ∙ same) in
          omega (arith, ordered, under, there, up)) in
          let q = count-equal k h list is in omega (arith, q, none)
      | inr other ↦ let q = count-other k h list other in omega (arith, q, once_below g h list live passes up k)
    ]
      where
        once_below : (g h : ℕ) (list : List ℕ) → IsLive s h → Passes s g list h → d (origin_of s h) <ℤ d (end_of s h) → (k : ℕ) → count_of k list ≤ 1
        once_below g h [] live passes up k = omega arith
        once_below g h (j ∷ rest) live passes up k =
            let up_j = came_up j h passes.0 live passes.1 passes.2 up in
            elim (cases_eq k j) [
              | inl is ↦
                  let none : count_of k rest ≡ 0 =
                  count-none k rest
                  (λ x found same.
                  let under = (below g j rest passes.0 passes.3 up_j x found).1 in
                  let there = ap (λ (i : ℕ). d (end_of s i)) (sym is ∙ same) in
                  omega (arith, ordered, under, there, up_j)) in
                  let q = count-equal k j rest is in omega (arith, q, none)
              | inr other ↦ let q = count-other k j rest other in omega (arith, q, once_below g j rest passes.0 passes.3 up_j k)
            ]

  -- a walk that doesn't turn back passes no half edge twice
  pub once_on : (g h : ℕ) (list : List ℕ) → IsLive s h → Passes s g list h → (k : ℕ) → count_of k (h ∷ list) ≤ 1
  once_on g h list live passes =
      once_up (p h) (e h) (far h live) (λ k live_k. straight.line h k live live_k) g h list live passes (let z = dot_start (e h) (p h) in let l = far h live in omega (arith, ordered, z, l))

  -- nor more than there are
  pub few_passed : (g h : ℕ) (list : List ℕ) → IsLive s h → Passes s g list h → length list + 1 ≤ live_half_edges s
  few_passed g h list live passes =
      omega (
        arith,
        length-live s (h ∷ list) (once_on g h list live passes)
            (λ k found. elim (first_or_later k h list found) [
              | inl is ↦ subst (IsLive s) (sym is) live
              | inr later ↦
                  (below (p h) (e h) (far h live) (λ k live_k. straight.line h k live live_k) g h list live passes
                  (let z = dot_start (e h) (p h) in let l = far h live in omega (arith, ordered, z, l)) k later).0
            ]),
      )

  -- a walk finds where a point lies that is beyond the end of its first half edge
  find : (fuel g h : ℕ) (list : List ℕ) → IsLive s h → Passes s g list h → (v : Point) → LiesBeyond at s v h → live_half_edges s < length list + 1 + fuel → HasPlace at s v
  find zero g h list live passes v lies enough = absurd (let f = few_passed g h list live passes in omega (arith, f, enough))
  find (suc fuel) g h list live passes v lies enough = elim (cases_eq (next_of s h) (rev h)) [
    | inl turns ↦ inr (inr (h, live, end_by_next h live turns, lies))
    | inr other ↦
        let n = next_of s h in
        let live_n : IsLive s n = (map-sound mesh.sound).live_next h live in
        let starts : origin_of s n ≡ end_of s h = mesh.sound.joined h live in
        let ahead = stays_ahead h n live live_n starts other v lies in
        elim (places n live_n v ahead.0) [
          | inl on ↦ inr (inl (n, live_n, on))
          | inr (inl stands) ↦ inl (n, live_n, stands)
          | inr (inr (inl stands)) ↦ inl (rev n, back n live_n, stands)
          | inr (inr (inr (inl on))) ↦ find fuel g n (h ∷ list) live_n (live, starts, other, passes) v on (omega (arith, enough))
          | inr (inr (inr (inr behind))) ↦ absurd (ahead.1 behind)
        ]
  ]

  pub has_place : (h : ℕ) → IsLive s h → (v : Point) → orient2d_along at s h v ≡ pos 0 → HasPlace at s v
  has_place h live v on = elim (places h live v on) [
    | inl lies ↦ inr (inl (h, live, lies))
    | inr (inl stands) ↦ inl (h, live, stands)
    | inr (inr (inl stands)) ↦ inl (rev h, back h live, stands)
    | inr (inr (inr (inl beyond_end))) ↦ find (live_half_edges s) h h [] live refl v beyond_end (omega arith)
    | inr (inr (inr (inr behind))) ↦ find (live_half_edges s) (rev h) (rev h) [] (back h live) refl v behind (omega arith)
  ]
