-- A triangle closed where the outer face turns in: the hull is closed further.
use Rattle.std.proofs.Common.{◌≡◌, ◌≢◌, ◌⊎◌, inl, inr, ℕ, ◌<◌, refl, sym, ap, ◌∙◌, subst, pos, ◌<ℤ◌, ◌≤ℤ◌, eq-zero-or-pos, arith}
use Rattle.std.proofs.lemmas.Bool.{cases_eq}
use Rattle.dcel_fixed.specs.HalfEdges.{rev}
use Rattle.dcel_predicates.specs.Determinants.{orient2d_of}
use Rattle.dcel_predicates.specs.declared.point.Point.{Point}
use Rattle.dcel_predicates.proofs.Points.{orient2d-first_swapped, orient2d-last_swapped, orient2d-sum, orient2d-turned}
use Rattle.dcel_predicates.proofs.Signs.{ordered}
use Rattle.dcel_maps.specs.Shapes.{IsLive, IsMesh, Mesh, Shape, end_of, face_of, map_of, next_of, origin_of}
use Rattle.dcel_maps.proofs.maps.Soundness.{rev_live}
use Rattle.dcel_maps.proofs.walks.Links.{next-live}
use Rattle.dcel_plane.specs.Plane.{IsLeftOf}
use Rattle.dcel_plane.specs.covering.Covering.{IsConvex, IsHull, Supports}
use Rattle.dcel_plane.proofs.covering.Inside.{on_end}
use Rattle.dcel_plane.specs.hull.Closing.{IsClosing, IsThick, Sees, SeesAfter, SeesBefore}
use Rattle.dcel_plane.proofs.hull.Step.{IsStep}

-- the tip stays a corner that turns out
pub tip_after : (r t u w : Point) → orient2d_of r t u <ℤ pos 0 → pos 0 <ℤ orient2d_of t u w → orient2d_of u w r ≤ℤ pos 0 → orient2d_of r t w <ℤ pos 0
tip_after r t u w first turns right =
    let sum = orient2d-sum t u w r in
    let a = orient2d-turned r u w in
    let b = orient2d-last_swapped r t w in
    omega (arith, ordered, sum, a, b, first, turns, right)

pub tip_before : (r q t u : Point) → orient2d_of q t u <ℤ pos 0 → pos 0 <ℤ orient2d_of r q t → orient2d_of r q u ≤ℤ pos 0 → orient2d_of r t u <ℤ pos 0
tip_before r q t u first turns right =
    let sum = orient2d-sum r q t u in
    let a = orient2d-turned u q t in
    let b = orient2d-turned u r q in
    let c = orient2d-turned u t r in
    let d = orient2d-first_swapped r t u in
    omega (arith, ordered, sum, a, b, c, d, first, turns, right)

-- where the outer face is convex it turns in nowhere
pub turns_nowhere : {V DE UE F : Type 0} (m : Mesh V DE UE F) → IsMesh m → (at : ℕ → Point) → IsConvex at m.shape → (e : ℕ) → IsLive m.shape e → face_of m.shape e ≡ 0
    → ¬ IsLeftOf at m.shape (at (end_of m.shape (next_of m.shape e))) e
turns_nowhere m mesh at convex e live on turns =
    let live_x : IsLive m.shape (next_of m.shape e) = next-live mesh.sound e live in
    let q = (convex.supports e (rev (next_of m.shape e)) live on (rev_live (map_of m.shape) (next_of m.shape e) live_x)).0 in
    omega (arith, ordered, q, turns)

module _ (at : ℕ → Point) (s q : Shape) (e t : ℕ) (step : IsStep s q e) (closing : IsClosing at s t)
    (turns : IsLeftOf at s (at (end_of s (next_of s e))) e) where
  open step use {live_x, on_x, joined, back_x, sound, sound_after, live, on, new, new_outer, new_start, new_end, outer_cases, stays_outer, live_q, old, new_not_old, or_new}

  abbrev x : ℕ
  x = next_of s e

  abbrev a : ℕ
  a = origin_of s e

  abbrev b : ℕ
  b = end_of s e

  abbrev c : ℕ
  c = end_of s (next_of s e)

  -- where the tip stands: first, or last, of the three corners
  pub tip_cases : ((a ≡ t) × (b ≢ t) × (c ≢ t)) ⊎ ((a ≢ t) × (b ≢ t) × (c ≡ t))
  tip_cases = elim (cases_eq b t) [
    | inl middle ↦
        absurd
        (let z : orient2d_of (at a) (at t) (at c) <ℤ pos 0 = closing.tip x e live_x on_x (joined ∙ middle) live on middle in
        let y : pos 0 <ℤ orient2d_of (at a) (at t) (at c) = subst (λ (i : ℕ). pos 0 <ℤ orient2d_of (at a) (at i) (at c)) middle turns in
        omega (arith, ordered, z, y))
    | inr not_b ↦ elim (cases_eq a t) [
      | inl first ↦
          inl (
            first,
            not_b,
            λ is.
                let z = on_end (at a) (at b) in
                let y : pos 0 <ℤ orient2d_of (at a) (at b) (at a) = subst (λ (i : ℕ). pos 0 <ℤ orient2d_of (at a) (at b) (at i)) (is ∙ sym first) turns in
                omega (arith, ordered, z, y),
          )
      | inr not_a ↦ elim (cases_eq c t) [
        | inl last ↦ inr (not_a, not_b, last)
        | inr not_c ↦ absurd (let r = (closing.supports e (rev x) live on not_a not_b back_x not_c).0 in omega (arith, ordered, r, turns))
      ]
    ]
  ]

  starts : (k : ℕ) → IsLive q k → (j : ℕ) × IsLive s j × (origin_of s j ≡ origin_of q k)
  starts k live_k = elim (or_new k live_k) [
    | inl was ↦ (k, was, old k was)
    | inr part ↦ elim part [ inl back ↦ (rev x, back_x, sym back.0) | inr forth ↦ (e, live, sym forth.0) ]
  ]

  pub of_start : (P : ℕ → Type 0) → ((j : ℕ) → IsLive s j → P (origin_of s j)) → (k : ℕ) → IsLive q k → P (origin_of q k)
  of_start P was k live_k = let found = starts k live_k in subst P found.2 (was found.0 found.1)

  -- what holds of old vertices
  pub of_old : (P : ℕ → Type 0) → ((j : ℕ) → IsLive s j → origin_of s j ≢ t → P (origin_of s j)) → (k : ℕ) → IsLive q k → origin_of q k ≢ t → P (origin_of q k)
  of_old P was k live_k old_k = let found = starts k live_k in subst P found.2 (was found.0 found.1 (λ is. old_k (sym found.2 ∙ is)))

  pub start_is : (h : ℕ) → h ≡ new → origin_of q h ≡ a
  start_is h is = ap (origin_of q) is ∙ new_start

  pub end_is : (h : ℕ) → h ≡ new → end_of q h ≡ c
  end_is h is = ap (end_of q) is ∙ new_end

  abbrev B : ℕ → ℕ → ℕ → Type 0
  B i j k = Supports (at i) (at j) (at k)

  beside : (h k : ℕ) → IsLive q h → face_of q h ≡ 0 → origin_of q h ≢ t → end_of q h ≢ t → IsLive q k → origin_of q k ≢ t → B (origin_of q h) (end_of q h) (origin_of q k)
  beside h k live_h on_h not_start not_end live_k old_k = elim (outer_cases h live_h on_h) [
    | inl was ↦
        subst (λ (j : ℕ). B (origin_of q h) j (origin_of q k)) was.end
        (subst (λ (i : ℕ). B i (end_of s h) (origin_of q k)) was.start
        (of_old (λ i. B (origin_of s h) (end_of s h) i) (λ j live_j old_j.
        closing.supports h j was.here was.outer (λ is. not_start (sym was.start ∙ is)) (λ is. not_end (sym was.end ∙ is)) live_j old_j) k live_k old_k))
    | inr new ↦ elim tip_cases [
      | inl first ↦ absurd (not_start (start_is h new ∙ first.0))
      | inr last ↦ absurd (not_end (end_is h new ∙ last.2))
    ]
  ]

  -- what wasn't outer isn't
  not_outer : (h : ℕ) → IsLive s h → (face_of s h ≡ 0 → h ≢ e → h ≢ x → ⊥) → 0 < face_of q h
  not_outer h lives off = elim (eq-zero-or-pos (face_of q h)) [
    | inr inner ↦ inner
    | inl zero_face ↦ absurd
        (elim (outer_cases h (live_q h lives) zero_face) [
          | inl was ↦ off was.outer was.off was.off_x
          | inr is ↦ new_not_old (subst (λ (i : ℕ). IsLive s i) is lives)
        ])
  ]

  moved : (i j : ℕ) → Sees at s t i j → Sees at q t i j
  moved i j sees = record {
    seen = sees.seen;
    supports = of_old (λ l. B i j l) sees.supports;
    side = sees.side;
    live_side = live_q sees.side sees.live_side;
    inner_side = not_outer sees.side sees.live_side (λ outer off off_x. let z = sees.inner_side in omega (arith, z, outer));
    from = sym (old sees.side sees.live_side) ∙ sees.from;
    to = sym (old (rev sees.side) (rev_live (map_of s) sees.side sees.live_side)) ∙ sees.to;
  }

  moved_after : (u : ℕ) → SeesAfter at s t u → SeesAfter at q t u
  moved_after u after = record { a = after.a; sees = moved after.a u after.sees }

  moved_before : (u : ℕ) → SeesBefore at s t u → SeesBefore at q t u
  moved_before u before = record { b = before.b; sees = moved u before.b before.sees }

  new_after : a ≡ t → b ≢ t → c ≢ t → SeesAfter at q t c
  new_after first not_b not_c =
      let not_x : origin_of s x ≢ t = λ is. not_b (sym joined ∙ is) in
      record {
        a = b;
        sees = record {
          seen =
              subst (λ (i : ℕ). pos 0 <ℤ orient2d_of (at b) (at c) (at i)) first (let o = orient2d-turned (at a) (at b) (at c) in omega (arith, ordered, o, turns));
          supports =
              of_old (λ i. B b c i)
              (λ j live_j old_j. subst (λ (i : ℕ). B i c (origin_of s j)) joined (closing.supports x j live_x on_x not_x not_c live_j old_j));
          side = x;
          live_side = live_q x live_x;
          inner_side = not_outer x live_x (λ outer off off_x. off_x refl);
          from = sym (old x live_x) ∙ joined;
          to = sym (old (rev x) back_x);
        };
      }

  new_before : a ≢ t → b ≢ t → c ≡ t → SeesBefore at q t a
  new_before not_a not_b last = record {
    b = b;
    sees = record {
      seen = subst (λ (i : ℕ). pos 0 <ℤ orient2d_of (at a) (at b) (at i)) last turns;
      supports = of_old (λ i. B a b i) (λ j live_j old_j. closing.supports e j live on not_a not_b live_j old_j);
      side = e;
      live_side = live_q e live;
      inner_side = not_outer e live (λ outer off off_x. off refl);
      from = sym (old e live);
      to = sym (old (rev e) (rev_live (map_of s) e live));
    };
  }

  stands : (h : ℕ) × IsLive q h × (face_of q h ≡ 0) × (origin_of q h ≡ t)
  stands = elim tip_cases [
    | inl first ↦ (new, new_outer.0, new_outer.1, new_start ∙ first.0)
    | inr last ↦ (let (h, live_h, on_h, is) = closing.stands in
        (h, live_q h live_h, stays_outer h live_h on_h (λ same. last.0 (ap (origin_of s) (sym same) ∙ is)) (λ same. last.1 (sym joined ∙ ap (origin_of s) (sym same) ∙ is)), sym (old h live_h) ∙ is))
  ]

  pub step_thick : IsThick at s t → IsThick at q t
  step_thick thick = record {
    i = thick.i;
    j = thick.j;
    k = thick.k;
    live_i = live_q thick.i thick.live_i;
    live_j = live_q thick.j thick.live_j;
    live_k = live_q thick.k thick.live_k;
    old_i = λ is. thick.old_i (old thick.i thick.live_i ∙ is);
    old_j = λ is. thick.old_j (old thick.j thick.live_j ∙ is);
    old_k = λ is. thick.old_k (old thick.k thick.live_k ∙ is);
    turn =
        subst (λ (l : ℕ). pos 0 <ℤ orient2d_of (at (origin_of q thick.i)) (at (origin_of q thick.j)) (at l)) (old thick.k thick.live_k)
        (subst (λ (l : ℕ). pos 0 <ℤ orient2d_of (at (origin_of q thick.i)) (at l) (at (origin_of s thick.k))) (old thick.j thick.live_j)
        (subst (λ (l : ℕ). pos 0 <ℤ orient2d_of (at l) (at (origin_of s thick.j)) (at (origin_of s thick.k))) (old thick.i thick.live_i) thick.turn));
  }

  abbrev T : ℕ → ℕ → Type 0
  T i j = orient2d_of (at i) (at t) (at j) <ℤ pos 0

  tips : (h k : ℕ) → IsLive q h → face_of q h ≡ 0 → origin_of q h ≡ t → IsLive q k → face_of q k ≡ 0 → end_of q k ≡ t → T (origin_of q k) (end_of q h)
  tips h k live_h on_h is_h live_k on_k is_k = elim (outer_cases h live_h on_h) [
    | inl was ↦ elim (outer_cases k live_k on_k) [
      | inl too ↦
          subst (λ (j : ℕ). T (origin_of q k) j) was.end
          (subst (λ (i : ℕ). T i (end_of s h)) too.start (closing.tip h k was.here was.outer (was.start ∙ is_h) too.here too.outer (too.end ∙ is_k)))
      | inr new ↦ elim tip_cases [
        | inl first ↦ absurd (first.2 (sym (end_is k new) ∙ is_k))
        | inr last ↦
            let back = rev_live (map_of s) h was.here in
            let u : end_of s h ≢ t = λ is. sound.two_ends h was.here (was.start ∙ is_h ∙ sym is) in
            let one : orient2d_of (at b) (at t) (at (end_of s h)) <ℤ pos 0 =
            subst (λ (i : ℕ). orient2d_of (at i) (at t) (at (end_of s h)) <ℤ pos 0) joined (closing.tip h x was.here was.outer (was.start ∙ is_h) live_x on_x last.2) in
            let two : pos 0 <ℤ orient2d_of (at a) (at b) (at t) = subst (λ (i : ℕ). pos 0 <ℤ orient2d_of (at a) (at b) (at i)) last.2 turns in
            let three : orient2d_of (at a) (at b) (at (end_of s h)) ≤ℤ pos 0 = (closing.supports e (rev h) live on last.0 last.1 back u).0 in
            subst (λ (j : ℕ). T (origin_of q k) j) was.end
            (subst (λ (i : ℕ). T i (end_of s h)) (sym (start_is k new)) (tip_before (at a) (at b) (at t) (at (end_of s h)) one two three))
      ]
    ]
    | inr new ↦ elim tip_cases [
      | inr last ↦ absurd (last.0 (sym (start_is h new) ∙ is_h))
      | inl first ↦ elim (outer_cases k live_k on_k) [
        | inr new_k ↦ absurd (first.2 (sym (end_is k new_k) ∙ is_k))
        | inl too ↦
            let r : origin_of s k ≢ t = λ is. sound.two_ends k too.here (is ∙ sym (too.end ∙ is_k)) in
            let one : orient2d_of (at (origin_of s k)) (at t) (at b) <ℤ pos 0 = closing.tip e k live on first.0 too.here too.outer (too.end ∙ is_k) in
            let two : pos 0 <ℤ orient2d_of (at t) (at b) (at c) = subst (λ (i : ℕ). pos 0 <ℤ orient2d_of (at i) (at b) (at c)) first.0 turns in
            let three : orient2d_of (at b) (at c) (at (origin_of s k)) ≤ℤ pos 0 =
            subst (λ (i : ℕ). orient2d_of (at i) (at c) (at (origin_of s k)) ≤ℤ pos 0) joined
            (closing.supports x k live_x on_x (λ is. first.1 (sym joined ∙ is)) first.2 too.here r).0 in
            subst (λ (j : ℕ). T (origin_of q k) j) (sym (end_is h new))
            (subst (λ (i : ℕ). T i c) too.start (tip_after (at (origin_of s k)) (at t) (at b) (at c) one two three))
      ]
    ]
  ]

  pub step_closing : IsClosing at q t
  step_closing = record {
    supports = beside;
    after = λ h live_h on_h is.
        elim (outer_cases h live_h on_h) [
          | inl was ↦ subst (λ (u : ℕ). SeesAfter at q t u) was.end (moved_after (end_of s h) (closing.after h was.here was.outer (was.start ∙ is)))
          | inr new ↦ elim tip_cases [
            | inl first ↦ subst (λ (u : ℕ). SeesAfter at q t u) (sym (end_is h new)) (new_after first.0 first.1 first.2)
            | inr last ↦ absurd (last.0 (sym (start_is h new) ∙ is))
          ]
        ];
    before = λ h live_h on_h is.
        elim (outer_cases h live_h on_h) [
          | inl was ↦ subst (λ (u : ℕ). SeesBefore at q t u) was.start (moved_before (origin_of s h) (closing.before h was.here was.outer (was.end ∙ is)))
          | inr new ↦ elim tip_cases [
            | inl first ↦ absurd (first.2 (sym (end_is h new) ∙ is))
            | inr last ↦ subst (λ (u : ℕ). SeesBefore at q t u) (sym (start_is h new)) (new_before last.0 last.1 last.2)
          ]
        ];
    tip = tips;
    stands = stands;
  }

  abbrev Same : ℕ → ℕ → Type 0
  Same i j = (at i).x ≡ (at j).x → (at i).y ≡ (at j).y → i ≡ j

  pub step_hull : IsHull at s → IsHull at q
  step_hull hull = record {
    distinct = λ h k live_h live_k.
        of_start (λ i. Same i (origin_of q k)) (λ i live_i. of_start (λ j. Same (origin_of s i) j) (λ j live_j. hull.distinct i j live_i live_j) k live_k) h live_h;
    once = λ h k live_h live_k on_h on_k same.
        elim (outer_cases h live_h on_h) [
          | inl was ↦ elim (outer_cases k live_k on_k) [
            | inl too ↦ hull.once h k was.here too.here was.outer too.outer (was.start ∙ same ∙ sym too.start)
            | inr new ↦ absurd (was.off (hull.once h e was.here live was.outer on (was.start ∙ same ∙ start_is k new)))
          ]
          | inr new_h ↦ elim (outer_cases k live_k on_k) [
            | inl too ↦ absurd (too.off (hull.once k e too.here live too.outer on (too.start ∙ sym same ∙ start_is h new_h)))
            | inr new ↦ new_h ∙ sym new
          ]
        ];
  }
