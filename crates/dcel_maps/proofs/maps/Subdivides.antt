-- A subdivision keeps a map sound and a sphere.
use Rattle.std.proofs.Common.{◌≡◌, ◌≢◌, ◌⊎◌, inl, inr, ◌/◌, ◌<◌, ℕ, sym, refl, ap, ◌∙◌, subst, arith}
use Rattle.std.proofs.lemmas.Bool.{cases_eq}
use Rattle.dcel_maps.specs.Maps.{Connected, Live, Map, NextOrRev, Reaches, ccw}
use Rattle.dcel_maps.specs.theory.Sound.{Sound, Sphere, has_word}
use Rattle.dcel_maps.specs.Maps.Reaches.{here}
use Rattle.dcel_fixed.specs.HalfEdges.{rev}
use Rattle.dcel_maps.proofs.maps.Counts.{Used, labels_more, labels_same}
use Rattle.dcel_maps.proofs.maps.Cycles.{Cycles, inserted, single, stretched}
use Rattle.dcel_maps.proofs.maps.Edits.{Subdivide, first_part, last_part}
use Rattle.dcel_maps.proofs.maps.Growth.{Grown, connected_by, each_live, grown_edges, sphere_more, still_live, OneMore}
use Rattle.dcel_maps.proofs.maps.Halves.{rev-rev, rev_differs, rev_half}
use Rattle.dcel_maps.proofs.maps.Reaching.{step, then}
use Rattle.dcel_maps.proofs.maps.Soundness.{face_cycles, rev_live, sound_from, vertex_cycles}
use Rattle.dcel_maps.proofs.maps.Updates.{put, put_other, put_same}
use Rattle.dcel_maps.specs.Maps.{starts_edge}

module _ (h k : ℕ) where
  -- both parts of a half edge of another edge are itself
  pub first-other : (x : ℕ) → x ≢ rev h → first_part h k x ≡ x
  first-other = put_other (λ x. x) (rev h) (rev k)

  pub last-other : (x : ℕ) → x ≢ h → last_part h k x ≡ x
  last-other = put_other (λ x. x) h k

  pub first-rev : first_part h k (rev h) ≡ rev k
  first-rev = put_same (λ x. x) (rev h) (rev k)

  pub last-h : last_part h k h ≡ k
  last-h = put_same (λ x. x) h k

  pub first-h : first_part h k h ≡ h
  first-h = first-other h (λ i. rev_differs h (sym i))

  pub last-rev : last_part h k (rev h) ≡ rev h
  last-rev = last-other (rev h) (rev_differs h)

  -- turned round, the last part of a half edge is the first part of its other half
  pub last-turned : (x : ℕ) → rev (last_part h k x) ≡ first_part h k (rev x)
  last-turned x = elim (cases_eq x h) [
    | inl i ↦ ap (λ z. rev (last_part h k z)) i ∙ ap rev last-h ∙ sym first-rev ∙ ap (λ z. first_part h k (rev z)) (sym i)
    | inr d ↦ ap rev (last-other x d) ∙ sym (first-other (rev x) (λ i. d (sym (rev-rev x) ∙ ap rev i ∙ rev-rev h)))
  ]

module _ (S T : Map) (h k v : ℕ) (e : Subdivide S T h k v) where
  -- a subdivision adds the edge of k
  pub subdivide_grown : Grown S T k
  subdivide_grown = record { fresh = e.fresh; grows = e.grows }

  abbrev first : ℕ → ℕ
  first = first_part h k

  abbrev last : ℕ → ℕ
  last = last_part h k

  live_t : Live S (rev h)
  live_t = rev_live S h e.lives

  live_l : Live T (rev k)
  live_l = rev_live T k e.edge_here

  still : (x : ℕ) → Live S x → Live T x
  still = still_live S T k subdivide_grown

  -- the parts of a live half edge are live
  pub first-live : (x : ℕ) → Live S x → Live T (first x)
  first-live x l = elim (cases_eq x (rev h)) [
    | inl i ↦ subst (Live T) (sym (ap first i ∙ first-rev h k)) live_l
    | inr d ↦ subst (Live T) (sym (first-other h k x d)) (still x l)
  ]

  pub last-live : (x : ℕ) → Live S x → Live T (last x)
  last-live x l = elim (cases_eq x h) [
    | inl i ↦ subst (Live T) (sym (ap last i ∙ last-h h k)) e.edge_here
    | inr d ↦ subst (Live T) (sym (last-other h k x d)) (still x l)
  ]

  -- what holds of the last parts, and of h and rev k, which are none, holds of each
  pub by_last : (Q : ℕ → Type 0) → ((x : ℕ) → Live S x → Q (last x)) → Q h → Q (rev k) → (y : ℕ) → Live T y → Q y
  by_last Q each at_h at_l = each_live S T k subdivide_grown Q
      (λ x l. elim (cases_eq x h) [ inl i ↦ subst Q (sym i) at_h | inr d ↦ subst Q (last-other h k x d) (each x l) ])
      (subst Q (last-h h k) (each h e.lives)) at_l

  -- and of the first parts, and of rev h and k
  pub by_first : (Q : ℕ → Type 0) → ((x : ℕ) → Live S x → Q (first x)) → Q (rev h) → Q k → (y : ℕ) → Live T y → Q y
  by_first Q each at_t at_k = each_live S T k subdivide_grown Q
      (λ x l. elim (cases_eq x (rev h)) [ inl i ↦ subst Q (sym i) at_t | inr d ↦ subst Q (first-other h k x d) (each x l) ])
      at_k (subst Q (first-rev h k) (each (rev h) live_t))

  -- each half edge is a part of an old one
  parts : (y : ℕ) → Live T y → (x : ℕ) × Live S x × ((y ≡ first x) ⊎ (y ≡ last x))
  parts = by_last (λ y. (x : ℕ) × Live S x × ((y ≡ first x) ⊎ (y ≡ last x)))
      (λ x l. (x, l, inr refl)) (h, e.lives, inl (sym (first-h h k))) (rev h, live_t, inl (sym (first-rev h k)))

  pub by_part : (Q : ℕ → Type 0) → ((x : ℕ) → Live S x → Q (first x)) → ((x : ℕ) → Live S x → Q (last x)) → (y : ℕ) → Live T y → Q y
  by_part Q at_first at_last y l =
      let (x, was, is) = parts y l in elim is [ inl i ↦ subst Q (sym i) (at_first x was) | inr i ↦ subst Q (sym i) (at_last x was) ]

  -- the two are one, or follow each other
  pub within : (x : ℕ) → Live S x → (first x ≡ last x) ⊎ (T.next (first x) ≡ last x)
  within x l = elim (cases_eq x h) [
    | inl i ↦ inr (ap (λ z. T.next (first z)) i ∙ ap T.next (first-h h k) ∙ e.next_h ∙ sym (ap last i ∙ last-h h k))
    | inr d ↦ elim (cases_eq x (rev h)) [
      | inl i ↦ inr (ap (λ z. T.next (first z)) i ∙ ap T.next (first-rev h k) ∙ e.next_rev ∙ sym (ap last i ∙ last-rev h k))
      | inr n ↦ inl (first-other h k x n ∙ sym (last-other h k x d))
    ]
  ]

  -- the first parts turn round the old vertices
  pub first_turns : (x : ℕ) → Live S x → ccw T (first x) ≡ first (ccw S x)
  unfolding ccw
  first_turns x l = ap rev (e.prev_first x l) ∙ last-turned h k (S.prev x)

  module _ (s : Sound S) where
    -- a subdivision stretches two half edges of the faces
    face_cycles_after : Cycles (Live T) T.next T.face
    face_cycles_after =
        stretched (Live S) (Live T) S.next T.next S.face T.face first last (face_cycles S s) first-live last-live parts within
        e.next_last e.face_first e.face_last

    -- the first parts
    abbrev Firsts : ℕ → Type 0
    Firsts y = (x : ℕ) × Live S x × (y ≡ first x)

    first_cases : (y : ℕ) → Live T y → (Firsts y ⊎ (y ≡ k)) ⊎ (y ≡ rev h)
    first_cases = by_first (λ y. (Firsts y ⊎ (y ≡ k)) ⊎ (y ≡ rev h)) (λ x l. inl (inl (x, l, refl))) (inr refl) (inl (inr refl))

    first_cycles : Cycles Firsts (ccw T) T.origin
    first_cycles =
        stretched (Live S) Firsts (ccw S) (ccw T) S.origin T.origin first first (vertex_cycles S s)
        (λ x l. (x, l, refl)) (λ x l. (x, l, refl)) (λ y p. (p.0, p.1, inl p.2)) (λ x l. inl refl) first_turns e.origin_first e.origin_first

    first_not : (y : ℕ) → Firsts y → T.origin y ≢ v
    first_not y (x, l, is) at = e.isolated x l (sym (e.origin_first x l) ∙ ap T.origin (sym is) ∙ at)

    -- and k and rev h round the new one
    vertex_cycles_after : Cycles (Live T) (ccw T) T.origin
    unfolding ccw
    vertex_cycles_after =
        let f = put (ccw T) k k in
        let f_k : f k ≡ k = put_same (ccw T) k k in
        let apart : (y : ℕ) → Firsts y → y ≢ k = λ y p i. first_not y p (ap T.origin i ∙ e.origin_k) in
        let wide : Cycles (λ y. Firsts y ⊎ (y ≡ k)) f T.origin =
        single Firsts (λ y. Firsts y ⊎ (y ≡ k)) (ccw T) f T.origin T.origin k first_cycles (λ y p. inl p) (λ y p. p) (inr refl)
        f_k (λ y p. put_other (ccw T) k k y (apart y p)) (λ y p i. first_not y p (i ∙ e.origin_k)) (λ y p. refl) in
        inserted (λ y. Firsts y ⊎ (y ≡ k)) (Live T) f (ccw T) T.origin T.origin k (rev h) wide (inr refl)
        (λ y p. elim p [
          | inl q ↦ subst (Live T) (sym q.2) (first-live q.0 q.1)
          | inr i ↦ subst (Live T) (sym i) e.edge_here
        ])
        first_cases (still (rev h) live_t) (ap rev e.prev_k) (ap rev e.prev_rev ∙ rev-rev k ∙ sym f_k)
        (λ y p d. sym (put_other (ccw T) k k y d)) (e.origin_rev ∙ sym e.origin_k) (λ y p. refl)

    origin_h : T.origin h ≡ S.origin h
    origin_h = ap T.origin (sym (first-h h k)) ∙ e.origin_first h e.lives

    origin_l : T.origin (rev k) ≡ S.origin (rev h)
    origin_l = ap T.origin (sym (first-rev h k)) ∙ e.origin_first (rev h) live_t

    -- the two halves of an edge start at two vertices
    ends : (x : ℕ) → Live S x → T.origin x ≢ T.origin (rev x)
    ends x l i = elim (cases_eq x h) [
      | inl j ↦ e.isolated h e.lives (sym origin_h ∙ ap T.origin (sym j) ∙ i ∙ ap (λ z. T.origin (rev z)) j ∙ e.origin_rev)
      | inr d ↦ elim (cases_eq x (rev h)) [
        | inl j ↦ e.isolated h e.lives (sym origin_h ∙ ap T.origin (sym (rev-rev h) ∙ ap rev (sym j)) ∙ sym i ∙ ap T.origin j ∙ e.origin_rev)
        | inr n ↦
            let back : T.origin (rev x) ≡ S.origin (rev x) =
            ap T.origin (sym (first-other h k (rev x) (λ j. d (sym (rev-rev x) ∙ ap rev j ∙ rev-rev h)))) ∙ e.origin_first (rev x) (rev_live S x l) in
            s.two_ends x l (sym (e.origin_first x l) ∙ ap T.origin (first-other h k x n) ∙ i ∙ back)
      ]
    ]

    -- a subdivision keeps a map sound
    pub subdivide_sound : Sound T
    subdivide_sound =
        sound_from T
        (each_live S T k subdivide_grown (λ x. x / 2 < T.edges) (λ x l. omega (arith, s.below_edges x l, e.edges))
        e.edge_below (omega (arith, e.edge_below, rev_half k)))
        (by_first (λ x. T.origin x < T.vertices) (λ x l. omega (arith, s.below_vertices x l, e.vertices, e.origin_first x l))
        (omega (arith, e.vertex_room, e.vertices, e.origin_rev)) (omega (arith, e.vertex_room, e.vertices, e.origin_k)))
        (by_part (λ y. T.face y < T.faces) (λ x l. omega (arith, s.below_faces x l, e.faces, e.face_first x l))
        (λ x l. omega (arith, s.below_faces x l, e.faces, e.face_last x l)))
        (by_last (λ x. T.prev (T.next x) ≡ x)
        (λ x l. ap T.prev (e.next_last x l) ∙ e.prev_first (S.next x) (s.live_next x l) ∙ ap last (s.prev-next x l))
        (ap T.prev e.next_h ∙ e.prev_k) (ap T.prev e.next_rev ∙ e.prev_rev))
        (by_first (λ x. T.next (T.prev x) ≡ x)
        (λ x l. ap T.next (e.prev_first x l) ∙ e.next_last (S.prev x) (s.live_prev x l) ∙ ap first (s.next-prev x l))
        (ap T.next e.prev_rev ∙ e.next_rev) (ap T.next e.prev_k ∙ e.next_h))
        (each_live S T k subdivide_grown (λ x. T.origin x ≢ T.origin (rev x)) ends
        (λ i. e.isolated (rev h) live_t (sym origin_l ∙ sym i ∙ e.origin_k))
        (λ i. e.isolated (rev h) live_t (sym origin_l ∙ i ∙ ap T.origin (rev-rev k) ∙ e.origin_k)))
        face_cycles_after vertex_cycles_after

    across : (x : ℕ) → Live S x → Reaches (NextOrRev T) (first x) (last x)
    across x l = elim (within x l) [ inl i ↦ subst (λ z. Reaches (NextOrRev T) (first x) z) i here | inr i ↦ step (inl i) ]

    -- a subdivision keeps a map connected
    subdivide_connected : Connected S → Connected T
    subdivide_connected c =
        connected_by S T first s c
        (λ x y l r. then (across x l) (elim r [
          | inl i ↦ step (inl (e.next_last x l ∙ ap first i))
          | inr i ↦ step (inr (last-turned h k x ∙ ap first i))
        ]))
        (by_part (λ y. (u : ℕ) × Live S u × Reaches (NextOrRev T) y (first u))
        (λ x l. (x, l, here)) (λ x l. (S.next x, s.live_next x l, step (inl (e.next_last x l)))))
        (by_part (λ y. (u : ℕ) × Live S u × Reaches (NextOrRev T) (first u) y)
        (λ x l. (x, l, here)) (λ x l. (x, l, across x l)))

    -- a subdivision adds a vertex that starts an edge, and an edge
    pub subdivide_euler : Sound T → OneMore S T
    unfolding starts_edge has_word
    subdivide_euler t =
        let starts =
        labels_more S T s t S.origin T.origin S.vertices T.vertices (omega (arith, e.vertices)) s.below_vertices
        (λ x l. record { half = first x; live = first-live x l; is = e.origin_first x l })
        v (omega (arith, e.vertices, e.vertex_room)) e.isolated (record { half = k; live = e.edge_here; is = e.origin_k })
        (by_first (λ x. T.origin x ≢ v → Used S S.origin (T.origin x)) (λ x l d. record { half = x; live = l; is = sym (e.origin_first x l) })
        (λ d. absurd (d e.origin_rev)) (λ d. absurd (d e.origin_k))) in
        let words =
        labels_same S T s t S.face T.face S.faces T.faces (omega (arith, e.faces)) s.below_faces
        (λ x l. record { half = first x; live = first-live x l; is = e.face_first x l })
        (by_part (λ y. Used S S.face (T.face y)) (λ x l. record { half = x; live = l; is = sym (e.face_first x l) })
        (λ x l. record { half = x; live = l; is = sym (e.face_last x l) })) in
        record { edges = grown_edges S T k subdivide_grown s; corners = omega (arith, starts, words) }

    -- a subdivision keeps a map sound and a sphere
    pub subdivide_keeps : Sphere S → Sound T × Sphere T
    subdivide_keeps m =
        (subdivide_sound, sphere_more S T (subdivide_euler subdivide_sound) (h / 2) e.lives m (subdivide_connected m.connected))
