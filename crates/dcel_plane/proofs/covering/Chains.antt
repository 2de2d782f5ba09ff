-- An outer face that begins to lead to the right once: what leads to the right is one chain of half edges.
use Rattle.std.proofs.Common.{◌≡◌, inl, inr, ℕ, zero, suc, ◌+◌, ◌-◌, ◌*◌, ◌≤◌, ◌<◌, refl, sym, ap, ◌∙◌, subst, ℤ, pos, ◌-ℤ◌, ◌*ℤ◌, ◌<ℤ◌, ◌≤ℤ◌, arith}
use Rattle.std.proofs.lemmas.Bool.{cases_eq, cases_lt}
use Rattle.std.proofs.lemmas.Int.{by_lt_z}
use Rattle.dcel_fixed.specs.HalfEdges.{rev}
use Rattle.dcel_predicates.specs.declared.point.Point.{Point}
use Rattle.dcel_predicates.specs.Determinants.{orient2d_of}
use Rattle.dcel_predicates.proofs.Signs.{ordered, times_negative}
use Rattle.dcel_maps.specs.Shapes.{IsLive, IsMesh, Mesh, Shape, face_of, map_of, next_of, origin_of, prev_of}
use Rattle.dcel_maps.specs.theory.Sound.{Sound}
use Rattle.dcel_maps.proofs.maps.Soundness.{face_prev}
use Rattle.dcel_maps.proofs.shapes.Maps.{map-sound}
use Rattle.dcel_maps.proofs.walks.Links.{half-below}
use Rattle.dcel_plane.specs.covering.Places.{Place, orient_at}
use Rattle.dcel_plane.specs.covering.Round.{Begins, IsRightOf, LeadsRight}
use Rattle.dcel_plane.proofs.covering.Climbing.{climb}
use Rattle.dcel_plane.proofs.covering.Columns.{IsHit, apart_columns}
use Rattle.dcel_plane.proofs.covering.Leading.{back_step, forth_step, right_along, right_itself, right_least, right_or_not}
use Rattle.dcel_predicates.proofs.Integers.{mul_sub}

-- n half edges after h
abbrev pub walked : Shape → ℕ → ℕ → ℕ
walked s h zero = h
walked s h (suc n) = next_of s (walked s h n)

wide : (a b : Point) (p : Place) → IsHit a b p → a.x <ℤ b.x
wide a b p hits =
    let s = hits.starts in
    let e = hits.ends in
    let far = apart_columns p.w a.x b.x p.above (omega (arith, ordered, s, e)) in
    omega (arith, ordered, far)

module _ {V DE UE F : Type 0} (m : Mesh V DE UE F) (mesh : IsMesh m) (at : ℕ → Point)
    (turns : (h : ℕ) → IsLive m.shape h → face_of m.shape h ≡ 0 → orient2d_of (at (origin_of m.shape h)) (at (origin_of m.shape (rev h))) (at (origin_of m.shape (rev (next_of m.shape h)))) ≤ℤ pos 0)
    (right : (h k : ℕ) → Begins (LeadsRight at m.shape) m.shape h → Begins (LeadsRight at m.shape) m.shape k → h ≡ k) where
  abbrev s : Shape
  s = m.shape

  abbrev p : ℕ → Point
  p h = at (origin_of s h)

  pub record OnChain (h : ℕ) : Type 0 where
    pub live : IsLive s h
    pub outer : face_of s h ≡ 0
    pub there : LeadsRight at s h

  -- h by the half edges from the first on
  pub record Chain (h : ℕ) : Type 0 where
    pub start : ℕ
    pub begins : Begins (LeadsRight at s) s start
    pub steps : ℕ
    pub is : walked s start steps ≡ h
    pub all : (n : ℕ) → n ≤ steps → OnChain (walked s start n)

  sound : Sound (map_of s)
  sound = map-sound mesh.sound

  meets : (h : ℕ) → IsLive s h → p (next_of s h) ≡ p (rev h)
  meets h live = ap at (mesh.sound.joined h live)

  one_more : (h : ℕ) → OnChain h → Chain (prev_of s h) → next_of s (prev_of s h) ≡ h → Chain h
  one_more h on chain back = record {
    start = chain.start;
    begins = chain.begins;
    steps = suc chain.steps;
    is = ap (next_of s) chain.is ∙ back;
    all = λ n few. elim (cases_eq n (suc chain.steps)) [
      | inl last ↦ subst OnChain (sym (ap (next_of s) chain.is ∙ back) ∙ ap (walked s chain.start) (sym last)) on
      | inr less ↦ chain.all n (omega (arith, few, less))
    ];
  }

  -- each half edge that leads to the right is on it
  pub has_chain : (h : ℕ) → OnChain h → (Chain h → ⊥) → ⊥
  has_chain h on none =
      climb (2 * s.edges) (λ x y. IsRightOf (p y) (p x)) (λ x. OnChain x × (Chain x → ⊥)) (λ x is. half-below s x is.0.live) record {
        itself = λ x is. right_itself (p x);
        along = λ x y z a b c xy yz. right_along (p z) (p y) (p x) yz xy;
        better = λ x is.
            let l = prev_of s x in
            let live_l = sound.live_prev x is.0.live in
            let back = sound.next-prev x is.0.live in
            elim (right_or_not (p l) (p (rev l))) [
              | inr not ↦ absurd (is.1 record { start = x; begins = record { live = is.0.live; outer = is.0.outer; there = is.0.there; before = not }; steps = 0; is = refl; all = λ n few. let none : 0 ≡ n = omega (arith, few) in subst (λ (k : ℕ). OnChain (walked s x k)) none is.0 })
              | inl leads ↦
                  let on_l : OnChain l = record { live = live_l; outer = face_prev (map_of s) sound x is.0.live ∙ is.0.outer; there = leads } in
                  (l, (on_l, λ chain. is.1 (one_more x is.0 chain back)), subst (λ (q : Point). IsRightOf (p l) q) (sym (meets l live_l) ∙ ap p back) leads)
            ];
      } h (on, none)

  -- along a chain the half edges lead further to the right
  module _ (start : ℕ) where
    abbrev at_step : ℕ → ℕ
    at_step n = walked s start n

    further : (last : ℕ) → ((n : ℕ) → n ≤ last → OnChain (at_step n)) → (i n : ℕ) → suc i + n ≤ last → (p (rev (at_step i))).x ≤ℤ (p (at_step (suc i + n))).x
    further last all i zero below =
        let is : suc i + 0 ≡ suc i = omega arith in
        subst (λ (k : ℕ). (p (rev (at_step i))).x ≤ℤ (p (at_step k)).x) (sym is)
        (subst (λ (q : Point). (p (rev (at_step i))).x ≤ℤ q.x) (sym (meets (at_step i) (all i (omega (arith, below))).live)) (omega (arith, ordered)))
    further last all i (suc n) below =
        let rec = further last all i n (omega (arith, below)) in
        let k = suc i + n in
        let on = all k (omega (arith, below)) in
        let next = right_least (p (at_step k)) (p (rev (at_step k))) on.there in
        let is : suc i + suc n ≡ suc k = omega arith in
        subst (λ (j : ℕ). (p (rev (at_step i))).x ≤ℤ (p (at_step j)).x) (sym is)
        (subst (λ (q : Point). (p (rev (at_step i))).x ≤ℤ q.x) (sym (meets (at_step k) on.live)) (omega (arith, ordered, rec, next)))

  -- one that comes later starts further to the right
  later_right : (start last : ℕ) → ((n : ℕ) → n ≤ last → OnChain (walked s start n)) → (i n : ℕ) → suc i + n ≤ last → IsRightOf (p (walked s start i)) (p (walked s start (suc i + n)))
  later_right start last all i zero below =
      let is : suc i + 0 ≡ suc i = omega arith in
      let on = all i (omega (arith, below)) in
      subst (λ (k : ℕ). IsRightOf (p (walked s start i)) (p (walked s start k))) (sym is)
      (subst (λ (q : Point). IsRightOf (p (walked s start i)) q) (sym (meets (walked s start i) on.live)) on.there)
  later_right start last all i (suc n) below =
      let k = suc i + n in
      let on = all k (omega (arith, below)) in
      let is : suc i + suc n ≡ suc k = omega arith in
      subst (λ (j : ℕ). IsRightOf (p (walked s start i)) (p (walked s start j))) (sym is)
      (right_along (p (walked s start i)) (p (walked s start k)) (p (next_of s (walked s start k))) (later_right start last all i n (omega (arith, below)))
      (subst (λ (q : Point). IsRightOf (p (walked s start k)) q) (sym (meets (walked s start k) on.live)) on.there))

  not_both : (start last : ℕ) → ((n : ℕ) → n ≤ last → OnChain (walked s start n)) → (i : ℕ) → i < last → origin_of s (walked s start i) ≡ origin_of s (walked s start last) → ⊥
  not_both start last all i less same =
      let n = last - suc i in
      let is : suc i + n ≡ last = omega (arith, less) in
      right_itself (p (walked s start last))
      (subst (λ (q : Point). IsRightOf q (p (walked s start last))) (ap at same) (subst (λ (k : ℕ). IsRightOf (p (walked s start i)) (p (walked s start k))) is (later_right start last all i n (omega (arith, is)))))

  -- so a chain passes no vertex twice
  pub once_on : (h k : ℕ) → OnChain h → OnChain k → origin_of s h ≡ origin_of s k → h ≡ k
  once_on h k on_h on_k same = elim (cases_eq h k) [
    | inl equal ↦ equal
    | inr differ ↦
        absurd (has_chain h on_h (λ a. has_chain k on_k (λ b.
        let one = right a.start b.start a.begins b.begins in
        let is_b : walked s a.start b.steps ≡ k = ap (λ x. walked s x b.steps) one ∙ b.is in
        let all_b = subst (λ (x : ℕ). (n : ℕ) → n ≤ b.steps → OnChain (walked s x n)) (sym one) b.all in
        let meet : origin_of s (walked s a.start a.steps) ≡ origin_of s (walked s a.start b.steps) = ap (origin_of s) a.is ∙ same ∙ ap (origin_of s) (sym is_b) in
        elim (cases_lt a.steps b.steps) [
          | inl less ↦ not_both a.start b.steps all_b a.steps less meet
          | inr not ↦ elim (cases_eq a.steps b.steps) [
            | inl equal ↦ differ (sym a.is ∙ ap (walked s a.start) equal ∙ is_b)
            | inr other ↦ not_both a.start a.steps a.all b.steps (omega (arith, not, other)) (sym meet)
          ]
        ])))
  ]

  module _ (pl : Place) where
    -- one that passes above the place starts after all that come before it
    passes_after : (w a b x : ℤ) → pos 0 <ℤ w → x <ℤ (w *ℤ a) → a ≤ℤ b → (w *ℤ b) ≤ℤ x → ⊥
    passes_after w a b x more less le before =
        let t = times_negative w (a -ℤ b) (omega (arith, ordered, more)) (omega (arith, ordered, le)) in
        let e = mul_sub w a b in
        omega (arith, ordered, t, e, less, before)

    not_later : (start last : ℕ) → ((n : ℕ) → n ≤ last → OnChain (walked s start n)) → (i : ℕ) → i < last
        → IsHit (p (walked s start i)) (p (rev (walked s start i))) pl → IsHit (p (walked s start last)) (p (rev (walked s start last))) pl → ⊥
    not_later start last all i less first second =
        let n = last - suc i in
        let is : suc i + n ≡ last = omega (arith, less) in
        let far = further start last all i n (omega (arith, is)) in
        passes_after pl.w (p (rev (walked s start i))).x (p (walked s start last)).x pl.x pl.above first.ends (subst (λ (k : ℕ). (p (rev (walked s start i))).x ≤ℤ (p (walked s start k)).x) is far) second.starts

    on_chain : (h : ℕ) → IsLive s h → face_of s h ≡ 0 → IsHit (p h) (p (rev h)) pl → OnChain h
    on_chain h live outer hits = record { live = live; outer = outer; there = inl (wide (p h) (p (rev h)) pl hits) }

    -- so one alone passes above a place
    pub one_passes : (h k : ℕ) → IsLive s h → IsLive s k → face_of s h ≡ 0 → face_of s k ≡ 0 → IsHit (p h) (p (rev h)) pl → IsHit (p k) (p (rev k)) pl → h ≡ k
    one_passes h k live_h live_k outer_h outer_k hit_h hit_k = elim (cases_eq h k) [
      | inl same ↦ same
      | inr differ ↦
          absurd (has_chain h (on_chain h live_h outer_h hit_h) (λ a. has_chain k (on_chain k live_k outer_k hit_k) (λ b.
          let one = right a.start b.start a.begins b.begins in
          let is_b : walked s a.start b.steps ≡ k = ap (λ x. walked s x b.steps) one ∙ b.is in
          let all_b = subst (λ (x : ℕ). (n : ℕ) → n ≤ b.steps → OnChain (walked s x n)) (sym one) b.all in
          let at_h = subst (λ (x : ℕ). IsHit (p x) (p (rev x)) pl) (sym a.is) hit_h in
          let at_k = subst (λ (x : ℕ). IsHit (p x) (p (rev x)) pl) (sym is_b) hit_k in
          elim (cases_lt a.steps b.steps) [
            | inl less ↦ not_later a.start b.steps all_b a.steps less at_h at_k
            | inr not ↦ elim (cases_eq a.steps b.steps) [
              | inl same ↦ differ (sym a.is ∙ ap (walked s a.start) same ∙ is_b)
              | inr other ↦ not_later a.start a.steps a.all b.steps (omega (arith, not, other)) at_k at_h
            ]
          ])))
    ]

    -- neither left of a half edge, nor in a column before it, or after it
    record IsBehind (h : ℕ) : Type 0 where
      below : orient_at (p h) (p (rev h)) pl ≤ℤ pos 0
      after : (pl.w *ℤ (p h).x) ≤ℤ pl.x

    record IsAhead (h : ℕ) : Type 0 where
      wide_here : (p h).x <ℤ (p (rev h)).x
      below : orient_at (p h) (p (rev h)) pl ≤ℤ pos 0
      before : pl.x ≤ℤ (pl.w *ℤ (p (rev h)).x)

    turn_at : (h : ℕ) → OnChain h → orient2d_of (p h) (p (next_of s h)) (p (rev (next_of s h))) ≤ℤ pos 0
    turn_at h on = subst (λ (q : Point). orient2d_of (p h) q (p (rev (next_of s h))) ≤ℤ pos 0) (sym (meets h on.live)) (turns h on.live on.outer)

    back : (h : ℕ) → OnChain h → OnChain (next_of s h) → IsBehind (next_of s h) → IsBehind h
    back h on next is =
        let n = next_of s h in
        let step =
        back_step (p h) (p n) (p (rev n)) pl (turn_at h on) (subst (λ (q : Point). IsRightOf (p h) q) (sym (meets h on.live)) on.there) next.there is.below is.after in
        record { below = subst (λ (q : Point). orient_at (p h) q pl ≤ℤ pos 0) (meets h on.live) step.0; after = step.1 }

    forth : (h : ℕ) → OnChain h → OnChain (next_of s h) → IsAhead h → IsAhead (next_of s h)
    forth h on next is =
        let n = next_of s h in
        let to = sym (meets h on.live) in
        let step =
        forth_step (p h) (p n) (p (rev n)) pl (turn_at h on) (subst (λ (q : Point). (p h).x <ℤ q.x) to is.wide_here) next.there
        (subst (λ (q : Point). orient_at (p h) q pl ≤ℤ pos 0) to is.below) (subst (λ (q : Point). pl.x ≤ℤ (pl.w *ℤ q.x)) to is.before) in
        record { wide_here = step.0; below = step.1; before = step.2 }

    module _ (start last : ℕ) (all : (n : ℕ) → n ≤ last → OnChain (walked s start n)) where
      all_before : (n i : ℕ) → i + n ≤ last → IsBehind (walked s start (i + n)) → IsBehind (walked s start i)
      all_before zero i few is = subst (λ (k : ℕ). IsBehind (walked s start k)) (let e : i + 0 ≡ i = omega arith in e) is
      all_before (suc n) i few is =
          let e : i + suc n ≡ suc i + n = omega arith in
          back (walked s start i) (all i (omega (arith, few))) (all (suc i) (omega (arith, few)))
          (all_before n (suc i) (omega (arith, few)) (subst (λ (k : ℕ). IsBehind (walked s start k)) e is))

      all_after : (n i : ℕ) → i + n ≤ last → IsAhead (walked s start i) → IsAhead (walked s start (i + n))
      all_after zero i few is = let e : i ≡ i + 0 = omega arith in subst (λ (k : ℕ). IsAhead (walked s start k)) e is
      all_after (suc n) i few is =
          let e : suc i + n ≡ i + suc n = omega arith in
          subst (λ (k : ℕ). IsAhead (walked s start k)) e
          (all_after n (suc i) (omega (arith, few)) (forth (walked s start i) (all i (omega (arith, few))) (all (suc i) (omega (arith, few))) is))

    -- a place that one half edge passes above is left of none that leads to the right
    pub below_chain : (u h : ℕ) → IsLive s u → face_of s u ≡ 0 → IsHit (p u) (p (rev u)) pl → OnChain h → orient_at (p h) (p (rev h)) pl ≤ℤ pos 0
    below_chain u h live_u outer_u hits on =
        by_lt_z (pos 0) (orient_at (p h) (p (rev h)) pl)
        (λ left. absurd (has_chain u (on_chain u live_u outer_u hits) (λ a. has_chain h on (λ b.
        let one = right a.start b.start a.begins b.begins in
        let is_b : walked s a.start b.steps ≡ h = ap (λ x. walked s x b.steps) one ∙ b.is in
        let all_b = subst (λ (x : ℕ). (n : ℕ) → n ≤ b.steps → OnChain (walked s x n)) (sym one) b.all in
        let starts = hits.starts in
        let ends = hits.ends in
        let under = hits.below in
        let behind : IsBehind (walked s a.start a.steps) = subst IsBehind (sym a.is) record { below = omega (arith, ordered, under); after = starts } in
        let ahead : IsAhead (walked s a.start a.steps) = subst IsAhead (sym a.is) record { wide_here = wide (p u) (p (rev u)) pl hits; below = omega (arith, ordered, under); before = omega (arith, ordered, ends) } in
        elim (cases_lt b.steps a.steps) [
          | inl less ↦
              let n = a.steps - b.steps in
              let e : a.steps ≡ b.steps + n = omega (arith, less) in
              let is = subst IsBehind is_b (all_before a.start a.steps a.all n b.steps (omega (arith, less)) (subst (λ (k : ℕ). IsBehind (walked s a.start k)) e behind)) in
              let not = is.below in
              omega (arith, ordered, left, not)
          | inr not_less ↦
              let n = b.steps - a.steps in
              let e : a.steps + n ≡ b.steps = omega (arith, not_less) in
              let is = subst IsAhead (ap (walked s a.start) e ∙ is_b) (all_after a.start b.steps all_b n a.steps (omega (arith, not_less)) ahead) in
              let not = is.below in
              omega (arith, ordered, left, not)
        ]))))
        (λ not. not)
