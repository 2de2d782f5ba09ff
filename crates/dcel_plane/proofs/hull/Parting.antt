-- So it does when a vertex is put into one of its edges.
use Rattle.std.proofs.Common.{◌≡◌, ◌≢◌, ◌⊎◌, inl, inr, ℕ, ℤ, ◌<ℤ◌, ◌≤ℤ◌, refl, sym, ap, ◌∙◌, subst, arith}
use Rattle.std.proofs.lemmas.Bool.{cases_eq}
use Rattle.std.proofs.lemmas.Int.{by_lt_z}
use Rattle.dcel_fixed.specs.HalfEdges.{rev}
use Rattle.dcel_predicates.proofs.Signs.{ordered}
use Rattle.dcel_maps.specs.Shapes.{IsLive, Shape, end_of, origin_of}
use Rattle.dcel_plane.proofs.hull.OneLine.{InOrder}

-- The vertex v is put into e, which leads up from `start` to `end`: e leads to v then, the other half t from v to `start`, `on` from v to
-- `end`, and `back` from `end` to v.
module _ (d : ℕ → ℤ) (s r : Shape) (order : InOrder d s) (turned : (h : ℕ) → IsLive s h → IsLive s (rev h))
    (e t on back start end v : ℕ) (live_e : IsLive s e) (live_t : IsLive s t)
    (starts_e : origin_of s e ≡ start) (ends_e : end_of s e ≡ end) (starts_t : origin_of s t ≡ end) (ends_t : end_of s t ≡ start)
    (live_r : (h : ℕ) → IsLive s h → IsLive r h)
    (ends : (P : ℕ → ℕ → ℕ → Type 0) → ((h : ℕ) → IsLive s h → h ≢ e → h ≢ t → P h (origin_of s h) (end_of s h)) → P e start v → P t v start → P on v end → P back end v
    → (h : ℕ) → IsLive r h → P h (origin_of r h) (end_of r h))
    (starts_old : (h : ℕ) → IsLive s h → h ≢ e → h ≢ t → origin_of r h ≡ origin_of s h) (ends_old : (h : ℕ) → IsLive s h → h ≢ e → h ≢ t → end_of r h ≡ end_of s h)
    (at_e : (origin_of r e ≡ start) × (end_of r e ≡ v)) (at_t : (origin_of r t ≡ v) × (end_of r t ≡ start))
    (live_on : IsLive r on) (at_on : (origin_of r on ≡ v) × (end_of r on ≡ end))
    (live_back : IsLive r back) (at_back : (origin_of r back ≡ end) × (end_of r back ≡ v))
    (above : d start <ℤ d v) (below : d v <ℤ d end) where
  start_of_old : (Q : ℕ → Type 0) → ((j : ℕ) → IsLive s j → Q (origin_of s j)) → Q v → (k : ℕ) → IsLive r k → Q (origin_of r k)
  start_of_old Q was new = ends (λ h x y. Q x) (λ h live not_e not_t. was h live) (subst Q starts_e (was e live_e)) new new (subst Q starts_t (was t live_t))

  up_e : d (origin_of s e) <ℤ d (end_of s e)
  up_e = let a = ap d starts_e in let b = ap d ends_e in omega (arith, ordered, a, b, above, below)

  down_t : d (end_of s t) <ℤ d (origin_of s t)
  down_t = let a = ap d starts_t in let b = ap d ends_t in omega (arith, ordered, a, b, above, below)

  -- old vertices aren't between its ends
  off : (j : ℕ) → IsLive s j → (d (origin_of s j) ≤ℤ d start) ⊎ (d end ≤ℤ d (origin_of s j))
  off j live =
      by_lt_z (d start) (d (origin_of s j))
      (λ more. by_lt_z (d (origin_of s j)) (d end)
      (λ less. absurd
      (order.between e j live_e live (subst (λ (i : ℕ). d i <ℤ d (origin_of s j)) (sym starts_e) more) (subst (λ (i : ℕ). d (origin_of s j) <ℤ d i) (sym ends_e) less)))
      (λ not. inr not))
      (λ not. inl not)

  not_v : (j : ℕ) → IsLive s j → d (origin_of s j) ≡ d v → ⊥
  not_v j live same = elim (off j live) [ inl low ↦ omega (arith, ordered, low, same, above) | inr high ↦ omega (arith, ordered, high, same, below) ]

  is_start : (j : ℕ) → IsLive s j → d (origin_of s j) ≡ d start → origin_of s j ≡ start
  is_start j live same = (let a = ap d starts_e in order.distinct j e live live_e (omega (arith, ordered, a, same))) ∙ starts_e

  is_end : (j : ℕ) → IsLive s j → d (origin_of s j) ≡ d end → origin_of s j ≡ end
  is_end j live same = (let a = ap d starts_t in order.distinct j t live live_t (omega (arith, ordered, a, same))) ∙ starts_t

  -- other half edges don't lead over v
  not_over : (h : ℕ) → IsLive s h → h ≢ e → d (origin_of s h) <ℤ d v → d v <ℤ d (end_of s h) → ⊥
  not_over h live not_e less more = elim (off h live) [
    | inr high ↦ omega (arith, ordered, high, less, below)
    | inl low ↦ elim (off (rev h) (turned h live)) [
      | inl low_too ↦ omega (arith, ordered, low_too, more, above)
      | inr high ↦
          by_lt_z (d (origin_of s h)) (d start)
          (λ under. order.between h e live live_e (subst (λ (i : ℕ). d (origin_of s h) <ℤ d i) (sym starts_e) under)
          (subst (λ (i : ℕ). d i <ℤ d (end_of s h)) (sym starts_e) (omega (arith, ordered, above, more))))
          (λ not. not_e (order.once_up h e live live_e (is_start h live (omega (arith, ordered, low, not)) ∙ sym starts_e) (omega (arith, ordered, less, more)) up_e))
    ]
  ]

  Up : ℕ → Type 0
  Up y = (g : ℕ) × IsLive r g × (origin_of r g ≡ y) × (d y <ℤ d (end_of r g))

  Down : ℕ → Type 0
  Down y = (g : ℕ) × IsLive r g × (origin_of r g ≡ y) × (d (end_of r g) <ℤ d y)

  up_by : (y g z : ℕ) → IsLive r g → origin_of r g ≡ y → end_of r g ≡ z → d y <ℤ d z → Up y
  unfolding Up
  up_by y g z live from to more = (g, live, from, subst (λ (i : ℕ). d y <ℤ d i) (sym to) more)

  down_by : (y g z : ℕ) → IsLive r g → origin_of r g ≡ y → end_of r g ≡ z → d z <ℤ d y → Down y
  unfolding Down
  down_by y g z live from to less = (g, live, from, subst (λ (i : ℕ). d i <ℤ d y) (sym to) less)

  up_was : (y : ℕ) → (g : ℕ) × IsLive s g × (origin_of s g ≡ y) × (d y <ℤ d (end_of s g)) → Up y
  up_was y (g, live, from, more) = elim (cases_eq g e) [
    | inl is ↦
        let is_y : start ≡ y = sym starts_e ∙ ap (origin_of s) (sym is) ∙ from in
        let same = ap d is_y in
        up_by y e v (live_r e live_e) (at_e.0 ∙ is_y) at_e.1 (omega (arith, ordered, same, above))
    | inr not_e ↦ elim (cases_eq g t) [
      | inl is ↦ absurd
          (let is_y = ap d (sym starts_t ∙ ap (origin_of s) (sym is) ∙ from) in
          let is_z = ap d (ap (end_of s) is ∙ ends_t) in
          omega (arith, ordered, is_y, is_z, more, above, below))
      | inr not_t ↦ up_by y g (end_of s g) (live_r g live) (starts_old g live not_e not_t ∙ from) (ends_old g live not_e not_t) more
    ]
  ]

  down_was : (y : ℕ) → (g : ℕ) × IsLive s g × (origin_of s g ≡ y) × (d (end_of s g) <ℤ d y) → Down y
  down_was y (g, live, from, less) = elim (cases_eq g t) [
    | inl is ↦
        let is_y : end ≡ y = sym starts_t ∙ ap (origin_of s) (sym is) ∙ from in
        let same = ap d is_y in
        down_by y back v live_back (at_back.0 ∙ is_y) at_back.1 (omega (arith, ordered, same, below))
    | inr not_t ↦ elim (cases_eq g e) [
      | inl is ↦ absurd
          (let is_y = ap d (sym starts_e ∙ ap (origin_of s) (sym is) ∙ from) in
          let is_z = ap d (ap (end_of s) is ∙ ends_e) in
          omega (arith, ordered, is_y, is_z, less, above, below))
      | inr not_e ↦ down_by y g (end_of s g) (live_r g live) (starts_old g live not_e not_t ∙ from) (ends_old g live not_e not_t) less
    ]
  ]

  -- where v is further on
  up_to_v : (h : ℕ) → IsLive s h → d (origin_of s h) <ℤ d (end_of s h) → d (end_of s h) <ℤ d v → Up (end_of s h)
  up_to_v h live up_h more = elim (off (rev h) (turned h live)) [
    | inr high ↦ absurd (omega (arith, ordered, high, more, below))
    | inl low ↦
        by_lt_z (d (end_of s h)) (d start)
        (λ less. up_was (end_of s h) (order.up h e live live_e up_h (subst (λ (i : ℕ). d (end_of s h) <ℤ d i) (sym starts_e) less)))
        (λ not.
        let is : end_of s h ≡ start = is_start (rev h) (turned h live) (omega (arith, ordered, low, not)) in
        let same = ap d is in
        up_by (end_of s h) e v (live_r e live_e) (at_e.0 ∙ sym is) at_e.1 (omega (arith, ordered, same, above)))
  ]

  down_to_v : (h : ℕ) → IsLive s h → d (end_of s h) <ℤ d (origin_of s h) → d v <ℤ d (end_of s h) → Down (end_of s h)
  down_to_v h live down_h less = elim (off (rev h) (turned h live)) [
    | inl low ↦ absurd (omega (arith, ordered, low, less, above))
    | inr high ↦
        by_lt_z (d end) (d (end_of s h))
        (λ more. down_was (end_of s h) (order.down h t live live_t down_h (subst (λ (i : ℕ). d i <ℤ d (end_of s h)) (sym starts_t) more)))
        (λ not.
        let is : end_of s h ≡ end = is_end (rev h) (turned h live) (omega (arith, ordered, high, not)) in
        let same = ap d is in
        down_by (end_of s h) back v live_back (at_back.0 ∙ sym is) at_back.1 (omega (arith, ordered, same, below)))
  ]

  pub split_order : InOrder d r
  unfolding Up Down
  split_order = record {
    distinct = λ h k live_h live_k.
        start_of_old (λ x. d x ≡ d (origin_of r k) → x ≡ origin_of r k)
        (λ i live_i. start_of_old (λ y. d (origin_of s i) ≡ d y → origin_of s i ≡ y) (λ j live_j. order.distinct i j live_i live_j) (λ same. absurd (not_v i live_i same)) k live_k)
        (start_of_old (λ y. d v ≡ d y → v ≡ y) (λ j live_j same. absurd (not_v j live_j (sym same))) (λ same. refl) k live_k)
        h live_h;
    between = λ h k live_h live_k.
        ends (λ i x y. d x <ℤ d (origin_of r k) → d (origin_of r k) <ℤ d y → ⊥)
        (λ i live_i not_e not_t. start_of_old (λ z. d (origin_of s i) <ℤ d z → d z <ℤ d (end_of s i) → ⊥) (λ j live_j. order.between i j live_i live_j) (not_over i live_i not_e) k live_k)
        (start_of_old (λ z. d start <ℤ d z → d z <ℤ d v → ⊥)
        (λ j live_j less more. elim (off j live_j) [ inl low ↦ omega (arith, ordered, low, less) | inr high ↦ omega (arith, ordered, high, more, below) ])
        (λ less more. omega (arith, ordered, more)) k live_k)
        (λ less more. omega (arith, ordered, less, more, above))
        (start_of_old (λ z. d v <ℤ d z → d z <ℤ d end → ⊥)
        (λ j live_j less more. elim (off j live_j) [ inl low ↦ omega (arith, ordered, low, less, above) | inr high ↦ omega (arith, ordered, high, more) ])
        (λ less more. omega (arith, ordered, less)) k live_k)
        (λ less more. omega (arith, ordered, less, more, below))
        h live_h;
    once_up = λ h k live_h live_k.
        ends (λ i x y. x ≡ origin_of r k → d x <ℤ d y → d (origin_of r k) <ℤ d (end_of r k) → i ≡ k)
        (λ i live_i not_e not_t. ends (λ j x y. origin_of s i ≡ x → d (origin_of s i) <ℤ d (end_of s i) → d x <ℤ d y → i ≡ j)
        (λ j live_j off_e off_t. order.once_up i j live_i live_j)
        (λ same up_i up_j. absurd (not_e (order.once_up i e live_i live_e (same ∙ sym starts_e) up_i up_e)))
        (λ same up_i up_j. absurd (omega (arith, ordered, up_j, above)))
        (λ same up_i up_j. absurd (not_v i live_i (ap d same)))
        (λ same up_i up_j. absurd (omega (arith, ordered, up_j, below))) k live_k)
        (ends (λ j x y. start ≡ x → d start <ℤ d v → d x <ℤ d y → e ≡ j)
        (λ j live_j off_e off_t same up_i up_j. absurd (off_e (order.once_up j e live_j live_e (sym same ∙ sym starts_e) up_j up_e)))
        (λ same up_i up_j. refl)
        (λ same up_i up_j. absurd (omega (arith, ordered, up_j, above)))
        (λ same up_i up_j. absurd (let z = ap d same in omega (arith, ordered, z, above)))
        (λ same up_i up_j. absurd (omega (arith, ordered, up_j, below))) k live_k)
        (λ same up_i. absurd (omega (arith, ordered, up_i, above)))
        (ends (λ j x y. v ≡ x → d v <ℤ d end → d x <ℤ d y → on ≡ j)
        (λ j live_j off_e off_t same up_i up_j. absurd (not_v j live_j (ap d (sym same))))
        (λ same up_i up_j. absurd (let z = ap d same in omega (arith, ordered, z, above)))
        (λ same up_i up_j. absurd (omega (arith, ordered, up_j, above)))
        (λ same up_i up_j. refl)
        (λ same up_i up_j. absurd (omega (arith, ordered, up_j, below))) k live_k)
        (λ same up_i. absurd (omega (arith, ordered, up_i, below)))
        h live_h;
    once_down = λ h k live_h live_k.
        ends (λ i x y. x ≡ origin_of r k → d y <ℤ d x → d (end_of r k) <ℤ d (origin_of r k) → i ≡ k)
        (λ i live_i not_e not_t. ends (λ j x y. origin_of s i ≡ x → d (end_of s i) <ℤ d (origin_of s i) → d y <ℤ d x → i ≡ j)
        (λ j live_j off_e off_t. order.once_down i j live_i live_j)
        (λ same down_i down_j. absurd (omega (arith, ordered, down_j, above)))
        (λ same down_i down_j. absurd (not_v i live_i (ap d same)))
        (λ same down_i down_j. absurd (omega (arith, ordered, down_j, below)))
        (λ same down_i down_j. absurd (not_t (order.once_down i t live_i live_t (same ∙ sym starts_t) down_i down_t))) k live_k)
        (λ same down_i. absurd (omega (arith, ordered, down_i, above)))
        (ends (λ j x y. v ≡ x → d start <ℤ d v → d y <ℤ d x → t ≡ j)
        (λ j live_j off_e off_t same down_i down_j. absurd (not_v j live_j (ap d (sym same))))
        (λ same down_i down_j. absurd (omega (arith, ordered, down_j, above)))
        (λ same down_i down_j. refl)
        (λ same down_i down_j. absurd (omega (arith, ordered, down_j, below)))
        (λ same down_i down_j. absurd (let z = ap d same in omega (arith, ordered, z, below))) k live_k)
        (λ same down_i. absurd (omega (arith, ordered, down_i, below)))
        (ends (λ j x y. end ≡ x → d v <ℤ d end → d y <ℤ d x → back ≡ j)
        (λ j live_j off_e off_t same down_i down_j. absurd (off_t (order.once_down j t live_j live_t (sym same ∙ sym starts_t) down_j down_t)))
        (λ same down_i down_j. absurd (omega (arith, ordered, down_j, above)))
        (λ same down_i down_j. absurd (let z = ap d same in omega (arith, ordered, z, below)))
        (λ same down_i down_j. absurd (omega (arith, ordered, down_j, below)))
        (λ same down_i down_j. refl) k live_k)
        h live_h;
    up = λ h k live_h live_k.
        ends (λ i x y. d x <ℤ d y → d y <ℤ d (origin_of r k) → Up y)
        (λ i live_i not_e not_t up_i. start_of_old (λ z. d (end_of s i) <ℤ d z → Up (end_of s i))
        (λ j live_j more. up_was (end_of s i) (order.up i j live_i live_j up_i more)) (up_to_v i live_i up_i) k live_k)
        (λ up_i more. up_by v on end live_on at_on.0 at_on.1 below)
        (λ up_i. absurd (omega (arith, ordered, up_i, above)))
        (λ up_i. start_of_old (λ z. d end <ℤ d z → Up end)
        (λ j live_j more.
        let found = order.up e j live_e live_j up_e (subst (λ (i : ℕ). d i <ℤ d (origin_of s j)) (sym ends_e) more) in
        up_was end (found.0, found.1, found.2 ∙ ends_e, subst (λ (i : ℕ). d i <ℤ d (end_of s found.0)) ends_e found.3))
        (λ more. absurd (omega (arith, ordered, more, below))) k live_k)
        (λ up_i. absurd (omega (arith, ordered, up_i, below)))
        h live_h;
    down = λ h k live_h live_k.
        ends (λ i x y. d y <ℤ d x → d (origin_of r k) <ℤ d y → Down y)
        (λ i live_i not_e not_t down_i. start_of_old (λ z. d z <ℤ d (end_of s i) → Down (end_of s i))
        (λ j live_j less. down_was (end_of s i) (order.down i j live_i live_j down_i less)) (down_to_v i live_i down_i) k live_k)
        (λ down_i. absurd (omega (arith, ordered, down_i, above)))
        (λ down_i. start_of_old (λ z. d z <ℤ d start → Down start)
        (λ j live_j less.
        let found = order.down t j live_t live_j down_t (subst (λ (i : ℕ). d (origin_of s j) <ℤ d i) (sym ends_t) less) in
        down_was start (found.0, found.1, found.2 ∙ ends_t, subst (λ (i : ℕ). d (end_of s found.0) <ℤ d i) ends_t found.3))
        (λ less. absurd (omega (arith, ordered, less, above))) k live_k)
        (λ down_i. absurd (omega (arith, ordered, down_i, below)))
        (λ down_i less. down_by v t start (live_r t live_t) at_t.0 at_t.1 above)
        h live_h;
  }
