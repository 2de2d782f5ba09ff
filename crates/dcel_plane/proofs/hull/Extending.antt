-- A path whose vertices ascend goes on ascending when it is extended, told by numbers alone.
use Rattle.std.proofs.Common.{◌≡◌, ℕ, ℤ, ◌<ℤ◌, ◌≤ℤ◌, refl, sym, ap, ◌∙◌, subst, arith}
use Rattle.std.proofs.lemmas.Int.{by_lt_z}
use Rattle.dcel_fixed.specs.HalfEdges.{rev}
use Rattle.dcel_fixed.proofs.Halves.{rev-rev}
use Rattle.dcel_predicates.proofs.Signs.{ordered}
use Rattle.dcel_maps.specs.Shapes.{IsLive, Shape, end_of, origin_of}
use Rattle.dcel_plane.proofs.hull.OneLine.{InOrder}

-- The path of s goes on from `end`, its last vertex, to the tip, by half edges `there` and `back`.
module _ (d : ℕ → ℤ) (s r : Shape) (order : InOrder d s) (turned : (h : ℕ) → IsLive s h → IsLive s (rev h))
    (end tip there back : ℕ) (live_r : (h : ℕ) → IsLive s h → IsLive r h)
    (ends : (P : ℕ → ℕ → ℕ → Type 0) → ((h : ℕ) → IsLive s h → P h (origin_of s h) (end_of s h)) → P back tip end → P there end tip
    → (h : ℕ) → IsLive r h → P h (origin_of r h) (end_of r h))
    (starts_old : (h : ℕ) → IsLive s h → origin_of r h ≡ origin_of s h) (ends_old : (h : ℕ) → IsLive s h → end_of r h ≡ end_of s h)
    (live_there : IsLive r there) (starts_there : origin_of r there ≡ end) (ends_there : end_of r there ≡ tip)
    (last : ℕ) (live_last : IsLive s last) (from_last : origin_of s last ≡ end) (only : (k : ℕ) → IsLive s k → origin_of s k ≡ end → k ≡ last)
    (down_last : d (end_of s last) <ℤ d end) (far : d end <ℤ d tip) where
  start_of : (Q : ℕ → Type 0) → ((j : ℕ) → IsLive s j → Q (origin_of s j)) → Q tip → (k : ℕ) → IsLive r k → Q (origin_of r k)
  start_of Q was new = ends (λ h x y. Q x) was new (subst Q from_last (was last live_last))

  -- no vertex is higher than the end
  top : (k : ℕ) → IsLive s k → d (origin_of s k) ≤ℤ d end
  top k live =
      by_lt_z (d end) (d (origin_of s k))
      (λ more. absurd
      (let lead : end_of s (rev last) ≡ end = ap (origin_of s) (rev-rev last) ∙ from_last in
      let up_last : d (origin_of s (rev last)) <ℤ d (end_of s (rev last)) = subst (λ (v : ℕ). d (end_of s last) <ℤ d v) (sym lead) down_last in
      let found = order.up (rev last) k (turned last live_last) live up_last (subst (λ (v : ℕ). d v <ℤ d (origin_of s k)) (sym lead) more) in
      let is = ap (λ g. d (end_of s g)) (only found.0 found.1 (found.2 ∙ lead)) in
      let e = ap d lead in
      let m = found.3 in
      omega (arith, ordered, is, e, m, down_last)))
      (λ not. not)

  top_end : (h : ℕ) → IsLive s h → d (end_of s h) ≤ℤ d end
  top_end h live = top (rev h) (turned h live)

  Up : ℕ → Type 0
  Up y = (g : ℕ) × IsLive r g × (origin_of r g ≡ y) × (d y <ℤ d (end_of r g))

  Down : ℕ → Type 0
  Down y = (g : ℕ) × IsLive r g × (origin_of r g ≡ y) × (d (end_of r g) <ℤ d y)

  up_was : (y g : ℕ) → IsLive s g → origin_of s g ≡ y → d y <ℤ d (end_of s g) → Up y
  unfolding Up
  up_was y g live from more = (g, live_r g live, starts_old g live ∙ from, subst (λ (v : ℕ). d y <ℤ d v) (sym (ends_old g live)) more)

  down_was : (y g : ℕ) → IsLive s g → origin_of s g ≡ y → d (end_of s g) <ℤ d y → Down y
  unfolding Down
  down_was y g live from less = (g, live_r g live, starts_old g live ∙ from, subst (λ (v : ℕ). d v <ℤ d y) (sym (ends_old g live)) less)

  -- from below the tip it goes on
  up_tip : (h : ℕ) → IsLive s h → d (origin_of s h) <ℤ d (end_of s h) → Up (end_of s h)
  unfolding Up
  up_tip h live up_h =
      by_lt_z (d (end_of s h)) (d end)
      (λ less.
      let found = order.up h last live live_last up_h (subst (λ (v : ℕ). d (end_of s h) <ℤ d v) (sym from_last) less) in
      up_was (end_of s h) found.0 found.1 found.2 found.3)
      (λ not.
      let t = top_end h live in
      let e = ap d from_last in
      let is : end_of s h ≡ end = order.distinct (rev h) last (turned h live) live_last (omega (arith, ordered, t, e, not)) ∙ from_last in (
        there,
        live_there,
        starts_there ∙ sym is,
        subst (λ (v : ℕ). d v <ℤ d (end_of r there)) (sym is) (subst (λ (v : ℕ). d end <ℤ d v) (sym ends_there) far),
      ))

  pub extended_order : InOrder d r
  unfolding Up Down
  extended_order = record {
    distinct = λ h k live_h live_k.
        start_of (λ x. d x ≡ d (origin_of r k) → x ≡ origin_of r k)
        (λ i live_i. start_of (λ y. d (origin_of s i) ≡ d y → origin_of s i ≡ y) (λ j live_j. order.distinct i j live_i live_j)
        (λ same. absurd (let t = top i live_i in omega (arith, ordered, t, same, far))) k live_k)
        (start_of (λ y. d tip ≡ d y → tip ≡ y) (λ j live_j same. absurd (let t = top j live_j in omega (arith, ordered, t, same, far))) (λ same. refl) k live_k)
        h live_h;
    between = λ h k live_h live_k.
        ends (λ i x y. d x <ℤ d (origin_of r k) → d (origin_of r k) <ℤ d y → ⊥)
        (λ i live_i. start_of (λ z. d (origin_of s i) <ℤ d z → d z <ℤ d (end_of s i) → ⊥) (λ j live_j. order.between i j live_i live_j)
        (λ less more. let t = top_end i live_i in omega (arith, ordered, t, more, far)) k live_k)
        (λ less more. omega (arith, ordered, less, more, far))
        (start_of (λ z. d end <ℤ d z → d z <ℤ d tip → ⊥) (λ j live_j less more. let t = top j live_j in omega (arith, ordered, t, less)) (λ less more. omega (arith, ordered, more)) k live_k)
        h live_h;
    once_up = λ h k live_h live_k.
        ends (λ i x y. x ≡ origin_of r k → d x <ℤ d y → d (origin_of r k) <ℤ d (end_of r k) → i ≡ k)
        (λ i live_i. ends (λ j x y. origin_of s i ≡ x → d (origin_of s i) <ℤ d (end_of s i) → d x <ℤ d y → i ≡ j)
        (λ j live_j. order.once_up i j live_i live_j)
        (λ same up_i up_j. absurd (omega (arith, ordered, up_j, far)))
        (λ same up_i up_j. absurd (let t = top_end i live_i in let e = ap d same in omega (arith, ordered, t, e, up_i))) k live_k)
        (λ same up_i. absurd (omega (arith, ordered, up_i, far)))
        (ends (λ j x y. end ≡ x → d end <ℤ d tip → d x <ℤ d y → there ≡ j)
        (λ j live_j same up_i up_j. absurd (let t = top_end j live_j in let e = ap d same in omega (arith, ordered, t, e, up_j)))
        (λ same up_i up_j. absurd (omega (arith, ordered, up_j, far)))
        (λ same up_i up_j. refl) k live_k)
        h live_h;
    once_down = λ h k live_h live_k.
        ends (λ i x y. x ≡ origin_of r k → d y <ℤ d x → d (end_of r k) <ℤ d (origin_of r k) → i ≡ k)
        (λ i live_i. ends (λ j x y. origin_of s i ≡ x → d (end_of s i) <ℤ d (origin_of s i) → d y <ℤ d x → i ≡ j)
        (λ j live_j. order.once_down i j live_i live_j)
        (λ same down_i down_j. absurd (let t = top i live_i in let e = ap d same in omega (arith, ordered, t, e, far)))
        (λ same down_i down_j. absurd (omega (arith, ordered, down_j, far))) k live_k)
        (ends (λ j x y. tip ≡ x → d end <ℤ d tip → d y <ℤ d x → back ≡ j)
        (λ j live_j same down_i down_j. absurd (let t = top j live_j in let e = ap d same in omega (arith, ordered, t, e, far)))
        (λ same down_i down_j. refl)
        (λ same down_i down_j. absurd (omega (arith, ordered, down_j, far))) k live_k)
        (λ same down_i. absurd (omega (arith, ordered, down_i, far)))
        h live_h;
    up = λ h k live_h live_k.
        ends (λ i x y. d x <ℤ d y → d y <ℤ d (origin_of r k) → Up y)
        (λ i live_i up_i. start_of (λ z. d (end_of s i) <ℤ d z → Up (end_of s i))
        (λ j live_j more. (let found = order.up i j live_i live_j up_i more in up_was (end_of s i) found.0 found.1 found.2 found.3))
        (λ more. up_tip i live_i up_i) k live_k)
        (λ up_i. absurd (omega (arith, ordered, up_i, far)))
        (λ up_i. start_of (λ z. d tip <ℤ d z → Up tip) (λ j live_j more. absurd (let t = top j live_j in omega (arith, ordered, t, more, far)))
        (λ more. absurd (omega (arith, ordered, more))) k live_k)
        h live_h;
    down = λ h k live_h live_k.
        ends (λ i x y. d y <ℤ d x → d (origin_of r k) <ℤ d y → Down y)
        (λ i live_i down_i. start_of (λ z. d z <ℤ d (end_of s i) → Down (end_of s i))
        (λ j live_j less. (let found = order.down i j live_i live_j down_i less in down_was (end_of s i) found.0 found.1 found.2 found.3))
        (λ less. absurd (let t = top_end i live_i in omega (arith, ordered, t, less, far))) k live_k)
        (λ down_i less. down_was end last live_last from_last down_last)
        (λ down_i. absurd (omega (arith, ordered, down_i, far)))
        h live_h;
  }
