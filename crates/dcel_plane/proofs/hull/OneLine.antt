-- Meshes whose vertices stand on one line, by how far along it they stand.
use Rattle.std.proofs.Common.{◌≡◌, ◌⊎◌, inl, inr, ℕ, [], ◌∷◌, ℤ, pos, ◌+ℤ◌, ◌-ℤ◌, ◌*ℤ◌, ◌<ℤ◌, ◌≤ℤ◌, refl, sym, subst, arith}
use Rattle.std.proofs.lemmas.Int.{by_lt_z}
use Rattle.dcel_fixed.specs.HalfEdges.{rev}
use Rattle.dcel_fixed.proofs.Halves.{rev-rev}
use Rattle.dcel_predicates.specs.Determinants.{orient2d_of}
use Rattle.dcel_predicates.specs.declared.point.Point.{Point}
use Rattle.dcel_predicates.proofs.Ring.{Term, by_terms, minus, plus, times as by}
use Rattle.dcel_predicates.proofs.Signs.{factor_positive, ordered, times_positive}
use Rattle.dcel_predicates.proofs.Terms.{Spot, orient, spot}
use Rattle.dcel_maps.specs.Shapes.{IsLive, Shape, end_of, origin_of}
use Rattle.dcel_plane.proofs.covering.Along.{apart_by, by_place, dot_start, no_height, none_first, none_second, one_place, same_side}
use Rattle.dcel_plane.proofs.covering.Inside.{on_end, on_start}
use Rattle.dcel_plane.proofs.covering.Products.{below_times, both_below, factor_none, times_below}
use Rattle.dcel_plane.specs.covering.Covering.{dot}
use Rattle.dcel_plane.specs.hull.Straight.{IsStraight}
use Rattle.dcel_plane.proofs.hull.Thin.{back_dot}

-- the vertices of a path in the order of their places d
pub record InOrder (d : ℕ → ℤ) (s : Shape) : Type 0 where
  pub distinct : (h k : ℕ) → IsLive s h → IsLive s k → d (origin_of s h) ≡ d (origin_of s k) → origin_of s h ≡ origin_of s k
  pub between : (h k : ℕ) → IsLive s h → IsLive s k → d (origin_of s h) <ℤ d (origin_of s k) → d (origin_of s k) <ℤ d (end_of s h) → ⊥
  pub once_up : (h k : ℕ) → IsLive s h → IsLive s k → origin_of s h ≡ origin_of s k → d (origin_of s h) <ℤ d (end_of s h) → d (origin_of s k) <ℤ d (end_of s k) → h ≡ k
  pub once_down : (h k : ℕ) → IsLive s h → IsLive s k → origin_of s h ≡ origin_of s k → d (end_of s h) <ℤ d (origin_of s h) → d (end_of s k) <ℤ d (origin_of s k) → h ≡ k
  pub up : (h k : ℕ) → IsLive s h → IsLive s k → d (origin_of s h) <ℤ d (end_of s h) → d (end_of s h) <ℤ d (origin_of s k)
      → (g : ℕ) × IsLive s g × (origin_of s g ≡ end_of s h) × (d (end_of s h) <ℤ d (end_of s g))
  pub down : (h k : ℕ) → IsLive s h → IsLive s k → d (end_of s h) <ℤ d (origin_of s h) → d (origin_of s k) <ℤ d (end_of s h)
      → (g : ℕ) × IsLive s g × (origin_of s g ≡ end_of s h) × (d (end_of s g) <ℤ d (end_of s h))

abbrev dot_in : Spot → Spot → Spot → Term
dot_in a b c = plus (by (minus a.x c.x) (minus b.x c.x)) (by (minus a.y c.y) (minus b.y c.y))

same_place : (x y a b : Point) → x.x ≡ y.x → x.y ≡ y.y → dot x a b ≡ dot y a b
same_place x y a b ex ey = rw (ex, ey) refl

-- the signs of products, with a third term that is nothing
above_by : (l v x y z : ℤ) → l *ℤ v ≡ (x *ℤ y) +ℤ z → z ≡ pos 0 → pos 0 <ℤ l → pos 0 <ℤ (x *ℤ y) → pos 0 <ℤ v
above_by l v x y z is none more product = factor_positive l v more (omega (arith, ordered, is, none, product))

below_by : (l v x y z : ℤ) → l *ℤ v ≡ (x *ℤ y) +ℤ z → z ≡ pos 0 → pos 0 <ℤ l → (x *ℤ y) <ℤ pos 0 → v <ℤ pos 0
below_by l v x y z is none more product =
    by_lt_z v (pos 0) (λ less. less)
    (λ not. absurd (by_lt_z (pos 0) v (λ v_more. let t = times_positive l v more v_more in omega (arith, ordered, is, none, product, t))
    (λ nor. let t = none_second l v (omega (arith, ordered, not, nor)) in omega (arith, ordered, is, none, product, t))))

product_above : (l v x y z : ℤ) → l *ℤ v ≡ (x *ℤ y) +ℤ z → z ≡ pos 0 → pos 0 <ℤ l → pos 0 <ℤ v → pos 0 <ℤ (x *ℤ y)
product_above l v x y z is none more v_more = let t = times_positive l v more v_more in omega (arith, ordered, is, none, t)

product_below : (l v x y z : ℤ) → l *ℤ v ≡ (x *ℤ y) +ℤ z → z ≡ pos 0 → pos 0 <ℤ l → v <ℤ pos 0 → (x *ℤ y) <ℤ pos 0
product_below l v x y z is none more v_less = let t = times_below l v more v_less in omega (arith, ordered, is, none, t)

-- by the signs of both factors
both_up : (x y : ℤ) → pos 0 <ℤ (x *ℤ y) → pos 0 <ℤ x → pos 0 <ℤ y
both_up x y product more = factor_positive x y more product

both_down : (x y : ℤ) → pos 0 <ℤ (x *ℤ y) → x <ℤ pos 0 → y <ℤ pos 0
both_down x y product less =
    by_lt_z y (pos 0) (λ is. is)
    (λ not. absurd (by_lt_z (pos 0) y (λ more. let t = below_times x y less more in omega (arith, ordered, t, product))
    (λ nor. let t = none_second x y (omega (arith, ordered, not, nor)) in omega (arith, ordered, t, product))))

down_up : (x y : ℤ) → (x *ℤ y) <ℤ pos 0 → x <ℤ pos 0 → pos 0 <ℤ y
down_up x y product less =
    by_lt_z (pos 0) y (λ is. is)
    (λ not. absurd (by_lt_z y (pos 0) (λ more. let t = both_below x y less more in omega (arith, ordered, t, product))
    (λ nor. let t = none_second x y (omega (arith, ordered, not, nor)) in omega (arith, ordered, t, product))))

up_down : (x y : ℤ) → (x *ℤ y) <ℤ pos 0 → pos 0 <ℤ x → y <ℤ pos 0
up_down x y product more =
    by_lt_z y (pos 0) (λ is. is)
    (λ not. absurd (by_lt_z (pos 0) y (λ less. let t = times_positive x y more less in omega (arith, ordered, t, product))
    (λ nor. let t = none_second x y (omega (arith, ordered, not, nor)) in omega (arith, ordered, t, product))))

-- three points on the line from b to a
module _ (b a x y q : Point) (far : pos 0 <ℤ dot a a b) (on_x : orient2d_of b a x ≡ pos 0) (on_y : orient2d_of b a y ≡ pos 0) (on_q : orient2d_of b a q ≡ pos 0) where
  abbrev i : ℤ
  i = dot x a b -ℤ dot q a b

  abbrev j : ℤ
  j = dot y a b -ℤ dot q a b

  abbrev z : ℤ
  z = (orient2d_of b a x -ℤ orient2d_of b a q) *ℤ (orient2d_of b a y -ℤ orient2d_of b a q)

  is : dot a a b *ℤ dot x y q ≡ (i *ℤ j) +ℤ z
  is = by_place b a x y q far on_x on_y on_q

  none : z ≡ pos 0
  none = no_height b a x y q far on_x on_y on_q

  pub apart_up : dot x a b <ℤ dot q a b → dot q a b <ℤ dot y a b → dot x y q <ℤ pos 0
  apart_up less more = below_by (dot a a b) (dot x y q) i j z is none far (below_times i j (omega (arith, ordered, less)) (omega (arith, ordered, more)))

  pub apart_down : dot q a b <ℤ dot x a b → dot y a b <ℤ dot q a b → dot x y q <ℤ pos 0
  apart_down more less = below_by (dot a a b) (dot x y q) i j z is none far (times_below i j (omega (arith, ordered, more)) (omega (arith, ordered, less)))

  pub near_up : dot q a b <ℤ dot x a b → dot q a b <ℤ dot y a b → pos 0 <ℤ dot x y q
  near_up more too = above_by (dot a a b) (dot x y q) i j z is none far (times_positive i j (omega (arith, ordered, more)) (omega (arith, ordered, too)))

  pub near_down : dot x a b <ℤ dot q a b → dot y a b <ℤ dot q a b → pos 0 <ℤ dot x y q
  near_down less too = above_by (dot a a b) (dot x y q) i j z is none far (both_below i j (omega (arith, ordered, less)) (omega (arith, ordered, too)))

  -- and back
  pub past_up : dot x y q <ℤ pos 0 → dot x a b <ℤ dot q a b → dot q a b <ℤ dot y a b
  past_up apart less = let r = down_up i j (product_below (dot a a b) (dot x y q) i j z is none far apart) (omega (arith, ordered, less)) in omega (arith, ordered, r)

  pub past_down : dot x y q <ℤ pos 0 → dot q a b <ℤ dot x a b → dot y a b <ℤ dot q a b
  past_down apart more = let r = up_down i j (product_below (dot a a b) (dot x y q) i j z is none far apart) (omega (arith, ordered, more)) in omega (arith, ordered, r)

  pub like_up : pos 0 <ℤ dot x y q → dot q a b <ℤ dot x a b → dot q a b <ℤ dot y a b
  like_up near more = let r = both_up i j (product_above (dot a a b) (dot x y q) i j z is none far near) (omega (arith, ordered, more)) in omega (arith, ordered, r)

  pub like_down : pos 0 <ℤ dot x y q → dot x a b <ℤ dot q a b → dot y a b <ℤ dot q a b
  like_down near less = let r = both_down i j (product_above (dot a a b) (dot x y q) i j z is none far near) (omega (arith, ordered, less)) in omega (arith, ordered, r)

  -- not in one place
  not_level : dot x a b ≡ dot q a b → dot a a b *ℤ dot x y q ≡ pos 0
  not_level same = let n = none_first i j (omega (arith, ordered, same)) in let e = is in let f = none in omega (arith, ordered, n, e, f)

  level : dot a a b *ℤ orient2d_of x y q
      ≡ ((dot y a b -ℤ dot x a b) *ℤ (orient2d_of b a q -ℤ orient2d_of b a x)) -ℤ ((orient2d_of b a y -ℤ orient2d_of b a x) *ℤ (dot q a b -ℤ dot x a b))
  level =
      by_terms (b.x ∷ b.y ∷ a.x ∷ a.y ∷ x.x ∷ x.y ∷ y.x ∷ y.y ∷ q.x ∷ q.y ∷ []) (by (dot_in (spot 1) (spot 1) (spot 0)) (orient (spot 2) (spot 3) (spot 4)))
      (minus (by (minus (dot_in (spot 3) (spot 1) (spot 0)) (dot_in (spot 2) (spot 1) (spot 0))) (minus (orient (spot 0) (spot 1) (spot 4)) (orient (spot 0) (spot 1) (spot 2))))
      (by (minus (orient (spot 0) (spot 1) (spot 3)) (orient (spot 0) (spot 1) (spot 2))) (minus (dot_in (spot 4) (spot 1) (spot 0)) (dot_in (spot 2) (spot 1) (spot 0))))) refl

  pub on_line : orient2d_of x y q ≡ pos 0
  on_line =
      let e = level in
      let f = none_second (dot y a b -ℤ dot x a b) (orient2d_of b a q -ℤ orient2d_of b a x) (omega (arith, ordered, on_x, on_q)) in
      let g = none_first (orient2d_of b a y -ℤ orient2d_of b a x) (dot q a b -ℤ dot x a b) (omega (arith, ordered, on_x, on_y)) in
      factor_none (dot a a b) (orient2d_of x y q) far (omega (arith, ordered, e, f, g))

-- a point on the line on whose two sides the ends lie
pub inside_of : (b a q : Point) → pos 0 <ℤ dot a a b → orient2d_of b a q ≡ pos 0 → dot b a q <ℤ pos 0 → (pos 0 <ℤ dot q a b) × (dot q a b <ℤ dot a a b)
inside_of b a q far on apart =
    let z = dot_start a b in
    by_lt_z (dot b a b) (dot q a b)
    (λ less. (omega (arith, ordered, z, less), past_up b a b a q far (on_end b a) (on_start b a) on apart less))
    (λ not. by_lt_z (dot q a b) (dot b a b)
    (λ more. absurd (let p = past_down b a b a q far (on_end b a) (on_start b a) on apart more in omega (arith, ordered, p, more, z, far)))
    (λ nor. absurd
    (let n = not_level b a b a q far (on_end b a) (on_start b a) on (omega (arith, ordered, not, nor)) in
    let t = times_below (dot a a b) (dot b a q) far apart in omega (arith, ordered, n, t))))

module _ (s : Shape) (at : ℕ → Point) (b a : Point) (far : pos 0 <ℤ dot a a b) (back : (h : ℕ) → IsLive s h → IsLive s (rev h))
    (on : (k : ℕ) → IsLive s k → orient2d_of b a (at (origin_of s k)) ≡ pos 0) where
  abbrev d : ℕ → ℤ
  d v = dot (at v) a b

  abbrev p : ℕ → Point
  p h = at (origin_of s h)

  abbrev e : ℕ → Point
  e h = at (end_of s h)

  pub order_of : IsStraight at s → InOrder (λ v. dot (at v) a b) s
  order_of straight = record {
    distinct = λ h k live_h live_k same.
        let one = one_place b a (p h) (p k) far (on h live_h) (on k live_k) same in
        straight.distinct h k live_h live_k one.0 one.1;
    between = λ h k live_h live_k less more.
        let z = straight.between h k live_h live_k in
        let n = apart_up b a (p h) (e h) (p k) far (on h live_h) (on (rev h) (back h live_h)) (on k live_k) less more in
        omega (arith, ordered, z, n);
    once_up = λ h k live_h live_k same up_h up_k.
        straight.once h k live_h live_k same
        (near_up b a (e h) (e k) (p h) far (on (rev h) (back h live_h)) (on (rev k) (back k live_k)) (on h live_h) up_h
        (subst (λ (v : ℕ). d v <ℤ d (end_of s k)) (sym same) up_k));
    once_down = λ h k live_h live_k same down_h down_k.
        straight.once h k live_h live_k same
        (near_down b a (e h) (e k) (p h) far (on (rev h) (back h live_h)) (on (rev k) (back k live_k)) (on h live_h) down_h
        (subst (λ (v : ℕ). d (end_of s k) <ℤ d v) (sym same) down_k));
    up = λ h k live_h live_k up_h more.
        let n = apart_up b a (p h) (p k) (e h) far (on h live_h) (on k live_k) (on (rev h) (back h live_h)) up_h more in
        let z = back_dot (p h) (e h) (p k) in
        let found = straight.onward h k live_h live_k (omega (arith, ordered, n, z)) in
        let g = found.0 in
        let w = back_dot (p h) (e h) (e g) in
        let more_g = found.3 in
        let ahead : dot (p h) (e g) (e h) <ℤ pos 0 = omega (arith, ordered, w, more_g) in
        (g, found.1, found.2, past_up b a (p h) (e g) (e h) far (on h live_h) (on (rev g) (back g found.1)) (on (rev h) (back h live_h)) ahead up_h);
    down = λ h k live_h live_k down_h less.
        let n = apart_down b a (p h) (p k) (e h) far (on h live_h) (on k live_k) (on (rev h) (back h live_h)) down_h less in
        let z = back_dot (p h) (e h) (p k) in
        let found = straight.onward h k live_h live_k (omega (arith, ordered, n, z)) in
        let g = found.0 in
        let w = back_dot (p h) (e h) (e g) in
        let more_g = found.3 in
        let ahead : dot (p h) (e g) (e h) <ℤ pos 0 = omega (arith, ordered, w, more_g) in
        (g, found.1, found.2, past_down b a (p h) (e g) (e h) far (on h live_h) (on (rev g) (back g found.1)) (on (rev h) (back h live_h)) ahead down_h);
  }

  pub straight_of : InOrder (λ v. dot (at v) a b) s → IsStraight at s
  straight_of order = record {
    distinct = λ h k live_h live_k ex ey. order.distinct h k live_h live_k (same_place (p h) (p k) a b ex ey);
    line = λ h k live_h live_k. on_line b a (p h) (e h) (p k) far (on h live_h) (on (rev h) (back h live_h)) (on k live_k);
    between = λ h k live_h live_k.
        apart_by b a (p h) (e h) (p k) far (on h live_h) (on (rev h) (back h live_h)) (on k live_k)
        (same_side (d (origin_of s h) -ℤ d (origin_of s k)) (d (end_of s h) -ℤ d (origin_of s k)) (one_side h k live_h live_k));
    once = λ h k live_h live_k same near.
        let on_h = on (rev h) (back h live_h) in
        let on_k = on (rev k) (back k live_k) in
        by_lt_z (d (origin_of s h)) (d (end_of s h))
        (λ up_h. order.once_up h k live_h live_k same up_h
        (subst (λ (v : ℕ). d v <ℤ d (end_of s k)) same (like_up b a (e h) (e k) (p h) far on_h on_k (on h live_h) near up_h)))
        (λ not. by_lt_z (d (end_of s h)) (d (origin_of s h))
        (λ down_h. order.once_down h k live_h live_k same down_h
        (subst (λ (v : ℕ). d (end_of s k) <ℤ d v) same (like_down b a (e h) (e k) (p h) far on_h on_k (on h live_h) near down_h)))
        (λ nor. absurd
        (let n = not_level b a (e h) (e k) (p h) far on_h on_k (on h live_h) (omega (arith, ordered, not, nor)) in
        let t = times_positive (dot a a b) (dot (e h) (e k) (p h)) far near in omega (arith, ordered, n, t))));
    onward = λ h k live_h live_k more.
        let z = back_dot (p h) (e h) (p k) in
        let on_e = on (rev h) (back h live_h) in
        let ahead : dot (p h) (p k) (e h) <ℤ pos 0 = omega (arith, ordered, z, more) in
        by_lt_z (d (origin_of s h)) (d (end_of s h))
        (λ up_h.
        let found = order.up h k live_h live_k up_h (past_up b a (p h) (p k) (e h) far (on h live_h) (on k live_k) on_e ahead up_h) in
        let g = found.0 in
        let w = back_dot (p h) (e h) (e g) in
        let n = apart_up b a (p h) (e g) (e h) far (on h live_h) (on (rev g) (back g found.1)) on_e up_h found.3 in
        (g, found.1, found.2, omega (arith, ordered, w, n)))
        (λ not. by_lt_z (d (end_of s h)) (d (origin_of s h))
        (λ down_h.
        let found = order.down h k live_h live_k down_h (past_down b a (p h) (p k) (e h) far (on h live_h) (on k live_k) on_e ahead down_h) in
        let g = found.0 in
        let w = back_dot (p h) (e h) (e g) in
        let n = apart_down b a (p h) (e g) (e h) far (on h live_h) (on (rev g) (back g found.1)) on_e down_h found.3 in
        (g, found.1, found.2, omega (arith, ordered, w, n)))
        (λ nor. absurd
        (let n = not_level b a (p h) (p k) (e h) far (on h live_h) (on k live_k) on_e (omega (arith, ordered, not, nor)) in
        let t = times_below (dot a a b) (dot (p h) (p k) (e h)) far ahead in omega (arith, ordered, n, t))));
  }
    where
      one_side : (h k : ℕ) → IsLive s h → IsLive s k
          → ((pos 0 ≤ℤ (d (origin_of s h) -ℤ d (origin_of s k))) × (pos 0 ≤ℤ (d (end_of s h) -ℤ d (origin_of s k))))
          ⊎ (((d (origin_of s h) -ℤ d (origin_of s k)) ≤ℤ pos 0) × ((d (end_of s h) -ℤ d (origin_of s k)) ≤ℤ pos 0))
      one_side h k live_h live_k =
          let x = d (origin_of s h) in
          let y = d (end_of s h) in
          let q = d (origin_of s k) in
          by_lt_z x q
          (λ less. by_lt_z q y (λ more. absurd (order.between h k live_h live_k less more)) (λ not. inr (omega (arith, ordered, less), omega (arith, ordered, not))))
          (λ not. by_lt_z y q
          (λ less. by_lt_z q x
          (λ more. absurd (order.between (rev h) k (back h live_h) live_k less (subst (λ (i : ℕ). q <ℤ d (origin_of s i)) (sym (rev-rev h)) more)))
          (λ nor. inr (omega (arith, ordered, nor), omega (arith, ordered, less))))
          (λ nor. inl (omega (arith, ordered, not), omega (arith, ordered, nor))))
