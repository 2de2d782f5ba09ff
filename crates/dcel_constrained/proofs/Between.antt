-- Points on a segment between its ends, the two parts of the segment, and what crosses them.
use Rattle.std.proofs.Common.{◌≡◌, ◌≢◌, ◌⊎◌, inl, inr, [], ◌∷◌, ℕ, ◌<◌, ◌≤◌, ◌^◌, ℤ, pos, ◌+ℤ◌, ◌-ℤ◌, ◌*ℤ◌, ◌<ℤ◌, ◌≤ℤ◌, unsigned_abs, refl, sym, ap, ◌∙◌, subst, arith}
use Rattle.std.proofs.lemmas.Int.{by_lt_z, ints}
use Rattle.dcel_predicates.specs.declared.point.Point.{Point}
use Rattle.dcel_predicates.specs.Determinants.{orient2d_of}
use Rattle.dcel_predicates.proofs.Integers.{mul_sub, sub_mul}
use Rattle.dcel_predicates.proofs.Points.{orient2d-first_swapped}
use Rattle.dcel_predicates.proofs.Ring.{Term, by_terms, minus, num, plus, times as by, var}
use Rattle.dcel_predicates.proofs.Signs.{both_negative, factor_positive, ordered, square, times, times_positive}
use Rattle.dcel_predicates.proofs.Terms.{orient, spot}
use Rattle.dcel_maps.specs.Shapes.{IsLive, Shape, end_of, origin_of}
use Rattle.dcel_plane.specs.covering.Covering.{dot}
use Rattle.dcel_plane.proofs.covering.Along.{IsBetween, by_place, dot_in, dot_start, long, none_first, none_second}
use Rattle.dcel_plane.proofs.covering.Inside.{apart_end, apart_start, on_end, on_start}
use Rattle.dcel_plane.proofs.covering.Products.{below_times, times_below}
use Rattle.dcel_plane.specs.segments.Segments.{Crosses, LeadsAlong, orient2d_by}
use Rattle.dcel_constrained.specs.Constraints.{LiesOnSegment}
use Rattle.dcel_constrained.specs.Meeting.{LiesBetweenEnds}
use Rattle.dcel_constrained.proofs.Widths.{sum_apart}

-- the square of the distance
abbrev pub gap : Point → Point → ℤ
gap a b = dot a a b

-- of two vertices, as a measure
abbrev pub span : (ℕ → Point) → ℕ → ℕ → ℕ
span at v w = unsigned_abs (gap (at v) (at w))

pub span_within : (at : ℕ → Point) (v w : ℕ) → span at v w ≤ 2 ^ 109
span_within at v w = sum_apart (at v) (at v) (at w)

-- a factor of nothing
factor_none : (n x : ℤ) → pos 0 <ℤ n → n *ℤ x ≡ pos 0 → x ≡ pos 0
factor_none n x more none =
    by_lt_z x (pos 0) (λ less. absurd (let t = times_below n x more less in omega (arith, ordered, t, none)))
    (λ not. by_lt_z (pos 0) x (λ above. absurd (let t = times_positive n x more above in omega (arith, ordered, t, none))) (λ nor. omega (arith, ordered, not, nor)))

pub factor_below : (n x : ℤ) → pos 0 <ℤ n → (n *ℤ x) <ℤ pos 0 → x <ℤ pos 0
factor_below n x more product =
    by_lt_z x (pos 0) (λ less. less) (λ not. absurd (let t = times n x (omega (arith, ordered, more)) not in omega (arith, ordered, t, product)))

factor_zero : (x y : ℤ) → pos 0 <ℤ (x *ℤ x) → x *ℤ y ≡ pos 0 → y ≡ pos 0
factor_zero x y square none =
    by_lt_z (pos 0) x (λ more. factor_none x y more none)
    (λ not. by_lt_z x (pos 0)
    (λ less. factor_none (pos 0 -ℤ x) y (omega (arith, ordered, less))
    (let e = sub_mul (pos 0) x y in let z = none_first (pos 0) y refl in omega (arith, ordered, e, z, none)))
    (λ nor. absurd (let z = none_first x x (omega (arith, ordered, not, nor)) in omega (arith, ordered, z, square))))

-- the square of a number further below 0 is greater
further_below : (a b : ℤ) → a <ℤ pos 0 → b <ℤ a → (a *ℤ a) <ℤ (b *ℤ b)
further_below a b ha hb =
    let t = times_positive (a -ℤ b) ((pos 0 -ℤ a) -ℤ b) (omega (arith, ordered, hb)) (omega (arith, ordered, ha, hb)) in
    let e = squares in
    omega (arith, ordered, t, e)
  where
    squares : b *ℤ b ≡ (a *ℤ a) +ℤ ((a -ℤ b) *ℤ ((pos 0 -ℤ a) -ℤ b))
    squares = by_terms (a ∷ b ∷ []) (by (var 1) (var 1)) (plus (by (var 0) (var 0)) (by (minus (var 0) (var 1)) (minus (minus (num (pos 0)) (var 0)) (var 1)))) refl

pub abs_less : (x y : ℤ) → pos 0 ≤ℤ x → x <ℤ y → unsigned_abs x < unsigned_abs y
abs_less x y more less = omega (arith, ints)

-- two points with one between them are apart
far_apart : (v w y : Point) → dot v w y <ℤ pos 0 → pos 0 <ℤ dot w w v
far_apart v w y inside =
    long w v
    (λ ex ey.
    (let e : dot v w y ≡ ((v.x -ℤ y.x) *ℤ (v.x -ℤ y.x)) +ℤ ((v.y -ℤ y.y) *ℤ (v.y -ℤ y.y)) = rw (ex, ey) refl in
    let a = square (v.x -ℤ y.x) in
    let b = square (v.y -ℤ y.y) in
    omega (arith, ordered, e, a, b, inside)))

-- how far along the line from v to w
module _ (v w : Point) where
  abbrev place : Point → ℤ
  place p = dot p w v

  abbrev length : ℤ
  length = dot w w v

  abbrev off : Point → ℤ
  off p = orient2d_of v w p

  pub at_start : place v ≡ pos 0
  at_start = dot_start w v

  -- the turn of three points, by where they lie
  turn_placed : (a b q : Point) → length *ℤ orient2d_of a b q ≡ ((place b -ℤ place a) *ℤ (off q -ℤ off a)) -ℤ ((off b -ℤ off a) *ℤ (place q -ℤ place a))
  turn_placed a b q =
      by_terms (v.x ∷ v.y ∷ w.x ∷ w.y ∷ a.x ∷ a.y ∷ b.x ∷ b.y ∷ q.x ∷ q.y ∷ [])
      (by (dot_in (spot 1) (spot 1) (spot 0)) (orient (spot 2) (spot 3) (spot 4)))
      (minus (by (minus (along 3) (along 2)) (minus (across 4) (across 2))) (by (minus (across 3) (across 2)) (minus (along 4) (along 2)))) refl
    where
      along : ℕ → Term
      along n = dot_in (spot n) (spot 1) (spot 0)

      across : ℕ → Term
      across n = orient (spot 0) (spot 1) (spot n)

  -- how far a point of the line lies from another line
  pub side_placed : (o e p : Point) → length *ℤ orient2d_of o e p
      ≡ (((length -ℤ place p) *ℤ orient2d_of o e v) +ℤ (place p *ℤ orient2d_of o e w)) +ℤ (off p *ℤ (((e.x -ℤ o.x) *ℤ (w.x -ℤ v.x)) +ℤ ((e.y -ℤ o.y) *ℤ (w.y -ℤ v.y))))
  side_placed o e p =
      by_terms (v.x ∷ v.y ∷ w.x ∷ w.y ∷ o.x ∷ o.y ∷ e.x ∷ e.y ∷ p.x ∷ p.y ∷ [])
      (by (dot_in (spot 1) (spot 1) (spot 0)) (orient (spot 2) (spot 3) (spot 4)))
      (plus (plus (by (minus (dot_in (spot 1) (spot 1) (spot 0)) (dot_in (spot 4) (spot 1) (spot 0))) (orient (spot 2) (spot 3) (spot 0)))
      (by (dot_in (spot 4) (spot 1) (spot 0)) (orient (spot 2) (spot 3) (spot 1))))
      (by (orient (spot 0) (spot 1) (spot 4))
      (plus (by (minus (spot 3).x (spot 2).x) (minus (spot 1).x (spot 0).x)) (by (minus (spot 3).y (spot 2).y) (minus (spot 1).y (spot 0).y))))) refl

  module _ (far : pos 0 <ℤ dot w w v) where
    -- a turn of points on the line, but for the last
    pub turn_by : (a b q : Point) → off a ≡ pos 0 → off b ≡ pos 0 → length *ℤ orient2d_of a b q ≡ (place b -ℤ place a) *ℤ off q
    turn_by a b q on_a on_b =
        let e = turn_placed a b q in
        let z = none_first (off b -ℤ off a) (place q -ℤ place a) (omega (arith, ordered, on_a, on_b)) in
        e ∙ sums ((place b -ℤ place a) *ℤ (off q -ℤ off a)) ((off b -ℤ off a) *ℤ (place q -ℤ place a)) z
        ∙ ap (λ i. (place b -ℤ place a) *ℤ i) (let r : off q -ℤ off a ≡ off q = omega (arith, ordered, on_a) in r)
      where
        sums : (x y : ℤ) → y ≡ pos 0 → x -ℤ y ≡ x
        sums x y none = omega (arith, ordered, none)

    -- between two points of the line
    pub apart_placed : (a b q : Point) → off a ≡ pos 0 → off b ≡ pos 0 → off q ≡ pos 0
        → length *ℤ dot a b q ≡ (place a -ℤ place q) *ℤ (place b -ℤ place q)
    apart_placed a b q on_a on_b on_q =
        let e = by_place v w a b q far on_a on_b on_q in
        let z = none_first (off a -ℤ off q) (off b -ℤ off q) (omega (arith, ordered, on_a, on_q)) in
        sums (length *ℤ dot a b q) ((place a -ℤ place q) *ℤ (place b -ℤ place q)) ((off a -ℤ off q) *ℤ (off b -ℤ off q)) e z
      where
        sums : (t x y : ℤ) → t ≡ x +ℤ y → y ≡ pos 0 → t ≡ x
        sums t x y is none = omega (arith, ordered, is, none)

    pub inside_up : (a b q : Point) → off a ≡ pos 0 → off b ≡ pos 0 → off q ≡ pos 0 → place a <ℤ place q → place q <ℤ place b → dot a b q <ℤ pos 0
    inside_up a b q on_a on_b on_q first second =
        let e = apart_placed a b q on_a on_b on_q in
        let t = below_times (place a -ℤ place q) (place b -ℤ place q) (omega (arith, ordered, first)) (omega (arith, ordered, second)) in
        factor_below length (dot a b q) far (omega (arith, ordered, e, t))

    inside_down : (a b q : Point) → off a ≡ pos 0 → off b ≡ pos 0 → off q ≡ pos 0 → place b <ℤ place q → place q <ℤ place a → dot a b q <ℤ pos 0
    inside_down a b q on_a on_b on_q first second =
        let e = apart_placed a b q on_a on_b on_q in
        let t = times_below (place a -ℤ place q) (place b -ℤ place q) (omega (arith, ordered, second)) (omega (arith, ordered, first)) in
        factor_below length (dot a b q) far (omega (arith, ordered, e, t))

    inside_way : (a b q : Point) → off a ≡ pos 0 → off b ≡ pos 0 → off q ≡ pos 0 → dot a b q <ℤ pos 0
        → ((place a <ℤ place q) × (place q <ℤ place b)) ⊎ ((place b <ℤ place q) × (place q <ℤ place a))
    inside_way a b q on_a on_b on_q inside =
        let e = apart_placed a b q on_a on_b on_q in
        let t = times_below length (dot a b q) far inside in
        one_each (place a) (place b) (place q) (omega (arith, ordered, e, t))
      where
        one_each : (a b q : ℤ) → ((a -ℤ q) *ℤ (b -ℤ q)) <ℤ pos 0 → ((a <ℤ q) × (q <ℤ b)) ⊎ ((b <ℤ q) × (q <ℤ a))
        one_each a b q product =
            by_lt_z a q
            (λ less. inl (
              less,
              by_lt_z q b (λ is. is) (λ not. absurd (let t = both_negative (a -ℤ q) (b -ℤ q) (omega (arith, ordered, less)) (omega (arith, ordered, not)) in omega (arith, ordered, t, product))),
            ))
            (λ nor. inr (
              by_lt_z b q (λ is. is) (λ not. absurd (let t = times (a -ℤ q) (b -ℤ q) (omega (arith, ordered, nor)) (omega (arith, ordered, not)) in omega (arith, ordered, t, product))),
              by_lt_z q a (λ is. is)
                  (λ not. absurd (let same : a -ℤ q ≡ pos 0 = omega (arith, ordered, nor, not) in let t = none_first (a -ℤ q) (b -ℤ q) same in omega (arith, ordered, t, product))),
            ))

    -- a square distance on the line
    gap_placed : (a b : Point) → off a ≡ pos 0 → off b ≡ pos 0 → length *ℤ gap a b ≡ (place a -ℤ place b) *ℤ (place a -ℤ place b)
    gap_placed a b on_a on_b = apart_placed a a b on_a on_a on_b

-- what lies between v and w
between_is : (v w y : Point) → orient2d_of v w y ≡ pos 0 → dot v w y <ℤ pos 0 → IsBetween v w y
between_is v w y on inside =
    let far = far_apart v w y inside in
    let z = dot_start w v in
    elim (inside_way v w far v w y (on_end v w) (on_start v w) on inside) [
      | inl way ↦ (let a = way.0 in record { on = on; above = omega (arith, ordered, z, a); below = way.1 })
      | inr way ↦ absurd (let a = way.0 in let b = way.1 in omega (arith, ordered, z, a, b, far))
    ]

gap_none : (a : Point) → gap a a ≡ pos 0
gap_none a = by_terms (a.x ∷ a.y ∷ []) (dot_in (spot 0) (spot 0) (spot 0)) (num (pos 0)) refl

gap_turned : (a b : Point) → gap a b ≡ gap b a
gap_turned a b = by_terms (a.x ∷ a.y ∷ b.x ∷ b.y ∷ []) (dot_in (spot 0) (spot 0) (spot 1)) (dot_in (spot 1) (spot 1) (spot 0)) refl

gap_not_below : (a b : Point) → pos 0 ≤ℤ gap a b
gap_not_below a b = (let p = square (a.x -ℤ b.x) in let q = square (a.y -ℤ b.y) in omega (arith, ordered, p, q))

apart_turned : (a b p : Point) → dot a b p ≡ dot b a p
apart_turned a b p = by_terms (a.x ∷ a.y ∷ b.x ∷ b.y ∷ p.x ∷ p.y ∷ []) (dot_in (spot 0) (spot 1) (spot 2)) (dot_in (spot 1) (spot 0) (spot 2)) refl

-- of two square distances, by where the points lie
shorter : (v w : Point) → pos 0 <ℤ dot w w v → (x y a b : ℤ) → dot w w v *ℤ x ≡ a *ℤ a → dot w w v *ℤ y ≡ b *ℤ b → a <ℤ pos 0 → b <ℤ a → pos 0 ≤ℤ x
    → unsigned_abs x < unsigned_abs y
shorter v w far x y a b ex ey ha hb more = abs_less x y more (smaller (dot w w v) x y far (let t = further_below a b ha hb in omega (arith, ordered, ex, ey, t)))
  where
    smaller : (n x y : ℤ) → pos 0 <ℤ n → (n *ℤ x) <ℤ (n *ℤ y) → x <ℤ y
    smaller n x y hn less =
        by_lt_z x y (λ is. is)
        (λ not. absurd (let t = times n (x -ℤ y) (omega (arith, ordered, hn)) (omega (arith, ordered, not)) in let e = mul_sub n x y in omega (arith, ordered, t, e, less)))

module _ (at : ℕ → Point) (v w y : ℕ) (lies : LiesBetweenEnds at v w y) where
  abbrev whole : ℤ
  whole = dot (at w) (at w) (at v)

  abbrev part : ℤ
  part = dot (at y) (at w) (at v)

  pub lies_is : IsBetween (at v) (at w) (at y)
  lies_is = between_is (at v) (at w) (at y) lies.on lies.inside

  pub lies_far : pos 0 <ℤ dot (at w) (at w) (at v)
  lies_far = far_apart (at v) (at w) (at y) lies.inside

  -- it is none of the ends, and these are two
  pub lies_not_start : y ≢ v
  lies_not_start is =
      (let less = subst (λ (i : ℕ). dot (at v) (at w) (at i) <ℤ pos 0) is lies.inside in let z = apart_start (at v) (at w) in omega (arith, ordered, less, z))

  pub lies_not_end : y ≢ w
  lies_not_end is =
      (let less = subst (λ (i : ℕ). dot (at v) (at w) (at i) <ℤ pos 0) is lies.inside in let z = apart_end (at v) (at w) in omega (arith, ordered, less, z))

  pub lies_differ : v ≢ w
  lies_differ is =
      (let far = subst (λ (i : ℕ). pos 0 <ℤ dot (at w) (at w) (at i)) is lies_far in let z = gap_none (at w) in omega (arith, ordered, far, z))

  -- seen from the other end
  pub lies_turned : LiesBetweenEnds at w v y
  lies_turned = record {
    on = (let e = orient2d-first_swapped (at v) (at w) (at y) in let z = lies.on in omega (arith, ordered, e, z));
    inside = subst (λ (z : ℤ). z <ℤ pos 0) (apart_turned (at v) (at w) (at y)) lies.inside;
  }

  -- the parts are shorter
  pub shorter_later : span at y w < span at v w
  shorter_later =
      let is = lies_is in
      let a = is.above in
      let b = is.below in
      let z = at_start (at v) (at w) in
      shorter (at v) (at w) lies_far (gap (at y) (at w)) (gap (at v) (at w)) (part -ℤ whole) (dot (at v) (at w) (at v) -ℤ whole)
      (gap_placed (at v) (at w) lies_far (at y) (at w) lies.on (on_start (at v) (at w)))
      (gap_placed (at v) (at w) lies_far (at v) (at w) (on_end (at v) (at w)) (on_start (at v) (at w)))
      (omega (arith, ordered, b)) (omega (arith, ordered, a, z)) (gap_not_below (at y) (at w))

  pub shorter_sooner : span at v y < span at v w
  shorter_sooner =
      let is = lies_is in
      let a = is.above in
      let b = is.below in
      let z = at_start (at v) (at w) in
      shorter (at v) (at w) lies_far (gap (at v) (at y)) (gap (at v) (at w)) (dot (at v) (at w) (at v) -ℤ part) (dot (at v) (at w) (at v) -ℤ whole)
      (gap_placed (at v) (at w) lies_far (at v) (at y) (on_end (at v) (at w)) lies.on)
      (gap_placed (at v) (at w) lies_far (at v) (at w) (on_end (at v) (at w)) (on_start (at v) (at w)))
      (omega (arith, ordered, a, z)) (omega (arith, ordered, b)) (gap_not_below (at v) (at y))

  -- sides of the parts are sides of the whole
  side_later : (k : Point) → whole *ℤ orient2d_of (at y) (at w) k ≡ (whole -ℤ part) *ℤ orient2d_of (at v) (at w) k
  side_later k = turn_by (at v) (at w) lies_far (at y) (at w) k lies.on (on_start (at v) (at w))

  side_sooner : (k : Point) → whole *ℤ orient2d_of (at v) (at y) k ≡ part *ℤ orient2d_of (at v) (at w) k
  side_sooner k =
      turn_by (at v) (at w) lies_far (at v) (at y) k (on_end (at v) (at w)) lies.on
      ∙ ap (λ i. i *ℤ orient2d_of (at v) (at w) k) (let z = at_start (at v) (at w) in let r : part -ℤ dot (at v) (at w) (at v) ≡ part = omega (arith, ordered, z) in r)

  -- of two equal products of positive numbers and others
  below_both : (n x k z : ℤ) → pos 0 <ℤ n → pos 0 <ℤ k → n *ℤ x ≡ k *ℤ z → x <ℤ pos 0 → z <ℤ pos 0
  below_both n x k z hn hk is less = factor_below k z hk (let t = times_below n x hn less in omega (arith, ordered, is, t))

  above_both : (n x k z : ℤ) → pos 0 <ℤ n → pos 0 <ℤ k → n *ℤ x ≡ k *ℤ z → pos 0 <ℤ x → pos 0 <ℤ z
  above_both n x k z hn hk is more = factor_positive k z hk (let t = times_positive n x hn more in omega (arith, ordered, is, t))

  rest_positive : pos 0 <ℤ (whole -ℤ part)
  rest_positive = (let is = lies_is in let b = is.below in omega (arith, ordered, b))

  pub right_later : (k : Point) → orient2d_of (at y) (at w) k <ℤ pos 0 → orient2d_of (at v) (at w) k <ℤ pos 0
  right_later k = below_both whole (orient2d_of (at y) (at w) k) (whole -ℤ part) (orient2d_of (at v) (at w) k) lies_far rest_positive (side_later k)

  pub left_later : (k : Point) → pos 0 <ℤ orient2d_of (at y) (at w) k → pos 0 <ℤ orient2d_of (at v) (at w) k
  left_later k = above_both whole (orient2d_of (at y) (at w) k) (whole -ℤ part) (orient2d_of (at v) (at w) k) lies_far rest_positive (side_later k)

  pub right_sooner : (k : Point) → orient2d_of (at v) (at y) k <ℤ pos 0 → orient2d_of (at v) (at w) k <ℤ pos 0
  right_sooner k = below_both whole (orient2d_of (at v) (at y) k) part (orient2d_of (at v) (at w) k) lies_far lies_is.above (side_sooner k)

  pub left_sooner : (k : Point) → pos 0 <ℤ orient2d_of (at v) (at y) k → pos 0 <ℤ orient2d_of (at v) (at w) k
  left_sooner k = above_both whole (orient2d_of (at v) (at y) k) part (orient2d_of (at v) (at w) k) lies_far lies_is.above (side_sooner k)

  pub to_right_later : (k : Point) → orient2d_of (at v) (at w) k <ℤ pos 0 → orient2d_of (at y) (at w) k <ℤ pos 0
  to_right_later k = below_both (whole -ℤ part) (orient2d_of (at v) (at w) k) whole (orient2d_of (at y) (at w) k) rest_positive lies_far (sym (side_later k))

  pub to_left_later : (k : Point) → pos 0 <ℤ orient2d_of (at v) (at w) k → pos 0 <ℤ orient2d_of (at y) (at w) k
  to_left_later k = above_both (whole -ℤ part) (orient2d_of (at v) (at w) k) whole (orient2d_of (at y) (at w) k) rest_positive lies_far (sym (side_later k))

  pub to_right_sooner : (k : Point) → orient2d_of (at v) (at w) k <ℤ pos 0 → orient2d_of (at v) (at y) k <ℤ pos 0
  to_right_sooner k = below_both part (orient2d_of (at v) (at w) k) whole (orient2d_of (at v) (at y) k) lies_is.above lies_far (sym (side_sooner k))

  pub to_left_sooner : (k : Point) → pos 0 <ℤ orient2d_of (at v) (at w) k → pos 0 <ℤ orient2d_of (at v) (at y) k
  to_left_sooner k = above_both part (orient2d_of (at v) (at w) k) whole (orient2d_of (at v) (at y) k) lies_is.above lies_far (sym (side_sooner k))

  -- on which side of another line y lies, by the sides of v and w
  pub side_of : (o e : Point) → whole *ℤ orient2d_of o e (at y) ≡ ((whole -ℤ part) *ℤ orient2d_of o e (at v)) +ℤ (part *ℤ orient2d_of o e (at w))
  side_of o e =
      let across = ((e.x -ℤ o.x) *ℤ ((at w).x -ℤ (at v).x)) +ℤ ((e.y -ℤ o.y) *ℤ ((at w).y -ℤ (at v).y)) in
      sums (whole *ℤ orient2d_of o e (at y)) (((whole -ℤ part) *ℤ orient2d_of o e (at v)) +ℤ (part *ℤ orient2d_of o e (at w)))
      (orient2d_of (at v) (at w) (at y) *ℤ across) (side_placed (at v) (at w) o e (at y)) (none_first (orient2d_of (at v) (at w) (at y)) across lies.on)
    where
      sums : (t x y : ℤ) → t ≡ x +ℤ y → y ≡ pos 0 → t ≡ x
      sums t x y is none = omega (arith, ordered, is, none)

  -- a half edge across a part is one across the whole
  pub crosses_later : (s : Shape) (h : ℕ) → Crosses at s y w h → Crosses at s v w h
  crosses_later s h c = record {
    live = c.live;
    right = right_later (at (origin_of s h)) c.right;
    left = left_later (at (end_of s h)) c.left;
    near =
        (let e = side_of (at (origin_of s h)) (at (end_of s h)) in
        let p = times_positive whole (orient2d_of (at (origin_of s h)) (at (end_of s h)) (at y)) lies_far c.near in
        let q = times_below part (orient2d_of (at (origin_of s h)) (at (end_of s h)) (at w)) lies_is.above c.far in
        factor_positive (whole -ℤ part) (orient2d_of (at (origin_of s h)) (at (end_of s h)) (at v)) rest_positive (omega (arith, ordered, e, p, q)));
    far = c.far;
  }

  pub crosses_sooner : (s : Shape) (h : ℕ) → Crosses at s v y h → Crosses at s v w h
  crosses_sooner s h c = record {
    live = c.live;
    right = right_sooner (at (origin_of s h)) c.right;
    left = left_sooner (at (end_of s h)) c.left;
    near = c.near;
    far =
        (let e = side_of (at (origin_of s h)) (at (end_of s h)) in
        let p = times_below whole (orient2d_of (at (origin_of s h)) (at (end_of s h)) (at y)) lies_far c.far in
        let q = times_positive (whole -ℤ part) (orient2d_of (at (origin_of s h)) (at (end_of s h)) (at v)) rest_positive c.near in
        factor_below part (orient2d_of (at (origin_of s h)) (at (end_of s h)) (at w)) lies_is.above (omega (arith, ordered, e, p, q)));
  }

  -- and one across the whole crosses the part on whose side of it y doesn't lie
  pub crosses_before : (s : Shape) (h : ℕ) → Crosses at s v w h → orient2d_of (at (origin_of s h)) (at (end_of s h)) (at y) <ℤ pos 0 → Crosses at s v y h
  crosses_before s h c beyond = record {
    live = c.live;
    right = to_right_sooner (at (origin_of s h)) c.right;
    left = to_left_sooner (at (end_of s h)) c.left;
    near = c.near;
    far = beyond;
  }

  pub crosses_after : (s : Shape) (h : ℕ) → Crosses at s v w h → pos 0 <ℤ orient2d_of (at (origin_of s h)) (at (end_of s h)) (at y) → Crosses at s y w h
  crosses_after s h c before = record {
    live = c.live;
    right = to_right_later (at (origin_of s h)) c.right;
    left = to_left_later (at (end_of s h)) c.left;
    near = before;
    far = c.far;
  }

  pub crosses_parts : (s : Shape) (h : ℕ) → Crosses at s v w h → orient2d_of (at (origin_of s h)) (at (end_of s h)) (at y) ≢ pos 0
      → Crosses at s v y h ⊎ Crosses at s y w h
  crosses_parts s h c not =
      by_lt_z (orient2d_of (at (origin_of s h)) (at (end_of s h)) (at y)) (pos 0) (λ less. inl (crosses_before s h c less))
      (λ nor. by_lt_z (pos 0) (orient2d_of (at (origin_of s h)) (at (end_of s h)) (at y)) (λ more. inr (crosses_after s h c more))
      (λ none. absurd (not (omega (arith, ordered, nor, none)))))

-- on the segment
pub record IsOn (v w p : Point) : Type 0 where
  pub on : orient2d_of v w p ≡ pos 0
  pub above : pos 0 ≤ℤ dot p w v
  pub below : dot p w v ≤ℤ dot w w v

pub is_on : (at : ℕ → Point) (v w a : ℕ) → pos 0 <ℤ dot (at w) (at w) (at v) → LiesOnSegment at v w a → IsOn (at v) (at w) (at a)
is_on at v w a far (inl is) =
    subst (λ (i : ℕ). IsOn (at v) (at w) (at i)) (sym is)
    (let z = dot_start (at w) (at v) in record { on = on_end (at v) (at w); above = omega (arith, ordered, z); below = omega (arith, ordered, z, far) })
is_on at v w a far (inr (inl is)) =
    subst (λ (i : ℕ). IsOn (at v) (at w) (at i)) (sym is)
    (record { on = on_start (at v) (at w); above = omega (arith, ordered, far); below = omega (arith, ordered, far) })
is_on at v w a far (inr (inr lies)) =
    let is = lies_is at v w a lies in
    let p = is.above in
    let q = is.below in
    record { on = lies.on; above = omega (arith, ordered, p); below = omega (arith, ordered, q) }

module _ (at : ℕ → Point) (v w : ℕ) where
  -- what lies between two vertices of the segment
  module _ (a b z : ℕ) (lies : LiesBetweenEnds at a b z) where
    within : pos 0 <ℤ dot (at w) (at w) (at v) → LiesOnSegment at v w a → LiesOnSegment at v w b → LiesBetweenEnds at v w z
    within far on_a on_b =
        let pa = is_on at v w a far on_a in
        let pb = is_on at v w b far on_b in
        let apart = gap_placed (at v) (at w) far (at b) (at a) pb.on pa.on in
        let t = times_positive (dot (at w) (at w) (at v)) (gap (at b) (at a)) far (lies_far at a b z lies) in
        let turn = turn_by (at v) (at w) far (at a) (at b) (at z) pa.on pb.on in
        let none = none_second (dot (at w) (at w) (at v)) (orient2d_of (at a) (at b) (at z)) lies.on in
        let on : orient2d_of (at v) (at w) (at z) ≡ pos 0 =
        factor_zero (dot (at b) (at w) (at v) -ℤ dot (at a) (at w) (at v)) (orient2d_of (at v) (at w) (at z)) (omega (arith, ordered, apart, t)) (sym turn ∙ none) in
        let start = at_start (at v) (at w) in
        let above_a = pa.above in
        let above_b = pb.above in
        let below_a = pa.below in
        let below_b = pb.below in
        record {
          on = on;
          inside = elim (inside_way (at v) (at w) far (at a) (at b) (at z) pa.on pb.on on lies.inside) [
            | inl way ↦
                (let p = way.0 in let q = way.1 in
                inside_up (at v) (at w) far (at v) (at w) (at z) (on_end (at v) (at w)) (on_start (at v) (at w)) on (omega (arith, ordered, p, start, above_a)) (omega (arith, ordered, q, below_b)))
            | inr way ↦
                (let p = way.0 in let q = way.1 in
                inside_up (at v) (at w) far (at v) (at w) (at z) (on_end (at v) (at w)) (on_start (at v) (at w)) on (omega (arith, ordered, p, start, above_b)) (omega (arith, ordered, q, below_a)))
          ];
        }

    pub lies_part : LiesOnSegment at v w a → LiesOnSegment at v w b → LiesBetweenEnds at v w z
    lies_part (inr (inr on_a)) on_b = within (lies_far at v w a on_a) (inr (inr on_a)) on_b
    lies_part (inl is) (inr (inr on_b)) = within (lies_far at v w b on_b) (inl is) (inr (inr on_b))
    lies_part (inr (inl is)) (inr (inr on_b)) = within (lies_far at v w b on_b) (inr (inl is)) (inr (inr on_b))
    lies_part (inl is) (inl js) = absurd (lies_differ at a b z lies (is ∙ sym js))
    lies_part (inr (inl is)) (inr (inl js)) = absurd (lies_differ at a b z lies (is ∙ sym js))
    lies_part (inl is) (inr (inl js)) = subst (λ (i : ℕ). LiesBetweenEnds at i w z) is (subst (λ (i : ℕ). LiesBetweenEnds at a i z) js lies)
    lies_part (inr (inl is)) (inl js) =
        lies_turned at w v z (subst (λ (i : ℕ). LiesBetweenEnds at i v z) is (subst (λ (i : ℕ). LiesBetweenEnds at a i z) js lies))

  pub on_part : (a b z : ℕ) → LiesOnSegment at v w a → LiesOnSegment at v w b → LiesOnSegment at a b z → LiesOnSegment at v w z
  on_part a b z on_a on_b (inl is) = subst (λ (i : ℕ). LiesOnSegment at v w i) (sym is) on_a
  on_part a b z on_a on_b (inr (inl is)) = subst (λ (i : ℕ). LiesOnSegment at v w i) (sym is) on_b
  on_part a b z on_a on_b (inr (inr lies)) = inr (inr (lies_part a b z lies on_a on_b))

  pub lies_later : (y z : ℕ) → LiesBetweenEnds at v w y → LiesBetweenEnds at y w z → LiesBetweenEnds at v w z
  lies_later y z first second = lies_part y w z second (inr (inr first)) (inr (inl refl))

  pub lies_sooner : (y z : ℕ) → LiesBetweenEnds at v w y → LiesBetweenEnds at v y z → LiesBetweenEnds at v w z
  lies_sooner y z first second = lies_part v y z second (inl refl) (inr (inr first))

  -- the nearer one lies between the start and the other one
  pub lies_rest : (y z : ℕ) → LiesBetweenEnds at v w y → LiesBetweenEnds at y w z → LiesBetweenEnds at v z y
  lies_rest y z first second =
      let whole = lies_later y z first second in
      let far = lies_far at v w y first in
      let p = lies_is at v w y first in
      let q = lies_is at v w z whole in
      let start = at_start (at v) (at w) in
      let turn = turn_by (at v) (at w) far (at v) (at z) (at y) (on_end (at v) (at w)) whole.on in
      let none = none_second (dot (at z) (at w) (at v) -ℤ dot (at v) (at w) (at v)) (orient2d_of (at v) (at w) (at y)) first.on in
      let a = p.above in
      let b = p.below in
      elim (inside_way (at v) (at w) far (at y) (at w) (at z) first.on (on_start (at v) (at w)) whole.on second.inside) [
        | inl way ↦
            (let c = way.0 in
            record {
              on = factor_none (dot (at w) (at w) (at v)) (orient2d_of (at v) (at z) (at y)) far (turn ∙ none);
              inside = inside_up (at v) (at w) far (at v) (at z) (at y) (on_end (at v) (at w)) whole.on first.on (omega (arith, ordered, start, a)) c;
            })
        | inr way ↦ absurd (let c = way.0 in let d = way.1 in omega (arith, ordered, b, c, d))
      ]

  -- where a half edge leads along a part, its ends lie on the whole
  pub leads_ends : (s : Shape) (y h : ℕ) → LiesOnSegment at v w y → LeadsAlong at s y w h → LiesOnSegment at v w (origin_of s h) × LiesOnSegment at v w (end_of s h)
  leads_ends s y h on leads = (
    subst (λ (i : ℕ). LiesOnSegment at v w i) (sym leads.from) on,
    on_part y w (end_of s h) on (inr (inl refl)) (inr (elim leads.ahead [
      | inl is ↦ inl is
      | inr less ↦ inr (record { on = leads.on; inside = less })
    ])),
  )

-- and the other way round
pub leads_to : (at : ℕ → Point) (s : Shape) (v w y h : ℕ) → IsLive s h → origin_of s h ≡ v → end_of s h ≡ y → (y ≡ w) ⊎ LiesBetweenEnds at v w y → LeadsAlong at s v w h
leads_to at s v w y h live from to ahead = record {
  live = live;
  from = from;
  on = subst (λ (i : ℕ). orient2d_by at v w i ≡ pos 0) (sym to) (elim ahead [
    | inl is ↦ subst (λ (i : ℕ). orient2d_by at v w i ≡ pos 0) (sym is) (on_start (at v) (at w))
    | inr lies ↦ lies.on
  ]);
  ahead = elim ahead [
    | inl is ↦ inl (to ∙ is)
    | inr lies ↦ inr (subst (λ (i : ℕ). dot (at v) (at w) (at i) <ℤ pos 0) (sym to) lies.inside)
  ];
}

pub leads_ahead : (at : ℕ → Point) (s : Shape) (v w y h : ℕ) → LeadsAlong at s v w h → end_of s h ≡ y → (y ≡ w) ⊎ LiesBetweenEnds at v w y
leads_ahead at s v w y h leads to = elim leads.ahead [
  | inl is ↦ inl (sym to ∙ is)
  | inr less ↦ inr (subst (λ (i : ℕ). LiesBetweenEnds at v w i) to (record { on = leads.on; inside = less }))
]

-- from its end to its end a segment is shortest
pub shorter_end : (at : ℕ → Point) (v w : ℕ) → pos 0 <ℤ dot (at w) (at w) (at v) → span at w w < span at v w
shorter_end at v w far =
    let z = gap_none (at w) in
    let e = gap_turned (at v) (at w) in
    abs_less (gap (at w) (at w)) (gap (at v) (at w)) (omega (arith, ordered, z)) (omega (arith, ordered, z, e, far))
