-- Where two segments cross: what the machine computes of it.
use Rattle.std.proofs.Common.{◌≡◌, ℕ, ◌+◌, ◌*◌, ◌^◌, ◌≤◌, ◌<◌, ℤ, pos, w64, to_z, ◌-◌, ◌+ℤ◌, ◌-ℤ◌, ◌*ℤ◌, ◌<ℤ◌, ◌≤ℤ◌, unsigned_abs, refl, sym, ap, ◌∙◌, subst, arith, inl, inr, [], ◌∷◌}
use Rattle.std.proofs.lemmas.Bool.{cases_lt}
use Rattle.std.proofs.lemmas.Int.{ints, unsigned_abs-mul}
use Rattle.std.proofs.Math.IntN.{pos-*ℤ-pos}
use Rattle.std.proofs.Math.Nat.{mul-le-mul}
use Rattle.dcel_fixed.specs.HalfEdges.{rev}
use Rattle.dcel_fixed.proofs.Halves.{rev-double, rev-rev}
use Rattle.dcel_maps.specs.Shapes.{Mesh, Shape, end_of, origin_of}
use Rattle.dcel_plane.specs.Plane.{point_at}
use Rattle.dcel_plane.specs.segments.Segments.{Crosses}
use Rattle.dcel_regions.specs.declared.mark.Mark.{Mark}
use Rattle.dcel_predicates.specs.declared.point.Point.{Point}
use Rattle.dcel_predicates.specs.Determinants.{orient2d_of}
use Rattle.dcel_predicates.specs.declared.wide.Wide.{Wide}
use Rattle.dcel_predicates.specs.Wide.{number_of}
use Rattle.dcel_predicates.proofs.Integers.{product_within, sum_within}
use Rattle.dcel_predicates.proofs.Machine.{held_64, held_128, in_64, in_128, x_within, y_within}
use Rattle.dcel_predicates.proofs.Ring.{by_terms, minus, num, plus, times, var}
use Rattle.dcel_predicates.proofs.Terms.{orient, spot}
use Rattle.dcel_predicates.proofs.Sums.{widened, widened_is}
use Rattle.dcel_constrained.specs.Intersections.{CrossesEdgeAt, CrossesOver, IsCrossing, IsNearest, LiesAlong}
use Rattle.dcel_constrained.specs.declared.crossing.Crossing.{Crossing}

-- a quotient and its rest, of a part of s
module _ (q w r s t : ℕ) (is : q * w + r ≡ s * t) (part : t ≤ w) where
  pub part_below : 0 < w → q ≤ s
  part_below some = elim (cases_lt s q) [
    | inr below ↦ below
    | inl above ↦
        (let a : (s + 1) * w ≤ q * w = mul-le-mul (omega (arith, above)) (omega arith) in
        let b : s * t ≤ s * w = mul-le-mul (omega arith) part in
        absurd (omega (arith, a, b, is, some)))
  ]

  pub part_less : 0 < r → q < s
  part_less some = elim (cases_lt q s) [
    | inl below ↦ below
    | inr above ↦
        (let a : s * w ≤ q * w = mul-le-mul above (omega arith) in
        let b : s * t ≤ s * w = mul-le-mul (omega arith) part in
        absurd (omega (arith, a, b, is, some)))
  ]

-- in whole numbers
module _ (q w r : ℕ) (step along weight : ℤ) (least : pos 0 ≤ℤ step) (after : pos 0 <ℤ along) (before : along <ℤ weight) (is_w : w ≡ unsigned_abs weight)
    (is : (pos q *ℤ pos w) +ℤ pos r ≡ step *ℤ along) where
  in_naturals : q * w + r ≡ unsigned_abs step * unsigned_abs along
  in_naturals =
      let a = ap unsigned_abs (ap (λ (z : ℤ). z +ℤ pos r) (sym (pos-*ℤ-pos q w)) ∙ is) in
      let b : unsigned_abs (pos (q * w) +ℤ pos r) ≡ q * w + r = omega (arith, ints) in
      sym b ∙ a ∙ unsigned_abs-mul step along

  part : unsigned_abs along ≤ w
  part = omega (arith, ints, is_w, after, before)

  times_pos : pos q *ℤ weight ≡ pos (q * w)
  times_pos = ap (λ (z : ℤ). pos q *ℤ z) (let e : weight ≡ pos w = omega (arith, ints, is_w, after, before) in e) ∙ pos-*ℤ-pos q w

  step_is : step *ℤ along ≡ pos (q * w + r)
  step_is = sym is ∙ ap (λ (z : ℤ). z +ℤ pos r) (pos-*ℤ-pos q w)

  pub whole_below : q ≤ unsigned_abs step
  whole_below = part_below q w r (unsigned_abs step) (unsigned_abs along) in_naturals part (omega (arith, ints, is_w, after, before))

  pub whole_less : r < w → w ≤ r + r → q < unsigned_abs step
  whole_less less half = part_less q w r (unsigned_abs step) (unsigned_abs along) in_naturals part (omega (arith, less, half))

  pub down_nearest : r + r < w → IsNearest (pos q) (step *ℤ along) weight
  down_nearest half = rw (times_pos, step_is) (omega (arith, ints, is_w, half))

  pub up_nearest : r < w → w ≤ r + r → IsNearest (pos (q + 1)) (step *ℤ along) weight
  up_nearest less half =
      let more : (q + 1) * w ≡ q * w + w = omega arith in
      rw (once_more, step_is) (omega (arith, ints, is_w, half, less, more))
    where
      once_more : pos (q + 1) *ℤ weight ≡ pos ((q + 1) * w)
      once_more = ap (λ (z : ℤ). pos (q + 1) *ℤ z) (let e : weight ≡ pos w = omega (arith, ints, is_w, after, before) in e) ∙ pos-*ℤ-pos (q + 1) w

-- a number below 2^56 is its lowest digit
low_alone : (h m l s : ℕ) → h * 2 ^ 112 + (m * 2 ^ 56 + l) ≤ s → s ≤ 2 ^ 54 → l ≡ h * 2 ^ 112 + (m * 2 ^ 56 + l)
low_alone h m l s below small = omega (arith, below, small)

-- as the machine has them
module _ (step along weight : ℤ) (least : pos 0 ≤ℤ step) (most : step ≤ℤ pos (2 ^ 54)) (after : pos 0 <ℤ along) (before : along <ℤ weight) (bound : unsigned_abs weight ≤ 2 ^ 109)
    (w r : ℕ) (product size quotient : Wide) (is_w : w ≡ unsigned_abs (in_128 weight)) (multiplied : number_of product ≡ widened step *ℤ in_128 along)
    (positive : number_of size ≡ pos (unsigned_abs (number_of product))) (divided : (number_of quotient *ℤ pos w) +ℤ pos r ≡ number_of size) (high : pos 0 ≤ℤ quotient.high) where
  whole : ℕ
  whole = unsigned_abs quotient.high * 2 ^ 112 + (quotient.middle * 2 ^ 56 + quotient.low)

  whole_is : number_of quotient ≡ pos whole
  unfolding whole
  whole_is =
      let h : quotient.high ≡ pos (unsigned_abs quotient.high) = omega (arith, ints, high) in
      ap (λ (z : ℤ). (z *ℤ pos (2 ^ 112)) +ℤ pos (quotient.middle * 2 ^ 56 + quotient.low)) h
      ∙ ap (λ (z : ℤ). z +ℤ pos (quotient.middle * 2 ^ 56 + quotient.low)) (pos-*ℤ-pos (unsigned_abs quotient.high) (2 ^ 112))
      ∙ joined (unsigned_abs quotient.high * 2 ^ 112) (quotient.middle * 2 ^ 56 + quotient.low)
    where
      joined : (m n : ℕ) → pos m +ℤ pos n ≡ pos (m + n)
      joined m n = omega (arith, ints)

  weight_is : w ≡ unsigned_abs weight
  weight_is = is_w ∙ ap unsigned_abs (held_128 weight (omega (arith, bound)))

  product_is : number_of product ≡ step *ℤ along
  product_is = multiplied ∙ rw (widened_is step (omega (arith, ints, least, most)), held_128 along (omega (arith, ints, after, before, bound))) refl

  unsigned_product : pos (unsigned_abs (step *ℤ along)) ≡ step *ℤ along
  unsigned_product =
      let s : step ≡ pos (unsigned_abs step) = omega (arith, ints, least) in
      let t : along ≡ pos (unsigned_abs along) = omega (arith, ints, after) in
      let e : step *ℤ along ≡ pos (unsigned_abs step * unsigned_abs along) =
      ap (λ (z : ℤ). z *ℤ along) s ∙ ap (λ (z : ℤ). pos (unsigned_abs step) *ℤ z) t ∙ pos-*ℤ-pos (unsigned_abs step) (unsigned_abs along) in
      subst (λ (z : ℤ). pos (unsigned_abs z) ≡ z) (sym e) refl

  is : (pos whole *ℤ pos w) +ℤ pos r ≡ step *ℤ along
  is =
      ap (λ (z : ℤ). (z *ℤ pos w) +ℤ pos r) (sym whole_is) ∙ divided ∙ positive ∙ ap (λ (z : ℤ). pos (unsigned_abs z)) product_is ∙ unsigned_product

  low_is : quotient.low ≡ whole
  unfolding whole
  low_is =
      let below = whole_below whole w r step along weight least after before weight_is is in
      low_alone (unsigned_abs quotient.high) quotient.middle quotient.low (unsigned_abs step) below (omega (arith, ints, least, most))

  low_held : to_z w64 quotient.low ≡ pos whole
  low_held =
      let below = whole_below whole w r step along weight least after before weight_is is in
      let low = low_is in
      omega (arith, ints, below, least, most, low)

  next_held : in_64 (to_z w64 quotient.low +ℤ pos 1) ≡ pos (whole + 1)
  next_held =
      let below = whole_below whole w r step along weight least after before weight_is is in
      rw low_held (omega (arith, ints, below, least, most))

  pub rounded_down : r < w - r → IsNearest (to_z w64 quotient.low) (step *ℤ along) weight
  rounded_down half = rw low_held (down_nearest whole w r step along weight least after before weight_is is (omega (arith, half)))

  pub down_within : to_z w64 quotient.low ≤ℤ step
  down_within = rw low_held (let below = whole_below whole w r step along weight least after before weight_is is in omega (arith, ints, below, least))

  pub rounded_up : r < w → w - r ≤ r → IsNearest (in_64 (to_z w64 quotient.low +ℤ pos 1)) (step *ℤ along) weight
  rounded_up less half = rw next_held (up_nearest whole w r step along weight least after before weight_is is less (omega (arith, less, half)))

  pub up_least : pos 0 ≤ℤ in_64 (to_z w64 quotient.low +ℤ pos 1)
  up_least = rw next_held (omega (arith, ints))

  pub up_within : r < w → w - r ≤ r → in_64 (to_z w64 quotient.low +ℤ pos 1) ≤ℤ step
  up_within less half =
      rw next_held
      (let below = whole_less whole w r step along weight least after before weight_is is less (omega (arith, less, half)) in omega (arith, ints, below, least))

-- differences of coordinates
pub apart_held : (x y : ℤ) → unsigned_abs x ≤ 2 ^ 53 → unsigned_abs y ≤ 2 ^ 53 → in_64 (in_64 x -ℤ in_64 y) ≡ x -ℤ y
apart_held x y hx hy = omega (arith, ints)

-- from a coordinate on
module _ (from to along weight r : ℤ) (hf : unsigned_abs from ≤ 2 ^ 53) (ht : unsigned_abs to ≤ 2 ^ 53) (after : pos 0 <ℤ along) (before : along <ℤ weight) (bound : unsigned_abs weight ≤ 2 ^ 109)
    (least : pos 0 ≤ℤ r) where
  plain : (n d : ℤ) → IsNearest n (d *ℤ in_128 along) (in_128 weight) → IsNearest n (d *ℤ along) weight
  plain n d near =
      subst (λ (z : ℤ). IsNearest n (d *ℤ along) z) (held_128 weight (omega (arith, bound)))
      (subst (λ (z : ℤ). IsNearest n (d *ℤ z) (in_128 weight)) (held_128 along (omega (arith, ints, after, before, bound))) near)

  module _ (near : IsNearest r (in_64 (in_64 from -ℤ in_64 to) *ℤ in_128 along) (in_128 weight)) (most : r ≤ℤ in_64 (in_64 from -ℤ in_64 to)) where
    most_down : r ≤ℤ (from -ℤ to)
    most_down = subst (λ (z : ℤ). r ≤ℤ z) (apart_held from to hf ht) most

    down_held : in_64 (in_64 from -ℤ in_64 r) ≡ from -ℤ r
    down_held = omega (arith, ints, most_down, least, hf, ht)

    pub back_nearest : IsNearest (in_64 (in_64 from -ℤ in_64 r)) ((from *ℤ weight) +ℤ ((to -ℤ from) *ℤ along)) weight
    back_nearest =
        let k : IsNearest r ((from -ℤ to) *ℤ along) weight = subst (λ (z : ℤ). IsNearest r (z *ℤ along) weight) (apart_held from to hf ht) (plain r (in_64 (in_64 from -ℤ in_64 to)) near) in
        rw (down_held, same) (omega (arith, ints, k))
      where
        same : ((from -ℤ r) *ℤ weight) -ℤ ((from *ℤ weight) +ℤ ((to -ℤ from) *ℤ along)) ≡ pos 0 -ℤ ((r *ℤ weight) -ℤ ((from -ℤ to) *ℤ along))
        same =
            by_terms (from ∷ to ∷ along ∷ weight ∷ r ∷ [])
            (minus (times (minus (var 0) (var 4)) (var 3)) (plus (times (var 0) (var 3)) (times (minus (var 1) (var 0)) (var 2))))
            (minus (num (pos 0)) (minus (times (var 4) (var 3)) (times (minus (var 0) (var 1)) (var 2)))) refl

    pub back_within : unsigned_abs (in_64 (in_64 from -ℤ in_64 r)) ≤ 2 ^ 53
    back_within = rw down_held (omega (arith, ints, most_down, least, hf, ht))

  module _ (near : IsNearest r (in_64 (in_64 to -ℤ in_64 from) *ℤ in_128 along) (in_128 weight)) (most : r ≤ℤ in_64 (in_64 to -ℤ in_64 from)) where
    most_up : r ≤ℤ (to -ℤ from)
    most_up = subst (λ (z : ℤ). r ≤ℤ z) (apart_held to from ht hf) most

    up_held : in_64 (in_64 from +ℤ in_64 r) ≡ from +ℤ r
    up_held = omega (arith, ints, most_up, least, hf, ht)

    pub forth_nearest : IsNearest (in_64 (in_64 from +ℤ in_64 r)) ((from *ℤ weight) +ℤ ((to -ℤ from) *ℤ along)) weight
    forth_nearest =
        let k : IsNearest r ((to -ℤ from) *ℤ along) weight = subst (λ (z : ℤ). IsNearest r (z *ℤ along) weight) (apart_held to from ht hf) (plain r (in_64 (in_64 to -ℤ in_64 from)) near) in
        rw (up_held, same) k
      where
        same : ((from +ℤ r) *ℤ weight) -ℤ ((from *ℤ weight) +ℤ ((to -ℤ from) *ℤ along)) ≡ (r *ℤ weight) -ℤ ((to -ℤ from) *ℤ along)
        same =
            by_terms (from ∷ to ∷ along ∷ weight ∷ r ∷ [])
            (minus (times (plus (var 0) (var 4)) (var 3)) (plus (times (var 0) (var 3)) (times (minus (var 1) (var 0)) (var 2))))
            (minus (times (var 4) (var 3)) (times (minus (var 1) (var 0)) (var 2))) refl

    pub forth_within : unsigned_abs (in_64 (in_64 from +ℤ in_64 r)) ≤ 2 ^ 53
    forth_within = rw up_held (omega (arith, ints, most_up, least, hf, ht))

-- a coordinate, times the weight
pub coordinate_is : (from to along weight x y z : ℤ) → unsigned_abs from ≤ 2 ^ 53 → unsigned_abs to ≤ 2 ^ 53 → unsigned_abs along ≤ 2 ^ 109 → unsigned_abs weight ≤ 2 ^ 109
    → x ≡ widened from *ℤ in_128 weight → y ≡ in_128 (in_64 (in_64 to -ℤ in_64 from)) *ℤ in_128 along → z ≡ x +ℤ y → z ≡ (from *ℤ weight) +ℤ ((to -ℤ from) *ℤ along)
coordinate_is from to along weight x y z hf ht ha hw ex ey ez =
    ez ∙ ap (λ (k : ℤ). k +ℤ y) (ex ∙ rw (widened_is from (omega (arith, hf)), held_128 weight (omega (arith, hw))) refl)
    ∙ ap (λ (k : ℤ). (from *ℤ weight) +ℤ k) (ey ∙ rw (apart_held to from ht hf, held_128 (to -ℤ from) (omega (arith, ints, hf, ht)), held_128 along (omega (arith, ha))) refl)

-- the lines through a and b and through c and d have a place in common
module _ (a b c d : Point) where
  across_both : (a.x *ℤ (orient2d_of c d a -ℤ orient2d_of c d b)) +ℤ ((b.x -ℤ a.x) *ℤ orient2d_of c d a)
      ≡ (c.x *ℤ (orient2d_of c d a -ℤ orient2d_of c d b)) +ℤ ((d.x -ℤ c.x) *ℤ (pos 0 -ℤ orient2d_of a b c))
  across_both =
      by_terms (a.x ∷ a.y ∷ b.x ∷ b.y ∷ c.x ∷ c.y ∷ d.x ∷ d.y ∷ [])
      (plus (times (var 0) (minus (orient (spot 2) (spot 3) (spot 0)) (orient (spot 2) (spot 3) (spot 1)))) (times (minus (var 2) (var 0)) (orient (spot 2) (spot 3) (spot 0))))
      (plus (times (var 4) (minus (orient (spot 2) (spot 3) (spot 0)) (orient (spot 2) (spot 3) (spot 1)))) (times (minus (var 6) (var 4)) (minus (num (pos 0)) (orient (spot 0) (spot 1) (spot 2)))))
      refl

  up_both : (a.y *ℤ (orient2d_of c d a -ℤ orient2d_of c d b)) +ℤ ((b.y -ℤ a.y) *ℤ orient2d_of c d a)
      ≡ (c.y *ℤ (orient2d_of c d a -ℤ orient2d_of c d b)) +ℤ ((d.y -ℤ c.y) *ℤ (pos 0 -ℤ orient2d_of a b c))
  up_both =
      by_terms (a.x ∷ a.y ∷ b.x ∷ b.y ∷ c.x ∷ c.y ∷ d.x ∷ d.y ∷ [])
      (plus (times (var 1) (minus (orient (spot 2) (spot 3) (spot 0)) (orient (spot 2) (spot 3) (spot 1)))) (times (minus (var 3) (var 1)) (orient (spot 2) (spot 3) (spot 0))))
      (plus (times (var 5) (minus (orient (spot 2) (spot 3) (spot 0)) (orient (spot 2) (spot 3) (spot 1)))) (times (minus (var 7) (var 5)) (minus (num (pos 0)) (orient (spot 0) (spot 1) (spot 2)))))
      refl

  weights : orient2d_of c d a -ℤ orient2d_of c d b ≡ orient2d_of a b d -ℤ orient2d_of a b c
  weights =
      by_terms (a.x ∷ a.y ∷ b.x ∷ b.y ∷ c.x ∷ c.y ∷ d.x ∷ d.y ∷ [])
      (minus (orient (spot 2) (spot 3) (spot 0)) (orient (spot 2) (spot 3) (spot 1)))
      (minus (orient (spot 0) (spot 1) (spot 3)) (orient (spot 0) (spot 1) (spot 2)))
      refl

  pub is_crossing : CrossesOver a b c d → (p : Crossing) → unsigned_abs p.weight ≤ 2 ^ 109 → unsigned_abs p.along ≤ 2 ^ 108 → p.along ≡ orient2d_of c d a → p.weight ≡ orient2d_of c d a -ℤ orient2d_of c d b
      → number_of p.x ≡ (a.x *ℤ p.weight) +ℤ ((b.x -ℤ a.x) *ℤ p.along) → number_of p.y ≡ (a.y *ℤ p.weight) +ℤ ((b.y -ℤ a.y) *ℤ p.along)
      → IsNearest p.nearest.x (number_of p.x) p.weight → IsNearest p.nearest.y (number_of p.y) p.weight → IsCrossing a b c d p
  is_crossing over p small_w small_t is_t is_w is_x is_y near_x near_y = record {
    first = record {
      after = subst (λ (z : ℤ). pos 0 <ℤ z) (sym is_t) over.near;
      before = rw (is_t, is_w) (less_apart (orient2d_of c d a) (orient2d_of c d b) over.far);
      across = is_x;
      up = is_y;
    };
    second = (
      pos 0 -ℤ orient2d_of a b c,
      record {
        after = above_none (orient2d_of a b c) over.right;
        before = rw (is_w, weights) (none_less (orient2d_of a b d) (orient2d_of a b c) over.left);
        across = is_x ∙ rw (is_t, is_w) across_both;
        up = is_y ∙ rw (is_t, is_w) up_both;
      },
    );
    nearest_x = near_x;
    nearest_y = near_y;
    x_bound = subst (λ (z : ℤ). unsigned_abs z ≤ 2 ^ 165) (sym is_x) (within a.x b.x p.weight p.along (let h = a.x_in_range in omega (arith, h)) (x_within b a) small_w small_t);
    y_bound = subst (λ (z : ℤ). unsigned_abs z ≤ 2 ^ 165) (sym is_y) (within a.y b.y p.weight p.along (let h = a.y_in_range in omega (arith, h)) (y_within b a) small_w small_t);
    weight_bound = small_w;
  }
    where
      within : (f t w u : ℤ) → unsigned_abs f ≤ 2 ^ 53 → unsigned_abs (t -ℤ f) ≤ 2 ^ 54 → unsigned_abs w ≤ 2 ^ 109 → unsigned_abs u ≤ 2 ^ 108 → unsigned_abs ((f *ℤ w) +ℤ ((t -ℤ f) *ℤ u)) ≤ 2 ^ 165
      within f t w u hf hs hw hu =
          let k = sum_within (f *ℤ w) ((t -ℤ f) *ℤ u) (2 ^ 53 * 2 ^ 109) (2 ^ 54 * 2 ^ 108) (product_within f w (2 ^ 53) (2 ^ 109) hf hw) (product_within (t -ℤ f) u (2 ^ 54) (2 ^ 108) hs hu) in
          omega (arith, k)

      less_apart : (x y : ℤ) → y <ℤ pos 0 → x <ℤ (x -ℤ y)
      less_apart x y less = omega (arith, ints, less)

      above_none : (x : ℤ) → x <ℤ pos 0 → pos 0 <ℤ (pos 0 -ℤ x)
      above_none x less = omega (arith, ints, less)

      none_less : (x y : ℤ) → pos 0 <ℤ x → (pos 0 -ℤ y) <ℤ (x -ℤ y)
      none_less x y less = omega (arith, ints, less)

-- the numbers of both
module _ (o p : ℤ) (ho : unsigned_abs o ≤ 2 ^ 108) (hp : unsigned_abs p ≤ 2 ^ 108) where
  pub along_held : in_128 o ≡ o
  along_held = held_128 o (omega (arith, ho))

  pub weight_held : in_128 (in_128 o -ℤ in_128 p) ≡ o -ℤ p
  weight_held = rw (along_held, held_128 p (omega (arith, hp))) (held_128 (o -ℤ p) (omega (arith, ints, ho, hp)))

  pub weight_within : unsigned_abs (in_128 (in_128 o -ℤ in_128 p)) ≤ 2 ^ 109
  weight_within = rw weight_held (omega (arith, ints, ho, hp))

  pub along_within : unsigned_abs (in_128 o) ≤ 2 ^ 108
  along_within = rw along_held ho

  pub weight_above : p <ℤ pos 0 → in_128 o <ℤ in_128 (in_128 o -ℤ in_128 p)
  weight_above less = rw (weight_held, along_held) (omega (arith, ints, less))

-- a coordinate of a point, as the machine holds it
module _ (a b : Point) (w t : ℤ) where
  pub x_plain : (in_64 a.x *ℤ w) +ℤ ((in_64 b.x -ℤ in_64 a.x) *ℤ t) ≡ (a.x *ℤ w) +ℤ ((b.x -ℤ a.x) *ℤ t)
  x_plain = rw (held_64 a.x (let h = a.x_in_range in omega (arith, h)), held_64 b.x (let h = b.x_in_range in omega (arith, h))) refl

  pub y_plain : (in_64 a.y *ℤ w) +ℤ ((in_64 b.y -ℤ in_64 a.y) *ℤ t) ≡ (a.y *ℤ w) +ℤ ((b.y -ℤ a.y) *ℤ t)
  y_plain = rw (held_64 a.y (let h = a.y_in_range in omega (arith, h)), held_64 b.y (let h = b.y_in_range in omega (arith, h))) refl

pub nearest_held : (n x z w : ℤ) → unsigned_abs n ≤ 2 ^ 53 → IsNearest n x w → z ≡ x → IsNearest (in_64 n) z w
nearest_held n x z w small near is = rw (held_64 n (omega (arith, small)), is) near

-- the other way along a segment
along_back : (c d : Point) (t w x y : ℤ) → LiesAlong c d t w x y → LiesAlong d c (w -ℤ t) w x y
along_back c d t w x y lies = record {
  after = above t w lies.before;
  before = below t w lies.after;
  across = lies.across ∙ by_terms (c.x ∷ d.x ∷ t ∷ w ∷ []) (plus (times (var 0) (var 3)) (times (minus (var 1) (var 0)) (var 2)))
      (plus (times (var 1) (var 3)) (times (minus (var 0) (var 1)) (minus (var 3) (var 2)))) refl;
  up = lies.up ∙ by_terms (c.y ∷ d.y ∷ t ∷ w ∷ []) (plus (times (var 0) (var 3)) (times (minus (var 1) (var 0)) (var 2)))
      (plus (times (var 1) (var 3)) (times (minus (var 0) (var 1)) (minus (var 3) (var 2)))) refl;
}
  where
    above : (t w : ℤ) → t <ℤ w → pos 0 <ℤ (w -ℤ t)
    above t w less = omega (arith, ints, less)

    below : (t w : ℤ) → pos 0 <ℤ t → (w -ℤ t) <ℤ w
    below t w more = omega (arith, ints, more)

crossing_back : (a b c d : Point) (p : Crossing) → IsCrossing a b c d p → IsCrossing a b d c p
crossing_back a b c d p is = record {
  first = is.first;
  second = (p.weight -ℤ is.second.0, along_back c d is.second.0 p.weight (number_of p.x) (number_of p.y) is.second.1);
  nearest_x = is.nearest_x;
  nearest_y = is.nearest_y;
  x_bound = is.x_bound;
  y_bound = is.y_bound;
  weight_bound = is.weight_bound;
}

-- points under other names
pub named_over : (at : ℕ → Point) (s : Shape) (v w h : ℕ) (a b c d : Point) → a ≡ at v → b ≡ at w → c ≡ at (origin_of s h) → d ≡ at (end_of s h) → Crosses at s v w h → CrossesOver a b c d
named_over at s v w h a b c d is_a is_b is_c is_d crosses = record {
  right = rw (is_a, is_b, is_c) crosses.right;
  left = rw (is_a, is_b, is_d) crosses.left;
  near = rw (is_c, is_d, is_a) crosses.near;
  far = rw (is_c, is_d, is_b) crosses.far;
}

pub named_place : {a b c d a' b' c' d' : Point} (p : Crossing) → a ≡ a' → b ≡ b' → c ≡ c' → d ≡ d' → IsCrossing a b c d p → IsCrossing a' b' c' d' p
named_place {a} {b} {c} {d} {a'} {b'} {c'} {d'} p is_a is_b is_c is_d is =
    subst (λ (k : Point). IsCrossing k b' c' d' p) is_a
    (subst (λ (k : Point). IsCrossing a k c' d' p) is_b (subst (λ (k : Point). IsCrossing a b k d' p) is_c (subst (λ (k : Point). IsCrossing a b c k p) is_d is)))

-- by the half edges of an edge
module _ {DE F : Type 0} (m : Mesh Point DE Mark F) (v w u h : ℕ) where
  pub at_edge : (p : Crossing) → h ≡ 2 * u → IsCrossing (point_at m v) (point_at m w) (point_at m (origin_of m.shape h)) (point_at m (end_of m.shape h)) p → CrossesEdgeAt m v w u p
  at_edge p is =
      named_place p refl refl (ap (λ (i : ℕ). point_at m (origin_of m.shape i)) is)
      (ap (λ (i : ℕ). point_at m (origin_of m.shape i)) (ap rev is ∙ rev-double u))

  pub at_edge_back : (k : ℕ) (p : Crossing) → h ≡ 2 * u → k ≡ rev h
      → IsCrossing (point_at m v) (point_at m w) (point_at m (origin_of m.shape k)) (point_at m (end_of m.shape k)) p → CrossesEdgeAt m v w u p
  at_edge_back k p is back crossing =
      at_edge p is
      (crossing_back (point_at m v) (point_at m w) (point_at m (end_of m.shape h)) (point_at m (origin_of m.shape h)) p
      (named_place p refl refl (ap (λ (i : ℕ). point_at m (origin_of m.shape i)) back)
      (ap (λ (i : ℕ). point_at m (origin_of m.shape i)) (ap rev back ∙ rev-rev h)) crossing))
