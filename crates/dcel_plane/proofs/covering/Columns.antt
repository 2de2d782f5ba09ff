-- Which sides of a triangle pass above a place: those that lead to the right are fewer than those that lead to the left just where the place
-- lies in the triangle.
use Rattle.std.specs.Prelude.{int_lt}
use Rattle.std.proofs.Common.{◌≡◌, ◌⊎◌, inl, inr, ℕ, ◌+◌, ◌≤◌, Bool, true, false, [], ◌∷◌, ℤ, pos, ◌+ℤ◌, ◌-ℤ◌, ◌*ℤ◌, ◌<ℤ◌, ◌≤ℤ◌, refl, sym, ap, ◌∙◌, subst, arith}
use Rattle.std.proofs.lemmas.Int.{by_lt_z, ints}
use Rattle.std.proofs.Math.IntN.{*ℤ_comm, *ℤ-zero}
use Rattle.dcel_predicates.specs.Determinants.{orient2d_of}
use Rattle.dcel_predicates.specs.declared.point.Point.{Point}
use Rattle.dcel_predicates.proofs.Integers.{mul_sub}
use Rattle.dcel_predicates.proofs.Points.{orient2d-turned}
use Rattle.dcel_predicates.proofs.Ring.{by_terms, minus, num, plus, times as by, var}
use Rattle.dcel_predicates.proofs.Signs.{both_negative, factor_positive, ordered, times, times_positive}
use Rattle.dcel_predicates.proofs.Terms.{orient, orient_in, place, spot}
use Rattle.dcel_plane.specs.covering.Places.{IsStrictlyIn, Place, orient_at}
use Rattle.dcel_plane.proofs.covering.Inside.{other_way}
use Rattle.dcel_plane.proofs.covering.Products.{below_times, times_below, zero_factor}

abbrev pub hit_of : Bool → Bool → Bool → ℕ
hit_of true u v = 0
hit_of false false v = 0
hit_of false true false = 0
hit_of false true true = 1

-- 1 where the segment from a to b leads to the right and passes above the place
abbrev pub hit : Point → Point → Place → ℕ
hit a b p = hit_of (int_lt p.x (p.w *ℤ a.x)) (int_lt p.x (p.w *ℤ b.x)) (int_lt (orient_at a b p) (pos 0))

pub record IsHit (a b : Point) (p : Place) : Type 0 where
  pub starts : (p.w *ℤ a.x) ≤ℤ p.x
  pub ends : p.x <ℤ (p.w *ℤ b.x)
  pub below : orient_at a b p <ℤ pos 0

module _ (a b : Point) (p : Place) where
  abbrev Says : Type 0
  Says = ((hit a b p ≡ 1) × IsHit a b p) ⊎ ((hit a b p ≡ 0) × ¬ IsHit a b p)

  decided : (t u v : Bool) → int_lt p.x (p.w *ℤ a.x) ≡ t → int_lt p.x (p.w *ℤ b.x) ≡ u → int_lt (orient_at a b p) (pos 0) ≡ v → Says
  decided true u v e f g = inr (ap (λ t. hit_of t (int_lt p.x (p.w *ℤ b.x)) (int_lt (orient_at a b p) (pos 0))) e, λ h. let s = h.starts in omega (arith, ints))
  decided false false v e f g =
      inr (
        ap (λ t. hit_of t (int_lt p.x (p.w *ℤ b.x)) (int_lt (orient_at a b p) (pos 0))) e ∙ ap (λ t. hit_of false t (int_lt (orient_at a b p) (pos 0))) f,
        λ h. let s = h.ends in omega (arith, ints),
      )
  decided false true false e f g =
      inr (
        ap (λ t. hit_of t (int_lt p.x (p.w *ℤ b.x)) (int_lt (orient_at a b p) (pos 0))) e ∙ ap (λ t. hit_of false t (int_lt (orient_at a b p) (pos 0))) f ∙ ap (λ t. hit_of false true t) g,
        λ h. let s = h.below in omega (arith, ints),
      )
  decided false true true e f g =
      inl (
        ap (λ t. hit_of t (int_lt p.x (p.w *ℤ b.x)) (int_lt (orient_at a b p) (pos 0))) e ∙ ap (λ t. hit_of false t (int_lt (orient_at a b p) (pos 0))) f ∙ ap (λ t. hit_of false true t) g,
        record { starts = omega (arith, ints); ends = omega (arith, ints); below = omega (arith, ints) },
      )

  pub hit_says : Says
  hit_says = decided (int_lt p.x (p.w *ℤ a.x)) (int_lt p.x (p.w *ℤ b.x)) (int_lt (orient_at a b p) (pos 0)) refl refl refl

  pub hit_none : ¬ IsHit a b p → hit a b p ≡ 0
  hit_none not = elim hit_says [ inl hits ↦ absurd (not hits.1) | inr misses ↦ misses.0 ]

  pub hit_one : IsHit a b p → hit a b p ≡ 1
  hit_one is = elim hit_says [ inl hits ↦ hits.0 | inr misses ↦ absurd (misses.1 is) ]

  pub hit_most : hit a b p ≤ 1
  hit_most = elim hit_says [ inl hits ↦ (let e = hits.0 in omega (arith, e)) | inr misses ↦ (let e = misses.0 in omega (arith, e)) ]

hit_compare : (a b c d : Point) (p : Place) → (IsHit a b p → IsHit c d p) → hit a b p ≤ hit c d p
hit_compare a b c d p along = elim (hit_says a b p) [
  | inl hits ↦ (let e = hit_one c d p (along hits.1) in let f = hits.0 in omega (arith, e, f))
  | inr misses ↦ (let f = misses.0 in omega (arith, f))
]

late : (a b : Point) (p : Place) → p.x <ℤ (p.w *ℤ a.x) → hit a b p ≡ 0
late a b p right = hit_none a b p (λ h. let s = h.starts in omega (arith, ordered, s, right))

early : (a b : Point) (p : Place) → (p.w *ℤ b.x) ≤ℤ p.x → hit a b p ≡ 0
early a b p left = hit_none a b p (λ h. let s = h.ends in omega (arith, ordered, s, left))

-- the sides of a triangle
pub record IsPassed (a b c : Point) (p : Place) : Type 0 where
  pub most : hit a b p + hit b c p + hit c a p ≤ hit b a p + hit c b p + hit a c p
  pub gains : IsStrictlyIn a b c p → hit a b p + hit b c p + hit c a p + 1 ≤ hit b a p + hit c b p + hit a c p

passed_turned : (a b c : Point) (p : Place) → IsPassed b c a p → IsPassed a b c p
passed_turned a b c p h = record {
  most = let m = h.most in omega (arith, m);
  gains = λ inside. let g = h.gains (inside.1, inside.2, inside.0) in omega (arith, g);
}

negative_first : (x y : ℤ) → pos 0 <ℤ y → (x *ℤ y) <ℤ pos 0 → x <ℤ pos 0
negative_first x y more less = by_lt_z x (pos 0) (λ is. is) (λ not. absurd (let t = times x y not (omega (arith, ordered)) in omega (arith, ordered, t)))

positive_first : (x y : ℤ) → y <ℤ pos 0 → (x *ℤ y) <ℤ pos 0 → pos 0 <ℤ x
positive_first x y more less = by_lt_z (pos 0) x (λ is. is) (λ not. absurd (let t = both_negative x y not (omega (arith, ordered)) in omega (arith, ordered, t)))

-- w * b against w * a
pub apart_columns : (w a b : ℤ) → pos 0 <ℤ w → (w *ℤ a) <ℤ (w *ℤ b) → pos 0 <ℤ (b -ℤ a)
apart_columns w a b more less = factor_positive w (b -ℤ a) more (let e = mul_sub w b a in omega (arith, ordered, e, less))

module _ (a b c : Point) (p : Place) (turn : pos 0 <ℤ orient2d_of a b c) where
  slopes : (orient_at a c p *ℤ (b.x -ℤ a.x)) ≡ (orient_at a b p *ℤ (c.x -ℤ a.x)) -ℤ (orient2d_of a b c *ℤ (p.x -ℤ (p.w *ℤ a.x)))
  slopes =
      by_terms (a.x ∷ a.y ∷ b.x ∷ b.y ∷ c.x ∷ c.y ∷ p.x ∷ p.y ∷ p.w ∷ []) (by (orient_in (spot 0) (spot 2) (place 6)) (minus (spot 1).x (spot 0).x))
      (minus (by (orient_in (spot 0) (spot 1) (place 6)) (minus (spot 2).x (spot 0).x))
      (by (orient (spot 0) (spot 1) (spot 2)) (minus (place 6).x (by (place 6).w (spot 0).x)))) refl

  balance : ((orient_at b c p *ℤ (p.x -ℤ (p.w *ℤ a.x))) +ℤ (orient_at c a p *ℤ (p.x -ℤ (p.w *ℤ b.x)))) +ℤ (orient_at a b p *ℤ (p.x -ℤ (p.w *ℤ c.x))) ≡ pos 0
  balance =
      by_terms (a.x ∷ a.y ∷ b.x ∷ b.y ∷ c.x ∷ c.y ∷ p.x ∷ p.y ∷ p.w ∷ [])
      (plus (plus (by (orient_in (spot 1) (spot 2) (place 6)) (minus (place 6).x (by (place 6).w (spot 0).x)))
      (by (orient_in (spot 2) (spot 0) (place 6)) (minus (place 6).x (by (place 6).w (spot 1).x))))
      (by (orient_in (spot 0) (spot 1) (place 6)) (minus (place 6).x (by (place 6).w (spot 2).x)))) (num (pos 0)) refl

  -- a alone isn't right of the place
  one_left : (p.w *ℤ a.x) ≤ℤ p.x → p.x <ℤ (p.w *ℤ b.x) → p.x <ℤ (p.w *ℤ c.x) → IsPassed a b c p
  one_left at_a at_b at_c =
      let bc = late b c p at_b in
      let ca = late c a p at_c in
      let ba = late b a p at_b in
      let cb = late c b p at_c in
      let less = hit_compare a b a c p (λ h. record { starts = at_a; ends = at_c; below = under h.below }) in
      record {
        most = omega (arith, bc, ca, ba, cb, less);
        gains = λ inside.
            let none = hit_none a b p (λ h. let s = h.below in let i = inside.0 in omega (arith, ordered, s, i)) in
            let one = hit_one a c p (record { starts = at_a; ends = at_c; below = let i = inside.2 in let e = other_way a c p in omega (arith, ordered, i, e) }) in
            omega (arith, bc, ca, ba, cb, none, one);
      }
    where
      under : orient_at a b p <ℤ pos 0 → orient_at a c p <ℤ pos 0
      under below =
          let hb = apart_columns p.w a.x b.x p.above (omega (arith, ordered, at_a, at_b)) in
          let hc = apart_columns p.w a.x c.x p.above (omega (arith, ordered, at_a, at_c)) in
          let first = below_times (orient_at a b p) (c.x -ℤ a.x) below hc in
          let second = times (orient2d_of a b c) (p.x -ℤ (p.w *ℤ a.x)) (omega (arith, ordered, turn)) (omega (arith, ordered, at_a)) in
          negative_first (orient_at a c p) (b.x -ℤ a.x) hb
          (compare (orient_at a c p *ℤ (b.x -ℤ a.x)) (orient_at a b p *ℤ (c.x -ℤ a.x)) (orient2d_of a b c *ℤ (p.x -ℤ (p.w *ℤ a.x))) slopes first second)
        where
          compare : (x y z : ℤ) → x ≡ y -ℤ z → y <ℤ pos 0 → pos 0 ≤ℤ z → x <ℤ pos 0
          compare x y z is less not = omega (arith, ordered, is, less, not)

  -- a alone is right of the place
  one_right : p.x <ℤ (p.w *ℤ a.x) → (p.w *ℤ b.x) ≤ℤ p.x → (p.w *ℤ c.x) ≤ℤ p.x → IsPassed a b c p
  one_right at_a at_b at_c =
      let ab = early a b p at_b in
      let bc = early b c p at_c in
      let cb = early c b p at_b in
      let ac = early a c p at_c in
      let less = hit_compare c a b a p (λ h. record { starts = at_b; ends = at_a; below = under h.below }) in
      record {
        most = omega (arith, ab, bc, cb, ac, less);
        gains = λ inside.
            let none = hit_none c a p (λ h. let s = h.below in let i = inside.2 in omega (arith, ordered, s, i)) in
            let one = hit_one b a p (record { starts = at_b; ends = at_a; below = let i = inside.0 in let e = other_way a b p in omega (arith, ordered, i, e) }) in
            omega (arith, ab, bc, cb, ac, none, one);
      }
    where
      under : orient_at c a p <ℤ pos 0 → orient_at b a p <ℤ pos 0
      under below =
          let hb = apart_columns p.w b.x a.x p.above (omega (arith, ordered, at_a, at_b)) in
          let hc = apart_columns p.w c.x a.x p.above (omega (arith, ordered, at_a, at_c)) in
          let ec = other_way c a p in
          let eb = other_way a b p in
          let first = times_below (orient_at a c p) (b.x -ℤ a.x) (omega (arith, ordered, ec, below)) (omega (arith, ordered, hb)) in
          let second = times_below (orient2d_of a b c) (p.x -ℤ (p.w *ℤ a.x)) turn (omega (arith, ordered, at_a)) in
          let more = positive_first (orient_at a b p) (c.x -ℤ a.x) (omega (arith, ordered, hc))
          (compare (orient_at a c p *ℤ (b.x -ℤ a.x)) (orient_at a b p *ℤ (c.x -ℤ a.x)) (orient2d_of a b c *ℤ (p.x -ℤ (p.w *ℤ a.x))) slopes first second) in
          omega (arith, ordered, eb, more)
        where
          compare : (x y z : ℤ) → x ≡ y -ℤ z → x <ℤ pos 0 → z <ℤ pos 0 → y <ℤ pos 0
          compare x y z is less other = omega (arith, ordered, is, less, other)

  -- none is, or all are
  all_left : (p.w *ℤ a.x) ≤ℤ p.x → (p.w *ℤ b.x) ≤ℤ p.x → (p.w *ℤ c.x) ≤ℤ p.x → IsPassed a b c p
  all_left at_a at_b at_c =
      let ab = early a b p at_b in
      let bc = early b c p at_c in
      let ca = early c a p at_a in
      record {
        most = omega (arith, ab, bc, ca);
        gains = λ inside. absurd (none_inside inside);
      }
    where
      thin : p.w *ℤ orient2d_of a b c ≡ (((p.w *ℤ b.x) -ℤ (p.w *ℤ a.x)) *ℤ (c.y -ℤ a.y)) -ℤ ((b.y -ℤ a.y) *ℤ ((p.w *ℤ c.x) -ℤ (p.w *ℤ a.x)))
      thin =
          by_terms (a.x ∷ a.y ∷ b.x ∷ b.y ∷ c.x ∷ c.y ∷ p.w ∷ []) (by (var 6) (orient (spot 0) (spot 1) (spot 2)))
          (minus (by (minus (by (var 6) (spot 1).x) (by (var 6) (spot 0).x)) (minus (spot 2).y (spot 0).y))
          (by (minus (spot 1).y (spot 0).y) (minus (by (var 6) (spot 2).x) (by (var 6) (spot 0).x)))) refl

      none_inside : IsStrictlyIn a b c p → ⊥
      none_inside inside =
          let ka = times (orient_at b c p) (p.x -ℤ (p.w *ℤ a.x)) (let i = inside.1 in omega (arith, ordered, i)) (omega (arith, ordered, at_a)) in
          let kb = times (orient_at c a p) (p.x -ℤ (p.w *ℤ b.x)) (let i = inside.2 in omega (arith, ordered, i)) (omega (arith, ordered, at_b)) in
          let kc = times (orient_at a b p) (p.x -ℤ (p.w *ℤ c.x)) (let i = inside.0 in omega (arith, ordered, i)) (omega (arith, ordered, at_c)) in
          let whole = balance in
          let za = zero_factor (orient_at b c p) (p.x -ℤ (p.w *ℤ a.x)) inside.1 (omega (arith, ordered, at_a)) (omega (arith, ordered, whole, kb, kc)) in
          let zb = zero_factor (orient_at c a p) (p.x -ℤ (p.w *ℤ b.x)) inside.2 (omega (arith, ordered, at_b)) (omega (arith, ordered, whole, ka, kc)) in
          let zc = zero_factor (orient_at a b p) (p.x -ℤ (p.w *ℤ c.x)) inside.0 (omega (arith, ordered, at_c)) (omega (arith, ordered, whole, ka, kb)) in
          let eb : (p.w *ℤ b.x) -ℤ (p.w *ℤ a.x) ≡ pos 0 = omega (arith, ordered, za, zb) in
          let ec : (p.w *ℤ c.x) -ℤ (p.w *ℤ a.x) ≡ pos 0 = omega (arith, ordered, za, zc) in
          let first = ap (λ z. z *ℤ (c.y -ℤ a.y)) eb ∙ *ℤ_comm (pos 0) (c.y -ℤ a.y) ∙ *ℤ-zero (c.y -ℤ a.y) in
          let second = ap (λ z. (b.y -ℤ a.y) *ℤ z) ec ∙ *ℤ-zero (b.y -ℤ a.y) in
          let more = times_positive p.w (orient2d_of a b c) p.above turn in
          compare (p.w *ℤ orient2d_of a b c) (((p.w *ℤ b.x) -ℤ (p.w *ℤ a.x)) *ℤ (c.y -ℤ a.y)) ((b.y -ℤ a.y) *ℤ ((p.w *ℤ c.x) -ℤ (p.w *ℤ a.x))) thin first second more
        where
          compare : (x y z : ℤ) → x ≡ y -ℤ z → y ≡ pos 0 → z ≡ pos 0 → pos 0 <ℤ x → ⊥
          compare x y z is e f more = omega (arith, ordered, is, e, f, more)

  all_right : p.x <ℤ (p.w *ℤ a.x) → p.x <ℤ (p.w *ℤ b.x) → p.x <ℤ (p.w *ℤ c.x) → IsPassed a b c p
  all_right at_a at_b at_c =
      let ab = late a b p at_a in
      let bc = late b c p at_b in
      let ca = late c a p at_c in
      record {
        most = omega (arith, ab, bc, ca);
        gains = λ inside.
            absurd
            (let ka = times_below (orient_at b c p) (p.x -ℤ (p.w *ℤ a.x)) inside.1 (omega (arith, ordered, at_a)) in
            let kb = times_below (orient_at c a p) (p.x -ℤ (p.w *ℤ b.x)) inside.2 (omega (arith, ordered, at_b)) in
            let kc = times_below (orient_at a b p) (p.x -ℤ (p.w *ℤ c.x)) inside.0 (omega (arith, ordered, at_c)) in
            let whole = balance in omega (arith, ordered, whole, ka, kb, kc));
      }

pub passed : (a b c : Point) (p : Place) → pos 0 <ℤ orient2d_of a b c → IsPassed a b c p
passed a b c p turn =
    let t' : pos 0 <ℤ orient2d_of b c a = subst (λ z. pos 0 <ℤ z) (sym (orient2d-turned a b c)) turn in
    let t'' : pos 0 <ℤ orient2d_of c a b = subst (λ z. pos 0 <ℤ z) (sym (orient2d-turned b c a)) t' in
    by_lt_z p.x (p.w *ℤ a.x)
    (λ ra. by_lt_z p.x (p.w *ℤ b.x)
    (λ rb. by_lt_z p.x (p.w *ℤ c.x) (λ rc. all_right a b c p turn ra rb rc)
    (λ lc. passed_turned a b c p (passed_turned b c a p (one_left c a b p t'' lc ra rb))))
    (λ lb. by_lt_z p.x (p.w *ℤ c.x) (λ rc. passed_turned a b c p (one_left b c a p t' lb rc ra)) (λ lc. one_right a b c p turn ra lb lc)))
    (λ la. by_lt_z p.x (p.w *ℤ b.x)
    (λ rb. by_lt_z p.x (p.w *ℤ c.x) (λ rc. one_left a b c p turn la rb rc) (λ lc. passed_turned a b c p (one_right b c a p t' rb lc la)))
    (λ lb. by_lt_z p.x (p.w *ℤ c.x) (λ rc. passed_turned a b c p (passed_turned b c a p (one_right c a b p t'' rc la lb))) (λ lc. all_left a b c p turn la lb lc)))
