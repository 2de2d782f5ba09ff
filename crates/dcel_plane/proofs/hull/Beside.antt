-- Points that aren't on the left of a line from one point to another, nor between them.
use Rattle.std.proofs.Common.{◌≡◌, ◌⊎◌, inl, inr, [], ◌∷◌, ℤ, pos, ◌+ℤ◌, ◌-ℤ◌, ◌*ℤ◌, ◌<ℤ◌, ◌≤ℤ◌, refl, arith}
use Rattle.std.proofs.lemmas.Int.{by_lt_z}
use Rattle.std.proofs.Math.IntN.{*ℤ_comm}
use Rattle.dcel_predicates.specs.Determinants.{orient2d_of}
use Rattle.dcel_predicates.specs.declared.point.Point.{Point}
use Rattle.dcel_predicates.proofs.Ring.{by_terms, minus, num, plus, times as by, var}
use Rattle.dcel_predicates.proofs.Signs.{ordered, times_negative, times_positive}
use Rattle.dcel_predicates.proofs.Terms.{orient, spot}
use Rattle.dcel_plane.specs.covering.Covering.{Supports, dot}
use Rattle.dcel_plane.proofs.covering.Along.{IsBetween, one_place, dot_in, dot_start, none_first, none_second, placed, sides, same_side, apart_by}
use Rattle.dcel_plane.proofs.covering.Inside.{apart_end, apart_start, on_end, on_start}
use Rattle.dcel_plane.proofs.covering.Products.{times_below}

pub supports_start : (a b : Point) → Supports a b a
supports_start a b = (let o = on_end a b in omega (arith, ordered, o), λ zero. let e = apart_start a b in omega (arith, ordered, e))

pub supports_end : (a b : Point) → Supports a b b
supports_end a b = (let o = on_start a b in omega (arith, ordered, o), λ zero. let e = apart_end a b in omega (arith, ordered, e))

pub supports_right : (a b c : Point) → orient2d_of a b c <ℤ pos 0 → Supports a b c
supports_right a b c right = (omega (arith, ordered, right), λ zero. absurd (omega (arith, ordered, right, zero)))

-- v strictly between b and a: what lies on the right of the line from b to a does so of both parts of it
module _ (b a v : Point) (is : IsBetween b a v) where
  whole : pos 0 <ℤ dot a a b
  whole = let x = is.above in let y = is.below in omega (arith, ordered, x, y)

  rest : pos 0 <ℤ (dot a a b -ℤ dot v a b)
  rest = let y = is.below in omega (arith, ordered, y)

  start_part : (k : Point) → dot a a b *ℤ orient2d_of b v k ≡ (dot v a b *ℤ orient2d_of b a k) -ℤ (orient2d_of b a v *ℤ dot k a b)
  start_part k =
      by_terms (b.x ∷ b.y ∷ a.x ∷ a.y ∷ v.x ∷ v.y ∷ k.x ∷ k.y ∷ []) (by (dot_in (spot 1) (spot 1) (spot 0)) (orient (spot 0) (spot 2) (spot 3)))
      (minus (by (dot_in (spot 2) (spot 1) (spot 0)) (orient (spot 0) (spot 1) (spot 3))) (by (orient (spot 0) (spot 1) (spot 2)) (dot_in (spot 3) (spot 1) (spot 0)))) refl

  end_part : (k : Point) → dot a a b *ℤ orient2d_of v a k ≡ ((dot a a b -ℤ dot v a b) *ℤ orient2d_of b a k) +ℤ (orient2d_of b a v *ℤ (dot k a b -ℤ dot a a b))
  end_part k =
      by_terms (b.x ∷ b.y ∷ a.x ∷ a.y ∷ v.x ∷ v.y ∷ k.x ∷ k.y ∷ []) (by (dot_in (spot 1) (spot 1) (spot 0)) (orient (spot 2) (spot 1) (spot 3)))
      (plus (by (minus (dot_in (spot 1) (spot 1) (spot 0)) (dot_in (spot 2) (spot 1) (spot 0))) (orient (spot 0) (spot 1) (spot 3)))
      (by (orient (spot 0) (spot 1) (spot 2)) (minus (dot_in (spot 3) (spot 1) (spot 0)) (dot_in (spot 1) (spot 1) (spot 0))))) refl

  -- l * o ≡ d * w + z: the sign of o is that of w
  not_above : (l o d w z : ℤ) → l *ℤ o ≡ (d *ℤ w) +ℤ z → z ≡ pos 0 → pos 0 <ℤ l → pos 0 <ℤ d → w ≤ℤ pos 0 → o ≤ℤ pos 0
  not_above l o d w z e zero hl hd hw =
      by_lt_z (pos 0) o (λ more. absurd (let p = times_positive l o hl more in let q = times_negative d w (omega (arith, ordered, hd)) hw in omega (arith, ordered, e, zero, p, q))) (λ not. not)

  zero_too : (l o d w z : ℤ) → l *ℤ o ≡ (d *ℤ w) +ℤ z → z ≡ pos 0 → pos 0 <ℤ d → w ≤ℤ pos 0 → o ≡ pos 0 → w ≡ pos 0
  zero_too l o d w z e zero hd hw on =
      let n = none_second l o on in
      by_lt_z w (pos 0) (λ less. absurd (let q = times_below d w hd less in omega (arith, ordered, e, zero, n, q))) (λ not. omega (arith, ordered, not, hw))

  start_sum : (k : Point) → dot a a b *ℤ orient2d_of b v k ≡ (dot v a b *ℤ orient2d_of b a k) +ℤ (pos 0 -ℤ (orient2d_of b a v *ℤ dot k a b))
  start_sum k = let e = start_part k in omega (arith, ordered, e)

  start_none : (k : Point) → pos 0 -ℤ (orient2d_of b a v *ℤ dot k a b) ≡ pos 0
  start_none k = let z = none_first (orient2d_of b a v) (dot k a b) is.on in omega (arith, ordered, z)

  end_none : (k : Point) → orient2d_of b a v *ℤ (dot k a b -ℤ dot a a b) ≡ pos 0
  end_none k = none_first (orient2d_of b a v) (dot k a b -ℤ dot a a b) is.on

  pub start_right : (k : Point) → orient2d_of b a k ≤ℤ pos 0 → orient2d_of b v k ≤ℤ pos 0
  start_right k = not_above (dot a a b) (orient2d_of b v k) (dot v a b) (orient2d_of b a k) (pos 0 -ℤ (orient2d_of b a v *ℤ dot k a b)) (start_sum k) (start_none k) whole is.above

  pub end_right : (k : Point) → orient2d_of b a k ≤ℤ pos 0 → orient2d_of v a k ≤ℤ pos 0
  end_right k =
      not_above (dot a a b) (orient2d_of v a k) (dot a a b -ℤ dot v a b) (orient2d_of b a k) (orient2d_of b a v *ℤ (dot k a b -ℤ dot a a b)) (end_part k) (end_none k) whole rest

  start_on : (k : Point) → orient2d_of b a k ≤ℤ pos 0 → orient2d_of b v k ≡ pos 0 → orient2d_of b a k ≡ pos 0
  start_on k = zero_too (dot a a b) (orient2d_of b v k) (dot v a b) (orient2d_of b a k) (pos 0 -ℤ (orient2d_of b a v *ℤ dot k a b)) (start_sum k) (start_none k) is.above

  end_on : (k : Point) → orient2d_of b a k ≤ℤ pos 0 → orient2d_of v a k ≡ pos 0 → orient2d_of b a k ≡ pos 0
  end_on k = zero_too (dot a a b) (orient2d_of v a k) (dot a a b -ℤ dot v a b) (orient2d_of b a k) (orient2d_of b a v *ℤ (dot k a b -ℤ dot a a b)) (end_part k) (end_none k) rest

-- what isn't between the ends isn't between an end and v
module _ (b a v : Point) (is : IsBetween b a v) (k : Point) (right : orient2d_of b a k ≤ℤ pos 0) (apart : orient2d_of b a k ≡ pos 0 → pos 0 ≤ℤ dot b a k) where
  outside : orient2d_of b a k ≡ pos 0 → (dot k a b ≤ℤ pos 0) ⊎ (dot a a b ≤ℤ dot k a b)
  outside on =
      let z = dot_start a b in
      let p = placed b a b a k (whole b a v is) (on_end b a) (on_start b a) on (apart on) in
      elim (sides (dot b a b -ℤ dot k a b) (dot a a b -ℤ dot k a b) p) [
        | inl above ↦ (let q = above.0 in inl (omega (arith, ordered, z, q)))
        | inr below ↦ (let q = below.1 in inr (omega (arith, ordered, q)))
      ]

  pub start_beside : Supports b v k
  start_beside = (
    start_right b a v is k right,
    λ zero.
        let on = start_on b a v is k right zero in
        let z = dot_start a b in
        let l = whole b a v is in
        let i = is.above in
        let j = is.below in
        apart_by b a b v k l (on_end b a) is.on on
        (same_side (dot b a b -ℤ dot k a b) (dot v a b -ℤ dot k a b)
        (elim (outside on) [
          | inl less ↦ inl (omega (arith, ordered, z, less), omega (arith, ordered, less, i))
          | inr more ↦ inr (omega (arith, ordered, z, more, l), omega (arith, ordered, more, j))
        ])),
  )

  pub end_beside : Supports v a k
  end_beside = (
    end_right b a v is k right,
    λ zero.
        let on = end_on b a v is k right zero in
        let l = whole b a v is in
        let i = is.above in
        let j = is.below in
        apart_by b a v a k l is.on (on_start b a) on
        (same_side (dot v a b -ℤ dot k a b) (dot a a b -ℤ dot k a b)
        (elim (outside on) [
          | inl less ↦ inl (omega (arith, ordered, less, i), omega (arith, ordered, less, l))
          | inr more ↦ inr (omega (arith, ordered, more, j), omega (arith, ordered, more))
        ])),
  )

-- v isn't left of another half edge, from x to y, nor between its ends
module _ (b a v : Point) (is : IsBetween b a v) (x y : Point) (far : pos 0 <ℤ dot y y x) (right_a : orient2d_of x y a ≤ℤ pos 0) (right_b : orient2d_of x y b ≤ℤ pos 0)
    (apart_a : orient2d_of x y a ≡ pos 0 → pos 0 ≤ℤ dot x y a) (apart_b : orient2d_of x y b ≡ pos 0 → pos 0 ≤ℤ dot x y b)
    (apart_x : orient2d_of b a x ≡ pos 0 → pos 0 ≤ℤ dot b a x) (apart_y : orient2d_of b a y ≡ pos 0 → pos 0 ≤ℤ dot b a y)
    (not_same : x.x ≡ b.x → x.y ≡ b.y → y.x ≡ a.x → y.y ≡ a.y → ⊥) (not_back : x.x ≡ a.x → x.y ≡ a.y → y.x ≡ b.x → y.y ≡ b.y → ⊥) where
  height_mixed : dot a a b *ℤ orient2d_of x y v
      ≡ ((dot v a b *ℤ orient2d_of x y a) +ℤ ((dot a a b -ℤ dot v a b) *ℤ orient2d_of x y b))
      +ℤ (orient2d_of b a v *ℤ (((y.x -ℤ x.x) *ℤ (a.x -ℤ b.x)) +ℤ ((y.y -ℤ x.y) *ℤ (a.y -ℤ b.y))))
  height_mixed =
      by_terms (b.x ∷ b.y ∷ a.x ∷ a.y ∷ v.x ∷ v.y ∷ x.x ∷ x.y ∷ y.x ∷ y.y ∷ []) (by (dot_in (spot 1) (spot 1) (spot 0)) (orient (spot 3) (spot 4) (spot 2)))
      (plus (plus (by (dot_in (spot 2) (spot 1) (spot 0)) (orient (spot 3) (spot 4) (spot 1)))
      (by (minus (dot_in (spot 1) (spot 1) (spot 0)) (dot_in (spot 2) (spot 1) (spot 0))) (orient (spot 3) (spot 4) (spot 0))))
      (by (orient (spot 0) (spot 1) (spot 2)) (plus (by (minus (spot 4).x (spot 3).x) (minus (spot 1).x (spot 0).x)) (by (minus (spot 4).y (spot 3).y) (minus (spot 1).y (spot 0).y))))) refl

  place_mixed : dot a a b *ℤ dot v y x
      ≡ ((dot v a b *ℤ dot a y x) +ℤ ((dot a a b -ℤ dot v a b) *ℤ dot b y x))
      +ℤ (orient2d_of b a v *ℤ (((a.x -ℤ b.x) *ℤ (y.y -ℤ x.y)) -ℤ ((a.y -ℤ b.y) *ℤ (y.x -ℤ x.x))))
  place_mixed =
      by_terms (b.x ∷ b.y ∷ a.x ∷ a.y ∷ v.x ∷ v.y ∷ x.x ∷ x.y ∷ y.x ∷ y.y ∷ []) (by (dot_in (spot 1) (spot 1) (spot 0)) (dot_in (spot 2) (spot 4) (spot 3)))
      (plus (plus (by (dot_in (spot 2) (spot 1) (spot 0)) (dot_in (spot 1) (spot 4) (spot 3)))
      (by (minus (dot_in (spot 1) (spot 1) (spot 0)) (dot_in (spot 2) (spot 1) (spot 0))) (dot_in (spot 0) (spot 4) (spot 3))))
      (by (orient (spot 0) (spot 1) (spot 2)) (minus (by (minus (spot 1).x (spot 0).x) (minus (spot 4).y (spot 3).y)) (by (minus (spot 1).y (spot 0).y) (minus (spot 4).x (spot 3).x))))) refl

  back_height : dot y y x *ℤ orient2d_of b a x ≡ (dot b y x *ℤ orient2d_of x y a) -ℤ (orient2d_of x y b *ℤ dot a y x)
  back_height =
      by_terms (b.x ∷ b.y ∷ a.x ∷ a.y ∷ x.x ∷ x.y ∷ y.x ∷ y.y ∷ []) (by (dot_in (spot 3) (spot 3) (spot 2)) (orient (spot 0) (spot 1) (spot 2)))
      (minus (by (dot_in (spot 0) (spot 3) (spot 2)) (orient (spot 2) (spot 3) (spot 1))) (by (orient (spot 2) (spot 3) (spot 0)) (dot_in (spot 1) (spot 3) (spot 2)))) refl

  back_heights : orient2d_of b a y ≡ (orient2d_of b a x +ℤ orient2d_of x y b) -ℤ orient2d_of x y a
  back_heights =
      by_terms (b.x ∷ b.y ∷ a.x ∷ a.y ∷ x.x ∷ x.y ∷ y.x ∷ y.y ∷ []) (orient (spot 0) (spot 1) (spot 3))
      (minus (plus (orient (spot 0) (spot 1) (spot 2)) (orient (spot 2) (spot 3) (spot 0))) (orient (spot 2) (spot 3) (spot 1))) refl

  abbrev W : ℤ
  W = ((y.x -ℤ x.x) *ℤ (a.x -ℤ b.x)) +ℤ ((y.y -ℤ x.y) *ℤ (a.y -ℤ b.y))

  abbrev W' : ℤ
  W' = ((a.x -ℤ b.x) *ℤ (y.y -ℤ x.y)) -ℤ ((a.y -ℤ b.y) *ℤ (y.x -ℤ x.x))

  not_left : orient2d_of x y v ≤ℤ pos 0
  not_left =
      by_lt_z (pos 0) (orient2d_of x y v)
      (λ more. absurd
      (let t = times_positive (dot a a b) (orient2d_of x y v) (whole b a v is) more in
      let i = is.above in
      let j = rest b a v is in
      let p = times_negative (dot v a b) (orient2d_of x y a) (omega (arith, ordered, i)) right_a in
      let q = times_negative (dot a a b -ℤ dot v a b) (orient2d_of x y b) (omega (arith, ordered, j)) right_b in
      let z = none_first (orient2d_of b a v) W is.on in
      let e = height_mixed in
      omega (arith, ordered, t, p, q, z, e)))
      (λ not. not)

  both_on : orient2d_of x y v ≡ pos 0 → (orient2d_of x y a ≡ pos 0) × (orient2d_of x y b ≡ pos 0)
  both_on on =
      let i = is.above in
      let j = rest b a v is in
      let p = times_negative (dot v a b) (orient2d_of x y a) (omega (arith, ordered, i)) right_a in
      let q = times_negative (dot a a b -ℤ dot v a b) (orient2d_of x y b) (omega (arith, ordered, j)) right_b in
      let z = none_first (orient2d_of b a v) W is.on in
      let n = none_second (dot a a b) (orient2d_of x y v) on in
      let e = height_mixed in (
        by_lt_z (orient2d_of x y a) (pos 0) (λ less. absurd (let t = times_below (dot v a b) (orient2d_of x y a) i less in omega (arith, ordered, t, q, z, n, e))) (λ not. omega (arith, ordered, not, right_a)),
        by_lt_z (orient2d_of x y b) (pos 0) (λ less. absurd (let t = times_below (dot a a b -ℤ dot v a b) (orient2d_of x y b) j less in omega (arith, ordered, t, p, z, n, e)))
            (λ not. omega (arith, ordered, not, right_b)),
      )

  module _ (on_v : orient2d_of x y v ≡ pos 0) (on_a : orient2d_of x y a ≡ pos 0) (on_b : orient2d_of x y b ≡ pos 0) where
    on_x : orient2d_of b a x ≡ pos 0
    on_x =
        let e = back_height in
        let p = none_second (dot b y x) (orient2d_of x y a) on_a in
        let q = none_first (orient2d_of x y b) (dot a y x) on_b in
        by_lt_z (pos 0) (orient2d_of b a x) (λ more. absurd (let t = times_positive (dot y y x) (orient2d_of b a x) far more in omega (arith, ordered, e, p, q, t)))
        (λ not. by_lt_z (orient2d_of b a x) (pos 0) (λ less. absurd (let t = times_below (dot y y x) (orient2d_of b a x) far less in omega (arith, ordered, e, p, q, t))) (λ nor. omega (arith, ordered, not, nor)))

    on_y : orient2d_of b a y ≡ pos 0
    on_y = let e = back_heights in let f = on_x in omega (arith, ordered, e, f, on_a, on_b)

    outside_of : (k : Point) → orient2d_of x y k ≡ pos 0 → pos 0 ≤ℤ dot x y k → (dot k y x ≤ℤ pos 0) ⊎ (dot y y x ≤ℤ dot k y x)
    outside_of k on apart =
        let z = dot_start y x in
        let p = placed x y x y k far (on_end x y) (on_start x y) on apart in
        elim (sides (dot x y x -ℤ dot k y x) (dot y y x -ℤ dot k y x) p) [
          | inl above ↦ (let q = above.0 in inl (omega (arith, ordered, z, q)))
          | inr below ↦ (let q = below.1 in inr (omega (arith, ordered, q)))
        ]

    -- both ends of the one are on both sides of the other, so they are its ends
    ends : (c d : Point) → orient2d_of x y c ≡ pos 0 → orient2d_of x y d ≡ pos 0 → dot c y x ≤ℤ pos 0 → dot y y x ≤ℤ dot d y x
        → pos 0 ≤ℤ ((dot d y x -ℤ dot x y x) *ℤ (dot c y x -ℤ dot x y x)) → pos 0 ≤ℤ ((dot d y x -ℤ dot y y x) *ℤ (dot c y x -ℤ dot y y x))
        → (x.x ≡ c.x → x.y ≡ c.y → y.x ≡ d.x → y.y ≡ d.y → ⊥) → ⊥
    ends c d on_c on_d less more at_x at_y unlike =
        let z = dot_start y x in
        let c_is : dot c y x ≡ dot x y x =
        elim (sides (dot d y x -ℤ dot x y x) (dot c y x -ℤ dot x y x) at_x) [
          | inl above ↦ (let q = above.1 in omega (arith, ordered, q, z, less))
          | inr below ↦ absurd (let q = below.0 in omega (arith, ordered, q, z, more, far))
        ] in
        let d_is : dot d y x ≡ dot y y x =
        elim (sides (dot d y x -ℤ dot y y x) (dot c y x -ℤ dot y y x) at_y) [
          | inl above ↦ absurd (let q = above.1 in omega (arith, ordered, q, less, far))
          | inr below ↦ (let q = below.0 in omega (arith, ordered, q, more))
        ] in
        let c_at = one_place x y x c far (on_end x y) on_c (omega (arith, ordered, c_is)) in
        let d_at = one_place x y y d far (on_start x y) on_d (omega (arith, ordered, d_is)) in
        unlike c_at.0 c_at.1 d_at.0 d_at.1

    apart_v : pos 0 ≤ℤ dot x y v
    apart_v =
        let i = is.above in
        let j = rest b a v is in
        let l = whole b a v is in
        let z = dot_start y x in
        let n = none_first (orient2d_of b a v) W' is.on in
        let e = place_mixed in
        let at_x = placed x y b a x far on_b on_a (on_end x y) (apart_x on_x) in
        let at_y = placed x y b a y far on_b on_a (on_start x y) (apart_y on_y) in
        let at_x' : pos 0 ≤ℤ ((dot a y x -ℤ dot x y x) *ℤ (dot b y x -ℤ dot x y x)) =
        let c = *ℤ_comm (dot a y x -ℤ dot x y x) (dot b y x -ℤ dot x y x) in omega (arith, ordered, c, at_x) in
        let at_y' : pos 0 ≤ℤ ((dot a y x -ℤ dot y y x) *ℤ (dot b y x -ℤ dot y y x)) =
        let c = *ℤ_comm (dot a y x -ℤ dot y y x) (dot b y x -ℤ dot y y x) in omega (arith, ordered, c, at_y) in
        apart_by x y x y v far (on_end x y) (on_start x y) on_v
        (same_side (dot x y x -ℤ dot v y x) (dot y y x -ℤ dot v y x)
        (elim (outside_of a on_a (apart_a on_a)) [
          | inl less_a ↦ elim (outside_of b on_b (apart_b on_b)) [
            | inl less_b ↦
                let less = mixed_below (dot a a b) (dot v a b) (dot a y x) (dot b y x) (dot v y x) (orient2d_of b a v *ℤ W') e n l i j less_a less_b in
                inl (omega (arith, ordered, z, less), omega (arith, ordered, less, far))
            | inr more_b ↦ absurd (ends a b on_a on_b less_a more_b at_x at_y not_back)
          ]
          | inr more_a ↦ elim (outside_of b on_b (apart_b on_b)) [
            | inl less_b ↦ absurd (ends b a on_b on_a less_b more_a at_x' at_y' not_same)
            | inr more_b ↦
                let more = mixed_above (dot a a b) (dot v a b) (dot a y x) (dot b y x) (dot v y x) (orient2d_of b a v *ℤ W') (dot y y x) e n l i j more_a more_b in
                inr (omega (arith, ordered, z, more, far), omega (arith, ordered, more))
          ]
        ]))
      where
        mixed_below : (l d p q w z : ℤ) → l *ℤ w ≡ ((d *ℤ p) +ℤ ((l -ℤ d) *ℤ q)) +ℤ z → z ≡ pos 0 → pos 0 <ℤ l → pos 0 <ℤ d → pos 0 <ℤ (l -ℤ d) → p ≤ℤ pos 0 → q ≤ℤ pos 0 → w ≤ℤ pos 0
        mixed_below l d p q w z e zero hl hd hr hp hq =
            by_lt_z (pos 0) w
            (λ more. absurd
            (let t = times_positive l w hl more in let f = times_negative d p (omega (arith, ordered, hd)) hp in let g = times_negative (l -ℤ d) q (omega (arith, ordered, hr)) hq in
            omega (arith, ordered, e, zero, t, f, g)))
            (λ not. not)

        shifted : (l d p q w z k : ℤ) → l *ℤ w ≡ ((d *ℤ p) +ℤ ((l -ℤ d) *ℤ q)) +ℤ z
            → l *ℤ (k -ℤ w) ≡ ((d *ℤ (k -ℤ p)) +ℤ ((l -ℤ d) *ℤ (k -ℤ q))) +ℤ (pos 0 -ℤ z)
        shifted l d p q w z k e =
            let sums = by_terms (l ∷ d ∷ p ∷ q ∷ w ∷ z ∷ k ∷ [])
            (minus (by (var 0) (minus (var 6) (var 4))) (plus (plus (by (var 1) (minus (var 6) (var 2))) (by (minus (var 0) (var 1)) (minus (var 6) (var 3)))) (minus (num (pos 0)) (var 5))))
            (minus (plus (plus (by (var 1) (var 2)) (by (minus (var 0) (var 1)) (var 3))) (var 5)) (by (var 0) (var 4))) refl in
            omega (arith, ordered, sums, e)

        mixed_above : (l d p q w z k : ℤ) → l *ℤ w ≡ ((d *ℤ p) +ℤ ((l -ℤ d) *ℤ q)) +ℤ z → z ≡ pos 0 → pos 0 <ℤ l → pos 0 <ℤ d → pos 0 <ℤ (l -ℤ d) → k ≤ℤ p → k ≤ℤ q → k ≤ℤ w
        mixed_above l d p q w z k e zero hl hd hr hp hq =
            let b = mixed_below l d (k -ℤ p) (k -ℤ q) (k -ℤ w) (pos 0 -ℤ z) (shifted l d p q w z k e) (omega (arith, ordered, zero)) hl hd hr (omega (arith, ordered, hp)) (omega (arith, ordered, hq)) in
            omega (arith, ordered, b)

  pub other_beside : Supports x y v
  other_beside = (not_left, λ on. let both = both_on on in apart_v on both.0 both.1)
