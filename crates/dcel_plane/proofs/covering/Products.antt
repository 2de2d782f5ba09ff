-- Signs of factors.
use Rattle.std.proofs.Common.{◌≡◌, ℤ, pos, ◌+ℤ◌, ◌-ℤ◌, ◌*ℤ◌, ◌<ℤ◌, ◌≤ℤ◌, neg_ℤ, ap, ◌∙◌, arith}
use Rattle.std.proofs.lemmas.Int.{by_lt_z}
use Rattle.std.proofs.Math.IntN.{*ℤ_comm, *ℤ-zero}
use Rattle.dcel_predicates.proofs.Integers.{mul_add, mul_sub, neg_mul, sub_mul}
use Rattle.dcel_predicates.proofs.Signs.{both_negative, factor_positive, ordered, square, times, times_positive}
use borrow.Author.Differences.{same_in, product_is}

pub times_below : (x y : ℤ) → pos 0 <ℤ x → y <ℤ pos 0 → (x *ℤ y) <ℤ pos 0
times_below x y more less =
    by_lt_z (x *ℤ y) (pos 0) (λ is. is)
    (λ not. absurd (let z = times_positive x (pos 0 -ℤ y) more (omega (arith, ordered)) in
    let e = mul_sub x (pos 0) y in let n = *ℤ-zero x in omega (arith, ordered, e, n)))

pub factor_not_below : (x y : ℤ) → pos 0 <ℤ x → pos 0 ≤ℤ (x *ℤ y) → pos 0 ≤ℤ y
factor_not_below x y more product =
    by_lt_z y (pos 0) (λ less. absurd (let t = times_below x y more less in omega (arith, ordered))) (λ is. is)

pub square_positive : (x : ℤ) → x <ℤ pos 0 → pos 0 <ℤ (x *ℤ x)
square_positive x less =
    by_lt_z (pos 0) (x *ℤ x) (λ is. is)
    (λ not. absurd (let n = times_below (pos 0 -ℤ x) x (omega (arith, ordered)) less in
    let e = sub_mul (pos 0) x x in let z = *ℤ_comm (pos 0) x in let o = *ℤ-zero x in omega (arith, ordered, e, z, o)))

pub both_below : (x y : ℤ) → x <ℤ pos 0 → y <ℤ pos 0 → pos 0 <ℤ (x *ℤ y)
both_below x y less less_y = let t = times_below (neg_ℤ x) y (omega (arith, ordered, less)) less_y in let e = neg_mul x y in omega (arith, ordered, t, e)

pub below_times : (x y : ℤ) → x <ℤ pos 0 → pos 0 <ℤ y → (x *ℤ y) <ℤ pos 0
below_times x y less more = let t = times_below y x more less in omega (arith, ordered, *ℤ_comm x y)

pub positive_factor : (x y : ℤ) → pos 0 <ℤ y → pos 0 <ℤ (x *ℤ y) → pos 0 <ℤ x
positive_factor x y more product = factor_positive y x more (omega (arith, ordered, *ℤ_comm x y))

pub zero_factor : (x y : ℤ) → pos 0 <ℤ x → pos 0 ≤ℤ y → (x *ℤ y) ≤ℤ pos 0 → y ≡ pos 0
zero_factor x y more not none =
    by_lt_z (pos 0) y (λ is. absurd (let t = times_positive x y more is in omega (arith, ordered, t, none))) (λ least. omega (arith, ordered, least, not))

pub factor_none : (x y : ℤ) → pos 0 <ℤ x → x *ℤ y ≡ pos 0 → y ≡ pos 0
factor_none x y more zero =
    by_lt_z (pos 0) y (λ above. absurd (let t = times_positive x y more above in omega (arith, ordered, t, zero)))
    (λ not. by_lt_z y (pos 0) (λ below. absurd (let t = times_below x y more below in omega (arith, ordered, t, zero))) (λ nor. omega (arith, ordered, not, nor)))

pub not_below_factor : (x y : ℤ) → pos 0 <ℤ y → pos 0 ≤ℤ (x *ℤ y) → pos 0 ≤ℤ x
not_below_factor x y more product = factor_not_below y x more (omega (arith, ordered, *ℤ_comm x y))

pub square_zero : (x : ℤ) → (x *ℤ x) ≤ℤ pos 0 → x ≡ pos 0
square_zero x none =
    by_lt_z x (pos 0) (λ less. absurd (let t = square_positive x less in omega (arith, ordered, t, none)))
    (λ not. by_lt_z (pos 0) x (λ more. absurd (let t = times_positive x x more more in omega (arith, ordered, t, none))) (λ nor. omega (arith, ordered, not, nor)))

-- numbers that aren't above 0, and those that aren't below it either
pub not_above : (x : ℤ) → ¬ (pos 0 <ℤ x) → x ≤ℤ pos 0
not_above x not = by_lt_z (pos 0) x (λ is. absurd (not is)) (λ no. no)

pub zero_of : (x : ℤ) → pos 0 ≤ℤ x → x ≤ℤ pos 0 → x ≡ pos 0
zero_of x more less = omega (arith, ordered, more, less)

-- a weighted sum
pub sum_not_below : (t u k l m x y z : ℤ) → t *ℤ u ≡ ((k *ℤ x) +ℤ (l *ℤ y)) +ℤ (m *ℤ z) → pos 0 <ℤ u
    → pos 0 ≤ℤ k → pos 0 ≤ℤ l → pos 0 ≤ℤ m → pos 0 ≤ℤ x → pos 0 ≤ℤ y → pos 0 ≤ℤ z → pos 0 ≤ℤ t
sum_not_below t u k l m x y z is hu hk hl hm hx hy hz =
    let a = times k x hk hx in
    let b = times l y hl hy in
    let c = times m z hm hz in
    not_below_factor t u hu (omega (arith, ordered, is, a, b, c))

pub sum_positive : (t u k l m x y z : ℤ) → t *ℤ u ≡ ((k *ℤ x) +ℤ (l *ℤ y)) +ℤ (m *ℤ z) → pos 0 <ℤ u
    → pos 0 <ℤ k → pos 0 <ℤ l → pos 0 <ℤ m → pos 0 ≤ℤ x → pos 0 ≤ℤ y → pos 0 ≤ℤ z → pos 0 <ℤ (x +ℤ y +ℤ z) → pos 0 <ℤ t
sum_positive t u k l m x y z is hu hk hl hm hx hy hz some =
    let a = times k x (omega (arith, ordered)) hx in
    let b = times l y (omega (arith, ordered)) hy in
    let c = times m z (omega (arith, ordered)) hz in
    positive_factor t u hu
    (by_lt_z (pos 0) x (λ more. let d = times_positive k x hk more in omega (arith, ordered, is, b, c, d))
    (λ no_x. by_lt_z (pos 0) y (λ more. let d = times_positive l y hl more in omega (arith, ordered, is, a, c, d))
    (λ no_y. let d = times_positive m z hm (omega (arith, ordered)) in omega (arith, ordered, is, a, b, d))))

-- n times a number above 0 outweighs s where n is above the square of s
pub outweighs : (n t s : ℤ) → pos 0 <ℤ t → (s *ℤ s) <ℤ n → pos 0 <ℤ ((n *ℤ t) +ℤ s)
outweighs n t s more big =
    let q = square s in
    let a = times n (t -ℤ pos 1) (omega (arith, ordered)) (omega (arith, ordered)) in
    let b = mul_sub n t (pos 1) in
    let c = one_times n in
    let d = at_least s in
    omega (arith, ordered, a, b, c, d)
  where
    one_times : (n : ℤ) → n *ℤ pos 1 ≡ n
    one_times n = same_in (n *ℤ pos 1) n (omega (arith, product_is n (pos 1)))

    at_least : (s : ℤ) → neg_ℤ s ≤ℤ (s *ℤ s)
    at_least s =
        by_lt_z s (pos 0)
        (λ less. let e = both_negative s (s +ℤ pos 1) (omega (arith, ordered)) (omega (arith, ordered)) in
        let f = mul_add s s (pos 1) in let g = one_times s in omega (arith, ordered, e, f, g))
        (λ not. let q = square s in omega (arith, ordered, q))

-- a weighted sum of nothing is nothing
pub no_weights : (t u k l m x y z : ℤ) → t *ℤ u ≡ ((k *ℤ x) +ℤ (l *ℤ y)) +ℤ (m *ℤ z) → pos 0 <ℤ u → pos 0 <ℤ t → x ≡ pos 0 → y ≡ pos 0 → z ≡ pos 0 → ⊥
no_weights t u k l m x y z is hu ht ex ey ez =
    let p = times_positive t u ht hu in
    let a = ap (λ i. k *ℤ i) ex ∙ *ℤ-zero k in
    let b = ap (λ i. l *ℤ i) ey ∙ *ℤ-zero l in
    let c = ap (λ i. m *ℤ i) ez ∙ *ℤ-zero m in
    omega (arith, ordered, is, p, a, b, c)
