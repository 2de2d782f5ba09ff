-- Decimals times powers of ten.
use Rattle.std.proofs.Common.{List, length, take, get_or, ◌≡◌, ℕ, ◌+◌, ◌-◌, ◌*◌, ◌^◌, ◌<◌, ◌≤◌, ◌%◌, ℤ, pos, ◌*ℤ◌, unsigned_abs, ap, sym, subst, ◌∙◌, arith, inl, inr}
use Rattle.std.proofs.Math.Nat.{mul-le-mul_right}
use Rattle.std.specs.List.{All}
use Rattle.std.proofs.lemmas.List.Elements.{All-more, All-weaker, All-get_or}
use Rattle.std.proofs.lemmas.Bool.{cases_eq}
use Rattle.dcel_decimals.specs.declared.decimal.Decimal.{Decimal}
use Rattle.dcel_decimals.specs.Scaling.{Becomes, BecomesWhole}
use Rattle.dcel_decimals.proofs.Powers.{twice, keeps, some}
use Rattle.dcel_decimals.proofs.Signed.{sizes, times_again}

-- with fewer tens than there are places it isn't whole
pub not_whole : (d : Decimal) (power : ℕ) (number : ℤ) → Becomes d power number → d.places ≤ power
not_whole d power number e =
    let f = sizes number d.mantissa (10 ^ d.places) (10 ^ power) e in
    elim (cases_eq d.places 0) [
      | inl none ↦ omega arith
      | inr places ↦
          let last : unsigned_abs d.mantissa % 10 ≡ 0 → unsigned_abs d.mantissa ≡ 0 = λ z. absurd (places (d.shortest z)) in
          elim (cases_eq (unsigned_abs d.mantissa) 0) [
            | inl nothing ↦ absurd (places (d.shortest (omega arith)))
            | inr some ↦ (keeps (unsigned_abs d.mantissa) power (unsigned_abs number) d.places (omega arith) last (sym f)).0
          ]
    ]

-- with as many it is
pub whole : (d : Decimal) (power : ℕ) → d.places ≤ power → BecomesWhole power d
whole d power h =
    (d.mantissa *ℤ pos (10 ^ (power - d.places)), times_again d.mantissa (10 ^ (power - d.places)) (10 ^ d.places) (10 ^ power) (tens power d.places h))
  where
    tens : (p q : ℕ) → q ≤ p → 10 ^ (p - q) * 10 ^ q ≡ 10 ^ p
    tens p q h = let e = twice 1 (p - q) q p (omega arith) in omega arith

-- a size times more tens, where m is the size of the mantissa
module _ (u m places power more : ℕ) (same : u ≡ m) (e : more ≡ power - places) (h : places ≤ power) where
  again : (u * 10 ^ more) * 10 ^ places ≡ m * 10 ^ power
  again = sym (twice u more places power (omega arith)) ∙ ap (λ (x : ℕ). x * 10 ^ power) same

  pub scaled_up : (size : ℕ) → size ≡ u * 10 ^ more → size * 10 ^ places ≡ m * 10 ^ power
  scaled_up size f = ap (λ (x : ℕ). x * 10 ^ places) f ∙ again

  pub scaled_beyond : 2 ^ 53 < u * 10 ^ more → 2 ^ 53 * 10 ^ places < m * 10 ^ power
  scaled_beyond f = let g = mul-le-mul_right (10 ^ places) f in let k = again in let p = some places in omega arith

-- the least power for the first decimals, which all of them need
pub record IsLeast (power seen : ℕ) (decimals : List Decimal) : Type 0 where
  pub small : power ≤ 400
  pub enough : All (λ d. d.places ≤ power) (take seen decimals)
  pub needed : (other : ℕ) → All (BecomesWhole other) decimals → power ≤ other

module _ (decimals : List Decimal) (i : ℕ) (d : Decimal) (power : ℕ) (lt : i < length decimals) (is : d ≡ get_or decimals i d) (so_far : IsLeast power i decimals) where
  grown : (next : ℕ) → power ≤ next → d.places ≤ next → All (λ d. d.places ≤ next) (take (i + 1) decimals)
  grown next h k =
      let P : Decimal → Type 0 = λ d. d.places ≤ next in
      let Q : Decimal → Type 0 = λ d. d.places ≤ power in
      All-more P decimals i d lt (All-weaker Q P (λ x q. omega arith) (take i decimals) so_far.enough) (subst P is k)

  pub least_stays : (next : ℕ) → next ≡ power → d.places ≤ power → IsLeast next (i + 1) decimals
  least_stays next e h = record {
    small = let s = so_far.small in omega arith;
    enough = grown next (omega arith) (omega arith);
    needed = λ other all. let n = so_far.needed other all in omega arith;
  }

  pub least_grows : (next : ℕ) → next ≡ d.places → power < d.places → IsLeast next (i + 1) decimals
  least_grows next e h = record {
    small = let s = d.few_places in omega arith;
    enough = grown next (omega arith) (omega arith);
    needed = λ other all.
        let there = All-get_or (BecomesWhole other) decimals i d lt all in
        let here : BecomesWhole other d = subst (BecomesWhole other) (sym is) there in
        let n = not_whole d other here.0 here.1 in
        omega arith;
  }

pub all_whole : (power : ℕ) (decimals : List Decimal) → All (λ d. d.places ≤ power) decimals → All (BecomesWhole power) decimals
all_whole power decimals all = let P : Decimal → Type 0 = λ d. d.places ≤ power in All-weaker P (BecomesWhole power) (λ d h. whole d power h) decimals all
