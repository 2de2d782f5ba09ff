-- Decimals that fit a grid fit a coarser one.
use Rattle.std.proofs.Common.{◌≡◌, ℕ, ◌≤◌, ◌*◌, ◌^◌, All, List, min, unsigned_abs, arith, lit<}
use Rattle.std.proofs.Math.Nat.{le_trans, mul-le-mul_left, pow-le-pow_right}
use Rattle.std.proofs.lemmas.List.Elements.{All-weaker}
use Rattle.dcel_decimals.specs.declared.decimal.Decimal.{Decimal}
use Rattle.dcel_decimals.specs.declared.grid.Grid.{Grid}
use Rattle.dcel_decimals.specs.Grids.{FitsGrid}
use Rattle.delaunay.specs.Placed.{IsFinest}

fits_coarser : (k h : ℕ) → k ≤ h → (d : Decimal) → FitsGrid h d → FitsGrid k d
fits_coarser k h below d fits =
    let powers : 2 ^ k ≤ 2 ^ h = pow-le-pow_right (lit< tt) below in
    le_trans (mul-le-mul_left (unsigned_abs d.mantissa) powers) fits

-- the coarser one of the finest grids for two lists is the finest for both
pub coarser_finest : (grid : Grid) (these those : List Decimal) (a b : ℕ) → grid.halvings ≡ min a b → All (FitsGrid a) these → All (FitsGrid b) those
    → ((halvings : ℕ) → halvings ≤ 106 → All (FitsGrid halvings) these → halvings ≤ a) → ((halvings : ℕ) → halvings ≤ 106 → All (FitsGrid halvings) those → halvings ≤ b)
    → IsFinest grid these those
coarser_finest grid these those a b is fits also finest least = record {
  fits = All-weaker (FitsGrid a) (FitsGrid grid.halvings) (fits_coarser grid.halvings a (omega (arith, is))) these fits;
  also = All-weaker (FitsGrid b) (FitsGrid grid.halvings) (fits_coarser grid.halvings b (omega (arith, is))) those also;
  finest = λ h below one two.
      let first = finest h below one in
      let second = least h below two in
      omega (arith, is, first, second);
}
