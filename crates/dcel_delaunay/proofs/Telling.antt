-- What is told of a loop: 1, 2, and so on.
use Rattle.std.proofs.Common.{◌≡◌, ◌+◌, ℕ, suc, arith, refl, subst}
use Rattle.std.specs.List.{FoldsTo}
use Rattle.dcel_delaunay.specs.Bulk.{counted}

module _ {P : Type 0} (step : P → ℕ → P → Type 0) where
  -- `done` of `all` were told: to tell the rest completes the whole
  abbrev pub ToldSoFar : (first now : P) (done all : ℕ) → Type 0
  ToldSoFar first now done all = (many : ℕ) (last : P) → done + many ≡ all → FoldsTo step now (counted (done + 1) many) last → FoldsTo step first (counted 1 all) last

  pub told_one : (first now next : P) (done all : ℕ) → step now (done + 1) next → ToldSoFar first now done all → ToldSoFar first next (done + 1) all
  unfolding counted
  told_one first now next done all one told many last same folds = told (suc many) last (omega (arith, same)) (next, one, folds)

  pub told_all : (first now : P) (done all count : ℕ) → done ≡ all → all ≡ count → ToldSoFar first now done all → (last : P) × FoldsTo step first (counted 1 count) last
  unfolding counted
  told_all first now done all count whole is told = (now, subst (λ n. FoldsTo step first (counted 1 n) now) is (told 0 now (omega (arith, whole)) refl))
