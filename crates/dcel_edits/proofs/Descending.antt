-- Steps that are done for the items of a list, from its last one to its first.
use Rattle.std.proofs.Common.{◌≡◌, ℕ, ◌≤◌, List, fold, length, reverse, take, sym, ap, subst, arith}
use Rattle.std.proofs.lemmas.List.{take_all}
use Rattle.dcel_edits.specs.TakingOut.{CanDoAll}

module _ {S : Type 0} (step : S → ℕ → S) (can : S → ℕ → Type 0) (old : S) (list : List ℕ) where
  -- so many items are left, and what they make of the state is what all make of the first one
  pub record Descends (now : S) (left : ℕ) : Type 0 where
    pub within : left ≤ length list
    pub completes : fold step now (reverse (take left list)) ≡ fold step old (reverse list)
    pub rest : CanDoAll step can now (reverse (take left list))

  pub descent_begins : CanDoAll step can old (reverse list) → Descends old (length list)
  descent_begins all =
      let whole : take (length list) list ≡ list = take_all (length list) list (omega arith) in
      record {
        within = omega arith;
        completes = ap (λ l. fold step old (reverse l)) whole;
        rest = subst (λ l. CanDoAll step can old (reverse l)) (sym whole) all;
      }
