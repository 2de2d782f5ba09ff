-- A search that ends where it finds a second one.
use Rattle.std.proofs.Common.{◌≡◌, inl, inr, ℕ, ◌+◌, ◌<◌, Bool, true, false, subst, sym, arith}
use Rattle.std.proofs.lemmas.Bool.{cases_eq, false≢true}

-- what holds of all numbers below n, and of n
pub one_further : (P : ℕ → Type 0) (n : ℕ) → ((h : ℕ) → h < n → P h) → P n → (h : ℕ) → h < n + 1 → P h
one_further P n before has h below = elim (cases_eq h n) [ inl last ↦ subst P (sym last) has | inr differs ↦ before h (omega (arith, below, differs)) ]

-- of the numbers below n at most one has P, and `found` says whether one has
pub record Seen (P : ℕ → Type 0) (n : ℕ) (found : Bool) : Type 0 where
  pub none : found ≡ false → (h : ℕ) → h < n → P h → ⊥
  pub some : found ≡ true → (h : ℕ) × (h < n) × P h
  pub one : (h k : ℕ) → h < n → k < n → P h → P k → h ≡ k

module _ (P : ℕ → Type 0) where
  pub seen_none : Seen P 0 false
  seen_none = record {
    none = λ is h below. absurd (omega (arith, below));
    some = λ is. absurd (false≢true is);
    one = λ h k below. absurd (omega (arith, below));
  }
