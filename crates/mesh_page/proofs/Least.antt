-- The least of some numbers, looked for from the first on. Each is held as a machine number, too.
use Rattle.std.proofs.Common.{◌≡◌, inl, inr, ◌+◌, ◌<◌, ◌≤◌, ◌≤ℤ◌, ℕ, ℤ, pos, sym, subst, arith}
use Rattle.std.proofs.lemmas.Bool.{cases_eq}
use Rattle.std.proofs.lemmas.Int.{ints}

self : (x : ℤ) → x ≤ℤ x
self x = omega (arith, ints)

under : (a b : ℕ) (x y z : ℤ) → pos a ≡ x → pos b ≡ y → a ≤ b → y ≤ℤ z → x ≤ℤ z
under a b x y z ex ey less more = omega (arith, ints, ex, ey, less, more)

module _ (d : ℕ → ℤ) (k least near far : ℕ) (so_far : (w : ℕ) → w < k → d least ≤ℤ d w) (at_least : pos near ≡ d least) (at_next : pos far ≡ d k) where
  -- the next one is less
  pub least_next : far < near → (w : ℕ) → w < k + 1 → d k ≤ℤ d w
  least_next less w below = elim (cases_eq w k) [
    | inl same ↦ subst (λ (v : ℕ). d k ≤ℤ d v) (sym same) (self (d k))
    | inr other ↦ under far near (d k) (d least) (d w) at_next at_least (omega (arith, less)) (so_far w (omega (arith, below, other)))
  ]

  -- or it isn't
  pub least_still : near ≤ far → (w : ℕ) → w < k + 1 → d least ≤ℤ d w
  least_still more w below = elim (cases_eq w k) [
    | inl same ↦ subst (λ (v : ℕ). d least ≤ℤ d v) (sym same) (under near far (d least) (d k) (d k) at_least at_next more (self (d k)))
    | inr other ↦ so_far w (omega (arith, below, other))
  ]
