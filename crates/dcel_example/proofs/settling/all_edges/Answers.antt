use Rattle.std.proofs.Common.{inl, inr, ℕ, ◌+◌, ◌<◌, List, [], ◌∷◌, ◌++◌, arith}
use Rattle.std.proofs.lemmas.Bool.{cases_eq}
use Rattle.dcel_maps.specs.Words.{count_of}
use Rattle.dcel_maps.proofs.words.Counts.{count-append, count-equal}
use Rattle.dcel_example.proofs.settling.all_edges.Goals as goal

-- a list with all numbers below n, and n at its end, has all numbers up to n
one_more : (list : List ℕ) (n : ℕ) → ((u : ℕ) → u < n → 0 < count_of u list) → (u : ℕ) → u < n + 1 → 0 < count_of u (list ++ n ∷ [])
one_more list n all u below = elim (cases_eq u n) [
  | inl same ↦ omega (arith, count-append u list (n ∷ []), count-equal u n [] same)
  | inr away ↦ let before = all u (omega (arith, below, away)) in omega (arith, count-append u list (n ∷ []), before)
]

pub loop-index-init : goal.loop-index-init
loop-index-init g c = λ u below. absurd (omega (arith, below))

pub loop-index-preserved : goal.loop-index-preserved
loop-index-preserved g c = rw (c.in_ok-push.ensures.items, c.new.ensures) (one_more c.loop-index.list.items c.loop-index.index c.loop-index.invariant)
