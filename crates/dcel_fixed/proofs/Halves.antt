use Rattle.std.specs.Int.Bits.{bit_and, bit_xor, xor_add_and}
use Rattle.std.proofs.Common.{◌≡◌, ◌≢◌, ℕ, ◌+◌, ◌*◌, ◌/◌, ◌%◌, ◌<◌, arith}
use Rattle.std.proofs.lemmas.Nat.{and_mask}
use Rattle.dcel_fixed.specs.HalfEdges.{rev}

-- the other half of an even half edge is the next number
pub rev-even : (h : ℕ) → h % 2 ≡ 0 → rev h ≡ h + 1
unfolding rev
rev-even h even = omega (arith, even)

-- two reversals take each other back
pub rev-rev : (h : ℕ) → rev (rev h) ≡ h
unfolding rev
rev-rev h = omega arith

-- both halves belong to one edge
pub rev-half : (h : ℕ) → rev h / 2 ≡ h / 2
unfolding rev
rev-half h = omega arith

-- the two halves of an edge are two
pub rev-ne : (h : ℕ) → rev h ≢ h
unfolding rev
rev-ne h same = omega (arith, same)

-- below an even number lie whole edges
pub rev_within : (h n : ℕ) → n % 2 ≡ 0 → h < n → rev h < n
unfolding rev
rev_within h n even below = omega (arith, even, below)

-- the other half of an edge's normalized half edge
pub rev-double : (u : ℕ) → rev (2 * u) ≡ 2 * u + 1
unfolding rev
rev-double u = omega arith

-- the normalized half edge is the other half of the second
pub rev-double-suc : (u : ℕ) → rev (2 * u + 1) ≡ 2 * u
unfolding rev
rev-double-suc u = omega arith

-- flipping the last bit reverses a half edge
pub xor_one : (h : ℕ) → bit_xor h 1 ≡ rev h
unfolding rev
xor_one h =
    let last : bit_and h 1 ≡ h % 2 = and_mask h 1 in
    omega (arith, last, xor_add_and h 1)

-- what the two halves of an edge have to do with each other
pub ruleset halves = (rev-rev, rev-half, rev-ne, rev_within, rev-double, rev-double-suc)
