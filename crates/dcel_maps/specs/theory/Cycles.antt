-- Lists that a relation leads along, and round.
use Rattle.std.specs.Prelude.{ℕ, List, [], ◌∷◌}

-- R leads from x along r to e; the list leads round
abbrev pub Path : (ℕ → ℕ → Type 0) → ℕ → List ℕ → ℕ → Type 0
Path R x [] e = R x e
Path R x (y ∷ r) e = R x y × Path R y r e

abbrev pub IsCycle : (ℕ → ℕ → Type 0) → List ℕ → Type 0
IsCycle R [] = Unit {0}
IsCycle R (x ∷ r) = Path R x r x
