-- Elementary edits of a map, and an ear: a chord over two neighbours.
use Rattle.std.proofs.Common.{◌≡◌, ◌≢◌, ◌/◌, ◌==◌, ◌||◌, ℕ, Bool, false}
use Rattle.dcel_maps.specs.Maps.{Live, Map}
pub use Rattle.dcel_maps.specs.Elementary.{ByParts, Chord, ChordAt, Cut, Drawn, FirstEdge, Grows, MiddlePut, Renamed, Spur, SpurAt, Subdivide, first_part, last_part}

-- one of two numbers
abbrev pub two : ℕ → ℕ → ℕ → Bool
two p n x = x == p || x == n

-- what an ear asks: p, n, q follow each other in the cycle
pub record EarAt (S : Map) (p n q h g : ℕ) : Type 0 where
  pub lives : Live S p
  pub next_p : S.next p ≡ n
  pub next_n : S.next n ≡ q
  pub apart : S.origin p ≢ S.origin q
  pub fresh : S.edge (h / 2) ≡ false
  pub vacant : (x : ℕ) → Live S x → S.face x ≢ g

-- a chord over two neighbours: (.. p, n, q ..) becomes (.. h, q ..), and (p, n, rev h) is the new face g
pub record Ear (S T : Map) (p n q h g : ℕ) : Type 0 where
  pub at : EarAt S p n q h g
  pub cut : Cut S T p q h g (two p n)
  pub open cut use *
