-- What `legalize_edges` answers.
use Rattle.std.specs.Prelude.{◌≡◌, ℕ, ◌<◌, ◌≤◌, Bool, List, length}
use Rattle.dcel_maps.specs.Shapes.{Mesh}
use Rattle.dcel_legalize.specs.Flipping.{Ending, EachInTurn, Follows, IsSettled, SomeDue, edges_flipped}
use Rattle.dcel_legalize.specs.Flipping.Ending.{Settled, AtLimit, NoMemory}
use Rattle.dcel_legalize.specs.declared.legalized.Legalized.{Legalized}
use Rattle.dcel_legalize.specs.declared.legalized.Legalized.TheVariants.{Done, Stopped, OutOfMemory}

-- the number of flips that it tells, and how the run ended
abbrev pub flips_told : Legalized → ℕ
flips_told (Done n) = n
flips_told (Stopped n) = n
flips_told (OutOfMemory n) = n

abbrev pub ending_told : Legalized → Ending
ending_told (Done n) = Settled
ending_told (Stopped n) = AtLimit
ending_told (OutOfMemory n) = NoMemory

module _ {V DE UE F : Type 0} (w : List ℕ → Bool) (m : Mesh V DE UE F) (list : List ℕ) (max_flips : ℕ) where
  -- what stands at the end, by how it ended
  abbrev pub Ends : List ℕ → Legalized → Type 0
  Ends us (Done n) = IsSettled w m list us
  Ends us (Stopped n) = (n ≡ max_flips) × SomeDue w (edges_flipped m us)
  Ends us (OutOfMemory n) = (n < max_flips) × SomeDue w (edges_flipped m us)

  -- The edges flipped, in order, by the rule: the mesh is the old one after these flips, which are no more than were allowed; each was
  -- due in its turn, and came of the list or of flips before.
  pub record IsLegalized (answer : Legalized) (after : Mesh V DE UE F) : Type 0 where
    pub turned : List ℕ
    pub rule : Follows w m list max_flips turned (ending_told answer)
    pub mesh : after ≡ edges_flipped m turned
    pub number : flips_told answer ≡ length turned
    pub few : length turned ≤ max_flips
    pub in_turn : EachInTurn w m list turned
    pub ends : Ends turned answer
