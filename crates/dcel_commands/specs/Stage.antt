-- A conversation that has come some way.
use Rattle.std.specs.Prelude.{ℕ, Bool, true, List, [], ◌∷◌, ◌++◌, Option}
use Rattle.dcel_text.specs.Lines.{lines, joined, line_feed}
use Rattle.dcel_text.specs.declared.output.Writer.{Writer}
use Rattle.dcel_text.specs.Output.{Writes}
use Rattle.dcel_commands.specs.Rules.{State}
use Rattle.dcel_commands.specs.Talk.{Talk}

-- where a conversation stands: the mesh, and the bytes of the line that has begun
pub record Stage : Type 0 where
  pub mesh : State
  pub begun : List ℕ

-- what ends a line that has begun
abbrev pub closing : List ℕ → List ℕ
closing [] = []
closing (b ∷ bs) = line_feed ∷ []

-- from there the bytes to come may be answered by this text
abbrev pub Goes : ℕ → Bool → Stage → List ℕ → List ℕ → Type 0
Goes limit unended p bytes text = Talk limit p.mesh (joined unended p.begun (lines unended bytes)) text

-- from one stage to the other the bytes are answered by the text: with what answers the bytes to come it answers them all
abbrev pub Leads : ℕ → Stage → Stage → List ℕ → List ℕ → Type 0
Leads limit p q bytes text = (unended : Bool) (rest more : List ℕ) → Goes limit unended q rest more → Goes limit unended p (bytes ++ rest) (text ++ more)

-- the bytes were answered by a text that was written
pub record Serves {K : Type 0} (has_failed : K → Bool) (contents : K → Option (List ℕ)) (limit : ℕ) (p q : Stage) (bytes : List ℕ) (old new : Writer K) : Type 0 where
  pub text : List ℕ
  pub writes : Writes has_failed contents old new text
  pub leads : Leads limit p q bytes text

-- the end of the bytes was answered by a text that was written
pub record Ends {K : Type 0} (has_failed : K → Bool) (contents : K → Option (List ℕ)) (limit : ℕ) (p : Stage) (old new : Writer K) : Type 0 where
  pub text : List ℕ
  pub writes : Writes has_failed contents old new text
  pub goes : Goes limit true p [] text
