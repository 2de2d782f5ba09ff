-- Answers on their way to a sink.
use Rattle.std.specs.Prelude.{ℕ, Bool, List, Option}
use Rattle.dcel_text.specs.declared.output.Writer.{Writer}
use Rattle.dcel_text.specs.Output.{Writes}

-- a writer wrote a text that fits
pub record WritesSome {K : Type 0} (has_failed : K → Bool) (contents : K → Option (List ℕ)) (old new : Writer K) (Fits : List ℕ → Type 0) : Type 0 where
  pub text : List ℕ
  pub writes : Writes has_failed contents old new text
  pub fits : Fits text
