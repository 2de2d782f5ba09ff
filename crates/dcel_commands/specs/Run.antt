-- What was read and written when a run is over.
use Rattle.std.specs.Prelude.{◌≡◌, ℕ, Bool, true, false, List, Option}
use Rattle.std.specs.Io.KnownBytes.{Consumes, Appends, IsAtEnd}
use Rattle.dcel_text.specs.Transfer.{KeepsOrHides, AppendsBeginning}
use Rattle.dcel_text.specs.Lines.{lines}
use Rattle.dcel_commands.specs.Talk.{Talk, start}

-- all bytes were read, and a text was written that answers their lines
pub record AnswersAll (limit : ℕ) (source_old source_new sink_old sink_new : Option (List ℕ)) : Type 0 where
  pub bytes : List ℕ
  pub text : List ℕ
  pub read : Consumes source_old source_new bytes
  pub ended : IsAtEnd source_new
  pub answered : Talk limit start (lines true bytes) text
  pub written : Appends sink_old sink_new text

-- the source failed after some bytes, and a text was written that answers the lines that were read whole
pub record AnswersWholeLines (limit : ℕ) (source_old source_new sink_old sink_new : Option (List ℕ)) : Type 0 where
  pub bytes : List ℕ
  pub text : List ℕ
  pub left : Option (List ℕ)
  pub read : Consumes source_old left bytes
  pub broke : KeepsOrHides left source_new
  pub answered : Talk limit start (lines false bytes) text
  pub written : Appends sink_old sink_new text

-- the sink failed after some bytes were read, and a beginning was written of a text that answers their lines; a last line without a line feed is among them only at the end
pub record AnswersInPart (limit : ℕ) (source_old source_new sink_old sink_new : Option (List ℕ)) : Type 0 where
  pub bytes : List ℕ
  pub text : List ℕ
  pub unended : Bool
  pub read : Consumes source_old source_new bytes
  pub ended : unended ≡ true → IsAtEnd source_new
  pub answered : Talk limit start (lines unended bytes) text
  pub written : AppendsBeginning sink_old sink_new text
