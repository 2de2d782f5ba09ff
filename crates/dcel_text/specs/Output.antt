-- Text that is written: what of it went to the sink, and what is held for it.
use Rattle.std.specs.Prelude.{ℕ, ◌≡◌, ◌++◌, Bool, true, false, List, Option}
use Rattle.std.specs.Io.KnownBytes.{Appends}
use Rattle.dcel_text.specs.declared.output.Writer.{Writer}
use Rattle.dcel_text.specs.Transfer.{AppendsOrHides}

-- from a sink s with a list held for it, to a sink t with a list held for it, a text was written: of what was held and the text
-- a part was sent, and the rest is held or, where the sink has failed, lost
pub record Writing {K : Type 0} (has_failed : K → Bool) (contents : K → Option (List ℕ)) (s : K) (before : List ℕ) (t : K) (after text : List ℕ) : Type 0 where
  pub sent : List ℕ
  pub rest : List ℕ
  pub whole : before ++ text ≡ sent ++ rest
  pub begins : AppendsOrHides (contents s) (contents t) sent
  pub calm : has_failed t ≡ false → Appends (contents s) (contents t) sent × (after ≡ rest)
  pub sticky : has_failed s ≡ true → (has_failed t ≡ true) × (contents t ≡ contents s)

-- a writer wrote a text, and goes to the same sink as before
pub record Writes {K : Type 0} (has_failed : K → Bool) (contents : K → Option (List ℕ)) (old new : Writer K) (text : List ℕ) : Type 0 where
  pub same : new.sink.ghost_name ≡ old.sink.ghost_name
  pub writing : Writing has_failed contents old.sink.now old.held new.sink.now new.held text
