-- What a source gives and a sink takes, where their bytes are told.
use Rattle.std.specs.Prelude.{ℕ, ◌≡◌, ◌<◌, ◌++◌, List, Option, Some, None, Result, Ok, Err, MatchResult, ⊤, ◌⊎◌, length, take, []}
use Rattle.std.specs.Io.KnownBytes.{Consumes, Appends, IsAtEnd}
use mathlib.Core.HLevel.{Unit-prop}
use mathlib.Core.List.{is_set as list_set}
use native.Mathlib.Nat.{ℕ_set}

-- known bytes stay as they were, or are told no more
abbrev pub KeepsOrHides : Option (List ℕ) → Option (List ℕ) → Type 0
KeepsOrHides None new = ⊤
KeepsOrHides (Some xs) None = ⊤
KeepsOrHides (Some xs) (Some ys) = ys ≡ xs

-- known bytes grow by bs, or are told no more
abbrev pub AppendsOrHides : Option (List ℕ) → Option (List ℕ) → List ℕ → Type 0
AppendsOrHides None new bs = ⊤
AppendsOrHides (Some xs) None bs = ⊤
AppendsOrHides (Some xs) (Some ys) bs = ys ≡ xs ++ bs

-- known bytes grow by a beginning of the text, or are told no more
pub record AppendsBeginning (old new : Option (List ℕ)) (text : List ℕ) : Type 0 where
  pub taken : List ℕ
  pub rest : List ℕ
  pub whole : text ≡ taken ++ rest
  pub grows : AppendsOrHides old new taken

-- `fill(buf)` gave the next n bytes at `Ok(n)`, none only at the end or with no room, and none at `Err`
abbrev pub FillGives : {E : Type 0} → Option (List ℕ) → Option (List ℕ) → Result ℕ E → List ℕ → Type 0
FillGives old new r buf = MatchResult r (λ n. Consumes old new (take n buf) × (n ≡ 0 → 0 < length buf → IsAtEnd new)) (λ _. KeepsOrHides old new)

-- `put(bytes)` took the first n bytes at `Ok(n)`, and none at `Err`
abbrev pub PutTakes : {E : Type 0} → Option (List ℕ) → Option (List ℕ) → Result ℕ E → List ℕ → Type 0
PutTakes old new r bytes = MatchResult r (λ n. Appends old new (take n bytes)) (λ _. KeepsOrHides old new)

-- `put(bytes)` answered what one write gave, or failed where that took none of a text that isn't empty
abbrev pub PutsOnce : {E : Type 0} → (Result ℕ E → Type 0) → List ℕ → Result ℕ E → Type 0
PutsOnce Gave bytes (Ok n) = Gave (Ok n)
PutsOnce Gave bytes (Err e) = Gave (Err e) ⊎ (Gave (Ok 0) × 0 < length bytes)

-- that no known byte is left has one proof at most, as a ghost field asks
pub IsAtEnd-prop : (known : Option (List ℕ)) → IsProp (IsAtEnd known)
IsAtEnd-prop None = Unit-prop
IsAtEnd-prop (Some xs) = list_set ℕ_set xs []
