-- Answers in a caller's buffer.
use Rattle.std.specs.Prelude.{◌≡◌, ◌++◌, ◌^◌, ℕ, true, List, length, min, take, drop}
use Rattle.dcel_commands.specs.Talk.{Talk, start}
use Rattle.dcel_text.specs.Lines.{lines}

-- the first items of a list, as many as fit, before what stays of the buffer
abbrev pub filled : {T : Type 0} → List T → List T → List T
filled list before = let n = min (length list) (length before) in take n list ++ drop n before

-- a list is an answer, the buffer was filled with it, and its length is the count
pub record HasAnswer {T : Type 0} (IsAnswer : List T → Type 0) (before after : List T) (needed : ℕ) : Type 0 where
  pub answer : List T
  pub answered : IsAnswer answer
  pub put : after ≡ filled answer before
  pub counted : needed ≡ length answer

-- the answer is a text that the lines of the bytes may be answered by
abbrev pub HasReplies : (bytes before after : List ℕ) (needed : ℕ) → Type 0
HasReplies bytes = HasAnswer (Talk (2 ^ 31) start (lines true bytes))
