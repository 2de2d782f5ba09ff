-- What lines are answered, and the texts of it.
use Rattle.std.specs.Prelude.{◌≡◌, ℕ, ℤ, Bool, true, false, List, Option, codes}
use Rattle.std.specs.Io.KnownBytes.{Appends}
use Rattle.dcel_commands.specs.Conditions.{AllMet}
use Rattle.dcel_commands.specs.Instructions.{Ask, Edit, Instruction, Saying}
use Rattle.dcel_commands.specs.Queries.{query_asks}
use Rattle.dcel_commands.specs.Refusal.{refusal_text}
use Rattle.dcel_commands.specs.Replies.{reply_text}
use Rattle.dcel_commands.specs.Responses.{response}
use Rattle.dcel_commands.specs.Rules.{State}
use Rattle.dcel_commands.specs.Spelling.{Spells}
use Rattle.dcel_commands.specs.Talk.{IsTold}
use Rattle.dcel_commands.specs.declared.refusal.Refusal.TheVariants.{OutOfMemory}
use Rattle.dcel_replay.specs.Lines.{Refuses, Remembers, Replies, opens_removal}
use Rattle.dcel_replay.specs.declared.answer.Answer.{Answer}
use Rattle.dcel_replay.specs.declared.answer.Answer.TheVariants.{Asked, BadLine, Done, Refused}
use Rattle.dcel_text.specs.Texts.{ended}

-- nothing changed: the mesh, and what is kept of before
abbrev pub Stays : State → Option State → State → Option State → Type 0
Stays old before new after = (new ≡ old) × (after ≡ before)

-- a command is answered so: it is carried out with this reply, or refused so
abbrev pub IsCarriedOut : {A : Type 0} → Instruction ℤ → Answer A → State → Option State → State → Option State → Type 0
IsCarriedOut command BadLine old before new after = ⊥
IsCarriedOut command (Refused why) old before new after = Refuses old (Edit command) why × Stays old before new after
IsCarriedOut command (Done reply) old before new after = Replies old command (response reply) new × Remembers (opens_removal command) old command before new after
IsCarriedOut command (Asked query) old before new after = ⊥

-- a line is answered so: it says nothing; what it says is refused so; it is a command that is carried out with this reply; or it is this
-- query, which is legal
abbrev pub IsAnswered : {A : Type 0} → List ℕ → Answer A → State → Option State → State → Option State → Type 0
IsAnswered line BadLine old before new after = ((said : Saying) → ¬ Spells said line) × Stays old before new after
IsAnswered line (Refused why) old before new after = (said : Saying) × Spells said line × Refuses old said why × Stays old before new after
IsAnswered line (Done reply) old before new after =
    (command : Instruction ℤ) × Spells (Edit command) line × Replies old command (response reply) new × Remembers (opens_removal command) old command before new after
IsAnswered line (Asked query) old before new after = Spells (Ask query) line × AllMet old.shape (query_asks query) × Stays old before new after

-- it is refused for want of memory
abbrev pub lacks_memory : {A : Type 0} → Answer A → Bool
lacks_memory (Refused OutOfMemory) = true
lacks_memory _ = false

-- the text of an answer; that of a query says what it is told of the mesh, or that it is refused
abbrev pub IsText : {A : Type 0} → State → Answer A → List ℕ → Type 0
IsText m BadLine text = text ≡ ended (codes "bad line")
IsText m (Refused why) text = text ≡ refusal_text why
IsText m (Done reply) text = text ≡ reply_text (response reply)
IsText m (Asked query) text = IsTold m query text

-- the bytes that are known grow by a text of the answer
pub record WritesText {A : Type 0} (m : State) (answer : Answer A) (old new : Option (List ℕ)) : Type 0 where
  pub text : List ℕ
  pub is : IsText m answer text
  pub written : Appends old new text
