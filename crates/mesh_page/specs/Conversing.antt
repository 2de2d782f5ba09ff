-- Meshes that lines edit.
use Rattle.dcel_commands.specs.Rules.{State}
use Rattle.dcel_commands.specs.Talk.{Answers, start}
use Rattle.dcel_replay.specs.Answering.{IsAnswered, IsText}
use Rattle.dcel_replay.specs.declared.answer.Answer.{Answer}
use Rattle.lent_heap.specs.declared.heap.Heap.{Heap}
use Rattle.mesh_page.specs.declared.desk.Conversation.{Conversation}
use Rattle.std.specs.Prelude.{◌≡◌, ◌^◌, ℕ, [], List, Option, None, Some}
use denote.Ref.{Bor}

-- an empty mesh, before the first line
pub record IsBlank (c : Conversation) : Type 0 where
  pub mesh : c.replay.mesh ≡ start
  pub before : c.replay.before ≡ None
  pub unsaid : c.last ≡ None

-- the text of the answer to a last line, none where there was no line
abbrev pub IsTextOf : State → Option (Answer (Bor Heap)) → List ℕ → Type 0
IsTextOf m None text = text ≡ []
IsTextOf m (Some answer) text = IsText m answer text

-- the text is the reply to the last line
abbrev pub IsReply : Conversation → List ℕ → Type 0
IsReply c = IsTextOf c.replay.mesh c.last

-- the line was answered, which is kept; and the text of that is one that may answer the line, between the two meshes
pub record Hears (line : List ℕ) (old new : Conversation) : Type 0 where
  pub answer : Answer (Bor Heap)
  pub kept : new.last ≡ Some answer
  pub answered : IsAnswered line answer old.replay.mesh old.replay.before new.replay.mesh new.replay.before
  pub text : (text : List ℕ) → IsText new.replay.mesh answer text → Answers (2 ^ 31) old.replay.mesh line text new.replay.mesh
