-- Edits as numbers, and what they are answered.
use Rattle.dcel_commands.specs.Instructions.{Instruction, Append, Triangle, Setup, Extend, Line, Close, Outside, Insert, Half as HalfSplit, Split, Flip, Swap, Put, Remove, Degenerate, Clear}
use Rattle.dcel_commands.specs.Responses.{Response, Vertex, Half, Halves, Removed}
use Rattle.dcel_c.specs.Calls.{nowhere}
use Rattle.dcel_c.specs.Edits.{Edits, Tells}
use Rattle.dcel_c.specs.Held.{Kept}
use Rattle.dcel_c.specs.declared.batch.DcelEdit.{DcelEdit}
use Rattle.dcel_c.specs.declared.batch.DcelReply.{DcelReply}
use Rattle.std.specs.Prelude.{◌≡◌, ◌≢◌, ◌∷◌, ◌-◌, ◌^◌, ℕ, List, [], Option, Some, None, min, slice_get, unwrap_or}

-- the number of an element; 2^32 - 1, which none has, stands for greater ones
abbrev pub element : ℕ → ℕ
element n = min n (2 ^ 32 - 1)

-- the calls in the order of the header's list, with the numbers that they take
abbrev pub calls : ℕ → ℕ → ℕ → List (Instruction ℕ)
calls a b c =
    let x = element a in let y = element b in
    Append a ∷ Triangle a b c ∷ Setup x y ∷ Extend x y ∷ Line x y ∷ Close x ∷ Outside x y ∷ Insert x y
    ∷ HalfSplit x y ∷ Split x y ∷ Flip x ∷ Swap x y ∷ Put x b ∷ Remove x ∷ Degenerate x ∷ Clear ∷ []

-- the command that an edit is
abbrev pub instruction_of : DcelEdit → Option (Instruction ℕ)
instruction_of edit = slice_get (calls edit.first edit.second edit.third) edit.call

-- the number that is told of a reply
abbrev pub number_told : Response ℕ → ℕ
number_told (Vertex v) = v
number_told (Half h) = h
number_told (Halves (first ∷ second ∷ [])) = second
number_told (Removed datum moved) = datum
number_told _ = nowhere

-- the old number of the vertex that was moved
abbrev pub moved_told : Response ℕ → ℕ
moved_told (Removed datum moved) = unwrap_or moved nowhere
moved_told _ = nowhere

-- a call carries the edit out, or refuses it and tells no number; where there is no such call, nothing changes
pub record Answers (old : Kept) (edit : DcelEdit) (new : Kept) (reply : DcelReply) : Type 0 where
  pub edits : (command : Instruction ℕ) → instruction_of edit ≡ Some command → Edits old command new reply.status
  pub number : (command : Instruction ℕ) → instruction_of edit ≡ Some command → reply.status ≡ 0 → Tells number_told old command new reply.number
  pub moved : (command : Instruction ℕ) → instruction_of edit ≡ Some command → reply.status ≡ 0 → Tells moved_told old command new reply.moved
  pub untold : reply.status ≢ 0 → (reply.number ≡ nowhere) × (reply.moved ≡ nowhere)
  pub none : instruction_of edit ≡ None → (reply.status ≡ 31) × (new ≡ old)

-- each edit is answered so, one after the other
abbrev pub AppliesAll : Kept → List DcelEdit → Kept → List DcelReply → Type 0
AppliesAll old [] new replies = (new ≡ old) × (replies ≡ [])
AppliesAll old (edit ∷ edits) new [] = ⊥
AppliesAll old (edit ∷ edits) new (reply ∷ replies) = (between : Kept) × Answers old edit between reply × AppliesAll between edits new replies
