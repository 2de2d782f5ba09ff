-- What a line does to a replay: to its mesh, and to what this was before a removal that is open.
use Rattle.std.specs.Prelude.{◌≡◌, ◌⊎◌, ◌^◌, ⊤, ℕ, ℤ, Bool, true, false, List, Ok, Option, None, Some}
use Rattle.dcel_commands.specs.Conditions.{AllMet, FirstUnmet}
use Rattle.dcel_commands.specs.Instructions.{Append, Ask, Edit, Instruction, Remesh, Saying, Strip, Swap, command_rule}
use Rattle.dcel_commands.specs.Instructions as instructions
use Rattle.dcel_commands.specs.Queries.{query_asks}
use Rattle.dcel_commands.specs.Responses.{Response}
use Rattle.dcel_commands.specs.Rules.{State}
use Rattle.dcel_commands.specs.Spelling.{Spells}
use Rattle.dcel_commands.specs.Steps.{Carries, IsRefusalBy}
use Rattle.dcel_commands.specs.Talk.{IsZero}
use Rattle.dcel_commands.specs.declared.commands.reply.Refused.{Refused}
use Rattle.dcel_commands.specs.declared.refusal.Refusal.{Refusal}
use Rattle.dcel_maps.specs.Removals.{Removal, Isolated}
use Rattle.dcel_replay.specs.declared.wrong.Wrong.{Wrong}
use Rattle.dcel_replay.specs.declared.wrong.Wrong.TheVariants as wrongs

-- a command is carried out with this reply
abbrev pub Replies : State → Instruction ℤ → Response ℤ → State → Type 0
Replies old command reply new = Carries IsZero IsZero IsZero (2 ^ 31) old (command_rule command) (Ok reply) new

-- it is carried out, and not refused
abbrev pub Edits : State → Instruction ℤ → State → Type 0
Edits old command new = (reply : Response ℤ) × Replies old command reply new

-- it opens a removal
abbrev pub opens_removal : Instruction ℤ → Bool
opens_removal (instructions.Isolate v hs) = true
opens_removal (Remesh hs us fs) = true
opens_removal (Strip hs) = true
opens_removal _ = false

-- what the mesh of before must carry out too, so that vertices have the same numbers in both
abbrev pub echoed : Instruction ℤ → Option (Instruction ℤ)
echoed (Append datum) = Some (Append datum)
echoed (Swap a b) = Some (Swap a b)
echoed _ = None

-- it carries the command out, or is forgotten
abbrev pub Echoes : Instruction ℤ → Option State → Option State → Type 0
Echoes command None after = after ≡ None
Echoes command (Some before) after = (after ≡ None) ⊎ ((new : State) × (after ≡ Some new) × Edits before command new)

abbrev pub EchoesIf : Option (Instruction ℤ) → Option State → Option State → Type 0
EchoesIf None before after = after ≡ before
EchoesIf (Some command) before after = Echoes command before after

-- the mesh of before stays while the removal is open, but for what is echoed
abbrev pub KeepsBut : Removal → Option (Instruction ℤ) → Option State → Option State → Type 0
KeepsBut (Isolated _ _ _) echo before after = EchoesIf echo before after
KeepsBut _ echo before after = after ≡ None

abbrev pub Keeps : Removal → Instruction ℤ → Option State → Option State → Type 0
Keeps removal command = KeepsBut removal (echoed command)

-- it is what the mesh was when the removal was opened
abbrev pub Remembers : Bool → State → Instruction ℤ → Option State → State → Option State → Type 0
Remembers true old command before new after = after ≡ Some old
Remembers false old command before new after = Keeps new.shape.removal command before after

-- a command edits the mesh; a query is legal and changes nothing
abbrev pub Does : Saying → State → Option State → State → Option State → Type 0
Does (Edit command) old before new after = Edits old command new × Remembers (opens_removal command) old command before new after
Does (Ask query) old before new after = AllMet old.shape (query_asks query) × (new ≡ old) × (after ≡ before)

-- a command or query is refused by its first condition that isn't met, or a command for want of memory
abbrev pub Refuses : State → Saying → Refusal → Type 0
Refuses m (Edit command) why = (refused : Refused ℤ) × IsRefusalBy m.shape (2 ^ 31) (command_rule command) refused × (refused.why ≡ why)
Refuses m (Ask query) why = FirstUnmet m.shape (query_asks query) why

-- what is wrong with what a line says: the mesh refuses it, or there is no memory
abbrev pub IsWrongWith : State → Saying → Wrong → Type 0
IsWrongWith m said wrongs.BadLine = ⊥
IsWrongWith m said (wrongs.Refused why) = Refuses m said why
IsWrongWith m said (wrongs.OutOfMemory error) = ⊤

-- what is wrong with a line: it says nothing, or this is wrong with what it says
abbrev pub IsWrong : State → List ℕ → Wrong → Type 0
IsWrong m line wrongs.BadLine = (said : Saying) → ¬ Spells said line
IsWrong m line wrong = (said : Saying) × Spells said line × IsWrongWith m said wrong
