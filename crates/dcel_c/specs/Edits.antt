-- What edits do to what is kept, and how they are refused.
use Rattle.dcel_commands.specs.Instructions.{Instruction}
use Rattle.dcel_commands.specs.Refusal.{refusal_number}
use Rattle.dcel_commands.specs.Responses.{Response}
use Rattle.dcel_commands.specs.Steps.{IsRefusal, Legal, Step}
use Rattle.dcel_commands.specs.declared.commands.reply.Refused.{Refused}
use Rattle.dcel_c.specs.Calls.{IsZero}
use Rattle.dcel_c.specs.Held.{Kept}
use Rattle.std.specs.Prelude.{◌≡◌, ◌≢◌, ◌≤◌, ◌^◌, ℕ, Some, None}

-- there was a mesh, of which the command was legal; it is carried out with this reply, and leaves that mesh
abbrev pub Carried : Kept → Instruction ℕ → Response ℕ → Kept → Type 0
Carried (Some old) command reply (Some new) = Legal old.shape (2 ^ 31) command × Step IsZero IsZero IsZero old command reply new
Carried (Some old) command reply None = ⊥
Carried None command reply new = ⊥

-- the same, of whatever reply
abbrev pub CarriedOut : Kept → Instruction ℕ → Kept → Type 0
CarriedOut old command new = (reply : Response ℕ) × Carried old command reply new

-- the status says why not: there is no mesh, or it is the number of the refusal
abbrev pub Refuses : Kept → Instruction ℕ → ℕ → Type 0
Refuses None command status = status ≡ 21
Refuses (Some mesh) command status = (refused : Refused ℕ) × IsRefusal mesh.shape (2 ^ 31) command refused × (status ≡ refusal_number refused.why)

-- the command is carried out and the status is 0, or nothing changes and the status says why not
pub record Edits (old : Kept) (command : Instruction ℕ) (new : Kept) (status : ℕ) : Type 0 where
  pub done : status ≡ 0 → CarriedOut old command new
  pub refused : status ≢ 0 → Refuses old command status
  pub same : status ≢ 0 → new ≡ old
  pub number : status ≤ 21

-- the same of a command with lists, which may find no memory before anything is asked, and of one whose buffers may be short
pub record EditsByLists (old : Kept) (command : Instruction ℕ) (new : Kept) (status : ℕ) : Type 0 where
  pub done : status ≡ 0 → CarriedOut old command new
  pub refused : status ≢ 0 → status ≢ 20 → status ≢ 22 → Refuses old command status
  pub same : status ≢ 0 → new ≡ old
  pub number : status ≤ 22

-- the command is carried out, and this is what is told of its reply
pub record Tells {T : Type 0} (told : Response ℕ → T) (old : Kept) (command : Instruction ℕ) (new : Kept) (says : T) : Type 0 where
  pub reply : Response ℕ
  pub carried : Carried old command reply new
  pub said : says ≡ told reply
