-- What commands do to a mesh, and what they are answered.
use Rattle.std.specs.Prelude.{◌≡◌, ◌⊎◌, ℕ, IsTrue, List, Result, Ok, Err}
use Rattle.dcel_commands.specs.declared.commands.reply.Refused.{Refused}
use Rattle.dcel_commands.specs.declared.refusal.Refusal.{Refusal}
use Rattle.dcel_commands.specs.declared.refusal.Refusal.TheVariants.{OutOfMemory}
use Rattle.dcel_commands.specs.Conditions.{Entry, AllMet, FirstUnmet}
use Rattle.dcel_commands.specs.Instructions.{Instruction, command_rule}
use Rattle.dcel_commands.specs.Responses.{Response}
use Rattle.dcel_commands.specs.Rules.{CommandRule}
use Rattle.dcel_maps.specs.Shapes.{Mesh, Shape}

-- the conditions of a command, each after the refusal that answers where it isn't met, in the order of checking
abbrev pub asks : {V : Type 0} → ℕ → Instruction V → List Entry
asks limit command = (command_rule command).asks limit

-- the command meets all that it asks
abbrev pub Legal : {V : Type 0} → Shape → ℕ → Instruction V → Type 0
Legal s limit command = AllMet s (asks limit command)

-- the command is refused so: the first that it asks and that isn't met has this refusal
abbrev pub Refuses : {V : Type 0} → Shape → ℕ → Instruction V → Refusal → Type 0
Refuses s limit command why = FirstUnmet s (asks limit command) why

-- the command is answered so and leaves this mesh, with default data for new half edges, edges and faces
abbrev pub Step : {V DE UE F : Type 0} → (DE → Type 0) → (UE → Type 0) → (F → Type 0) → Mesh V DE UE F → Instruction V → Response V → Mesh V DE UE F → Type 0
Step is_half is_edge is_face old command reply new = (command_rule command).Makes is_half is_edge is_face old reply new

-- a refusal by the rule: by the first condition that isn't met, or for want of memory where all are; its data come back
pub record IsRefusalBy {V : Type 0} (s : Shape) (limit : ℕ) (rule : CommandRule V) (refused : Refused V) : Type 0 where
  pub why : FirstUnmet s (rule.asks limit) refused.why ⊎ ((refused.why ≡ OutOfMemory) × IsTrue rule.takes_memory × AllMet s (rule.asks limit))
  pub back : refused.back ≡ rule.handed

-- the same of a command
abbrev pub IsRefusal : {V : Type 0} → Shape → ℕ → Instruction V → Refused V → Type 0
IsRefusal s limit command refused = IsRefusalBy s limit (command_rule command) refused

-- all that the rule asks is met and it is carried out, or it is refused and changes nothing
abbrev pub Carries : {V DE UE F : Type 0} → (DE → Type 0) → (UE → Type 0) → (F → Type 0) → ℕ → Mesh V DE UE F → CommandRule V → Result (Response V) (Refused V) → Mesh V DE UE F → Type 0
Carries is_half is_edge is_face limit old rule (Ok reply) new = AllMet old.shape (rule.asks limit) × rule.Makes is_half is_edge is_face old reply new
Carries is_half is_edge is_face limit old rule (Err refused) new = IsRefusalBy old.shape limit rule refused × (new ≡ old)
