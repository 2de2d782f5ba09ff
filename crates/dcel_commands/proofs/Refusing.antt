-- What refuses a command, and what comes of an illegal request.
use Rattle.std.proofs.Common.{◌≡◌, ◌↔◌, inl, inr, ℕ, List, Ok, Err, ap, arith}
use Rattle.dcel_commands.specs.declared.commands.reply.Refused.{Refused}
use Rattle.dcel_commands.specs.declared.refusal.Refusal.{Refusal}
use Rattle.dcel_commands.specs.declared.refusal.Refusal.TheVariants.{OutOfMemory}
use Rattle.dcel_commands.specs.Conditions.{AllMet, FirstUnmet}
use Rattle.dcel_commands.specs.Instructions.{Instruction, Saying, Edit, Ask}
use Rattle.dcel_commands.specs.Refusal.{refusal_number, refusal_text}
use Rattle.dcel_commands.specs.Steps.{asks, IsRefusal, Legal, Refuses}
use Rattle.dcel_commands.specs.Rules.{State}
use Rattle.dcel_commands.specs.Talk.{asked, Does}
use Rattle.dcel_maps.specs.Shapes.{Shape}
use Rattle.dcel_commands.proofs.Columns.{FirstUnmet-not_met}
use Rattle.dcel_commands.proofs.Rows.{refused-below}

not_memory : {V : Type 0} (s : Shape) (limit : ℕ) (command : Instruction V) (why : Refusal) → Refuses s limit command why → ¬ (why ≡ OutOfMemory)
not_memory s limit command why refuses is =
    omega (arith, refused-below s limit command why refuses, ap refusal_number is)

pub memory_refuses_the_legal : {V : Type 0} (s : Shape) (limit : ℕ) (command : Instruction V) (refused : Refused V) → IsRefusal s limit command refused
    → (refused.why ≡ OutOfMemory) ↔ Legal s limit command
memory_refuses_the_legal s limit command refused is = elim is.why [
  | inl refuses ↦ (
    λ memory. absurd (not_memory s limit command refused.why refuses memory),
    λ legal. absurd (FirstUnmet-not_met s (asks limit command) refused.why refuses legal),
  )
  | inr memory ↦ (λ _. memory.2, λ _. memory.0)
]

-- an illegal request is refused
pub refused_so : (limit : ℕ) (old new : State) (said : Saying) (text : List ℕ) → Does limit old said text new → ¬ AllMet old.shape (asked limit said)
    → (why : Refusal) × FirstUnmet old.shape (asked limit said) why × (text ≡ refusal_text why) × (new ≡ old)
refused_so limit old new (Edit command) text (Ok reply, carries, is) illegal = absurd (illegal carries.0)
refused_so limit old new (Edit command) text (Err refused, carries, is) illegal = elim carries.0.why [
  | inl refuses ↦ (refused.why, refuses, is, carries.1)
  | inr memory ↦ absurd (illegal memory.2)
]
refused_so limit old new (Ask query) text (inl told, same) illegal = absurd (illegal told.0)
refused_so limit old new (Ask query) text (inr refused, same) illegal = (refused.0, refused.1, refused.2, same)
