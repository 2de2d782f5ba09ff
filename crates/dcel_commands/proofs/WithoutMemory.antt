-- Commands that are legal and find no memory.
use Rattle.std.proofs.Common.{◌≡◌, ℕ, true, inr, Ok, Err, ap, ◌∙◌}
use Rattle.std.specs.Prelude.{Result}
use Rattle.std.specs.Result.{IsErrAnd}
use Rattle.dcel_commands.specs.declared.commands.reply.Handed.TheVariants.{Nothing}
use Rattle.dcel_commands.specs.declared.commands.reply.Refused.{Refused}
use Rattle.dcel_commands.specs.declared.commands.reply.Reply.{Reply}
use Rattle.dcel_commands.specs.declared.refusal.Refusal.TheVariants.{OutOfMemory}
use Rattle.dcel_commands.specs.Conditions.{AllMet}
use Rattle.dcel_commands.specs.Replies.{bare}
use Rattle.dcel_commands.specs.Responses.{answered}
use Rattle.dcel_commands.specs.Rules.{CommandRule}
use Rattle.dcel_commands.specs.Steps.{Carries}
use Rattle.dcel_maps.specs.Shapes.{Mesh}

-- one that carries no datum is refused so, and leaves the mesh
pub no_memory : {V A DE UE F : Type 0} (is_half : DE → Type 0) (is_edge : UE → Type 0) (is_face : F → Type 0) (limit : ℕ) (old new : Mesh V DE UE F) (rule : CommandRule V) (outcome : Result (Reply V A) (Refused V))
    → IsErrAnd outcome (λ refused. refused ≡ bare OutOfMemory) → AllMet old.shape (rule.asks limit) → rule.takes_memory ≡ true → Nothing ≡ rule.handed → new ≡ old
    → Carries is_half is_edge is_face limit old rule (answered outcome) new
no_memory is_half is_edge is_face limit old new rule (Ok reply) is legal takes nothing same = absurd is
no_memory is_half is_edge is_face limit old new rule (Err refused) is legal takes nothing same = (
  record { why = inr (ap (λ r. r.why) is, takes, legal); back = ap (λ r. r.back) is ∙ nothing },
  same,
)
