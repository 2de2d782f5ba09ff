use Rattle.std.proofs.Common.{ℕ, ◌≤◌, ◌^◌, Ok, Err}
use Rattle.std.specs.Prelude.{◌≡◌, Result, IfOk, IfErr, OnOk, OnErr}
use Rattle.dcel_commands.specs.declared.commands.reply.Refused.{Refused}
use Rattle.dcel_commands.specs.declared.commands.reply.Reply.{Reply}
use Rattle.dcel_commands.specs.Edits.{edits_of}
use Rattle.dcel_commands.specs.Instructions.{Instruction, command_rule}
use Rattle.dcel_commands.specs.Responses.{answered, response}
use Rattle.dcel_commands.specs.Steps.{Carries, IsRefusal, Legal, Step}
use Rattle.dcel_maps.specs.EditLists.{EditedBy}
use Rattle.dcel_maps.specs.Shapes.{IsMesh, Mesh}
use Rattle.dcel_commands.proofs.Edits.{step_edits}
use Rattle.dcel_commands.proofs.commands.command.apply.Goals as goal

-- what that says where the command was carried out, and where it was refused
parts : {V A DE UE F : Type 0} (is_half : DE → Type 0) (is_edge : UE → Type 0) (is_face : F → Type 0) (limit : ℕ) (old new : Mesh V DE UE F) (command : Instruction V) (outcome : Result (Reply V A) (Refused V))
    → Carries is_half is_edge is_face limit old (command_rule command) (answered outcome) new
    → IfOk outcome (λ reply. Step is_half is_edge is_face old command (response reply) new) × OnOk outcome (Legal old.shape limit command) × IfErr outcome (λ refused. IsRefusal old.shape limit command refused) × OnErr outcome (new ≡ old)
parts is_half is_edge is_face limit old new command (Ok reply) c = (c.1, c.0, tt, tt)
parts is_half is_edge is_face limit old new command (Err refused) c = (tt, tt, c.0, c.1)

pub returns-clause-step : goal.returns-clause-step
returns-clause-step g c = (parts _ _ _ _ _ _ _ c.carry_out-answer.result c.carry_out-answer.ensures).0

-- where it was carried out, it is its elementary edits
edited : {V A DE UE F : Type 0} (is_half : DE → Type 0) (is_edge : UE → Type 0) (is_face : F → Type 0) (limit : ℕ) → limit ≤ 2 ^ 31 → (old new : Mesh V DE UE F)
    → IsMesh old → (command : Instruction V) (outcome : Result (Reply V A) (Refused V))
    → Carries is_half is_edge is_face limit old (command_rule command) (answered outcome) new
    → IfOk outcome (λ reply. EditedBy (edits_of old command (response reply)) old new)
edited is_half is_edge is_face limit small old new mesh command (Ok reply) c = step_edits is_half is_edge is_face limit small old mesh command c.0 (response reply) new c.1
edited is_half is_edge is_face limit small old new mesh command (Err refused) c = tt

pub returns-clause-edits : goal.returns-clause-edits
returns-clause-edits g c = edited _ _ _ c.args.limit c.requires c.args.dcel.now _ c.every_mesh.ensures _ c.carry_out-answer.result c.carry_out-answer.ensures

pub returns-clause-legal : goal.returns-clause-legal
returns-clause-legal g c = (parts _ _ _ _ _ _ _ c.carry_out-answer.result c.carry_out-answer.ensures).1

pub returns-clause-refused : goal.returns-clause-refused
returns-clause-refused g c = (parts _ _ _ _ _ _ _ c.carry_out-answer.result c.carry_out-answer.ensures).2

pub returns-clause-unchanged : goal.returns-clause-unchanged
returns-clause-unchanged g c = (parts _ _ _ _ _ _ _ c.carry_out-answer.result c.carry_out-answer.ensures).3
