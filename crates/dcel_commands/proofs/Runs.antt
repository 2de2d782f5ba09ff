-- Lists of commands: one more, how many replies, and how far a list has come.
use Rattle.std.proofs.Common.{◌≡◌, ℕ, List, [], ◌∷◌, ◌++◌, length, append-nil, append_assoc, refl, sym, ◌∙◌, subst, arith}
use Rattle.dcel_commands.specs.declared.commands.reply.Refused.{Refused}
use Rattle.dcel_commands.specs.Instructions.{Instruction}
use Rattle.dcel_commands.specs.Responses.{Response}
use Rattle.dcel_commands.specs.Steps.{IsRefusal}
use Rattle.dcel_maps.specs.Shapes.{Mesh}
use Rattle.dcel_commands.specs.Lists.{IsRefusedAt, Run, Takes}

module _ {V DE UE F : Type 0} (is_half : DE → Type 0) (is_edge : UE → Type 0) (is_face : F → Type 0) (limit : ℕ) where
  -- one command more
  pub run-more : (old middle new : Mesh V DE UE F) (commands : List (Instruction V)) (replies : List (Response V)) (command : Instruction V) (reply : Response V)
      → Run is_half is_edge is_face limit old commands replies middle → Takes is_half is_edge is_face limit middle command reply new
      → Run is_half is_edge is_face limit old (commands ++ command ∷ []) (replies ++ reply ∷ []) new
  run-more old middle new [] [] command reply run takes =
      (new, subst (λ m. Takes is_half is_edge is_face limit m command reply new) run takes, refl)
  run-more old middle new [] (r ∷ replies) command reply run takes = absurd run
  run-more old middle new (c ∷ commands) [] command reply run takes = absurd run
  run-more old middle new (c ∷ commands) (r ∷ replies) command reply (m, first, rest) takes =
      (m, first, run-more m middle new commands replies command reply rest takes)

  -- each command has a reply
  pub run-length : (old new : Mesh V DE UE F) (commands : List (Instruction V)) (replies : List (Response V))
      → Run is_half is_edge is_face limit old commands replies new → length replies ≡ length commands
  run-length old new [] [] run = refl
  run-length old new [] (r ∷ replies) run = absurd run
  run-length old new (c ∷ commands) [] run = absurd run
  run-length old new (c ∷ commands) (r ∷ replies) (m, first, rest) = omega (arith, run-length m new commands replies rest)

  -- some commands are done, and these are left
  pub record IsUnderWay (old : Mesh V DE UE F) (commands : List (Instruction V)) (done : List (Response V)) (left : List (Instruction V)) (new : Mesh V DE UE F) : Type 0 where
    pub before : List (Instruction V)
    pub are : commands ≡ before ++ left
    pub run : Run is_half is_edge is_face limit old before done new

  pub under_way-start : (old : Mesh V DE UE F) (commands : List (Instruction V)) → IsUnderWay old commands [] commands old
  under_way-start old commands = record { before = []; are = refl; run = refl }

  pub under_way-next : (old middle new : Mesh V DE UE F) (commands : List (Instruction V)) (done : List (Response V)) (command : Instruction V) (left : List (Instruction V)) (reply : Response V)
      → IsUnderWay old commands done (command ∷ left) middle → Takes is_half is_edge is_face limit middle command reply new
      → IsUnderWay old commands (done ++ reply ∷ []) left new
  under_way-next old middle new commands done command left reply w takes = record {
    before = w.before ++ command ∷ [];
    are = w.are ∙ sym (append_assoc w.before (command ∷ []) left);
    run = run-more old middle new w.before done command reply w.run takes;
  }

  pub under_way-end : (old new : Mesh V DE UE F) (commands : List (Instruction V)) (done : List (Response V))
      → IsUnderWay old commands done [] new → Run is_half is_edge is_face limit old commands done new
  under_way-end old new commands done w =
      subst (λ (cs : List (Instruction V)). Run is_half is_edge is_face limit old cs done new) (sym (w.are ∙ append-nil w.before)) w.run

  pub under_way-stopped : (old middle new : Mesh V DE UE F) (commands : List (Instruction V)) (done : List (Response V)) (command : Instruction V) (left : List (Instruction V)) (at : ℕ) (refused : Refused V)
      → IsUnderWay old commands done (command ∷ left) middle → IsRefusal middle.shape limit command refused → new ≡ middle → at ≡ length done
      → IsRefusedAt is_half is_edge is_face limit old commands done at refused new
  under_way-stopped old middle new commands done command left at refused w refusal same place = record {
    before = w.before;
    command = command;
    after = left;
    are = w.are;
    place = place ∙ run-length old middle w.before done w.run;
    run = subst (λ m. Run is_half is_edge is_face limit old w.before done m) (sym same) w.run;
    refusal = subst (λ m. IsRefusal m.shape limit command refused) (sym same) refusal;
  }
