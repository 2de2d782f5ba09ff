-- Commands one after another.
use Rattle.std.specs.Prelude.{◌≡◌, ◌⊎◌, ℕ, List, [], ◌∷◌, ◌++◌, length}
use Rattle.dcel_commands.specs.declared.commands.reply.Refused.{Refused}
use Rattle.dcel_commands.specs.declared.refusal.Refusal.TheVariants.{OutOfMemory}
use Rattle.dcel_commands.specs.Instructions.{Instruction}
use Rattle.dcel_commands.specs.Replies.{bare}
use Rattle.dcel_commands.specs.Responses.{Response}
use Rattle.dcel_commands.specs.Steps.{IsRefusal, Legal, Step}
use Rattle.dcel_maps.specs.Shapes.{IsMesh, Mesh}

module _ {V DE UE F : Type 0} (is_half : DE → Type 0) (is_edge : UE → Type 0) (is_face : F → Type 0) (limit : ℕ) where
  -- a legal command is carried out, answered so, and leaves this mesh
  pub record Takes (old : Mesh V DE UE F) (command : Instruction V) (reply : Response V) (new : Mesh V DE UE F) : Type 0 where
    pub legal : Legal old.shape limit command
    pub step : Step is_half is_edge is_face old command reply new
    pub mesh : IsMesh new

  -- the commands are carried out in their order, with one reply for each
  abbrev pub Run : Mesh V DE UE F → List (Instruction V) → List (Response V) → Mesh V DE UE F → Type 0
  Run old [] [] new = new ≡ old
  Run old [] (reply ∷ replies) new = ⊥
  Run old (command ∷ commands) [] new = ⊥
  Run old (command ∷ commands) (reply ∷ replies) new = (middle : Mesh V DE UE F) × Takes old command reply middle × Run middle commands replies new

  -- the commands before a place are carried out, and the one at that place is refused
  pub record IsRefusedAt (old : Mesh V DE UE F) (commands : List (Instruction V)) (done : List (Response V)) (at : ℕ) (refused : Refused V) (new : Mesh V DE UE F) : Type 0 where
    pub before : List (Instruction V)
    pub command : Instruction V
    pub after : List (Instruction V)
    pub are : commands ≡ before ++ command ∷ after
    pub place : at ≡ length before
    pub run : Run old before done new
    pub refusal : IsRefusal new.shape limit command refused

  -- there is no memory for the replies, and nothing is done
  pub record HasNoReplies (old : Mesh V DE UE F) (done : List (Response V)) (at : ℕ) (refused : Refused V) (new : Mesh V DE UE F) : Type 0 where
    pub none : done ≡ []
    pub place : at ≡ 0
    pub refusal : refused ≡ bare OutOfMemory
    pub unchanged : new ≡ old

  -- so a list of commands comes to a stop
  abbrev pub Stops : Mesh V DE UE F → List (Instruction V) → List (Response V) → ℕ → Refused V → Mesh V DE UE F → Type 0
  Stops old commands done at refused new = HasNoReplies old done at refused new ⊎ IsRefusedAt old commands done at refused new
