-- Commands are lists of elementary edits, and so are lists of commands.
use Rattle.std.proofs.Common.{◌≡◌, inl, inr, ℕ, ◌≤◌, ◌^◌, List, [], ◌∷◌, append-nil, refl, sym, ap, subst}
use Rattle.dcel_commands.specs.declared.commands.reply.Refused.{Refused}
use Rattle.dcel_commands.specs.Edits.{RunEdits, edits_of, edits_of_run}
use Rattle.dcel_commands.specs.Instructions.{Instruction}
use Rattle.dcel_commands.specs.Lists.{Run, Stops}
use Rattle.dcel_commands.specs.Responses.{Response}
use Rattle.dcel_commands.specs.Steps.{Legal, Step}
use Rattle.dcel_commands.proofs.Lawful.{shape_of}
use Rattle.dcel_commands.proofs.Rows.{lawful}
use Rattle.dcel_maps.specs.EditLists.{EditedBy}
use Rattle.dcel_maps.specs.Shapes.{IsMesh, Mesh, map_of}
use Rattle.dcel_maps.proofs.lists.Made.{stays_listed}
use Rattle.dcel_maps.proofs.maps.Lists.{comes_then}

module _ {V DE UE F : Type 0} (is_half : DE → Type 0) (is_edge : UE → Type 0) (is_face : F → Type 0) (limit : ℕ) (small : limit ≤ 2 ^ 31) where
  pub step_edits : (m : Mesh V DE UE F) → IsMesh m → (command : Instruction V) → Legal m.shape limit command
      → (reply : Response V) (new : Mesh V DE UE F) → Step is_half is_edge is_face m command reply new → EditedBy (edits_of m command reply) m new
  step_edits m mesh command legal reply new step = (lawful command).edits m new mesh (record { legal = legal; step = step }) small

  pub run_edits : (old new : Mesh V DE UE F) (commands : List (Instruction V)) (replies : List (Response V)) → IsMesh old
      → (run : Run is_half is_edge is_face limit old commands replies new)
      → EditedBy (edits_of_run is_half is_edge is_face limit old new commands replies run) old new
  run_edits old new [] [] mesh run = stays_listed old.shape new.shape (ap shape_of run)
  run_edits old new [] (r ∷ replies) mesh run = absurd run
  run_edits old new (c ∷ commands) [] mesh run = absurd run
  run_edits old new (c ∷ commands) (r ∷ replies) mesh (m, first, rest) =
      comes_then (edits_of old c r) (edits_of_run is_half is_edge is_face limit m new commands replies rest) (map_of old.shape) (map_of m.shape)
      (map_of new.shape) (step_edits old mesh c first.legal r m first.step) (run_edits m new commands replies first.mesh rest)

  -- nothing is carried out
  pub none_edits : (old new : Mesh V DE UE F) (commands : List (Instruction V)) (replies : List (Response V)) → replies ≡ [] → new ≡ old
      → RunEdits is_half is_edge is_face limit old commands replies new
  none_edits old new commands replies none is =
      subst (λ (rs : List (Response V)). RunEdits is_half is_edge is_face limit old commands rs new) (sym none) record {
        done = [];
        left = commands;
        are = refl;
        run = is;
        edits = stays_listed old.shape new.shape (ap shape_of is);
      }

  pub whole_edits : (old new : Mesh V DE UE F) (commands : List (Instruction V)) (replies : List (Response V)) → IsMesh old
      → Run is_half is_edge is_face limit old commands replies new → RunEdits is_half is_edge is_face limit old commands replies new
  whole_edits old new commands replies mesh run = record {
    done = commands;
    left = [];
    are = sym (append-nil commands);
    run = run;
    edits = run_edits old new commands replies mesh run;
  }

  pub stopped_edits : (old new : Mesh V DE UE F) (commands : List (Instruction V)) (done : List (Response V)) (at : ℕ) (refused : Refused V) → IsMesh old
      → Stops is_half is_edge is_face limit old commands done at refused new → RunEdits is_half is_edge is_face limit old commands done new
  stopped_edits old new commands done at refused mesh (inl none) = none_edits old new commands done none.none none.unchanged
  stopped_edits old new commands done at refused mesh (inr stopped) = record {
    done = stopped.before;
    left = stopped.command ∷ stopped.after;
    are = stopped.are;
    run = stopped.run;
    edits = run_edits old new stopped.before done mesh stopped.run;
  }
