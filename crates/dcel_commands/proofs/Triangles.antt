-- Commands keep inner faces triangles, but for two uses.
use Rattle.std.proofs.Common.{◌⊎◌, inl, inr, ℕ, List, [], ◌∷◌, ◌++◌, append-nil, refl, sym, ap, subst}
use Rattle.dcel_commands.specs.declared.commands.reply.Refused.{Refused}
use Rattle.dcel_commands.specs.Instructions.{Instruction}
use Rattle.dcel_commands.specs.Lists.{Run, Stops}
use Rattle.dcel_commands.specs.Responses.{Response}
use Rattle.dcel_commands.specs.Steps.{Legal, Step}
use Rattle.dcel_commands.specs.Triangles.{TrianglesStay, LeavesLonger}
use Rattle.dcel_commands.proofs.Lawful.{all_triangles}
use Rattle.dcel_commands.proofs.Rows.{lawful}
use Rattle.dcel_maps.specs.Shapes.{IsMesh, Mesh}
use Rattle.dcel_maps.specs.Triangulations.{AllTriangles}

module _ {V DE UE F : Type 0} (is_half : DE → Type 0) (is_edge : UE → Type 0) (is_face : F → Type 0) (limit : ℕ) where
  step-triangles : (m : Mesh V DE UE F) → IsMesh m → AllTriangles m.shape → (command : Instruction V) → Legal m.shape limit command
      → (reply : Response V) (new : Mesh V DE UE F) → Step is_half is_edge is_face m command reply new
      → AllTriangles new.shape ⊎ LeavesLonger m.shape command
  step-triangles m mesh all command legal reply new step = (lawful command).triangles m new mesh (record { legal = legal; step = step }) all

  -- those that are left aren't carried out
  pub run-triangles : (old new : Mesh V DE UE F) (commands left : List (Instruction V)) (replies : List (Response V)) → IsMesh old
      → Run is_half is_edge is_face limit old commands replies new
      → TrianglesStay is_half is_edge is_face limit old (commands ++ left) replies new
  run-triangles old new [] left [] mesh run all = inl (all_triangles new old run all)
  run-triangles old new [] left (r ∷ replies) mesh run all = absurd run
  run-triangles old new (c ∷ commands) left [] mesh run all = absurd run
  run-triangles old new (c ∷ commands) left (r ∷ replies) mesh (m, first, rest) all =
      elim (step-triangles old mesh all c first.legal r m first.step) [
        | inr longer ↦ inr record {
          before = [];
          command = c;
          after = commands;
          left = left;
          are = refl;
          done = [];
          to_come = r ∷ replies;
          answered = refl;
          middle = old;
          run = refl;
          longer = longer;
          rest = (m, first, rest);
        }
        | inl kept ↦ elim (run-triangles m new commands left replies first.mesh rest kept) [
          | inl three ↦ inl three
          | inr later ↦ inr record {
            before = c ∷ later.before;
            command = later.command;
            after = later.after;
            left = later.left;
            are = ap (λ (cs : List (Instruction V)). c ∷ cs) later.are;
            done = r ∷ later.done;
            to_come = later.to_come;
            answered = ap (λ (rs : List (Response V)). r ∷ rs) later.answered;
            middle = later.middle;
            run = (m, first, later.run);
            longer = later.longer;
            rest = later.rest;
          }
        ]
      ]

  pub whole-triangles : (old new : Mesh V DE UE F) (commands : List (Instruction V)) (replies : List (Response V)) → IsMesh old
      → Run is_half is_edge is_face limit old commands replies new → TrianglesStay is_half is_edge is_face limit old commands replies new
  whole-triangles old new commands replies mesh run =
      subst (λ (cs : List (Instruction V)). TrianglesStay is_half is_edge is_face limit old cs replies new) (append-nil commands)
      (run-triangles old new commands [] replies mesh run)

  pub stopped-triangles : (old new : Mesh V DE UE F) (commands : List (Instruction V)) (done : List (Response V)) (at : ℕ) (refused : Refused V) → IsMesh old
      → Stops is_half is_edge is_face limit old commands done at refused new → TrianglesStay is_half is_edge is_face limit old commands done new
  stopped-triangles old new commands done at refused mesh (inl none) = λ all. inl (all_triangles new old none.unchanged all)
  stopped-triangles old new commands done at refused mesh (inr stopped) =
      subst (λ (cs : List (Instruction V)). TrianglesStay is_half is_edge is_face limit old cs done new) (sym stopped.are)
      (run-triangles old new stopped.before (stopped.command ∷ stopped.after) done mesh stopped.run)
