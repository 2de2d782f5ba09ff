-- What commands leave of the removal record, and what is taken out once a removal is cleaned up and closed.
use Rattle.std.proofs.Common.{◌≡◌, ℕ, ◌-◌, Bool, true, false, List, [], ◌∷◌, All, Option, Some, refl, sym, ap, ◌∙◌, subst}
use Rattle.std.proofs.lemmas.Bool.{false≢true}
use Rattle.std.proofs.lemmas.List.Elements.{All-head, All-rest}
use Rattle.dcel_commands.specs.Conditions.{LeavesAtMost}
use Rattle.dcel_commands.specs.Instructions.{Instruction, Triangle, Legalize, Isolate, Remesh, Strip, Cleanup, Remove, Degenerate, Clear}
use Rattle.dcel_commands.specs.Lists.{Run, Takes}
use Rattle.dcel_commands.specs.OneRemoval.{CleansUp, Closes, GoesOn, Opens, record_after, stands_between, vertex_given_up}
use Rattle.dcel_commands.specs.Responses.{Response, Opened}
use Rattle.dcel_commands.specs.Steps.{Legal, Step}
use Rattle.dcel_maps.specs.Regions.{inside}
use Rattle.dcel_maps.specs.Removals.{Removal, Closed, Cleaned, IsListed, opened_with}
use Rattle.dcel_maps.specs.Renumbered.{LeavesLive, new_face, new_half}
use Rattle.dcel_maps.specs.Renumbering.{cleaned, edges_down, edges_taken_out, faces_down, faces_taken_out, moved, vertex_taken_out, with_removal}
use Rattle.dcel_maps.specs.Shapes.{IsMesh, Mesh, origin_of}
use Rattle.dcel_maps.specs.edits.Strip.{strip_half}
use Rattle.dcel_commands.proofs.Rows.{lawful}
use Rattle.dcel_maps.proofs.renumbering.Renumbered.{leaves_live, numbered, vertex_leaves_live}

-- the record of a removal that gives up what a reply lists, and this vertex
abbrev told : {V : Type 0} → Option ℕ → Response V → Removal
told vertex (Opened edges faces new_edges least) = opened_with edges faces vertex
told vertex _ = Closed

abbrev is_opening : {V : Type 0} → Response V → Bool
is_opening (Opened edges faces new_edges least) = true
is_opening _ = false

module _ {V DE UE F : Type 0} (is_half : DE → Type 0) (is_edge : UE → Type 0) (is_face : F → Type 0) (limit : ℕ) where
  pub step-record : (m : Mesh V DE UE F) (command : Instruction V) → Legal m.shape limit command
      → (reply : Response V) (new : Mesh V DE UE F) → Step is_half is_edge is_face m command reply new → new.shape.removal ≡ record_after m command
  step-record m command legal reply new step = (lawful command).removal m new (record { legal = legal; step = step })

  -- what an opening answers is what it gives up, and nothing else is answered so
  opened-record : (m : Mesh V DE UE F) (command : Instruction V) → Legal m.shape limit command
      → (edges faces new_edges : List ℕ) (least : ℕ) (new : Mesh V DE UE F) → Step is_half is_edge is_face m command (Opened edges faces new_edges least) new
      → new.shape.removal ≡ opened_with edges faces (vertex_given_up m.shape command)
  opened-record m (Isolate v hs) legal edges faces new_edges least new step =
      step-record m (Isolate v hs) legal (Opened edges faces new_edges least) new step ∙ ap (told (Some v)) (sym step.0)
  opened-record m (Remesh hs us fs) legal edges faces new_edges least new step =
      step-record m (Remesh hs us fs) legal (Opened edges faces new_edges least) new step ∙ ap (told (inside m.shape hs us fs)) (sym step.0)
  opened-record m (Strip hs) legal edges faces new_edges least new step =
      step-record m (Strip hs) legal (Opened edges faces new_edges least) new step ∙ ap (told (Some (origin_of m.shape (strip_half m.shape hs)))) (sym step.0)
  opened-record m (Legalize n us) legal edges faces new_edges least new step = absurd step
  opened-record m (Remove v) legal edges faces new_edges least new step = absurd (false≢true (sym (ap is_opening step.0.2)))
  opened-record m (Degenerate v) legal edges faces new_edges least new step = absurd (false≢true (sym (ap is_opening step.0.2)))
  opened-record m _ legal edges faces new_edges least new step = absurd (false≢true (sym (ap is_opening step.0)))

  -- while a removal is open, others leave the record: those that ask that none is open aren't legal
  step-between : (m : Mesh V DE UE F) (command : Instruction V) → Legal m.shape limit command
      → (reply : Response V) (new : Mesh V DE UE F) → Step is_half is_edge is_face m command reply new
      → stands_between command ≡ true → (m.shape.removal ≡ Closed → ⊥) → new.shape.removal ≡ m.shape.removal
  step-between m (Triangle x y z) legal reply new step other is_open = absurd (false≢true other)
  step-between m (Isolate v hs) legal reply new step other is_open = absurd (is_open legal.1.1.0)
  step-between m (Remesh hs us fs) legal reply new step other is_open = absurd (is_open legal.1.1.1.0)
  step-between m (Strip hs) legal reply new step other is_open = absurd (is_open legal.1.0)
  step-between m (Cleanup us fs) legal reply new step other is_open = absurd (false≢true other)
  step-between m (Remove v) legal reply new step other is_open = absurd (false≢true other)
  step-between m Clear legal reply new step other is_open = absurd (false≢true other)
  step-between m command legal reply new step other is_open = step-record m command legal reply new step

  run-between : (old new : Mesh V DE UE F) (commands : List (Instruction V)) (replies : List (Response V)) → Run is_half is_edge is_face limit old commands replies new
      → All (λ command. stands_between command ≡ true) commands → (old.shape.removal ≡ Closed → ⊥) → new.shape.removal ≡ old.shape.removal
  run-between old new [] [] run others is_open = ap (λ (t : Mesh V DE UE F). t.shape.removal) run
  run-between old new [] (r ∷ replies) run others is_open = absurd run
  run-between old new (c ∷ commands) [] run others is_open = absurd run
  run-between old new (c ∷ commands) (r ∷ replies) (m, first, rest) others is_open =
      let same = step-between old c first.legal r m first.step (All-head (λ command. stands_between command ≡ true) c commands others) is_open in
      run-between m new commands replies rest (All-rest (λ command. stands_between command ≡ true) c commands (c ∷ commands) refl others) (λ closed. is_open (sym same ∙ closed))
      ∙ same

  pub opens-record : (old new : Mesh V DE UE F) (edges faces : List ℕ) (vertex : Option ℕ) → Opens is_half is_edge is_face limit old edges faces vertex new
      → new.shape.removal ≡ opened_with edges faces vertex
  opens-record old new edges faces vertex o =
      opened-record old o.command o.takes.legal edges faces o.new_edges o.least new o.takes.step ∙ ap (opened_with edges faces) (sym o.gone)

  run-mesh : (old new : Mesh V DE UE F) (commands : List (Instruction V)) (replies : List (Response V)) → IsMesh old
      → Run is_half is_edge is_face limit old commands replies new → IsMesh new
  run-mesh old new [] [] mesh run = subst IsMesh (sym run) mesh
  run-mesh old new [] (r ∷ replies) mesh run = absurd run
  run-mesh old new (c ∷ commands) [] mesh run = absurd run
  run-mesh old new (c ∷ commands) (r ∷ replies) mesh (m, first, rest) = run-mesh m new commands replies first.mesh rest

  goes_on-record : (old new : Mesh V DE UE F) (r : Removal) → old.shape.removal ≡ r → (r ≡ Closed → ⊥) → GoesOn is_half is_edge is_face limit old new
      → new.shape.removal ≡ r
  goes_on-record old new r is not_closed goes = run-between old new goes.commands goes.replies goes.run goes.others (λ closed. not_closed (sym is ∙ closed)) ∙ is

  pub cleans-up : (old begun middle new : Mesh V DE UE F) (edges faces us fs : List ℕ) (vertex : Option ℕ) (reply : Response V)
      → Opens is_half is_edge is_face limit old edges faces vertex begun → GoesOn is_half is_edge is_face limit begun middle
      → Takes is_half is_edge is_face limit middle (Cleanup us fs) reply new → CleansUp middle edges faces us fs vertex new
  cleans-up old begun middle new edges faces us fs vertex reply opens goes takes =
      let open_still : middle.shape.removal ≡ opened_with edges faces vertex =
      goes_on-record begun middle (opened_with edges faces vertex) (opens-record old begun edges faces vertex opens) (λ closed. cc) goes in
      let listed : IsListed (opened_with edges faces vertex) us fs = subst (λ r. IsListed r us fs) open_still takes.legal.1.1.1.0 in
      let mesh = run-mesh begun middle goes.commands goes.replies opens.takes.mesh goes.run in
      record {
        same = open_still;
        same_edges = listed.0;
        same_faces = listed.1;
        is = takes.step.1 ∙ ap (λ r. with_removal (faces_taken_out (edges_taken_out middle (edges_down r)) (faces_down r)) (cleaned r)) open_still;
        live = subst (λ (t : Mesh V DE UE F). LeavesLive middle t (new_half middle.shape) (λ v. v) (new_face middle.shape)) (sym takes.step.1) (leaves_live middle mesh);
        numbers = numbered middle mesh;
      }

  pub closes : (old begun middle clean later new : Mesh V DE UE F) (edges faces us fs : List ℕ) (vertex given : ℕ) (reply last_reply : Response V)
      → Opens is_half is_edge is_face limit old edges faces (Some vertex) begun → GoesOn is_half is_edge is_face limit begun middle
      → Takes is_half is_edge is_face limit middle (Cleanup us fs) reply clean → GoesOn is_half is_edge is_face limit clean later
      → Takes is_half is_edge is_face limit later (Remove given) last_reply new → Closes later vertex given new
  closes old begun middle clean later new edges faces us fs vertex given reply last_reply opens goes takes goes_later closing =
      let cleans = cleans-up old begun middle clean edges faces us fs (Some vertex) reply opens goes takes in
      let clean_still : later.shape.removal ≡ Cleaned vertex =
      goes_on-record clean later (Cleaned vertex) (ap (λ (t : Mesh V DE UE F). t.shape.removal) cleans.is) (λ closed. cc) goes_later in
      let own : LeavesAtMost given (Cleaned vertex) = subst (LeavesAtMost given) clean_still closing.legal.1.0 in
      let gone : new ≡ vertex_taken_out later vertex = closing.step.1 ∙ ap (vertex_taken_out later) (sym own) in
      let mesh = run-mesh clean later goes_later.commands goes_later.replies takes.mesh goes_later.run in
      record {
        same = sym own;
        is = gone;
        live =
            subst (λ (t : Mesh V DE UE F). LeavesLive later t (λ h. h) (moved (later.shape.vertices - 1) vertex) (λ f. f)) (sym gone)
            (vertex_leaves_live later mesh vertex clean_still);
      }
