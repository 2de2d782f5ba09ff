-- The mesh is lent. What is left of the holder waits until it comes back.
use Rattle.std.proofs.Common.{◌≡◌, ℕ, List, [], ◌∷◌, refl, sym}
use Rattle.std.proofs.VecSteps.Shapes.{after}
use Rattle.std.proofs.alloc.Calls.{token}
use Rattle.std.proofs.raw_atomic.Walks.{proved}
use Rattle.std.specs.Borrow.{MutBor}
use Rattle.std.specs.Prelude.{IsSome}
use Rattle.std_alloc.proofs.BoxSteps.Form.{τ, word, handle}
use seplogic.Ra.Ura.{Ura}
use base.Fml.{Fml, GName, ftrue, fsep, flft}
use base.Fraction.{full_share}
use base.Logic.{ent, sep, id⊢}
use contract.Monad.{fact}
use contract.Running.{tables}
use denote.Follow.{Part, lends_Part, follows}
use denote.Memory.{part_at, mem, cell_at, part_of}
use denote.RawPtr.{block_ptr}
use denote.Ref.{MutRef, mut_vals, mut_Tells}
use denote.Exit.{no}
use denote.Signature.{plain, mut_ref_to}
use denote.Steps.{nothing, opens, heard}
use denote.Triple.Walked.{Stays, stay_dropped, walk_of, ends_at, says, Goes-spent_ref}
use mir.Raw.{raw as bare}
use mir.Syntax.{named}
use mir.Val.{Val, vptr}
use types.ByLocal.{alloc_all, pass_all, free_all, look_at, get, through, sets, sets_last, env}
use types.Kit.{‵, raw, some, later, at_ret, ◌⊛◌, ◌$◌, ◌∵◌, !, qed, await, done, fjoin, fpack, frame, fsplit3, group, join, keep, move, pick, rewrite, split, suffices, use1}
use types.Logic.{Logic, sem}
use types.Part.{look_in}
use types.Run.{stop, fld, load, of_opd, addr, first, blocks, exec, enter, returns}
use Rattle.dcel_exports.proofs.Steps.{field_in}
use Rattle.dcel_c.proofs.Kept.{boxes, opens_held, closes_held}
use Rattle.dcel_c.specs.Held.{State, mesh_row}
use Rattle.dcel_c.specs.Lending.{with_mesh}
use Rattle.dcel_c.specs.contracts.held.Held.{the_row as H}
use Rattle.dcel_c.specs.contracts.held.Held.as_mut as f
use Rattle.dcel_c.specs.declared.held.Held.{Held}
use Rattle.dcel_c.proofs.held.Held.as_mut.Statement.{statement}
use Rattle.dcel_c.proofs.held.Held.as_mut.Code as code

abbrev stayed : Stays f.ended.signature.params f.ended.kept
stayed = (stay_dropped (mut_ref_to (0 ∷ []) tt (plain (λ _. H))) no, tt)

module _ {M : Type 1} {𝓤 : Ura M} (𝓛 : Logic 𝓤) (held : Held) (b o : ℕ) (hv : Val) (rb ro : ℕ) where
  -- what waits: the right to free the mesh, the handle, and the cell of the two words
  abbrev waits : Fml
  waits = fsep (token boxes.al held.alloc (bare (τ boxes)) (block_ptr b o)) (fsep (handle boxes held.alloc hv) (cell_at full_share H.mir (word boxes hv b o ∷ []) rb ro))

  -- with a mesh that comes back it is a holder again
  comes_back : held.at ≡ block_ptr b o → (mesh : State) → ent 𝓤 (sep 𝓤 (sem 𝓛 ((mem mesh_row).own_at mesh b o)) (sem 𝓛 waits)) (sem 𝓛 ((mem H).own_at (with_mesh held mesh) rb ro))
  unfolding part_of
  comes_back at mesh =
      let lies = λ (us : List Val). fsep (cell_at full_share H.mir us rb ro) (H.own_val (with_mesh held mesh) us) in
      qed 𝓛 (‵ (part_at mesh_row full_share mesh b o) ∷ ‵ waits ∷ []) ∵
      move ! (1 ∷ []) $ fsplit3 ! $ move ! (3 ∷ 0 ∷ 1 ∷ []) $ closes_held ! held mesh b o at $
      move ! (1 ∷ []) $ fjoin ! $ fpack ! (List Val) lies (word boxes hv b o ∷ []) $ done !

pub as_mut_spec : {M : Type 1} → statement M
as_mut_spec 𝓤 𝓛 𝓜 𝓡 wired =
    let c = f.clauses 𝓛 𝓜.mem 𝓡.returns in
    let W = walk_of 𝓛 f.ended stayed c in
    let 𝓣 = tables 𝓤 𝓛.H 𝓜 𝓡 𝓡.env in
    proved 𝓛 f.ended stayed c 𝓜 𝓡 (Goes-spent_ref 𝓛 1 (0 ∷ []) tt (plain (λ _. H)), tt)
    f.Key.name code.function (code.unfolded 𝓤 𝓛.H 𝓜 𝓡 wired)
    (λ κs. (mut_vals, tt)) (λ κs. (mut_Tells (named 0) κs.0 H, tt)) (λ κs qs bounds a _ are.
    let κ = κs.0 in
    let self = a.0 in
    let held = self.now in
    let rb = self.ref_ptr.0 in
    let ro = self.ref_ptr.1 in
    let y : W.Ghost = ((κs, qs, bounds, a, (mut_vals self, tt)), tt) in
    qed 𝓛 (((‵ (flft κ qs.0) ⊛ ‵ ftrue) ⊛ ‵ ((MutRef (named 0) κ H).own_val self (mut_vals self)) ⊛ ‵ ftrue) ∷ raw (fact 𝓤 (IsSome held.kept)) ∷ []) ∵
    move ! (1 ∷ []) $ heard ! _ (λ is.
    split ! $ split ! $ move ! (2 ∷ []) $ split ! $ keep ! (0 ∷ 2 ∷ []) $
    enter ! _ _ _ _ _ $ alloc_all ! (λ l. pass_all ! refl ((tt, tt), tt) $
    -- the reference is opened, and then the holder
    fsplit3 ! $ move ! (1 ∷ 2 ∷ 3 ∷ []) $ opens ! tt H rb ro (λ us. move ! (1 ∷ []) $
    opens_held ! held us is (λ mesh kept b o hv at words fits.
    rewrite ! 3 (λ (ws : List Val). ‵ (cell_at full_share H.mir ws rb ro)) words refl $
    -- [the mesh; the right to free it; the handle; the two words; the open borrow, in three entries]
    first ! $ blocks ! $
    sets ! (of_opd ! (load ! (through ! refl (fld ! refl (stop !))) (look_in ! 3 (field_in ! 0 refl)))) refl (tt, tt) $
    sets ! (of_opd ! (get ! refl)) refl (tt, tt) $ sets_last ! (addr ! (through ! refl (stop !))) refl (tt, tt) $
    exec ! 𝓣.C 𝓣.Λ (env (code.function).locals l) (after 1 (code.function).body) (at_ret _ (W.post y)) $
    sets ! (of_opd ! (get ! refl)) refl (tt, tt) $
    -- the mesh goes out
    move ! (2 ∷ 3 ∷ []) $ fjoin ! $ move ! (2 ∷ 0 ∷ []) $ fjoin ! $ move ! (2 ∷ 3 ∷ 4 ∷ 1 ∷ 0 ∷ []) $ group ! 5 $
    let waiting = sem 𝓛 (waits 𝓛 held b o hv rb ro) in
    let back = comes_back 𝓛 held b o hv rb ro at in
    let code_of = H.coded.code held in
    use1 𝓛 (later (some (λ (δ : GName). raw (Part 𝓛 H mesh_row (with_mesh held) (named 0) κ qs.0 rb ro b o self.ghost_name waiting back mesh δ))))
    (lends_Part 𝓛 H mesh_row (with_mesh held) (named 0) κ qs.0 rb ro b o self.ghost_name waiting back code_of code_of mesh) $
    await ! tt $ pick ! (λ δ.
    let lent : MutBor State = record { ref_ptr = (b, o); ghost_name = δ; now = mesh } in
    use1 𝓛 (‵ ((MutRef (named 0) κ mesh_row).own_val lent (mut_vals lent)) ⊛ ‵ (flft κ qs.0) ⊛ ‵ (follows H mesh_row self.ghost_name δ (with_mesh held))) (id⊢ 𝓤 _) $
    returns ! (look_at ! 0 refl) $ free_all ! refl $
    keep ! (0 ∷ []) $
    -- the token, nothing of the parameter, and the result; then that the holder follows it, and its value
    suffices ! _ (ends_at 𝓛 f.ended stayed c y (vptr b o) lent (tt, tt) (tt, tt)) $
    split ! $ nothing ! $ nothing ! $ fjoin ! $ join ! $ move ! (1 ∷ []) $ split ! $
    nothing ! $ move ! (1 ∷ 0 ∷ []) $ join ! $ move ! (0 ∷ 2 ∷ []) $ join ! $ frame ! $ says ! (sym kept) $ done !))))))
