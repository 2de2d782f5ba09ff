-- A pointer that leads nowhere owns no more than its handle.
use Rattle.std.proofs.Common.{List, [], ◌∷◌, ◌++◌, refl, lit<}
use Rattle.std.proofs.raw_atomic.Walks.{proved_at}
use Rattle.std.proofs.alloc.Calls.{handle_tells}
use Rattle.std.specs.Prelude.{None}
use Rattle.std_alloc.proofs.BoxSteps.Form.{P, box_typed}
use Rattle.std_heap.specs.contracts.Global as Heap
use base.Logic.{emp, id⊢}
use base.Fml.{ftrue, fsep}
use contract.Running.{tables}
use denote.Exit.{yes}
use denote.RattleType.{Valss}
use denote.RawPtr.{RawPtr, null_ptr, ptr_val}
use denote.Signature.{plain}
use denote.Steps.{nothing}
use denote.Struct.Owning.{shape, to}
use denote.Struct.Struct.{within}
use denote.Triple.Walked.{Stays, stay_dropped, Goes-dropped, walk_of, ends_at, says}
use mir.Val.{Val, vnull, vstruct, vcons, vnil}
use prog.Wp.{WpFn}
use types.ByLocal.{alloc_all, pass_all, free_all, look_at, get, sets}
use types.Kit.{‵, raw, prop, ◌⊛◌, ◌$◌, ◌∵◌, !, qed, done, drop, feq_i, fjoin, fpack, fsplit, keep, move, regoal, split, suffices, use1}
use types.Part.{agg}
use types.Run.{no_more, and_then, lit, enter, returns}
use Rattle.dcel_triangulations.proofs.ConstrainedKept.{boxes}
use Rattle.dcel_exports.proofs.Steps.{ends_with}
use Rattle.dcel_triangulations.specs.contracts.constrained.held.Held.{the_row as H, the_type}
use Rattle.dcel_triangulations.specs.contracts.constrained.held.Held.empty as f
use Rattle.dcel_triangulations.specs.declared.constrained.held.Held.{Held}
use Rattle.dcel_triangulations.proofs.constrained.held.Held.empty.Statement.{statement}
use Rattle.dcel_triangulations.proofs.constrained.held.Held.empty.Code as code

abbrev stayed : Stays f.ended.signature.params f.ended.kept
stayed = (stay_dropped _ yes, tt)

pub empty_spec : {M : Type 1} → statement M
empty_spec 𝓤 𝓛 𝓜 𝓡 wired =
    let c = f.clauses 𝓛 𝓜.mem 𝓡.returns in
    let 𝓣 = tables 𝓤 𝓛.H 𝓜 𝓡 𝓡.env in
    let gone = Goes-dropped 𝓛 0 (plain (λ _. Heap.the_row)) yes (λ κs x w. refl) in
    proved_at 𝓛 f.ended stayed c 𝓜 𝓡 (gone, tt) f.Key.name code.function (code.unfolded 𝓤 𝓛.H 𝓜 𝓡 wired) (λ y are.
    let alloc = y.0.3.0 in
    let vs = y.0.4.0 in
    let held : Held = record { at = null_ptr; alloc = alloc; kept = None } in
    qed 𝓛 ((‵ ftrue ⊛ ‵ (fsep ((P boxes).own_val alloc vs) ftrue)) ∷ raw (emp 𝓤) ∷ []) ∵
    split ! $ drop ! $ fsplit ! $
    handle_tells boxes.al ! alloc vs (λ hv is fits.
    regoal ! (λ us. prop (WpFn 𝓤 𝓛.H 𝓣.C 𝓣.Λ code.function (us ++ []) ((walk_of 𝓛 f.ended stayed c).post y))) is refl $
    enter ! _ _ _ _ _ $ alloc_all ! (λ l. pass_all ! refl (fits, tt) $
    let word = vstruct (vcons vnull (vcons hv vnil)) in
    sets ! (agg ! (and_then ! (lit ! tt) (and_then ! (get ! refl) (no_more !)))) refl
    ((box_typed boxes hv 0 0 fits).0, (record { fits = lit< tt }, (fits.1, tt))) $
    returns ! (look_at ! 0 refl) $ free_all ! refl $
    keep ! (0 ∷ []) $
    -- the handle, and the null pointer beside it, are the fields of what is returned
    nothing ! $ nothing ! $ move ! (2 ∷ 0 ∷ []) $ fjoin ! $
    feq_i ! (List Val) (vnull ∷ []) (ptr_val null_ptr ∷ []) refl $ fjoin ! $
    feq_i ! (List Val) (word ∷ []) (word ∷ []) refl $ fjoin ! $
    fpack ! (Valss (RawPtr ∷ P boxes ∷ [])) (within (shape the_type) (to the_type held) (word ∷ [])) (vnull ∷ [], (hv ∷ [], tt)) $ fjoin ! $
    use1 𝓛 (‵ (H.own_val held (word ∷ []))) (id⊢ 𝓤 _) $
    suffices ! _ (ends_at 𝓛 f.ended stayed c y word held (tt, tt) (tt, tt)) $ says ! refl $
    ends_with ! (H.own_val held (word ∷ [])) $ done !)))
