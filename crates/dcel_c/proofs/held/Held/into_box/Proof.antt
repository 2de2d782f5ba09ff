-- What is kept goes to `from_raw`, with the right to free it.
use Rattle.std.proofs.Common.{List, [], ◌∷◌, ◌++◌, ◌≡◌, refl, sym, ap, ◌∙◌}
use Rattle.std.proofs.raw_atomic.Walks.{proved_at}
use Rattle.std.specs.Prelude.{IsSome, Some}
use Rattle.std_alloc.proofs.BoxSteps.Form.{B, D, box_typed}
use Rattle.std_alloc.proofs.boxed.Box.from_raw.Met as callee
use Rattle.std_alloc.specs.contracts.boxed.Box.from_raw as g
use Rattle.std_heap.proofs.Global.TheLaws as heap
use Rattle.std_heap.proofs.GlobalAllocator.TheImpl.Met as allocator
use Rattle.std_heap.specs.contracts.Global as Heap
use Rattle.std_heap.specs.contracts.GlobalAllocator.TheImpl.{ghosts, dict}
use base.Fml.{ftrue, fsep, flft}
use base.Fraction.{full_share}
use base.Logic.{emp, id⊢}
use contract.BorrowLft.{◌⊑◌, ⊑_static}
use contract.Monad.{fact, fact_i}
use contract.Running.{tables}
use denote.Exit.{yes, no}
use denote.Param.{layout, arg}
use denote.Param.Laws.{Laws, arg_laws}
use denote.RattleType.{RattleType}
use mir.Raw.{raw as bare}
use denote.Param.NoDrop.{glues}
use denote.RawPtr.{block_ptr}
use denote.Signature.{plain}
use denote.Steps.{nothing, heard}
use denote.Triple.Call.{calls_at_last}
use denote.Triple.Clauses.{Lasts, lasts}
use denote.Triple.Spec.{triple_of}
use denote.Triple.Table.{framed}
use denote.Triple.Walked.{Stays, stay_dropped, Goes-dropped, walk_of, ends_at, says}
use mir.Syntax.{Dict, impl, tcons, tnil, dnil}
use mir.Val.{Val, vptr}
use prog.Wp.{WpFn}
use types.ByLocal.{alloc_all, pass_all, free_all, look_at, get, get_in, sets, lands_last, env}
use types.Kit.{‵, raw, prop, some, later, at_ret, ◌⊛◌, ◌$◌, ◌∵◌, !, qed, await, done, drop, feq_i, fjoin, fsplit, join, keep, move, pick, regoal, split, suffices, use0, use1}
use types.Run.{stop, fld, no_more, and_then, of_opd, first, blocks, exec, enter, returns}
use Rattle.std.proofs.VecSteps.Shapes.{after}
use Rattle.dcel_exports.proofs.Steps.{field_in, ends_with}
use Rattle.dcel_c.proofs.Kept.{boxes, opens_held, knows_word}
use Rattle.dcel_c.proofs.Payload.{mesh_laws}
use Rattle.dcel_c.specs.Held.{mesh_row}
use Rattle.dcel_c.specs.contracts.held.Held.{the_row as H}
use Rattle.dcel_c.specs.contracts.held.Held.into_box as f
use Rattle.dcel_c.proofs.held.Held.into_box.Statement.{statement}
use Rattle.dcel_c.proofs.held.Held.into_box.Code as code
use Rattle.dcel_c.proofs.Destruct++none.drop.Code as without_drop

abbrev stayed : Stays f.ended.signature.params f.ended.kept
stayed = (stay_dropped _ yes, tt)

-- a call passes a type by its layout alone
abbrev passed : RattleType → RattleType
passed R = arg (bare (layout R)) no R

-- the mesh and the handle
abbrev T : RattleType
T = passed mesh_row

abbrev A : RattleType
A = passed Heap.the_row

T-laws : Laws T
T-laws = arg_laws (bare (layout mesh_row)) no mesh_row mesh_laws refl

A-laws : Laws A
A-laws = arg_laws (bare (layout Heap.the_row)) no Heap.the_row heap.the_row_laws refl

-- a handle of the heap needs no drop
abbrev drops : Dict
drops = impl ("dcel_c::Destruct++none::drop" ∷ []) (tcons (layout A) tnil) dnil

pub into_box_spec : {M : Type 1} → statement M
unfolding without_drop.code
into_box_spec {M} 𝓤 𝓛 𝓜 𝓡 wired =
    let c = f.clauses 𝓛 𝓜.mem 𝓡.returns in
    let 𝓣 = tables 𝓤 𝓛.H 𝓜 𝓡 𝓡.env in
    let gone = Goes-dropped 𝓛 0 (plain (λ _. H)) yes (λ κs x w. refl) in
    let frees = allocator.passed 𝓡.env (code.calls-std_heap::GlobalAllocator::allocate 𝓡.env wired) (code.calls-std_heap::GlobalAllocator::deallocate 𝓡.env wired)
    (code.calls-std_heap::GlobalAllocator::grow 𝓡.env wired) (code.calls-std_heap::GlobalAllocator::shrink 𝓡.env wired) M 𝓤 𝓛 𝓜 𝓡 in
    let no_drop = glues "dcel_c::Destruct++none::drop" 𝓡.env (code.calls-dcel_c::Destruct++none::drop 𝓡.env wired) A A-laws M 𝓤 𝓛 𝓜 𝓡 in
    let met = callee.met 𝓤 𝓛 𝓜 𝓡 (code.calls-std_alloc::boxed::Box::from_raw 𝓡.env wired) T A T-laws A-laws ghosts dict drops frees no_drop in
    proved_at 𝓛 f.ended stayed c 𝓜 𝓡 (gone, tt) f.Key.name code.function (code.unfolded 𝓤 𝓛.H 𝓜 𝓡 wired) (λ y are.
    let held = y.0.3.0 in
    let vs = y.0.4.0 in
    let Post = (walk_of 𝓛 f.ended stayed c).post y in
    qed 𝓛 ((‵ ftrue ⊛ ‵ (fsep (H.own_val held vs) ftrue)) ∷ raw (fact 𝓤 (IsSome held.kept)) ∷ []) ∵
    move ! (1 ∷ []) $ heard ! _ (λ is. split ! $ drop ! $ fsplit ! $
    opens_held ! held vs is (λ mesh kept b o hv at words fits.
    regoal ! (λ us. prop (WpFn 𝓤 𝓛.H 𝓣.C 𝓣.Λ code.function (us ++ []) Post)) words refl $
    enter ! _ _ _ _ _ $ alloc_all ! (λ l. pass_all ! refl (box_typed boxes hv b o fits, tt) $
    -- the handle and the pointer are read
    first ! $ blocks ! $
    sets ! (of_opd ! (get_in ! (fld ! refl (stop !)) (field_in ! 1 refl))) refl fits $
    sets ! (of_opd ! (get_in ! (fld ! refl (stop !)) (field_in ! 0 refl))) refl (tt, tt) $
    -- `from_raw` wants the memory, and two lifetimes, for which any will do
    let G = triple_of 𝓛 (g.signature T A ghosts dict drops) (g.spec T A ghosts dict drops 𝓛 𝓜.mem 𝓡.returns) in
    let z : G.Ghost = ((([], ([], tt)), (full_share, (full_share, tt)), tt, (held.alloc, (block_ptr b o, tt)), (hv ∷ [], (vptr b o ∷ [], tt))), mesh) in
    let O = g.ended T A ghosts dict drops in
    let forever = ‵ (flft [] full_share) in
    let long_enough = raw (fact 𝓤 ([] ⊑ [])) in
    fjoin ! $ use0 𝓛 long_enough (fact_i 𝓤 ([] ⊑ []) (emp 𝓤) (⊑_static [])) $ join ! $
    use0 𝓛 long_enough (fact_i 𝓤 ([] ⊑ []) (emp 𝓤) (⊑_static [])) $ join ! $
    move ! (2 ∷ []) $ feq_i ! (List Val) (vptr b o ∷ []) _ refl $ fjoin ! $ move ! (2 ∷ 0 ∷ []) $ fjoin ! $
    nothing ! $ use0 𝓛 forever (𝓛.lfts.lft-nil full_share) $ join ! $ use0 𝓛 forever (𝓛.lfts.lft-nil full_share) $ join ! $
    join ! $ join ! $ use1 𝓛 (raw (G.pre z)) (id⊢ 𝓤 _) $
    calls_at_last ! (framed 𝓤 𝓛.H 𝓜 𝓣) G met z (and_then ! (get ! refl) (and_then ! (get ! refl) (no_more !))) (λ v.
    use1 𝓛 (later (some (λ (box : D boxes). ((forever ⊛ forever ⊛ ‵ ftrue) ⊛ ‵ ((B boxes).own_val box (v ∷ []))) ⊛
    some (λ (ws : Lasts O z.0.0 z.0.3). ‵ (lasts O z.0.0 z.0.3 ws) ⊛ raw (fact 𝓤 (box.value ≡ mesh)) ⊛ raw (fact 𝓤 (box.alloc ≡ held.alloc)))))) (id⊢ 𝓤 _) $
    await ! tt $ pick ! (λ box. split ! $ split ! $ drop ! $
    knows_word ! box v (λ typed. lands_last ! refl typed $
    exec ! 𝓣.C 𝓣.Λ (env (code.function).locals l) (after 1 (code.function).body) (at_ret _ Post) $
    move ! (1 ∷ []) $ pick ! (λ _. split ! $ drop ! $ split ! $ heard ! _ (λ same. drop ! $
    sets ! (of_opd ! (get ! refl)) refl typed $
    returns ! (look_at ! 0 refl) $ free_all ! refl $
    keep ! (0 ∷ []) $ suffices ! _ (ends_at 𝓛 f.ended stayed c y v box (tt, tt) (tt, tt)) $ says ! (ap Some same ∙ sym kept) $
    ends_with ! ((B boxes).own_val box (v ∷ [])) $ done !)))))))))
