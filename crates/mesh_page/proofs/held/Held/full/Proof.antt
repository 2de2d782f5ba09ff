-- The pointer is moved, and what it owns stays where it is. The handle of the heap is let go.
use Rattle.std.proofs.Common.{◌≡◌, List, [], ◌∷◌, ◌++◌, refl, ap, ◌∙◌}
use Rattle.std.proofs.raw_atomic.Walks.{proved_at, leaves}
use base.Logic.{SProp, emp}
use base.Fml.{ftrue}
use contract.Monad.{fact, fact_i}
use contract.Running.{tables}
use denote.RattleType.{owns}
use denote.RawPtr.{Ptr, block_ptr, ptr_val}
use denote.Signature.{types_at}
use denote.Steps.{nothing}
use denote.Triple.Entry.{alive}
use denote.Triple.Walked.{Stays, stay_dropped, walk_of}
use mir.Val.{Val, vptr, vstruct, vcons, vnil, of_list}
use prog.Wp.{WpFn}
use types.ByLocal.{alloc_all, pass_all, free_all, look_at, get, get_in, sets}
use types.Kit.{‵, raw, prop, ◌⊛◌, ◌$◌, ◌∵◌, !, qed, by, drop, keep, move, fsplit, fjoin, fpick, feq_l, split, regoal, use0}
use types.Part.{agg, sub, whole}
use types.Run.{stop, fld, no_more, and_then, of_opd, enter, returns}
use Rattle.std.proofs.alloc.Calls.{Goes-blank}
use Rattle.lent_heap.proofs.Values.{slot_at, one_val}
use Rattle.mesh_page.proofs.Holding.{opens_box, closes_held}
use Rattle.mesh_page.specs.contracts.held.Held.full as f
use Rattle.mesh_page.specs.declared.held.Held.{Held}
use Rattle.mesh_page.proofs.held.Held.full.Statement.{statement}
use Rattle.mesh_page.proofs.held.Held.full.Code as code
use Rattle.std.specs.Prelude.{Some}

pub full_spec : {M : Type 1} → statement M
full_spec 𝓤 𝓛 𝓜 𝓡 wired =
    let H' = 𝓛.H in
    let En = f.ended in
    let c = f.clauses 𝓛 𝓜.mem 𝓡.returns in
    let 𝓣 = tables 𝓤 𝓛.H 𝓜 𝓡 𝓡.env in
    let stays : Stays En.signature.params En.kept = (stay_dropped (slot_at 0 En.signature.params) En.kept.0, tt) in
    proved_at 𝓛 En stays c 𝓜 𝓡 (Goes-blank 𝓛 0 (slot_at 0 En.signature.params) En.kept.0 (λ κs x w. tt), tt) f.Key.name code.function (code.unfolded 𝓤 𝓛.H 𝓜 𝓡 wired) (λ z are.
    let Post : Val → SProp 𝓤 = (walk_of 𝓛 En stays c).post z in
    let a = z.0.3 in
    let vss = z.0.4 in
    let from = a.0 in
    let held : Held = record { at = from.at; kept = Some from.inside } in
    qed 𝓛 ((raw (alive 𝓛 En.signature z.0.0 z.0.1) ⊛ ‵ (owns (types_at En.signature.params z.0.0) a vss)) ∷ ‵ ftrue ∷ []) ∵
    move ! (1 ∷ []) $ drop ! $ split ! $ move ! (1 ∷ []) $ fsplit ! $ move ! (1 ∷ []) $ drop ! $
    -- [the fields; the box; the tokens]
    fsplit ! $ fpick ! (λ us. fsplit ! $ feq_l ! (λ ev. fsplit ! $ feq_l ! (λ ep. fsplit ! $ fsplit ! $ feq_l ! (λ eh. keep ! (2 ∷ 3 ∷ []) $
    opens_box ! from.at from.inside (λ b o at.
    let handle : Val = vptr from.alloc.ref_ptr.0 from.alloc.ref_ptr.1 in
    let words : Ptr → Val = λ p. vstruct (vcons (ptr_val p) (vcons handle vnil)) in
    let told : vss.0 ≡ words (block_ptr b o) ∷ [] = ev ∙ (λ i. vstruct (of_list (ep i ++ (eh i ++ []))) ∷ []) ∙ ap (λ (p : Ptr). words p ∷ []) at in
    closes_held ! held from.inside b o at $
    regoal ! (λ (ws : List Val). prop (WpFn 𝓤 𝓛.H 𝓣.C 𝓣.Λ code.function (ws ++ []) Post)) told refl $
    enter ! _ _ _ _ _ $ alloc_all ! (λ l. pass_all ! refl ((tt, (tt, (tt, tt))), tt) $
    sets ! (of_opd ! (get_in ! (fld ! refl (stop !)) (sub ! 0 refl (whole !)))) refl (tt, tt) $
    sets ! (of_opd ! (get ! refl)) refl (tt, tt) $
    sets ! (agg ! (and_then ! (get ! refl) (no_more !))) refl (tt, (tt, tt)) $
    returns ! (look_at ! 0 refl) $ free_all ! refl $
    -- [the holder; the tokens]
    use0 𝓛 (raw (fact 𝓤 (held.kept ≡ Some from.inside))) (fact_i 𝓤 (held.kept ≡ Some from.inside) (emp 𝓤) refl) $
    nothing ! $ nothing ! $ fjoin ! $ move ! (3 ∷ 0 ∷ 2 ∷ 1 ∷ []) $
    by ! (leaves 𝓛 En stays c z (one_val (block_ptr b o)) held (tt, tt) (tt, tt)))))))))
