-- The two words are moved, and what they own stays where it is.
use Rattle.std.proofs.Common.{[], ◌∷◌, ◌++◌, refl}
use Rattle.std.proofs.raw_atomic.Walks.{proved_at}
use Rattle.std_alloc.proofs.BoxSteps.Form.{B, word, box_typed}
use Rattle.std_alloc.proofs.BoxSteps.Steps.{box_out}
use base.Logic.{emp}
use base.Fml.{ftrue, fsep}
use contract.Running.{tables}
use denote.Exit.{yes}
use denote.Signature.{plain}
use denote.Triple.Walked.{Stays, stay_dropped, Goes-dropped, walk_of, ends_at, says}
use prog.Wp.{WpFn}
use types.ByLocal.{alloc_all, pass_all, free_all, look_at, get, get_in, sets}
use types.Kit.{‵, raw, prop, ◌⊛◌, ◌$◌, ◌∵◌, !, qed, drop, done, keep, fsplit, split, regoal, suffices}
use types.Part.{agg}
use types.Run.{stop, fld, no_more, and_then, of_opd, enter, returns}
use Rattle.dcel_exports.proofs.Steps.{field_in, ends_with}
use Rattle.dcel_c.proofs.Kept.{boxes, box_of, closes_held}
use Rattle.dcel_c.specs.Held.{mesh_row}
use Rattle.dcel_exports.specs.contracts.boxes.Opened.{the_row as Opened}
use Rattle.dcel_c.specs.contracts.held.Held.{the_row as H}
use Rattle.dcel_c.specs.contracts.held.Held.full as f
use Rattle.dcel_c.specs.declared.held.Held.{Held}
use Rattle.dcel_c.proofs.held.Held.full.Statement.{statement}
use Rattle.dcel_c.proofs.held.Held.full.Code as code
use Rattle.std.specs.Prelude.{Some}
use Rattle.std_heap.specs.contracts.Global as Heap
use Rattle.std_heap.specs.contracts.GlobalAllocator.TheImpl.{ghosts}

abbrev stayed : Stays f.ended.signature.params f.ended.kept
stayed = (stay_dropped _ yes, tt)

pub full_spec : {M : Type 1} → statement M
full_spec 𝓤 𝓛 𝓜 𝓡 wired =
    let c = f.clauses 𝓛 𝓜.mem 𝓡.returns in
    let 𝓣 = tables 𝓤 𝓛.H 𝓜 𝓡 𝓡.env in
    let gone = Goes-dropped 𝓛 0 (plain (λ _. Opened mesh_row Heap.the_row ghosts)) yes (λ κs x w. refl) in
    proved_at 𝓛 f.ended stayed c 𝓜 𝓡 (gone, tt) f.Key.name code.function (code.unfolded 𝓤 𝓛.H 𝓜 𝓡 wired) (λ y are.
    let from = y.0.3.0 in
    let vs = y.0.4.0 in
    let held : Held = record { at = from.at; alloc = from.alloc; kept = Some from.inside } in
    qed 𝓛 ((‵ ftrue ⊛ ‵ (fsep ((B boxes).own_val (box_of held from.inside) vs) ftrue)) ∷ raw (emp 𝓤) ∷ []) ∵
    split ! $ drop ! $ fsplit ! $
    box_out boxes ! (box_of held from.inside) vs (λ b o hv at is fits. closes_held ! held from.inside b o at $
    regoal ! (λ us. prop (WpFn 𝓤 𝓛.H 𝓣.C 𝓣.Λ code.function (us ++ []) ((walk_of 𝓛 f.ended stayed c).post y))) is refl $
    enter ! _ _ _ _ _ $ alloc_all ! (λ l. pass_all ! refl (box_typed boxes hv b o fits, tt) $
    -- the pointer and the handle are taken out, the pointer is cast, and the two are put together
    sets ! (of_opd ! (get_in ! (fld ! refl (stop !)) (field_in ! 0 refl))) refl (tt, tt) $
    sets ! (of_opd ! (get_in ! (fld ! refl (stop !)) (field_in ! 1 refl))) refl fits $
    sets ! (of_opd ! (get ! refl)) refl (tt, tt) $
    sets ! (agg ! (and_then ! (get ! refl) (and_then ! (get ! refl) (no_more !)))) refl (box_typed boxes hv b o fits) $
    returns ! (look_at ! 0 refl) $ free_all ! refl $
    -- [the holder; true; nothing]
    keep ! (0 ∷ []) $ suffices ! _ (ends_at 𝓛 f.ended stayed c y (word boxes hv b o) held (tt, tt) (tt, tt)) $ says ! refl $
    ends_with ! (H.own_val held (word boxes hv b o ∷ [])) $ done !)))
