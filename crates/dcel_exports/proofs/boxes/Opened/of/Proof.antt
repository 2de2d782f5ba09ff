-- A box is opened by `into_raw_with_allocator`. The pair that it returns, with the memory, is owned as the box was.
use Rattle.std.proofs.Common.{[], ◌∷◌, ◌++◌, ◌≡◌, refl, ap}
use Rattle.std.proofs.alloc.Calls.{token, Goes-blank}
use Rattle.std.proofs.raw_atomic.Walks.{proved_at}
use Rattle.std_alloc.proofs.BoxSteps.Form.{Bx, B, D, P, R, word, box_typed}
use Rattle.std_alloc.proofs.BoxSteps.Steps.{box_out, box_in}
use Rattle.std_alloc.proofs.boxed.Box.into_raw_with_allocator.Met as callee
use Rattle.std_alloc.specs.Box.Ownership.{box_owns}
use Rattle.std_alloc.specs.contracts.boxed.Box.into_raw_with_allocator as opens
use base.Fml.{ftrue, fsep, flft}
use base.Logic.{id⊢}
use contract.BorrowLft.{◌⊑◌}
use contract.Monad.{fact}
use contract.Running.{tables}
use denote.Exit.{no}
use denote.Param.{bounded}
use denote.RawPtr.{Ptr, RawPtr}
use denote.Signature.{plain}
use denote.Steps.{nothing, heard, only}
use denote.Struct.Tuple.{Tuple}
use denote.Triple.Call.{calls_at}
use denote.Triple.Clauses.{Lasts, lasts}
use denote.Triple.Spec.{triple_of}
use denote.Triple.Table.{framed}
use denote.Triple.Walked.{Stays, stay_dropped, walk_of, ends_at, says}
use mir.MapTy.{inst_fn}
use mir.Syntax.{a_type, dcons, dnil}
use prog.Wp.{WpFn}
use types.ByLocal.{alloc_all, pass_all, free_all, look_at, get, get_in, sets, lands_as}
use types.Kit.{‵, raw, prop, some, later, ◌⊛◌, ◌$◌, ◌∵◌, !, qed, await, done, drop, fjoin, fsplit, join, keep, move, pick, regoal, rewrite, split, suffices, use1}
use types.Part.{agg}
use types.Run.{stop, fld, no_more, and_then, of_opd, enter, returns}
use Rattle.dcel_exports.proofs.Steps.{field_in}
use Rattle.dcel_exports.specs.contracts.boxes.Opened.of as f
use Rattle.dcel_exports.proofs.boxes.Opened.of.Statement.{statement}
use Rattle.dcel_exports.proofs.boxes.Opened.of.Code as code

pub of_spec : {M : Type 1} → statement M
of_spec 𝓤 𝓛 𝓜 𝓡 wired T A T-laws A-laws g d T-drop A-drop allocates drops_value drops_handle =
    let E : Bx = record { row = T; laws = T-laws; al = record { row = A; laws = A-laws; g = g; d = d; drops = A-drop } } in
    let given = bounded (a_type ∷ a_type ∷ []) (T, (A, tt)) (dcons d (dcons T-drop (dcons A-drop dnil))) in
    let function = inst_fn given code.function in
    let F = f.ended T A g d T-drop A-drop in
    let c = f.clauses T A g d T-drop A-drop 𝓛 𝓜.mem 𝓡.returns in
    let stayed : Stays F.signature.params F.kept = (stay_dropped (plain (λ _. B E)) no, tt) in
    let 𝓣 = tables 𝓤 𝓛.H 𝓜 𝓡 𝓡.env in
    let met = callee.met 𝓤 𝓛 𝓜 𝓡 (code.calls-std_alloc::boxed::Box::into_raw_with_allocator 𝓡.env wired) T A T-laws A-laws g d A-drop T-drop allocates drops_handle drops_value in
    proved_at 𝓛 F stayed c 𝓜 𝓡 (Goes-blank 𝓛 2 (plain (λ _. B E)) no (λ κs x w. tt), tt)
    (f.Key.name given) function (code.unfolded 𝓤 𝓛.H 𝓜 𝓡 wired (T, (A, tt)) d T-drop A-drop) (λ y are.
    let κs = y.0.0 in
    let qs = y.0.1 in
    let box = y.0.3.0 in
    let Post = (walk_of 𝓛 F stayed c).post y in
    let tokens = ‵ (flft κs.0 qs.0) ⊛ ‵ (flft κs.1.0 qs.1.0) ⊛ ‵ ftrue in
    let long_enough = raw (fact 𝓤 (κs.0 ⊑ T.lives)) ⊛ raw (fact 𝓤 (κs.1.0 ⊑ A.lives)) ⊛ ‵ ftrue in
    qed 𝓛 ((tokens ⊛ ‵ (fsep ((B E).own_val box y.0.4.0) ftrue)) ∷ long_enough ∷ []) ∵
    split ! $ move ! (1 ∷ []) $ fsplit ! $
    box_out E ! box y.0.4.0 (λ b o hv at is fits. box_in E ! box b o box.value at refl $
    regoal ! (λ us. prop (WpFn 𝓤 𝓛.H 𝓣.C 𝓣.Λ function (us ++ []) Post)) is refl $
    enter ! _ _ _ _ _ $ alloc_all ! (λ l. pass_all ! refl (box_typed E hv b o fits, tt) $
    sets ! (of_opd ! (get ! refl)) refl (box_typed E hv b o fits) $
    -- [the box; true; the tokens; that they are long enough]
    let G = triple_of 𝓛 (opens.signature T A g d A-drop T-drop) (opens.spec T A g d A-drop T-drop 𝓛 𝓜.mem 𝓡.returns) in
    let z : G.Ghost = ((κs, qs, tt, (box, tt), (word E hv b o ∷ [], tt)), tt) in
    let O = opens.ended T A g d A-drop T-drop in
    fjoin ! $ move ! (1 ∷ 0 ∷ []) $ join ! $ join ! $ use1 𝓛 (raw (G.pre z)) (id⊢ 𝓤 _) $
    calls_at ! (framed 𝓤 𝓛.H 𝓜 𝓣) G met z (and_then ! (get ! refl) (no_more !)) (λ v.
    let pair = λ (at : Ptr) (a : A.Denot). ‵ ((Tuple (RawPtr ∷ P E ∷ [])).own_val (at, a) (v ∷ [])) in
    let memory = λ (at : Ptr). ‵ (box_owns (token E.al box.alloc) (R E) at box.value) in
    use1 𝓛 (later (some (λ (r : Ptr × A.Denot). (tokens ⊛ pair r.0 r.1) ⊛
    some (λ (ws : Lasts O κs z.0.3). ‵ (lasts O κs z.0.3 ws) ⊛ raw (fact 𝓤 (r.1 ≡ box.alloc)) ⊛ memory r.0)))) (id⊢ 𝓤 _) $
    await ! tt $ pick ! (λ r. split ! $ split ! $ move ! (2 ∷ []) $ pick ! (λ ws. split ! $ drop ! $ split ! $ heard ! _ (λ same.
    -- [the memory; the tokens; the pair]
    move ! (2 ∷ []) $ rewrite ! 0 (pair r.0) same refl $ fjoin ! $
    let opened : D E = record { ptr = r.0; alloc = box.alloc; value = box.value } in
    use1 𝓛 (‵ ((B E).own_val opened (v ∷ []))) (id⊢ 𝓤 _) $
    box_out E ! opened (v ∷ []) (λ b o hv at is fits. box_in E ! opened b o box.value at refl $
    lands_as ! (ap only is) refl (box_typed E hv b o fits) $
    sets ! (of_opd ! (get_in ! (fld ! refl (stop !)) (field_in ! 0 refl))) refl (tt, tt) $
    sets ! (of_opd ! (get_in ! (fld ! refl (stop !)) (field_in ! 1 refl))) refl fits $
    sets ! (agg ! (and_then ! (get ! refl) (and_then ! (get ! refl) (no_more !)))) refl (box_typed E hv b o fits) $
    returns ! (look_at ! 0 refl) $ free_all ! refl $ keep ! (0 ∷ 1 ∷ []) $
    suffices ! _ (ends_at 𝓛 F stayed c y (word E hv b o) (record { at = r.0; alloc = box.alloc; inside = box.value }) ((tt, (tt, tt)), tt) (tt, tt)) $ says ! refl $
    nothing ! $ nothing ! $ fjoin ! $ join ! $ move ! (1 ∷ 0 ∷ []) $ join ! $ done !))))))))
