-- `push` writes the pointer to the first block into the new one. Assumes `Logic`.
use Rattle.std.proofs.Common.{◌≡◌, suc, ◌+◌, ◌≤◌, List, [], ◌∷◌, ◌++◌, ℕ, refl, ap, ◌∙◌, arith}
use mir.Syntax.{Fn, ty_ptr}
use mir.Val.{Val}
use base.Logic.{SProp, emp, never, id⊢}
use base.Fml.{fsep, fwand, froom}
use prog.Memory.{size}
use prog.Wp.{Env, WpFn}
use contract.Monad.{fact, fact_i}
use contract.Running.{tables}
use types.Kit.{‵, raw, ◌⊛◌, prop, at_ret, ◌$◌, ◌∵◌, !, qed, by, move, drop, use0, use1, split, regoal, rewrite, fsplit, fjoin, fpack}
use types.Part.{whole, sub, agg}
use types.Run.{stop, fld, init, of_opd, no_more, and_then, assigns_last, first, blocks, exec, returns, enter}
use types.ByLocal.{alloc_all, pass_all, free_all, look_at, get, get_in, through, sets, env}
use denote.RattleType.{owns}
use denote.RawPtr.{Ptr, block_ptr, in_a_block}
use denote.Signature.{types_at}
use denote.Steps.{nothing, heard}
use denote.Triple.Entry.{alive}
use denote.Triple.Walked.{Stays, stay_dropped, walk_of}
use Rattle.core.proofs.alloc.Calls.{Goes-blank}
use Rattle.core.proofs.alloc.Shapes.{after}
use Rattle.std_alloc.proofs.ResultValues.{and_tt}
use Rattle.std.proofs.raw_atomic.Walks.{proved_at, leaves}
use Rattle.lent_heap.proofs.Values.{slot_at, ptr_typed, sized_val, sized_told, one_val, one_own, one_told, one_made}
use Rattle.lent_heap.proofs.Rooms.{retypes}
use Rattle.lent_heap.specs.Blocks.{units_of, bytes_at, spare, spares}
use Rattle.lent_heap.specs.contracts.stack.Stack as stacked
use Rattle.lent_heap.specs.contracts.stack.Stack.push.{ended, clauses}
use Rattle.lent_heap.specs.contracts.stack.Stack.push.Key.{name as #self}
use Rattle.lent_heap.proofs.stack.Stack.push.Statement.{statement}
use Rattle.lent_heap.proofs.stack.Stack.push.Code as compiled

pub push_spec : {M : Type 1} → statement M
push_spec 𝓤 𝓛 𝓜 𝓡 wired =
    let H = 𝓛.H in
    let En₀ = ended in
    let c = clauses 𝓛 𝓜.mem 𝓡.returns in
    let fn : Fn = compiled.function in
    let stays : Stays En₀.signature.params En₀.kept = (stay_dropped (slot_at 0 En₀.signature.params) En₀.kept.0, (stay_dropped (slot_at 1 En₀.signature.params) En₀.kept.1.0, tt)) in
    let C = (tables 𝓤 H 𝓜 𝓡 𝓡.env).C in
    let Λ = (tables 𝓤 H 𝓜 𝓡 𝓡.env).Λ in
    proved_at 𝓛 En₀ stays c 𝓜 𝓡 (Goes-blank 𝓛 0 (slot_at 0 En₀.signature.params) En₀.kept.0 (λ κs x f. tt), (Goes-blank 𝓛 0 (slot_at 1 En₀.signature.params) En₀.kept.1.0 (λ κs x f. tt), tt)) #self fn (compiled.unfolded 𝓤 H 𝓜 𝓡 wired) (λ z are.
    let Post : Val → SProp 𝓤 = (walk_of 𝓛 En₀ stays c).post z in
    let a = z.0.3 in
    let vss = z.0.4 in
    let x = a.0 in
    let m = a.1.0 in
    let n = x.size in
    let told = one_told x.first vss.0 are.0.0 in
    let told_m = sized_told m.ptr m.size vss.1.0 are.1.0.0 in
    let Asked : Type 0 = (m.size ≡ n) × (16 ≤ m.size) in
    qed 𝓛 ((raw (alive 𝓛 En₀.signature z.0.0 z.0.1) ⊛ ‵ (owns (types_at En₀.signature.params z.0.0) a vss)) ∷ raw (fact 𝓤 Asked) ∷ []) ∵ move ! (1 ∷ []) $ heard ! Asked (λ asked. split ! $ move ! (1 ∷ []) $
    fsplit ! $ fsplit ! $ drop ! $ move ! (1 ∷ []) $ fsplit ! $ fsplit ! $ drop ! $ move ! (1 ∷ []) $ drop ! $
    in_a_block ! m.ptr (λ p. bytes_at p m.size) (id⊢ 𝓤 (never 𝓤)) (λ b o at. let p : Ptr = block_ptr b o in let same = asked.0 in let large = asked.1 in
    rewrite ! 0 (λ (k : ℕ). ‵ (bytes_at p k)) same refl $
    use1 𝓛 (‵ (froom ty_ptr b o) ⊛ ‵ (fwand (froom ty_ptr b o) (froom (units_of n) b o))) (retypes 𝓛 b ty_ptr o n (omega (arith, same, m.whole)) (let eight : size ty_ptr ≡ 8 = refl in omega (arith, same, large, eight)) tt) $ split ! $
    regoal ! (λ (us : List Val). prop (WpFn 𝓤 H C Λ fn us Post)) (λ i. told i ++ ((told_m.0 ∙ ap (λ (u : Ptr). sized_val u m.size ∷ []) at) i ++ [])) refl $
    enter ! C Λ fn (one_val x.first ∷ sized_val p m.size ∷ []) Post $
    alloc_all ! (λ l. pass_all ! refl ((and_tt _ ((ptr_typed x.first).0), ((ptr_typed x.first).1, tt)), ((tt, (tt, (record { fits = told_m.1 }, tt))), tt)) $ let En : Env 𝓤 𝓛.H = env fn.locals l in
    sets ! (of_opd ! (get_in ! (fld ! refl (stop !)) (sub ! 0 refl (whole !)))) refl (ptr_typed x.first) $
    sets ! (of_opd ! (get_in ! (fld ! refl (stop !)) (sub ! 0 refl (whole !)))) refl (tt, tt) $
    first ! $ blocks ! $
    sets ! (of_opd ! (get ! refl)) refl (tt, tt) $
    assigns_last ! (of_opd ! (get ! refl)) (through ! refl (stop !)) (init ! 0 refl (ptr_typed x.first)) $
    exec ! C Λ En (after 3 fn.body) (at_ret En Post) $
    sets ! (agg ! (and_then ! (get ! refl) (no_more !))) refl (tt, (tt, tt)) $
    returns ! (look_at ! 0 refl) $ free_all ! refl $
    fjoin ! $ fjoin ! $ fpack ! Ptr (λ (next : Ptr). fsep (spare n p next) (spares n x.count next)) x.first $
    let y : (stacked.the_row).Denot = record { first = p; size = n; count = suc x.count } in
    use0 𝓛 (‵ (one_own p (one_val p ∷ []))) (one_made 𝓛 p) $ fjoin ! $
    use0 𝓛 (raw (fact 𝓤 ((n ≡ n) × (suc x.count ≡ x.count + 1)))) (fact_i 𝓤 ((n ≡ n) × (suc x.count ≡ x.count + 1)) (emp 𝓤) (refl, omega arith)) $
    nothing ! $ nothing ! $ fjoin ! $ nothing ! $ fjoin ! $ move ! (3 ∷ 0 ∷ 2 ∷ 1 ∷ []) $
    by ! (leaves 𝓛 En₀ stays c z (one_val p) y (tt, (tt, tt)) (tt, (tt, tt)))))))
