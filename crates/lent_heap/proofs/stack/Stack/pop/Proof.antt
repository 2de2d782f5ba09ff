-- `pop` reads the pointer to the next block. Assumes `Logic`.
use Rattle.std.proofs.Common.{◌≡◌, suc, ◌-◌, ◌%◌, ◌<◌, List, [], ◌∷◌, ◌++◌, ℕ, refl, sym, ap, ◌∙◌, arith, w64}
use mir.Syntax.{Fn, ty_ptr}
use mir.Val.{Val, vint}
use base.Logic.{SProp, emp, never, id⊢, apply∗}
use base.Fml.{froom}
use prog.Wp.{Env, WpFn}
use contract.Monad.{fact, fact_i}
use contract.Running.{tables}
use types.Kit.{‵, raw, ◌⊛◌, prop, at_ret, ◌$◌, ◌∵◌, !, qed, by, move, drop, use0, use1, use2, split, regoal, rewrite, fsplit, fjoin, fpick}
use types.Part.{whole, sub, agg}
use types.Run.{stop, fld, load, look, of_opd, no_more, and_then, first, blocks, exec, returns, enter}
use types.ByLocal.{alloc_all, pass_all, free_all, look_at, get, get_in, through, sets, sets_last, env}
use denote.RattleType.{owns}
use denote.RawPtr.{Ptr, block_ptr, ptr_val, in_a_block}
use denote.Signature.{types_at}
use denote.Steps.{nothing, heard}
use denote.Struct.Tuple.{Tuple}
use denote.Triple.Entry.{alive}
use denote.Triple.Walked.{Stays, stay_dropped, walk_of, Goes-dropped}
use Rattle.core.proofs.alloc.Calls.{Goes-blank}
use Rattle.core.proofs.alloc.Shapes.{after}
use Rattle.std_alloc.proofs.Pairs.{pair_of, pair_val}
use Rattle.std_alloc.proofs.ResultValues.{and_tt}
use Rattle.std.proofs.raw_atomic.Walks.{proved_at, leaves}
use Rattle.lent_heap.proofs.Values.{slot_at, ptr_typed, sized_val, sized_own, sized_made, one_val, one_own, one_told, one_made}
use Rattle.lent_heap.specs.Blocks.{units_of, bytes_at, spare, spares}
use Rattle.lent_heap.specs.contracts.memory.Memory as memory
use Rattle.lent_heap.specs.contracts.stack.Stack as stacked
use Rattle.lent_heap.specs.contracts.stack.Stack.pop.{ended, clauses}
use Rattle.lent_heap.specs.contracts.stack.Stack.pop.Key.{name as #self}
use Rattle.lent_heap.proofs.stack.Stack.pop.Statement.{statement}
use Rattle.lent_heap.proofs.stack.Stack.pop.Code as compiled

pub pop_spec : {M : Type 1} → statement M
pop_spec 𝓤 𝓛 𝓜 𝓡 wired =
    let H = 𝓛.H in
    let En₀ = ended in
    let c = clauses 𝓛 𝓜.mem 𝓡.returns in
    let fn : Fn = compiled.function in
    let stays : Stays En₀.signature.params En₀.kept = (stay_dropped (slot_at 0 En₀.signature.params) En₀.kept.0, (stay_dropped (slot_at 1 En₀.signature.params) En₀.kept.1.0, tt)) in
    let C = (tables 𝓤 H 𝓜 𝓡 𝓡.env).C in
    let Λ = (tables 𝓤 H 𝓜 𝓡 𝓡.env).Λ in
    proved_at 𝓛 En₀ stays c 𝓜 𝓡 (Goes-blank 𝓛 0 (slot_at 0 En₀.signature.params) En₀.kept.0 (λ κs x f. tt), (Goes-dropped 𝓛 0 (slot_at 1 En₀.signature.params) En₀.kept.1.0 (λ κs x f. refl), tt)) #self fn (compiled.unfolded 𝓤 H 𝓜 𝓡 wired) (λ z are.
    let Post : Val → SProp 𝓤 = (walk_of 𝓛 En₀ stays c).post z in
    let a = z.0.3 in
    let vss = z.0.4 in
    let x = a.0 in
    let m = a.1.0 in
    let n = x.size in
    let k = x.count - 1 in
    let told = one_told x.first vss.0 are.0.0 in
    let fits = are.1.0.1 in
    let Asked : Type 0 = (m ≡ n) × (m % 16 ≡ 0) × (0 < x.count) in
    qed 𝓛 ((raw (alive 𝓛 En₀.signature z.0.0 z.0.1) ⊛ ‵ (owns (types_at En₀.signature.params z.0.0) a vss)) ∷ raw (fact 𝓤 Asked) ∷ []) ∵ move ! (1 ∷ []) $ heard ! Asked (λ asked. split ! $ move ! (1 ∷ []) $
    fsplit ! $ fsplit ! $ drop ! $ move ! (1 ∷ []) $ drop ! $
    let some = asked.2 in let more : x.count ≡ suc k = omega (arith, some) in
    rewrite ! 0 (λ (j : ℕ). ‵ (spares n j x.first)) more refl $ fpick ! (λ next. fsplit ! $
    in_a_block ! x.first (λ p. spare n p next) (id⊢ 𝓤 (never 𝓤)) (λ b o at. let p : Ptr = block_ptr b o in fsplit ! $
    regoal ! (λ (us : List Val). prop (WpFn 𝓤 H C Λ fn us Post)) (λ i. (told ∙ ap (λ (u : Ptr). one_val u ∷ []) at) i ++ (are.1.0.0 i ++ [])) refl $
    enter ! C Λ fn (one_val p ∷ vint w64 m ∷ []) Post $
    alloc_all ! (λ l. pass_all ! refl ((tt, (tt, tt)), ((tt, record { fits = fits }), tt)) $ let En : Env 𝓤 𝓛.H = env fn.locals l in
    sets ! (of_opd ! (get_in ! (fld ! refl (stop !)) (sub ! 0 refl (whole !)))) refl (tt, tt) $
    first ! $ blocks ! $
    sets ! (of_opd ! (get ! refl)) refl (tt, tt) $
    sets_last ! (of_opd ! (load ! (through ! refl (stop !)) (look ! 0 refl))) refl (ptr_typed next) $
    exec ! C Λ En (after 2 fn.body) (at_ret En Post) $
    sets ! (of_opd ! (get ! refl)) refl (ptr_typed next) $
    sets ! (agg ! (and_then ! (get ! refl) (and_then ! (get ! refl) (no_more !)))) refl (tt, (tt, (record { fits = fits }, tt))) $
    sets ! (agg ! (and_then ! (get ! refl) (no_more !))) refl (and_tt _ ((ptr_typed next).0), ((ptr_typed next).1, tt)) $
    sets ! (agg ! (and_then ! (get ! refl) (and_then ! (get ! refl) (no_more !)))) refl (and_tt _ (and_tt _ ((ptr_typed next).0)), ((tt, (record { fits = fits }, tt)), (((ptr_typed next).1, tt), tt))) $
    returns ! (look_at ! 0 refl) $ free_all ! refl $
    use1 𝓛 (‵ (froom ty_ptr b o)) (𝓛.laws.at_room ty_ptr b o (ptr_val next)) $ use2 𝓛 (‵ (bytes_at p n)) (apply∗ 𝓤 (H.room ty_ptr b o) (H.room (units_of n) b o)) $
    rewrite ! 0 (λ (j : ℕ). ‵ (bytes_at p j)) (sym asked.0) refl $
    let w : (memory.the_row).Denot = record { ptr = p; size = m; whole = asked.1 } in
    let y : (stacked.the_row).Denot = record { first = next; size = n; count = k } in
    move ! (1 ∷ 0 ∷ []) $ use0 𝓛 (‵ (one_own next (one_val next ∷ []))) (one_made 𝓛 next) $ fjoin ! $ move ! (1 ∷ []) $ use0 𝓛 (‵ (sized_own p m (sized_val p m ∷ []))) (sized_made 𝓛 p m fits) $ fjoin ! $
    let v : Val = pair_val (sized_val p m) (one_val next) in
    use2 𝓛 (‵ ((Tuple (memory.the_row ∷ stacked.the_row ∷ [])).own_val (w, y) (v ∷ []))) (pair_of 𝓛 (memory.the_row) (stacked.the_row) (w) (y) (sized_val p m) (one_val next)) $
    use0 𝓛 (raw (fact 𝓤 ((m ≡ m) × (n ≡ n) × (k ≡ k)))) (fact_i 𝓤 ((m ≡ m) × (n ≡ n) × (k ≡ k)) (emp 𝓤) (refl, refl, refl)) $
    nothing ! $ nothing ! $ fjoin ! $ nothing ! $ fjoin ! $ move ! (3 ∷ 0 ∷ 2 ∷ 1 ∷ []) $
    by ! (leaves 𝓛 En₀ stays c z (v) (w, y) (tt, (tt, tt)) (tt, (tt, tt))))))))
