-- `split` cuts the memory in two. Assumes `Logic`.
use Rattle.std.proofs.Common.{◌≡◌, ◌+◌, ◌-◌, ◌%◌, ◌≤◌, List, [], ◌∷◌, ◌++◌, refl, ap, ◌∙◌, arith, w64}
use mir.Syntax.{Fn}
use mir.Val.{Val, vint, vptr}
use base.Logic.{SProp, emp, never, id⊢}
use prog.Wp.{Env, WpFn}
use contract.Monad.{fact, fact_i}
use contract.Running.{tables}
use types.Kit.{‵, raw, ◌⊛◌, prop, at_ret, ◌$◌, ◌∵◌, !, qed, by, move, drop, use0, use1, use2, split, regoal, fsplit, fjoin}
use types.Part.{whole, sub, agg}
use types.Run.{stop, fld, bin, of_opd, no_more, and_then, first, blocks, exec, returns, enter}
use types.ByLocal.{alloc_all, pass_all, free_all, look_at, get, get_in, sets, sets_last, is, env}
use denote.RattleType.{owns}
use denote.RawPtr.{Ptr, block_ptr, in_a_block}
use denote.Signature.{types_at}
use denote.Steps.{nothing, heard}
use denote.Struct.Tuple.{Tuple}
use denote.Triple.Entry.{alive}
use denote.Triple.Walked.{Stays, stay_dropped, walk_of, Goes-dropped}
use Rattle.core.proofs.alloc.Calls.{Goes-blank}
use Rattle.core.proofs.alloc.Shapes.{after}
use Rattle.std_alloc.proofs.Pairs.{pair_of, pair_val}
use Rattle.std.proofs.raw_atomic.Walks.{proved_at, leaves}
use Rattle.lent_heap.proofs.Values.{slot_at, sized_val, sized_own, sized_told, sized_made}
use Rattle.lent_heap.specs.contracts.memory.Memory as memory
use Rattle.lent_heap.specs.contracts.memory.Memory.split.{ended, clauses}
use Rattle.lent_heap.specs.contracts.memory.Memory.split.Key.{name as #self}
use Rattle.lent_heap.proofs.memory.Memory.split.Statement.{statement}
use Rattle.lent_heap.proofs.memory.Memory.split.Code as compiled
use Rattle.lent_heap.proofs.Rooms.{resized, cuts}
use Rattle.lent_heap.specs.Blocks.{bytes_at}

pub split_spec : {M : Type 1} → statement M
split_spec 𝓤 𝓛 𝓜 𝓡 wired =
    let H = 𝓛.H in
    let En₀ = ended in
    let c₀ = clauses 𝓛 𝓜.mem 𝓡.returns in
    let fn : Fn = compiled.function in
    let stays : Stays En₀.signature.params En₀.kept = (stay_dropped (slot_at 0 En₀.signature.params) En₀.kept.0, (stay_dropped (slot_at 1 En₀.signature.params) En₀.kept.1.0, tt)) in
    let c = c₀ in
    let C = (tables 𝓤 H 𝓜 𝓡 𝓡.env).C in
    let Λ = (tables 𝓤 H 𝓜 𝓡 𝓡.env).Λ in
    proved_at 𝓛 En₀ stays c 𝓜 𝓡 (Goes-blank 𝓛 0 (slot_at 0 En₀.signature.params) En₀.kept.0 (λ κs x f. tt), (Goes-dropped 𝓛 0 (slot_at 1 En₀.signature.params) En₀.kept.1.0 (λ κs x f. refl), tt)) #self fn (compiled.unfolded 𝓤 H 𝓜 𝓡 wired) (λ z are.
    let Post : Val → SProp 𝓤 = (walk_of 𝓛 En₀ stays c).post z in
    let a = z.0.3 in
    let vss = z.0.4 in
    let x = a.0 in
    let n = x.size in
    let m = a.1.0 in
    let told = sized_told x.ptr n vss.0 are.0.0 in
    let fits = told.1 in
    let fits_m = are.1.0.1 in
    let even = x.whole in
    let Asked : Type 0 = (m % 16 ≡ 0) × (m ≤ n) in
    qed 𝓛 ((raw (alive 𝓛 En₀.signature z.0.0 z.0.1) ⊛ ‵ (owns (types_at En₀.signature.params z.0.0) a vss)) ∷ raw (fact 𝓤 Asked) ∷ []) ∵ move ! (1 ∷ []) $ heard ! Asked (λ asked. split ! $ move ! (1 ∷ []) $
    fsplit ! $ fsplit ! $ drop ! $ move ! (1 ∷ []) $ drop ! $ in_a_block ! x.ptr (λ p. bytes_at p n) (id⊢ 𝓤 (never 𝓤)) (λ b o at.
    let front : Ptr = block_ptr b o in let back : Ptr = block_ptr b (o + m) in let units = asked.0 in let less = asked.1 in
    use1 𝓛 (‵ (bytes_at front (m + (n - m)))) (resized 𝓛 b o n (m + (n - m)) (omega arith)) $ use1 𝓛 (‵ (bytes_at front m) ⊛ ‵ (bytes_at back (n - m))) (cuts 𝓛 b o m (n - m) units) $ split ! $
    regoal ! (λ (us : List Val). prop (WpFn 𝓤 H C Λ fn us Post)) (λ i. (told.0 ∙ ap (λ (p : Ptr). sized_val p n ∷ []) at) i ++ (are.1.0.0 i ++ [])) refl $
    enter ! C Λ fn (sized_val front n ∷ vint w64 m ∷ []) Post $
    alloc_all ! (λ l. pass_all ! refl ((tt, (tt, (record { fits = fits }, tt))), ((tt, record { fits = fits_m }), tt)) $ let En : Env 𝓤 𝓛.H = env fn.locals l in
    sets ! (of_opd ! (get_in ! (fld ! refl (stop !)) (sub ! 0 refl (whole !)))) refl (tt, tt) $
    sets ! (of_opd ! (get_in ! (fld ! refl (stop !)) (sub ! 1 refl (whole !)))) refl (tt, record { fits = fits }) $
    first ! $ blocks ! $
    sets_last ! (is ! (bin ! (get ! refl) (get ! refl) tt) (ap (vptr b) (omega arith))) refl (tt, tt) $
    exec ! C Λ En (after 3 fn.body) (at_ret En Post) $
    sets ! (of_opd ! (get ! refl)) refl (tt, tt) $
    sets ! (bin ! (get ! refl) (get ! refl) (omega arith)) refl (tt, record { fits = omega arith }) $
    sets ! (agg ! (and_then ! (get ! refl) (and_then ! (get ! refl) (no_more !)))) refl (tt, (tt, (record { fits = fits_m }, tt))) $
    sets ! (agg ! (and_then ! (get ! refl) (and_then ! (get ! refl) (no_more !)))) refl (tt, (tt, (record { fits = omega arith }, tt))) $
    sets ! (agg ! (and_then ! (get ! refl) (and_then ! (get ! refl) (no_more !)))) refl (tt, ((tt, (record { fits = fits_m }, tt)), ((tt, (record { fits = omega arith }, tt)), tt))) $
    returns ! (look_at ! 0 refl) $ free_all ! refl $
    let w : (memory.the_row).Denot = record { ptr = front; size = m; whole = units } in let y : (memory.the_row).Denot = record { ptr = back; size = n - m; whole = omega arith } in
    move ! (1 ∷ 0 ∷ []) $ use0 𝓛 (‵ (sized_own back (n - m) (sized_val back (n - m) ∷ []))) (sized_made 𝓛 back (n - m) (omega arith)) $ fjoin ! $ move ! (1 ∷ []) $ use0 𝓛 (‵ (sized_own front m (sized_val front m ∷ []))) (sized_made 𝓛 front m fits_m) $ fjoin ! $
    let v : Val = pair_val (sized_val front m) (sized_val back (n - m)) in
    use2 𝓛 (‵ ((Tuple (memory.the_row ∷ memory.the_row ∷ [])).own_val (w, y) (v ∷ []))) (pair_of 𝓛 (memory.the_row) (memory.the_row) (w) (y) (sized_val front m) (sized_val back (n - m))) $
    use0 𝓛 (raw (fact 𝓤 ((m ≡ m) × (n - m ≡ n - m)))) (fact_i 𝓤 ((m ≡ m) × (n - m ≡ n - m)) (emp 𝓤) (refl, refl)) $ nothing ! $ nothing ! $ fjoin ! $ nothing ! $ fjoin ! $ move ! (3 ∷ 0 ∷ 2 ∷ 1 ∷ []) $
    by ! (leaves 𝓛 En₀ stays c z (v) (w, y) (tt, (tt, tt)) (tt, (tt, tt)))))))
