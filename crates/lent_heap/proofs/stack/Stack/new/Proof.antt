-- `new` makes a stack of no blocks. Assumes `Logic`.
use Rattle.std.proofs.Common.{◌≡◌, zero, List, [], ◌∷◌, ◌++◌, refl, lit<, w64}
use mir.Syntax.{Fn}
use mir.Val.{Val, vint}
use base.Logic.{SProp, emp}
use base.Fml.{ftrue}
use prog.Wp.{Env, WpFn}
use contract.Monad.{fact, fact_i}
use contract.Running.{tables}
use types.Kit.{‵, raw, ◌⊛◌, prop, ◌$◌, ◌∵◌, !, qed, by, move, drop, use0, split, regoal, fjoin}
use types.Part.{agg}
use types.Run.{lit, no_more, and_then, returns, enter}
use types.ByLocal.{alloc_all, pass_all, free_all, look_at, sets, env}
use denote.RattleType.{owns}
use denote.RawPtr.{null_ptr}
use denote.Signature.{types_at}
use denote.Steps.{nothing}
use denote.Triple.Entry.{alive}
use denote.Triple.Walked.{Stays, stay_dropped, walk_of, Goes-dropped}
use Rattle.std.proofs.raw_atomic.Walks.{proved_at, leaves}
use Rattle.lent_heap.proofs.Values.{slot_at, one_val, one_own, one_made}
use Rattle.lent_heap.specs.contracts.stack.Stack as stacked
use Rattle.lent_heap.specs.contracts.stack.Stack.new.{ended, clauses}
use Rattle.lent_heap.specs.contracts.stack.Stack.new.Key.{name as #self}
use Rattle.lent_heap.proofs.stack.Stack.new.Statement.{statement}
use Rattle.lent_heap.proofs.stack.Stack.new.Code as compiled

pub new_spec : {M : Type 1} → statement M
new_spec 𝓤 𝓛 𝓜 𝓡 wired =
    let H = 𝓛.H in
    let En₀ = ended in
    let c = clauses 𝓛 𝓜.mem 𝓡.returns in
    let fn : Fn = compiled.function in
    let stays : Stays En₀.signature.params En₀.kept = (stay_dropped (slot_at 0 En₀.signature.params) En₀.kept.0, tt) in
    let C = (tables 𝓤 H 𝓜 𝓡 𝓡.env).C in
    let Λ = (tables 𝓤 H 𝓜 𝓡 𝓡.env).Λ in
    proved_at 𝓛 En₀ stays c 𝓜 𝓡 (Goes-dropped 𝓛 0 (slot_at 0 En₀.signature.params) En₀.kept.0 (λ κs x f. refl), tt) #self fn (compiled.unfolded 𝓤 H 𝓜 𝓡 wired) (λ z are.
    let Post : Val → SProp 𝓤 = (walk_of 𝓛 En₀ stays c).post z in
    let a = z.0.3 in
    let vss = z.0.4 in
    let n = a.0 in
    qed 𝓛 ((raw (alive 𝓛 En₀.signature z.0.0 z.0.1) ⊛ ‵ (owns (types_at En₀.signature.params z.0.0) a vss)) ∷ ‵ ftrue ∷ []) ∵ move ! (1 ∷ []) $ drop ! $ split ! $ move ! (1 ∷ []) $ drop ! $
    regoal ! (λ (us : List Val). prop (WpFn 𝓤 H C Λ fn us Post)) (λ i. are.0.0 i ++ []) refl $
    enter ! C Λ fn (vint w64 n ∷ []) Post $
    alloc_all ! (λ l. pass_all ! refl ((tt, record { fits = are.0.1 }), tt) $ let En : Env 𝓤 𝓛.H = env fn.locals l in
    sets ! (agg ! (and_then ! (lit ! tt) (no_more !))) refl (tt, (record { fits = lit< tt }, tt)) $
    returns ! (look_at ! 0 refl) $ free_all ! refl $
    let y : (stacked.the_row).Denot = record { first = null_ptr; size = n; count = zero } in
    nothing ! $ use0 𝓛 (‵ (one_own null_ptr (one_val null_ptr ∷ []))) (one_made 𝓛 null_ptr) $ fjoin ! $
    use0 𝓛 (raw (fact 𝓤 ((n ≡ n) × (zero ≡ 0)))) (fact_i 𝓤 ((n ≡ n) × (zero ≡ 0)) (emp 𝓤) (refl, refl)) $
    nothing ! $ nothing ! $ fjoin ! $ move ! (3 ∷ 0 ∷ 2 ∷ 1 ∷ []) $
    by ! (leaves 𝓛 En₀ stays c z (one_val null_ptr) y (tt, tt) (tt, tt))))
