-- It refuses where the plan says so, and else answers what the inner allocator answers.
use Rattle.std.proofs.Common.{◌≡◌, ℕ, ◌^◌, ◌<◌, true, false, List, [], ◌∷◌, Ok, Err, refl, w64, Bor}
use seplogic.Ra.Ura.{Ura}
use mir.Syntax.{Ty, Args, Fn, a_type, dnil, dcons}
use mir.Val.{Val, vint, vptr}
use mir.MapTy.{inst_fn}
use base.Logic.{SProp, ent, emp}
use base.Fml.{Fml, Lft, Share, ftrue, flft}
use prog.Memory.{Memory, size, align, capped}
use prog.Routine.{Routine}
use prog.Wp.{WpFn, Tables}
use types.Logic.{Logic, sem}
use contract.BorrowLft.{◌⊑◌, ⊑_trans}
use contract.Monad.{Fun, fact}
use contract.Running.{tables, tables_of}
use sound.WpLaws.{fm_of, WpFn-mono}
use types.Run.{stop, fld, addr, lit, no_more, and_then, first, branches, skips, exec, returns, returns_within, enter}
use types.Part.{agg}
use denote.Exit.{yes}
use denote.RattleType.{RattleType, owns}
use denote.Ref.{shr_vals}
use denote.Param.{bounded}
use denote.Plain.{uint_vals, uint_Tells}
use denote.Signature.{plain}
use denote.Steps.{heard, nothing}
use denote.Triple.Clauses.{Ended, Clauses}
use denote.Triple.Spec.{triple_of}
use denote.Triple.Statement.{Triple}
use denote.Triple.Table.{entered, cited}
use denote.Triple.Walked.{Stays, stay_dropped, walk_of, ends_at, walked, Goes-dropped, walk_Meets}
use types.Kit.{‵, raw, ◌⊛◌, later, prop, at_ret, Sq, learn, pick, ◌$◌, ◌∵◌, !, qed, move, keep, use0, use1, use2, split, join, fjoin, suffices, await, done}
use types.ByLocal.{alloc_all, pass_all, free_all, look_at, get, through, sets, lands_as, env}
use Rattle.std.proofs.VecSteps.Shapes.{after}
use Rattle.std.specs.Allocator.{block_if_ok}
use denote.RawPtr.{block_ptr}
use denote.Builtin.{usize}
use denote.Triple.Call.{calls_at}
use Rattle.std.proofs.alloc.Calls.{Al, token, Answer, answer_val, Answer-typed, Answer-Ok, Answer-err, takes_key, Takes, at_takes, Answered, Takes-goes, Takes-gives, answers}
use Rattle.dcel_bench.proofs.Requests.{Refuses, at_refuses, Told, Refuses-goes, Refuses-gives, self, inner_at, plan_at, Entered, Seen, sees}
use Rattle.dcel_bench.proofs.refusing.Plan.refuses.Symbol as symbol
use Rattle.dcel_bench.proofs.refusing.Plan.refuses.Met as refuses_met
use Rattle.dcel_bench.specs.contracts.refusing.Refusing as refusing
use Rattle.dcel_bench.specs.contracts.refusing.RefusingAllocator.allocate as method
use Rattle.dcel_bench.specs.contracts.refusing.RefusingAllocator.allocate.Key as key
use Rattle.dcel_bench.proofs.refusing.RefusingAllocator.allocate.Statement as stated
use Rattle.dcel_bench.proofs.refusing.RefusingAllocator.allocate.Code as code

module _ (Z : Al) where
  abbrev args : Args
  args = bounded (a_type ∷ []) (Z.row, tt) (dcons Z.d (dcons Z.drops dnil))

  abbrev here : Fn
  here = inst_fn args code.function

  abbrev ended : Ended
  ended = method.ended Z.row Z.g Z.d Z.drops

  abbrev stayed : Stays ended.signature.params ended.kept
  stayed = (stay_dropped (self Z) yes, (stay_dropped (plain (λ _. usize)) yes, (stay_dropped (plain (λ _. usize)) yes, tt)))

module _ (Z : Al) {M : Type 1} {𝓤 : Ura M} (𝓛 : Logic 𝓤) (at_mem : Memory → SProp 𝓤) (run : Routine → Fun 𝓤) (𝓣 : Tables 𝓤 𝓛.H) (takes : Triple 𝓤 (𝓣.C (takes_key Z)) (Takes Z 𝓛 at_mem run)) (plan_met : Triple 𝓤 (𝓣.C symbol.name) (Refuses 𝓛 at_mem run)) where
  open 𝓛 use {H}

  abbrev clauses : Clauses 𝓤 (ended Z)
  clauses = method.clauses Z.row Z.g Z.d Z.drops 𝓛 at_mem run

  module _ (κ ρ : Lft) (q s : Share) (short : κ ⊑ ρ) (r : Bor (refusing.the_row Z.row).Denot) (n a : ℕ) (τ : Ty) where
    abbrev bound : (walk_of 𝓛 (ended Z) (stayed Z) clauses).Ghost
    bound = (((κ, (ρ, tt)), (q, (s, tt)), (short, tt), (r, (n, (a, tt))), (shr_vals r, (vint w64 n ∷ [], (vint w64 a ∷ [], tt)))), τ)

    abbrev handed : List Val
    handed = vptr r.ref_ptr.0 r.ref_ptr.1 ∷ vint w64 n ∷ vint w64 a ∷ []

    abbrev After : Val → SProp 𝓤
    After = (walk_of 𝓛 (ended Z) (stayed Z) clauses).post bound

    -- it ends with an answer and what comes with it
    ends : (v : Val) (x : Answer.Denot) → ent 𝓤 (emp 𝓤) (sem 𝓛 (Answer.own_val x (v ∷ [])))
        → Sq 𝓛 (‵ (block_if_ok (token Z r.now.inner) τ x) ∷ ‵ (flft κ q) ∷ (‵ (flft ρ s) ⊛ ‵ ftrue) ∷ []) (prop (After v))
    ends v x own =
        suffices ! _ (ends_at 𝓛 (ended Z) (stayed Z) clauses bound v x (tt, (tt, (tt, tt))) (tt, (tt, (tt, tt)))) $
        use0 𝓛 (‵ (Answer.own_val x (v ∷ []))) own $ nothing ! $ nothing ! $ fjoin ! $ nothing ! $ fjoin ! $ nothing ! $ fjoin ! $ join ! $
        move ! (2 ∷ 3 ∷ []) $ join ! $ join ! $ done !

    walk : n < 2 ^ 64 → a < 2 ^ 64 → ent 𝓤 ((walk_of 𝓛 (ended Z) (stayed Z) clauses).pre bound) (WpFn 𝓤 H 𝓣.C 𝓣.Λ (here Z) handed After)
    walk fits_size fits_align =
        let h : Z.row.Denot = r.now.inner in
        let p : ℕ × ℕ = inner_at Z r in
        let c : ℕ × ℕ = plan_at Z r in
        let y : (Takes Z 𝓛 at_mem run).Ghost = at_takes Z 𝓛 at_mem run κ q p h n a τ in
        let x : (Refuses 𝓛 at_mem run).Ghost = at_refuses 𝓛 at_mem run κ q c r.now.plan in
        let others : Fml = owns (usize ∷ usize ∷ []) (n, (a, tt)) (vint w64 n ∷ [], (vint w64 a ∷ [], tt)) in
        let Said : Type 0 = (capped (size τ) ≡ n) × (capped (align τ) ≡ a) in
        qed 𝓛 (Entered Z 𝓛 κ ρ q s r others ∷ (raw (fact 𝓤 (ρ ⊑ Z.row.lives)) ⊛ raw (fact 𝓤 Said)) ∷ []) ∵
        use1 𝓛 (Seen Z 𝓛 κ ρ q s r others) (sees Z 𝓛 κ ρ q s r others) $ move ! (1 ∷ []) $ split ! $ heard ! _ (λ lives. heard ! _ (λ said.
        split ! $ move ! (1 ∷ []) $ split ! $ move ! (1 ∷ []) $ split ! $ move ! (3 ∷ 2 ∷ 0 ∷ []) $
        -- [the `&` to the plan; the token; the `&` to the inner allocator; the impl's token]
        enter ! 𝓣.C 𝓣.Λ (here Z) handed _ $ alloc_all ! (λ l. pass_all ! refl ((tt, tt), ((tt, record { fits = fits_size }), ((tt, record { fits = fits_align }), tt))) $
        sets ! (addr ! (through ! refl (fld ! refl (stop !)))) refl (tt, tt) $
        use2 𝓛 (raw ((Refuses 𝓛 at_mem run).pre x)) (Refuses-goes 𝓛 at_mem run κ q c r.now.plan) $
        calls_at ! (fm_of 𝓤 H 𝓛.laws 𝓣) (Refuses 𝓛 at_mem run) plan_met x (and_then ! (get ! refl) (no_more !)) (λ u.
        use1 𝓛 (later (Told 𝓛 at_mem run κ q c r.now.plan u)) (Refuses-gives 𝓛 at_mem run κ q c r.now.plan u) $ await ! tt $ pick ! (λ refused. learn ! (λ eu. lands_as ! eu refl (tt, tt) $
        first ! $ branches ! (get ! refl)
        (λ _. sets ! (agg ! (no_more !)) refl (tt, tt) $ sets ! (agg ! (and_then ! (lit ! tt) (and_then ! (get ! refl) (no_more !)))) refl (Answer-typed false 0 0) $
        returns_within ! After refl (look_at ! 0 refl) $ free_all ! refl $ keep ! (0 ∷ 2 ∷ []) $ nothing ! $ ends (answer_val false 0 0) (Err (record {})) (Answer-err 𝓛))
        (λ _. skips ! $ exec ! 𝓣.C 𝓣.Λ (env (here Z).locals l) (after 3 (here Z).body) (at_ret _ After) $ move ! (1 ∷ []) $
        sets ! (addr ! (through ! refl (fld ! refl (stop !)))) refl (tt, tt) $
        use2 𝓛 (raw ((Takes Z 𝓛 at_mem run).pre y)) (Takes-goes Z 𝓛 at_mem run κ q p h (⊑_trans κ ρ Z.row.lives short lives) n a τ said.0 said.1 fits_size fits_align) $
        calls_at ! (fm_of 𝓤 H 𝓛.laws 𝓣) (Takes Z 𝓛 at_mem run) takes y (and_then ! (get ! refl) (and_then ! (get ! refl) (and_then ! (get ! refl) (no_more !)))) (λ v.
        use1 𝓛 (later (raw (Answered Z 𝓛 at_mem run h τ v) ⊛ ‵ (flft κ q))) (Takes-gives Z 𝓛 at_mem run κ q p h n a τ v) $ await ! tt $ split ! $
        answers Z ! at_mem run h τ v
        (λ b o e. fjoin ! $ lands_as ! e refl (Answer-typed true b o) $ returns ! (look_at ! 0 refl) $ free_all ! refl $ ends (answer_val true b o) (Ok (block_ptr b o)) (Answer-Ok 𝓛 b o))
        (λ e. nothing ! $ lands_as ! e refl (Answer-typed false 0 0) $ returns ! (look_at ! 0 refl) $ free_all ! refl $ ends (answer_val false 0 0) (Err (record {})) (Answer-err 𝓛))))))))))

pub allocate_spec : {M : Type 1} → stated.statement M
unfolding tables_of
allocate_spec 𝓤 𝓛 𝓜 𝓡 wired Y L g d d' met _ =
    let Z : Al = record { row = Y; laws = L; g = g; d = d; drops = d' } in
    let 𝓣 : Tables 𝓤 𝓛.H = tables_of 𝓤 𝓛.H 𝓜 (tables 𝓤 𝓛.H 𝓜 𝓡 𝓡.env) in
    let c = method.clauses Y g d d' 𝓛 𝓜.mem 𝓡.returns in
    let gone = λ (R : RattleType). Goes-dropped 𝓛 2 (plain (λ _. R)) yes in
    let run = WpFn 𝓤 𝓛.H 𝓣.C 𝓣.Λ (here Z) in
    entered 𝓤 𝓛.H (triple_of 𝓛 (method.signature Y) (method.spec Y g d d' 𝓛 𝓜.mem 𝓡.returns)) 𝓣.C 𝓣.Λ (key.name (args Z)) (here Z) (code.unfolded 𝓤 𝓛.H 𝓜 𝓡 wired (Y, tt) d d')
    (walk_Meets 𝓛 (ended Z) (stayed Z) (Goes-dropped 𝓛 2 (self Z) yes (λ κs x f. refl), (gone usize (λ κs x f. refl), (gone usize (λ κs x f. refl), tt))) c run (WpFn-mono 𝓤 𝓛.H 𝓛.laws 𝓣 (here Z))
    (walked 𝓛 (ended Z) (stayed Z) c run (λ κs. (shr_vals, (uint_vals w64, (uint_vals w64, tt)))) (λ κs. ((λ r handed s. s.0), (uint_Tells w64, (uint_Tells w64, tt))))
    (λ κs qs bounds a τ are. walk Z 𝓛 𝓜.mem 𝓡.returns 𝓣 (met.allocate d') (cited 𝓤 𝓛.H _ 𝓜 𝓡 𝓡.env symbol.name (𝓡.env symbol.name) refl (refuses_met.met 𝓤 𝓛 𝓜 𝓡 (code.calls-dcel_bench::refusing::Plan::refuses 𝓡.env wired))) κs.0 κs.1.0 qs.0 qs.1.0 bounds.0 a.0 a.1.0 a.1.1.0 τ are.1.0.1 are.1.1.0.1)))
