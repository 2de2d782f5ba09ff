-- It gives the block back to the inner allocator.
use Rattle.std.proofs.Common.{◌≡◌, ℕ, ◌^◌, ◌<◌, List, [], ◌∷◌, refl, w64, Bor}
use seplogic.Ra.Ura.{Ura}
use mir.Syntax.{Ty, Args, Fn, a_type, dnil, dcons}
use mir.Val.{Val, vint, vptr}
use mir.MapTy.{inst_fn}
use base.Logic.{SProp, ent}
use base.Fml.{Fml, Lft, Share, ffalse, fsep, froom, flft}
use prog.Memory.{Memory, size, align, capped}
use prog.Routine.{Routine}
use prog.Wp.{WpFn, Tables}
use types.Logic.{Logic}
use contract.BorrowLft.{◌⊑◌, ⊑_trans}
use contract.Monad.{Fun, fact}
use contract.Running.{tables, tables_of}
use sound.WpLaws.{fm_of, WpFn-mono}
use types.Run.{stop, fld, addr, no_more, and_then, of_opd, returns, enter}
use denote.Exit.{yes}
use denote.RattleType.{RattleType, owns}
use denote.Ref.{shr_vals}
use denote.Param.{bounded}
use denote.Plain.{uint_vals, uint_Tells}
use denote.Signature.{plain}
use denote.Steps.{heard, nothing}
use denote.Triple.Clauses.{Ended, Clauses}
use denote.Triple.Spec.{triple_of}
use denote.Triple.Statement.{Triple}
use denote.Triple.Table.{entered}
use denote.Triple.Walked.{Stays, stay_dropped, walk_of, ends_at, walked, Goes-dropped, walk_Meets}
use mir.Val.{vunit}
use base.Logic.{never_e}
use types.Kit.{‵, raw, ◌⊛◌, later, given, ◌$◌, ◌∵◌, !, qed, by, move, keep, drop, use1, split, split3, join, learn, fsplit, fjoin, feq_i, suffices, await, done}
use types.Run.{unit_lit}
use types.ByLocal.{alloc_all, pass_all, free_all, look_at, get, through, sets, lands_as}
use denote.RawPtr.{Ptr, block_ptr, null_ptr, ptr_val, rawptr_vals, rawptr_Tells}
use denote.Builtin.{usize, RawPtr}
use denote.Triple.Call.{calls_at}
use Rattle.dcel_bench.proofs.Requests.{self, inner_at, Entered, Seen, sees}
use Rattle.std.proofs.alloc.Calls.{Al, token, gives_key, Gives, at_gives, Gives-goes, Gives-Gives}
use Rattle.dcel_bench.specs.contracts.refusing.Refusing as refusing
use Rattle.dcel_bench.specs.contracts.refusing.RefusingAllocator.deallocate as method
use Rattle.dcel_bench.specs.contracts.refusing.RefusingAllocator.deallocate.Key as key
use Rattle.dcel_bench.proofs.refusing.RefusingAllocator.deallocate.Statement as stated
use Rattle.dcel_bench.proofs.refusing.RefusingAllocator.deallocate.Code as code

module _ (Z : Al) where
  abbrev args : Args
  args = bounded (a_type ∷ []) (Z.row, tt) (dcons Z.d (dcons Z.drops dnil))

  abbrev here : Fn
  here = inst_fn args code.function

  abbrev ended : Ended
  ended = method.ended Z.row Z.g Z.d Z.drops

  abbrev stayed : Stays ended.signature.params ended.kept
  stayed = (stay_dropped (self Z) yes, (stay_dropped (plain (λ _. RawPtr)) yes, (stay_dropped (plain (λ _. usize)) yes, (stay_dropped (plain (λ _. usize)) yes, tt))))

module _ (Z : Al) {M : Type 1} {𝓤 : Ura M} (𝓛 : Logic 𝓤) (at_mem : Memory → SProp 𝓤) (run : Routine → Fun 𝓤) (𝓣 : Tables 𝓤 𝓛.H) (gives : Triple 𝓤 (𝓣.C (gives_key Z)) (Gives Z 𝓛 at_mem run)) where
  open 𝓛 use {H}

  abbrev clauses : Clauses 𝓤 (ended Z)
  clauses = method.clauses Z.row Z.g Z.d Z.drops 𝓛 at_mem run

  module _ (κ ρ : Lft) (q s : Share) (short : κ ⊑ ρ) (r : Bor (refusing.the_row Z.row).Denot) (n a : ℕ) (τ : Ty) where
    abbrev bound : Ptr → (walk_of 𝓛 (ended Z) (stayed Z) clauses).Ghost
    bound x = (((κ, (ρ, tt)), (q, (s, tt)), (short, tt), (r, (x, (n, (a, tt)))), (shr_vals r, (rawptr_vals x, (vint w64 n ∷ [], (vint w64 a ∷ [], tt))))), τ)

    abbrev handed : Ptr → List Val
    handed x = vptr r.ref_ptr.0 r.ref_ptr.1 ∷ ptr_val x ∷ vint w64 n ∷ vint w64 a ∷ []

    abbrev After : Ptr → Val → SProp 𝓤
    After x = (walk_of 𝓛 (ended Z) (stayed Z) clauses).post (bound x)

    abbrev others : Ptr → Fml
    others x = owns (RawPtr ∷ usize ∷ usize ∷ []) (x, (n, (a, tt))) (rawptr_vals x, (vint w64 n ∷ [], (vint w64 a ∷ [], tt)))

    abbrev Said : Type 0
    Said = (capped (size τ) ≡ n) × (capped (align τ) ≡ a)

    walk : n < 2 ^ 64 → a < 2 ^ 64 → (x : Ptr) → ent 𝓤 ((walk_of 𝓛 (ended Z) (stayed Z) clauses).pre (bound x)) (WpFn 𝓤 H 𝓣.C 𝓣.Λ (here Z) (handed x) (After x))
    -- no block is at null
    walk fits_size fits_align null_ptr =
        qed 𝓛 (Entered Z 𝓛 κ ρ q s r (others null_ptr) ∷ (raw (fact 𝓤 (ρ ⊑ Z.row.lives)) ⊛ raw (fact 𝓤 Said) ⊛ ‵ (fsep ffalse (token Z r.now.inner τ null_ptr))) ∷ []) ∵
        move ! (1 ∷ []) $ split3 ! $ move ! (2 ∷ []) $ fsplit ! $ keep ! (0 ∷ []) $ by ! (never_e 𝓤 _)
    walk fits_size fits_align (block_ptr b o) =
        let h : Z.row.Denot = r.now.inner in
        let p : ℕ × ℕ = inner_at Z r in
        let x : Ptr = block_ptr b o in
        let y : (Gives Z 𝓛 at_mem run).Ghost = at_gives Z 𝓛 at_mem run κ q p h b o n a τ in
        qed 𝓛 (Entered Z 𝓛 κ ρ q s r (others x) ∷ (raw (fact 𝓤 (ρ ⊑ Z.row.lives)) ⊛ raw (fact 𝓤 Said) ⊛ ‵ (fsep (froom τ b o) (token Z h τ x))) ∷ []) ∵
        use1 𝓛 (Seen Z 𝓛 κ ρ q s r (others x)) (sees Z 𝓛 κ ρ q s r (others x)) $ move ! (1 ∷ []) $ split3 ! $ heard ! _ (λ lives. heard ! _ (λ said.
        move ! (1 ∷ []) $ split ! $ drop ! $ split ! $ move ! (1 ∷ []) $ split ! $ move ! (0 ∷ 2 ∷ 1 ∷ 3 ∷ []) $
        -- [the `&` to the inner allocator; the token; the impl's token; the block with its right to be freed]
        enter ! 𝓣.C 𝓣.Λ (here Z) (handed x) _ $ alloc_all ! (λ l. pass_all ! refl ((tt, tt), ((tt, tt), ((tt, record { fits = fits_size }), ((tt, record { fits = fits_align }), tt)))) $
        sets ! (addr ! (through ! refl (fld ! refl (stop !)))) refl (tt, tt) $
        join ! $ move ! (2 ∷ []) $ fsplit ! $ move ! (1 ∷ 2 ∷ []) $ join ! $ move ! (1 ∷ 0 ∷ []) $ join ! $
        use1 𝓛 (raw ((Gives Z 𝓛 at_mem run).pre y)) (Gives-goes Z 𝓛 at_mem run κ q p h (⊑_trans κ ρ Z.row.lives short lives) b o n a τ said.0 said.1 fits_size fits_align) $
        calls_at ! (fm_of 𝓤 H 𝓛.laws 𝓣) (Gives Z 𝓛 at_mem run) gives y (and_then ! (get ! refl) (and_then ! (get ! refl) (and_then ! (get ! refl) (and_then ! (get ! refl) (no_more !))))) (λ v.
        use1 𝓛 (later (given (v ≡ vunit) (‵ (flft κ q)))) (Gives-Gives Z 𝓛 at_mem run κ q p h b o n a τ v) $ await ! tt $ learn ! (λ e.
        lands_as ! e refl (tt, tt) $ sets ! (of_opd ! (unit_lit !)) refl (tt, tt) $ returns ! (look_at ! 0 refl) $ free_all ! refl $
        suffices ! _ (ends_at 𝓛 (ended Z) (stayed Z) clauses (bound x) vunit tt (tt, (tt, (tt, (tt, tt)))) (tt, (tt, (tt, (tt, tt))))) $
        nothing ! $ feq_i ! (List Val) (vunit ∷ []) (vunit ∷ []) refl $ nothing ! $ nothing ! $ fjoin ! $ nothing ! $ fjoin ! $ nothing ! $ fjoin ! $ nothing ! $ fjoin ! $ join ! $
        move ! (2 ∷ 3 ∷ []) $ join ! $ join ! $ done !)))))

pub deallocate_spec : {M : Type 1} → stated.statement M
unfolding tables_of
deallocate_spec 𝓤 𝓛 𝓜 𝓡 wired Y L g d d' met _ =
    let Z : Al = record { row = Y; laws = L; g = g; d = d; drops = d' } in
    let 𝓣 : Tables 𝓤 𝓛.H = tables_of 𝓤 𝓛.H 𝓜 (tables 𝓤 𝓛.H 𝓜 𝓡 𝓡.env) in
    let c = method.clauses Y g d d' 𝓛 𝓜.mem 𝓡.returns in
    let gone = λ (R : RattleType). Goes-dropped 𝓛 2 (plain (λ _. R)) yes in
    let run = WpFn 𝓤 𝓛.H 𝓣.C 𝓣.Λ (here Z) in
    entered 𝓤 𝓛.H (triple_of 𝓛 (method.signature Y) (method.spec Y g d d' 𝓛 𝓜.mem 𝓡.returns)) 𝓣.C 𝓣.Λ (key.name (args Z)) (here Z) (code.unfolded 𝓤 𝓛.H 𝓜 𝓡 wired (Y, tt) d d')
    (walk_Meets 𝓛 (ended Z) (stayed Z) (Goes-dropped 𝓛 2 (self Z) yes (λ κs x f. refl), (gone RawPtr (λ κs x f. refl), (gone usize (λ κs x f. refl), (gone usize (λ κs x f. refl), tt)))) c run (WpFn-mono 𝓤 𝓛.H 𝓛.laws 𝓣 (here Z))
    (walked 𝓛 (ended Z) (stayed Z) c run (λ κs. (shr_vals, (rawptr_vals, (uint_vals w64, (uint_vals w64, tt))))) (λ κs. ((λ r handed s. s.0), (rawptr_Tells, (uint_Tells w64, (uint_Tells w64, tt)))))
    (λ κs qs bounds a τ are. walk Z 𝓛 𝓜.mem 𝓡.returns 𝓣 (met.deallocate d') κs.0 κs.1.0 qs.0 qs.1.0 bounds.0 a.0 a.1.1.0 a.1.1.1.0 τ are.1.1.0.1 are.1.1.1.0.1 a.1.0)))
