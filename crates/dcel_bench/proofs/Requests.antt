-- A `&` to an allocator that refuses: what is seen through it, and `Plan.refuses` at a call.
use Rattle.std.proofs.Common.{◌≡◌, ℕ, ◌+◌, Bool, List, [], ◌∷◌, refl, ap, Bor}
use seplogic.Ra.Ura.{Ura}
use mir.Val.{Val, vbool, vptr}
use base.Logic.{SProp, ent, sep, id⊢}
use base.Fml.{Fml, Lft, Share, ftrue, fsep, flft}
use prog.Memory.{Memory, size, align, up}
use prog.Routine.{Routine}
use types.Logic.{Logic, sem}
use contract.Monad.{Fun}
use types.Kit.{Item, ‵, raw, ◌⊛◌, some, given, later, mean, ◌$◌, ◌∵◌, !, qed, move, keep, group, use1, split, join, pick, fsplit, fjoin, feq_i, feq_l, check, show, await, updating, now as at_once, done}
use denote.Memory.{hidden_shr}
use denote.Builtin.{bool, RefOf}
use denote.Opens.{unhide}
use denote.Param.{param}
use denote.Ref.{shr_vals}
use denote.Signature.{Slot, plain, type_at}
use denote.Steps.{nothing, only}
use denote.Triple.Statement.{Contract}
use denote.Triple.Spec.{triple_of}
use Rattle.std.proofs.alloc.Calls.{Al, α, seen}
use Rattle.dcel_bench.specs.declared.refusing.Plan.{Plan}
use Rattle.dcel_bench.specs.contracts.refusing.Plan as plan
use Rattle.dcel_bench.specs.contracts.refusing.Plan.refuses as refuses
use Rattle.dcel_bench.specs.contracts.refusing.Refusing as refusing

-- the `&` to a plan that lies there
abbrev seen_plan : Lft → ℕ × ℕ → Plan → Fml
seen_plan κ at p = hidden_shr plan.the_row κ p at.0 at.1

module _ {M : Type 1} {𝓤 : Ura M} (𝓛 : Logic 𝓤) (at_mem : Memory → SProp 𝓤) (run : Routine → Fun 𝓤) where
  abbrev pub Refuses : Contract 𝓤
  Refuses = triple_of 𝓛 refuses.signature (refuses.spec 𝓛 at_mem run)

  module _ (κ : Lft) (q : Share) (at : ℕ × ℕ) (p : Plan) where
    open 𝓛 use {H}

    abbrev pub at_refuses : Refuses.Ghost
    at_refuses = (((κ, tt), (q, tt), tt, (record { ref_ptr = at; now = p }, tt), (vptr at.0 at.1 ∷ [], tt)), tt)

    pub Refuses-goes : ent 𝓤 (sep 𝓤 (sem 𝓛 (seen_plan κ at p)) (𝓛.A.lft κ q)) (Refuses.pre at_refuses)
    Refuses-goes =
        qed 𝓛 (‵ (seen_plan κ at p) ∷ ‵ (flft κ q) ∷ []) ∵ feq_i ! (List Val) (vptr at.0 at.1 ∷ []) (vptr at.0 at.1 ∷ []) refl $ fjoin ! $
        nothing ! $ move ! (1 ∷ []) $ fjoin ! $ nothing ! $ move ! (2 ∷ []) $ join ! $ join ! $ nothing ! $ move ! (1 ∷ []) $ done !

    -- it answered a `bool`, and the token is back
    abbrev pub Told : Val → Item 𝓤
    Told v = some (λ (y : Bool). given (v ≡ vbool y) (‵ (flft κ q)))

    pub Refuses-gives : (v : Val) → ent 𝓤 (Refuses.post at_refuses v) (H.⇛ (mean 𝓛 (Told v)))
    Refuses-gives v =
        qed 𝓛 (raw (Refuses.post at_refuses v) ∷ []) ∵ updating ! $
        use1 𝓛 (later (some (λ (y : Bool). ((‵ (flft κ q) ⊛ ‵ ftrue) ⊛ ‵ (bool.own_val y (v ∷ []))) ⊛ some (λ (ws : Unit {0} × Unit {0}). ‵ (fsep ftrue ftrue) ⊛ ‵ ftrue)))) (id⊢ 𝓤 _) $ await ! tt $ pick ! (λ y.
        split ! $ split ! $ move ! (1 ∷ []) $ feq_l ! (λ e. split ! $ at_once ! $
        show ! (λ (y : Bool). mean 𝓛 (given (v ≡ vbool y) (‵ (flft κ q)))) y $ check ! (ap only e) $ keep ! (0 ∷ []) $ done !))

module _ (Z : Al) where
  -- the parameter `&self`
  abbrev pub self : Slot 2
  self = RefOf (0 ∷ []) tt (plain (λ _. refusing.the_row (param 0 Z.row))) (λ _. tt)

  abbrev Self : Type 0
  Self = Bor (refusing.the_row Z.row).Denot

  -- where its fields lie
  abbrev pub inner_at : Self → ℕ × ℕ
  inner_at r = (r.ref_ptr.0, r.ref_ptr.1 + up (align (α Z)) 0)

  abbrev pub plan_at : Self → ℕ × ℕ
  plan_at r = (r.ref_ptr.0, r.ref_ptr.1 + up 8 (up (align (α Z)) 0 + size (α Z)))

  -- what a method is entered with: the tokens of `&self` and of the impl, `&self`, and its other arguments
  module _ {M : Type 1} {𝓤 : Ura M} (𝓛 : Logic 𝓤) (κ ρ : Lft) (q s : Share) (r : Self) (others : Fml) where
    abbrev pub Entered : Item 𝓤
    Entered = (‵ (flft κ q) ⊛ ‵ (flft ρ s) ⊛ ‵ ftrue) ⊛ ‵ (fsep ((type_at self (κ, (ρ, tt))).own_val r (shr_vals r)) others)

    -- and that, with its fields seen
    abbrev pub Seen : Item 𝓤
    Seen = ‵ (seen_plan κ (plan_at r) r.now.plan) ⊛ ‵ (flft κ q) ⊛ ‵ (seen Z κ (inner_at r) r.now.inner) ⊛ ‵ (flft ρ s) ⊛ ‵ ftrue

    pub sees : ent 𝓤 (mean 𝓛 Entered) (mean 𝓛 Seen)
    sees =
        qed 𝓛 (Entered ∷ []) ∵ split ! $ split ! $ move ! (2 ∷ []) $ fsplit ! $ fsplit ! $ move ! (1 ∷ []) $ unhide ! $ fsplit ! $ fsplit ! $
        use1 𝓛 (‵ (seen Z κ (inner_at r) r.now.inner)) (id⊢ 𝓤 _) $ move ! (1 ∷ []) $ fsplit ! $
        keep ! (0 ∷ 6 ∷ 2 ∷ 7 ∷ []) $ group ! 4 $ done !
