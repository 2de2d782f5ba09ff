-- The machine value of `Memory`: what is owned tells it, and is made of nothing; and what a list of slots begins with.
use Rattle.std.proofs.Common.{◌≡◌, ℕ, zero, suc, ◌^◌, ◌<◌, List, [], ◌∷◌, ◌++◌, refl, ◌∙◌, lit<, w64}
use seplogic.Ra.Ura.{Ura}
use mir.Syntax.{Body, ty_ptr}
use mir.Val.{Val, vint, vstruct, vcons, vnil, of_list}
use base.Logic.{ent, emp}
use base.Fml.{Fml}
use prog.Wp.{Env, Calls, Loops, Wp, after_seq}
use types.Logic.{Logic, sem}
use types.Kit.{Post, any_q, post}
use denote.RattleType.{RattleType}
use denote.Builtin.{usize, unit}
use denote.RawPtr.{Ptr, RawPtr, block_ptr, null_ptr, ptr_val}
use denote.Shadow.{shadow, makes_shadow}
use denote.Signature.{Slot, plain}
use denote.Struct.Struct.{Struct}
use Rattle.core.proofs.cell.Inside.{Good}

-- a struct by its fields alone: what it owns does not read its name
abbrev pub plainly : List RattleType → RattleType
plainly Rs = Struct (record { name = []; args = []; types = []; fields = Rs })

pub ptr_typed : (p : Ptr) → Good ty_ptr (ptr_val p)
ptr_typed (block_ptr b o) = (tt, tt)
ptr_typed null_ptr = (tt, record { fits = lit< tt })

abbrev pub sized_val : Ptr → ℕ → Val
sized_val p0 n1 = vstruct (vcons (ptr_val p0) (vcons (vint w64 n1) vnil))

abbrev pub sized_own : Ptr → ℕ → List Val → Fml
sized_own p0 n1 = (plainly (RawPtr ∷ usize ∷ [])).own_val (p0, (n1, tt))

pub sized_told : (p0 : Ptr) (n1 : ℕ) (vs : List Val) → shadow (sized_own p0 n1 vs) → (vs ≡ sized_val p0 n1 ∷ []) × (n1 < 2 ^ 64)
sized_told p0 n1 vs s = (s.1.0 ∙ (λ i. vstruct (of_list (s.1.1.0 i ++ (s.1.1.1.0.0 i ++ []))) ∷ []), s.1.1.1.0.1)

pub sized_made : {M : Type 1} {𝓤 : Ura M} (𝓛 : Logic 𝓤) (p0 : Ptr) (n1 : ℕ) → (n1 < 2 ^ 64) → ent 𝓤 (emp 𝓤) (sem 𝓛 (sized_own p0 n1 (sized_val p0 n1 ∷ [])))
sized_made 𝓛 p0 n1 f = makes_shadow 𝓛 (sized_own p0 n1 (sized_val p0 n1 ∷ [])) (λ _. (tt, (tt, ((tt, tt), tt)))) ((ptr_val p0 ∷ [], (vint w64 n1 ∷ [], tt)), (refl, (refl, ((refl, f), tt))))

abbrev pub one_val : Ptr → Val
one_val p0 = vstruct (vcons (ptr_val p0) vnil)

abbrev pub one_own : Ptr → List Val → Fml
one_own p0 = (plainly (RawPtr ∷ [])).own_val (p0, tt)

pub one_told : (p0 : Ptr) (vs : List Val) → shadow (one_own p0 vs) → vs ≡ one_val p0 ∷ []
one_told p0 vs s = s.1.0 ∙ (λ i. vstruct (of_list (s.1.1.0 i ++ [])) ∷ [])

pub one_made : {M : Type 1} {𝓤 : Ura M} (𝓛 : Logic 𝓤) (p0 : Ptr) → ent 𝓤 (emp 𝓤) (sem 𝓛 (one_own p0 (one_val p0 ∷ [])))
one_made 𝓛 p0 = makes_shadow 𝓛 (one_own p0 (one_val p0 ∷ [])) (λ _. (tt, (tt, tt))) ((ptr_val p0 ∷ [], tt), (refl, (refl, tt)))

abbrev pub slot_at : {n : ℕ} → ℕ → List (Slot n) → Slot n
slot_at k [] = plain (λ _. unit)
slot_at zero (s ∷ ss) = s
slot_at (suc k) (s ∷ ss) = slot_at k ss

module _ {M : Type 1} {𝓤 : Ura M} (𝓛 : Logic 𝓤) where
  open 𝓛 use {H}

  abbrev pub then_runs : Calls 𝓤 H → Loops 𝓤 H → Env 𝓤 H → Body → Post 𝓤 H → Post 𝓤 H
  then_runs C Λ E b q = any_q (after_seq 𝓤 H (Wp 𝓤 H C Λ E b (post 𝓤 H q)) (post 𝓤 H q))
