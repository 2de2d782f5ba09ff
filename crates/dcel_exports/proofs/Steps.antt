-- Steps of the walks through structs that own what is kept, whatever that is.
use Rattle.std.proofs.Common.{◌≡◌, ◌+◌, ℕ, List, ◌∷◌, refl, sym, true≢false}
use Rattle.std.specs.Prelude.{IsSome, None, Option, Some}
use seplogic.Ra.Ura.{Ura}
use base.Fml.{Fml, Share, fat, ftrue, fsep}
use denote.Steps.{nothing}
use mathlib.Core.Option.{some}
use mir.Fields.{get_v, set_v}
use mir.Syntax.{Sym, Ty, Tys, ty_struct}
use mir.Val.{Vals, vstruct}
use prog.Memory.{field_at}
use types.Kit.{Goal, Item, Step, step, ‵, ◌⊛◌, ◌$◌, fjoin, join}
use types.Logic.{Logic}
use types.Part.{Part, sub, whole}

-- what is there
pub there : {T : Type 0} → (o : Option T) → IsSome o → (x : T) × (o ≡ Some x)
there None is = absurd (true≢false (sym is))
there (Some x) is = (x, refl)

module _ {K : Type 0} {M : Type 1} {𝓤 : Ura M} {𝓛 : Logic 𝓤} where
  -- field k of a struct that lies in a cell
  pub field_in : K → {q : Share} {name : Sym} {types : Tys} {b o : ℕ} {fields : Vals} (k : ℕ) {type : Ty} {d : ℕ} → field_at 0 types k ≡ some (type, d)
      → Part K 𝓛 (‵ (fat q (ty_struct name types) b o (vstruct fields))) q type b (o + d) (get_v fields k) (λ u. ‵ (fat q (ty_struct name types) b o (vstruct (set_v fields k u))))
  field_in t k is = sub t k is (whole t)

module _ {K : Type 0} {M : Type 1} {𝓤 : Ura M} {𝓛 : Logic 𝓤} {Γ : List (Item 𝓤)} {G : Goal 𝓤 𝓛.H} where
  -- A function without lifetimes that keeps nothing of its one parameter ends with its result alone.
  pub ends_with : K → (result : Fml) → Step K 𝓛 ((‵ ftrue ⊛ (‵ (fsep ftrue ftrue) ⊛ ‵ result)) ∷ Γ) G (‵ result ∷ Γ) G
  ends_with t result = step (λ s. nothing t $ nothing t $ fjoin t $ join t $ nothing t $ join t $ s)
