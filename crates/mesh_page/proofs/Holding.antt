-- What `Held` owns while a desk is kept is the desk in a block of its heap, with the right to give it back. These are the steps that its
-- walks share.
use Rattle.std.proofs.Common.{◌≡◌, ℕ, List, [], ◌∷◌, refl, sym, ap, ◌∙◌}
use seplogic.Ra.Ura.{Ura}
use base.Fraction.{full_share}
use base.Logic.{never, fst∗}
use denote.Memory.{part_at, lone}
use denote.RawPtr.{Ptr, block_ptr, null_ptr, in_a_block}
use denote.Shadow.{pure_l}
use mir.Raw.{raw as bare}
use mir.Syntax.{Ty}
use mir.Val.{Val}
use types.Kit.{Goal, Item, Seq, Step, step, ‵, ◌$◌, fsplit, fjoin, rewrite, use0}
use types.Logic.{Logic, sem}
use Rattle.lent_heap.specs.Blocks.{block_token}
use Rattle.lent_heap.proofs.Values.{one_val, one_own, one_told, one_made}
use Rattle.std.specs.Box.Ownership.{box_owns}
use Rattle.std.specs.Prelude.{IsSome, Some}
use Rattle.dcel_exports.proofs.Steps.{there}
use Rattle.mesh_page.specs.Held.{State, desk_row}
use Rattle.mesh_page.specs.Lending.{with_desk}
use Rattle.mesh_page.specs.contracts.held.Held.{the_row as H}
use Rattle.mesh_page.specs.declared.held.Held.{Held}

-- the type of a desk in memory
abbrev pub desk_type : Ty
desk_type = bare (lone desk_row.mir)

module _ {K : Type 0} {M : Type 1} {𝓤 : Ura M} {𝓛 : Logic 𝓤} {Γ : List (Item 𝓤)} {G : Goal 𝓤 𝓛.H} where
  -- A box of a desk is the desk in memory, and the right to give its block back.
  pub opens_box : K → (p : Ptr) (desk : State)
      → ((b o : ℕ) → p ≡ block_ptr b o → Seq K 𝓛 (‵ (part_at desk_row full_share desk b o) ∷ ‵ (block_token desk_type (block_ptr b o)) ∷ Γ) G)
      → Seq K 𝓛 (‵ (box_owns block_token desk_row p desk) ∷ Γ) G
  opens_box t p desk rest =
      in_a_block t p (λ (u : Ptr). box_owns block_token desk_row u desk) (fst∗ 𝓤 (never 𝓤) (sem 𝓛 (block_token desk_type null_ptr))) (λ b o at. fsplit t $ rest b o at)

  -- A holder of a desk is opened, and its machine value is known to be the pointer.
  pub opens_held : K → (held : Held) (vs : List Val) → IsSome held.kept
      → ((desk : State) → held.kept ≡ Some desk → (b o : ℕ) → held.at ≡ block_ptr b o → vs ≡ one_val (block_ptr b o) ∷ []
      → Seq K 𝓛 (‵ (part_at desk_row full_share desk b o) ∷ ‵ (block_token desk_type (block_ptr b o)) ∷ Γ) G)
      → Seq K 𝓛 (‵ (H.own_val held vs) ∷ Γ) G
  opens_held t held vs is rest =
      let desk = (there held.kept is).0 in
      let kept = (there held.kept is).1 in
      rewrite t 0 (λ (h : Held). ‵ (H.own_val h vs)) (ap (λ k. record held { kept = k }) kept) refl $
      fsplit t $ pure_l t (one_own held.at vs) (λ s.
      opens_box t held.at desk (λ b o at. rest desk kept b o at (one_told held.at vs s ∙ ap (λ (p : Ptr). one_val p ∷ []) at)))

  -- and it is closed again over a desk in that place
  pub closes_held : K → (held : Held) (desk : State) (b o : ℕ) → held.at ≡ block_ptr b o
      → Step K 𝓛 (‵ (H.own_val (with_desk held desk) (one_val (block_ptr b o) ∷ [])) ∷ Γ) G
      (‵ (part_at desk_row full_share desk b o) ∷ ‵ (block_token desk_type (block_ptr b o)) ∷ Γ) G
  closes_held t held desk b o at = step (λ s.
      fjoin t $ rewrite t 0 (λ (p : Ptr). ‵ (box_owns block_token desk_row p desk)) (sym at) refl $
      use0 𝓛 (‵ (one_own held.at (one_val held.at ∷ []))) (one_made 𝓛 held.at) $
      rewrite t 0 (λ (p : Ptr). ‵ (one_own held.at (one_val p ∷ []))) at refl $ fjoin t $ s)
