-- What `Held` owns while a mesh is kept is what a box of the mesh owns. These are the steps that its walks share.
use Rattle.std.proofs.Common.{◌≡◌, ℕ, List, [], ◌∷◌, refl, sym, ap, subst}
use seplogic.Ra.Ura.{Ura}
use base.Fraction.{full_share}
use base.Logic.{id⊢}
use denote.Memory.{part_at}
use denote.RawPtr.{block_ptr}
use mir.Raw.{raw as bare}
use mir.Syntax.{impl, tnil, dnil}
use mir.Val.{Val, has_ty, WT}
use lib.Dec.{T}
use types.Kit.{Goal, Item, Seq, Step, step, ‵, ◌$◌, rewrite, use1}
use denote.Steps.{only}
use types.Logic.{Logic}
use Rattle.std.proofs.alloc.Calls.{token, Fits}
use Rattle.std.specs.Prelude.{IsSome, Some}
use Rattle.std_alloc.proofs.BoxSteps.Form.{Bx, D, B, τ, handle, word, box_ty, box_typed}
use Rattle.std_alloc.proofs.BoxSteps.Steps.{box_out, box_in}
use Rattle.std_heap.specs.contracts.Global as Heap
use Rattle.std_heap.specs.contracts.GlobalAllocator.TheImpl.{ghosts, dict}
use Rattle.std_heap.proofs.Global.TheLaws as heap
use Rattle.dcel_exports.proofs.Steps.{there}
use Rattle.dcel_c.specs.Held.{State, mesh_row}
use Rattle.dcel_c.specs.Lending.{with_mesh}
use Rattle.dcel_c.specs.contracts.held.Held.{the_row as H}
use Rattle.dcel_c.specs.declared.held.Held.{Held}
use Rattle.dcel_c.proofs.Payload.{mesh_laws}

-- the box of a mesh on the heap, as the steps of `std_alloc` want it
abbrev pub boxes : Bx
boxes = record {
  row = mesh_row;
  laws = mesh_laws;
  al = record {
    row = Heap.the_row;
    laws = heap.the_row_laws;
    g = ghosts;
    d = dict;
    drops = impl [] tnil dnil;
  };
}

-- the box that the holder stands for, with this mesh in it
abbrev pub box_of : Held → State → D boxes
box_of held mesh = record { ptr = held.at; alloc = held.alloc; value = mesh }

module _ {K : Type 0} {M : Type 1} {𝓤 : Ura M} {𝓛 : Logic 𝓤} {Γ : List (Item 𝓤)} {G : Goal 𝓤 𝓛.H} where
  -- A holder of a mesh is opened. The mesh in memory, the right to free it and the handle take its place, and its machine
  -- value is known to be the two words.
  pub opens_held : K → (held : Held) (vs : List Val) → IsSome held.kept
      → ((mesh : State) → held.kept ≡ Some mesh → (b o : ℕ) (hv : Val) → held.at ≡ block_ptr b o → vs ≡ word boxes hv b o ∷ [] → Fits boxes.al hv
      → Seq K 𝓛 (‵ (part_at mesh_row full_share mesh b o) ∷ ‵ (token boxes.al held.alloc (bare (τ boxes)) (block_ptr b o)) ∷ ‵ (handle boxes held.alloc hv) ∷ Γ) G)
      → Seq K 𝓛 (‵ (H.own_val held vs) ∷ Γ) G
  opens_held t held vs is rest =
      let mesh = (there held.kept is).0 in
      let kept = (there held.kept is).1 in
      rewrite t 0 (λ (h : Held). ‵ (H.own_val h vs)) (ap (λ k. record held { kept = k }) kept) refl $
      use1 𝓛 (‵ ((B boxes).own_val (box_of held mesh) vs)) (id⊢ 𝓤 _) $
      box_out boxes t (box_of held mesh) vs (rest mesh kept)

  -- and it is closed again over a mesh in that place
  pub closes_held : K → {hv : Val} (held : Held) (mesh : State) (b o : ℕ) → held.at ≡ block_ptr b o
      → Step K 𝓛 (‵ (H.own_val (with_mesh held mesh) (word boxes hv b o ∷ [])) ∷ Γ) G
      (‵ (part_at mesh_row full_share mesh b o) ∷ ‵ (token boxes.al held.alloc (bare (τ boxes)) (block_ptr b o)) ∷ ‵ (handle boxes held.alloc hv) ∷ Γ) G
  closes_held t {hv} held mesh b o at = step (λ s.
      box_in boxes t (box_of held mesh) b o mesh at refl $
      use1 𝓛 (‵ (H.own_val (with_mesh held mesh) (word boxes hv b o ∷ []))) (id⊢ 𝓤 _) $ s)

  -- What a call returned as a box is a word of its type.
  pub knows_word : K → (box : D boxes) (v : Val) → (T (has_ty (box_ty boxes) v) × WT v → Seq K 𝓛 (‵ ((B boxes).own_val box (v ∷ [])) ∷ Γ) G)
      → Seq K 𝓛 (‵ ((B boxes).own_val box (v ∷ [])) ∷ Γ) G
  knows_word t box v rest = box_out boxes t box (v ∷ []) (λ b o hv at is fits.
      box_in boxes t box b o box.value at refl $
      rewrite t 0 (λ (us : List Val). ‵ ((B boxes).own_val box us)) (sym is) refl $
      rest (subst (λ u. T (has_ty (box_ty boxes) u) × WT u) (sym (ap only is)) (box_typed boxes hv b o fits)))
