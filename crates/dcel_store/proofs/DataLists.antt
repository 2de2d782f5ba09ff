-- The lists that the records of vertices and faces stand for, when a datum is read or written: each lemma tells the datum that is read,
-- and the lists once another one is written, where they were l.
use Rattle.std.proofs.Common.{◌≡◌, ℕ, ◌<◌, List, length, get_or, set, Some, refl, ap, ◌∙◌}
use Rattle.std.specs.Prelude.{map, slice_get}
use Rattle.std.specs.Option.{option_map}
use Rattle.std.specs.Vec.{with_item}
use Rattle.std.proofs.lemmas.List.{length-map, map-set}
use Rattle.std.proofs.lemmas.Option.{slice_get-map, slice_get_read}
use Rattle.std.proofs.Math.Seq.{map-set_same}
use Rattle.dcel_store.specs.declared.FaceEntry.{FaceEntry}
use Rattle.dcel_store.specs.declared.Store.TheInside.{Inside}
use Rattle.dcel_store.specs.declared.VertexEntry.{VertexEntry}
use Rattle.dcel_store.specs.Data.{with_vertex_datum, with_face_datum}
use Rattle.dcel_store.specs.Lists.{Lists}
use Rattle.dcel_store.specs.Vectors.{lists_of}

-- the record x at i, of which an item is shown
shown_item : {X B : Type 0} (shown : X → B) (xs : List X) (i : ℕ) (x : X) → x ≡ get_or xs i x → i < length (map shown xs)
    → slice_get (map shown xs) i ≡ Some (shown x)
shown_item shown xs i x read within =
    slice_get-map shown xs i ∙ ap (option_map shown) (slice_get_read xs (length xs) i x refl (rw length-map at within) read)

-- y in the place of x, where the item is the same
kept_item : {X B : Type 0} (shown : X → B) (xs : List X) (i : ℕ) (x y : X) → x ≡ get_or xs i x → shown y ≡ shown x
    → map shown (set xs i y) ≡ map shown xs
kept_item shown xs i x y read same = map-set_same shown xs i y x (same ∙ ap shown read)

module _ {V DE UE F A : Type 0} (store : Inside V DE UE F A) where
  pub vertex_datum_of : {l : Lists V DE UE F} → lists_of store ≡ l → (v i : ℕ) → i ≡ v
      → (x : VertexEntry V) → x ≡ get_or store.vertices.items i x → v < length l.vertex_data
      → (slice_get l.vertex_data v ≡ Some x.«data»)
      × ((datum : V) → lists_of (record store { vertices = with_item store.vertices i (record x { «data» = datum }) }) ≡ with_vertex_datum l v datum)
  vertex_datum_of is v i i_is x read within = rw (← is, ← i_is) (
    shown_item (λ e. e.«data») store.vertices.items i x read (rw (← is, ← i_is) at within),
    λ datum. rw (kept_item (λ e. e.out_edge) store.vertices.items i x (record x { «data» = datum }) read refl) (simp map-set),
  )

  pub face_datum_of : {l : Lists V DE UE F} → lists_of store ≡ l → (f i : ℕ) → i ≡ f
      → (x : FaceEntry F) → x ≡ get_or store.faces.items i x → f < length l.face_data
      → (slice_get l.face_data f ≡ Some x.«data»)
      × ((datum : F) → lists_of (record store { faces = with_item store.faces i (record x { «data» = datum }) }) ≡ with_face_datum l f datum)
  face_datum_of is f i i_is x read within = rw (← is, ← i_is) (
    shown_item (λ e. e.«data») store.faces.items i x read (rw (← is, ← i_is) at within),
    λ datum. rw (kept_item (λ e. e.adjacent_edge) store.faces.items i x (record x { «data» = datum }) read refl) (simp map-set),
  )
