-- Which faces have words of three half edges.
use Rattle.std.proofs.Common.{◌≡◌, ◌↔◌, ℕ, true, length, Some, None}
use Rattle.std.specs.Prelude.{slice_index, slice_index_or}
use Rattle.dcel_store.specs.Lists.{Lists}
use Rattle.dcel_maps.specs.Conditions.{IsTriangle}
use Rattle.dcel_maps.specs.Removals.{Removal}
use Rattle.dcel_maps.specs.Shapes.{IsLive, face_is_live, face_of}
use Rattle.dcel_edits.specs.Stored.{IsStored, mesh_of, stored_map, stored_words}
use Rattle.dcel_maps.specs.Words.{word_of}
use Rattle.dcel_edits.proofs.Reading.{face_anchor-lies, face_of-is}
use Rattle.dcel_maps.proofs.words.Triangles.{is_triangle}

module _ {V DE UE F : Type 0} {s : Lists V DE UE F} {r : Removal} (stored : IsStored s r) where
  -- a half edge lies on a word of three just where two steps lead to the one before
  pub on_triangle-iff : (h : ℕ) → IsLive (mesh_of s r).shape h
      → (slice_index s.next (slice_index s.next h) ≡ slice_index s.prev h) ↔ (length (word_of (stored_words s) (face_of (mesh_of s r).shape h)) ≡ 3)
  on_triangle-iff h live =
      let both = is_triangle (stored_map s r) (stored_words s) stored.stands h live stored.sound in
      rw (face_of-is stored h live) (both.1, both.0)

  -- a live face with an anchor is a triangle just where its anchor lies on a word of three
  pub anchored_triangle-iff : (f h : ℕ) → face_is_live (mesh_of s r).shape f ≡ true → slice_index_or s.face_anchors f None ≡ Some h
      → (length (word_of (stored_words s) (face_of (mesh_of s r).shape h)) ≡ 3) ↔ IsTriangle (mesh_of s r).shape f
  anchored_triangle-iff f h live some =
      let lies = face_anchor-lies stored f h some in
      rw lies.1 (λ three. record { live = live; three = three }, λ triangle. triangle.three)
