-- Lists that link live half edges as those of a mesh do, under other numbers, hold the mesh with these numbers.
use Rattle.std.proofs.Common.{◌≡◌, ℕ, ◌/◌, slice_index, sym, ap, ◌∙◌}
use Rattle.dcel_store.specs.Lists.{Lists, LengthsAgree}
use Rattle.dcel_edits.specs.Stored.{IsStored, mesh_of, stored_map}
use Rattle.dcel_maps.specs.Maps.{Live}
use Rattle.dcel_maps.specs.Removals.{Removal, gives_up_edge, shown}
use Rattle.dcel_maps.specs.Shapes.{IsLive, IsMesh, Mesh, face_of, next_of, origin_of, prev_of}
use Rattle.dcel_edits.proofs.Public.{mesh-is-mesh}
use Rattle.dcel_edits.proofs.Reading.{face_of-is, next_of-is, prev_of-is}
use Rattle.dcel_maps.proofs.Liveness.{is_live-parts}
use Rattle.dcel_maps.proofs.Shown.{slice_index-shown_live}
use Rattle.dcel_edits.proofs.stored.Held.{HasData, lists_hold}
use Rattle.dcel_edits.proofs.stored.Holding.{Holds}
use Rattle.dcel_maps.proofs.shapes.Renames.{IsRenamed, renamed-face, renamed-next, renamed-prev}

-- the lists t link as s does, where half edges have the numbers `half` and faces the numbers `side`, and show the origins of n
pub record IsRenumbered {V DE UE F : Type 0} (s t : Lists V DE UE F) (r : Removal) (n : Mesh V DE UE F) (half side : ℕ → ℕ) : Type 0 where
  pub lengths : LengthsAgree t
  pub next : (h : ℕ) → Live (stored_map s r) h → slice_index t.next (half h) ≡ half (slice_index s.next h)
  pub prev : (h : ℕ) → Live (stored_map s r) h → slice_index t.prev (half h) ≡ half (slice_index s.prev h)
  pub face : (h : ℕ) → Live (stored_map s r) h → slice_index t.face (half h) ≡ side (slice_index s.face h)
  pub shown_origins : shown (gives_up_edge n.shape.removal) t.origin ≡ n.shape.origins
  pub vertex_anchors : t.vertex_anchors ≡ n.vertex_anchors
  pub face_anchors : t.face_anchors ≡ n.face_anchors
  pub has_data : HasData t n.vertex_data n.directed_data n.undirected_data n.face_data

module _ {V DE UE F : Type 0} (s t : Lists V DE UE F) (r : Removal) (n : Mesh V DE UE F) (f f' o o' w w' : ℕ → ℕ) (stored : IsStored s r)
    (renamed : IsRenamed (mesh_of s r).shape n.shape f f' o o' w w') (left : IsRenumbered s t r n f w) where
  abbrev m : Mesh V DE UE F
  m = mesh_of s r

  mesh : IsMesh m
  mesh = mesh-is-mesh s r stored

  -- links that follow their half edges, where these are named `name` now
  follows : (now was of_m of_n name : ℕ → ℕ) → ((h : ℕ) → IsLive m.shape h → now (f h) ≡ name (was h)) → ((h : ℕ) → IsLive m.shape h → of_m h ≡ was h)
      → ((h : ℕ) → IsLive m.shape h → of_n (f h) ≡ name (of_m h)) → (y : ℕ) → IsLive n.shape y → now y ≡ of_n y
  follows now was of_m of_n name stored_now stored_was names y live =
      let old = renamed.comes y live in
      ap now (sym (renamed.back y live)) ∙ stored_now (f' y) old ∙ ap name (sym (stored_was (f' y) old)) ∙ sym (names (f' y) old)
      ∙ ap of_n (renamed.back y live)

  next : (y : ℕ) → IsLive n.shape y → slice_index t.next y ≡ next_of n.shape y
  next =
      follows (slice_index t.next) (slice_index s.next) (next_of m.shape) (next_of n.shape) f left.next (next_of-is stored)
      (renamed-next m.shape n.shape f f' o o' w w' renamed mesh.sound)

  prev : (y : ℕ) → IsLive n.shape y → slice_index t.prev y ≡ prev_of n.shape y
  prev =
      follows (slice_index t.prev) (slice_index s.prev) (prev_of m.shape) (prev_of n.shape) f left.prev (prev_of-is stored)
      (renamed-prev m.shape n.shape f f' o o' w w' renamed mesh.sound)

  face : (y : ℕ) → IsLive n.shape y → slice_index t.face y ≡ face_of n.shape y
  face =
      follows (slice_index t.face) (slice_index s.face) (face_of m.shape) (face_of n.shape) w left.face (face_of-is stored)
      (renamed-face m.shape n.shape f f' o o' w w' renamed mesh.sound)

  origin : (y : ℕ) → IsLive n.shape y → slice_index t.origin y ≡ origin_of n.shape y
  origin y live =
      let kept = (is_live-parts (gives_up_edge n.shape.removal) n.shape.edges (y / 2) live).1 in
      sym (slice_index-shown_live (gives_up_edge n.shape.removal) t.origin y kept) ∙ ap (λ vs. slice_index vs y) left.shown_origins

  pub renumbered_holds : IsMesh n → Holds t n.shape.removal n
  renumbered_holds is_mesh =
      lists_hold t n is_mesh
      record {
        lengths = left.lengths;
        links = record { next = next; prev = prev; origin = origin; face = face };
        shown_origins = left.shown_origins;
        vertex_anchors = left.vertex_anchors;
        face_anchors = left.face_anchors;
        has_data = left.has_data;
      }
