-- A half edge of a mesh in lists that hold the mesh.
use Rattle.std.proofs.Common.{◌≡◌, ◌↔◌, ◌<◌, ℕ, length, slice_index, sym, ap, ◌∙◌}
use Rattle.dcel_fixed.specs.HalfEdges.{rev}
use Rattle.dcel_store.specs.Lists.{Lists}
use Rattle.dcel_maps.specs.Conditions.{IsTriangle}
use Rattle.dcel_maps.specs.Removals.{Removal}
use Rattle.dcel_maps.specs.Shapes.{IsLive, Mesh, face_of, map_of, next_of, origin_of, prev_of}
use Rattle.dcel_maps.specs.theory.Sound.{Sound}
use Rattle.dcel_maps.proofs.edits.Linking.{triangle_back-iff}
use Rattle.dcel_maps.proofs.maps.Soundness.{rev_live}
use Rattle.dcel_maps.proofs.shapes.Maps.{map-sound}
use Rattle.dcel_edits.specs.SplitTriangles.{IsHeld}
use Rattle.dcel_edits.proofs.stored.Changes.{held_face, held_half, held_lists, held_mesh, held_vertex}
use Rattle.dcel_edits.proofs.stored.Holding.{Holds}

module _ {V DE UE F : Type 0} where
  -- the half edge h is stored as the mesh has it, and the elements that it leads to are stored too
  pub record HoldsHalf (s : Lists V DE UE F) (m : Mesh V DE UE F) (h : ℕ) : Type 0 where
    pub within : IsHeld s h
    pub origin_in : slice_index s.origin h < length s.vertex_anchors
    pub next : slice_index s.next h ≡ next_of m.shape h
    pub prev : slice_index s.prev h ≡ prev_of m.shape h
    pub origin : slice_index s.origin h ≡ origin_of m.shape h
    pub face : slice_index s.face h ≡ face_of m.shape h
    pub next_live : IsLive m.shape (next_of m.shape h)
    pub next_origin : slice_index s.origin (next_of m.shape h) ≡ origin_of m.shape (next_of m.shape h)
    pub prev_origin : slice_index s.origin (prev_of m.shape h) ≡ origin_of m.shape (prev_of m.shape h)

  pub holds_half : {s : Lists V DE UE F} {r : Removal} {m : Mesh V DE UE F} → Holds s r m → (h : ℕ) → IsLive m.shape h → HoldsHalf s m h
  holds_half {s = s} {r = r} {m = m} held h live =
      let mesh = held_mesh s r m held in
      let lists = held_lists s r m held in
      let sound : Sound (map_of m.shape) = map-sound mesh.sound in
      let after = next_of m.shape h in
      let before = prev_of m.shape h in
      let after_live : IsLive m.shape after = sound.live_next h live in
      let before_live : IsLive m.shape before = sound.live_prev h live in
      let twin_live : IsLive m.shape (rev h) = rev_live (map_of m.shape) h live in
      record {
        within = record {
          edge_in = held_half s r m held h live;
          next_in = rw (lists.next h live) (held_half s r m held after after_live);
          prev_in = rw (lists.prev h live) (held_half s r m held before before_live);
          face_in = rw (lists.face h live) (held_face s r m held (face_of m.shape h) (sound.below_faces h live));
          end_in =
              rw (lists.next h live, lists.origin after after_live)
              (held_vertex s r m held (origin_of m.shape after) (mesh.sound.starts_live after after_live));
          twin_in = held_half s r m held (rev h) twin_live;
          next_starts = rw (lists.next h live, lists.origin after after_live, lists.origin (rev h) twin_live) (sound.origin-next h live);
        };
        origin_in = rw (lists.origin h live) (held_vertex s r m held (origin_of m.shape h) (mesh.sound.starts_live h live));
        next = lists.next h live;
        prev = lists.prev h live;
        origin = lists.origin h live;
        face = lists.face h live;
        next_live = after_live;
        next_origin = lists.origin after after_live;
        prev_origin = lists.origin before before_live;
      }

  -- its face is a triangle just where two steps back lead to the next one
  pub on_triangle-iff : {s : Lists V DE UE F} {r : Removal} {m : Mesh V DE UE F} → Holds s r m → (h : ℕ) → IsLive m.shape h
      → (slice_index s.prev (slice_index s.prev h) ≡ slice_index s.next h) ↔ IsTriangle m.shape (face_of m.shape h)
  on_triangle-iff {s = s} {r = r} {m = m} held h live =
      let mesh = held_mesh s r m held in
      let lists = held_lists s r m held in
      let before_live : IsLive m.shape (prev_of m.shape h) = (map-sound mesh.sound).live_prev h live in
      rw (lists.next h live, lists.prev h live, lists.prev (prev_of m.shape h) before_live) (triangle_back-iff m mesh h live)

  -- and then the corner opposite it is where the next one ends
  pub opposite_start : {s : Lists V DE UE F} {r : Removal} {m : Mesh V DE UE F} → Holds s r m → (h : ℕ) → IsLive m.shape h
      → IsTriangle m.shape (face_of m.shape h) → slice_index s.origin (rev (slice_index s.next h)) ≡ origin_of m.shape (prev_of m.shape h)
  opposite_start {s = s} {r = r} {m = m} held h live triangle =
      let half = holds_half held h live in
      let after = holds_half held (next_of m.shape h) half.next_live in
      let before_live : IsLive m.shape (prev_of m.shape h) = (map-sound (held_mesh s r m held).sound).live_prev h live in
      let before = holds_half held (prev_of m.shape h) before_live in
      let turned : prev_of m.shape (prev_of m.shape h) ≡ next_of m.shape h = rw (half.prev, half.next, before.prev) at (on_triangle-iff held h live).1 triangle in
      let third : next_of m.shape (next_of m.shape h) ≡ prev_of m.shape h =
      ap (next_of m.shape) (sym turned) ∙ (map-sound (held_mesh s r m held).sound).next-prev (prev_of m.shape h) before_live in
      rw half.next (sym after.within.next_starts ∙ rw (after.next, third) half.prev_origin)
