-- How an edit links one half edge, and the triangles that it makes.
use Rattle.std.proofs.Common.{◌≡◌, ◌≢◌, ◌↔◌, ℕ, ◌+◌, ◌*◌, ◌<◌, true, [], ◌∷◌, slice_index, sym, ap, ◌∙◌, subst, arith}
use Rattle.dcel_maps.specs.Conditions.{IsTriangle}
use Rattle.dcel_maps.specs.Cyclic.{from_least}
use Rattle.dcel_maps.specs.Maps.{Map}
use Rattle.dcel_maps.specs.theory.Sound.{Sound}
use Rattle.dcel_maps.specs.Removals.{IsWithin}
use Rattle.dcel_maps.specs.Shapes.{IsLive, IsMesh, Mesh, Shape, face_count, face_is_live, face_of, map_of, next_of, prev_of}
use Rattle.dcel_maps.proofs.edits.Changes.{Change, IsFull, map_after}
use Rattle.dcel_maps.proofs.edits.Growing.{after-face, after-new, after-next, after-prev, after-still}
use Rattle.dcel_maps.proofs.edits.Patches.{patched_at-new, puts, Untouched, puts_away}
use Rattle.dcel_maps.proofs.maps.Triangles.{IsLinked, IsTriangleOf, triangle_at, SameLinks}
use Rattle.dcel_maps.proofs.shapes.Maps.{face-live, map-sound}
use Rattle.dcel_maps.proofs.walks.Links.{half-below, links_stand}
use Rattle.dcel_maps.proofs.words.Faces.{word_full}
use Rattle.dcel_maps.proofs.words.Triangles.{is_triangle, is_triangle-back, triangle-word, triangle-word_of, triangle_long}

pub triangle_linked : (M : Map) (f x y z : ℕ) → IsLinked M f z x y → IsLinked M f x y z → IsLinked M f y z x → x ≢ y → y ≢ z → x ≢ z
    → IsTriangleOf M f x y z
triangle_linked M f x y z at_x at_y at_z x≢y y≢z x≢z =
    record { at_x = at_x; at_y = at_y; at_z = at_z; x≢y = x≢y; y≢z = y≢z; x≢z = x≢z }

module _ {V DE UE F : Type 0} (s : Shape) (c : Change V DE UE F) where
  abbrev T : Map
  T = map_after s c

  -- a half edge that was there
  pub linked-old : (f before h after : ℕ) → IsLive s h → puts (next_of s) c.next.set h ≡ after → puts (prev_of s) c.prev.set h ≡ before
      → puts (face_of s) c.face.set h ≡ f → IsLinked T f before h after
  linked-old f before h after live next prev face = record {
    live = after-still s c h live;
    next = after-next s c h live ∙ next;
    prev = after-prev s c h live ∙ prev;
    face = after-face s c h live ∙ face;
  }

  -- one that no link of the change names
  pub stays-linked : (h : ℕ) → IsLive s h → Untouched h c.next.set → Untouched h c.prev.set → Untouched h c.face.set → SameLinks (map_of s) T h
  stays-linked h live next prev face = record {
    next = after-next s c h live ∙ puts_away _ c.next.set h next;
    prev = after-prev s c h live ∙ puts_away _ c.prev.set h prev;
    face = after-face s c h live ∙ puts_away _ c.face.set h face;
  }

  -- a new one
  pub linked-new : IsWithin s.removal s.vertices s.edges (face_count s) → (i f before h after : ℕ) → 2 * s.edges + i ≡ h → i < 2 * c.edges
      → slice_index c.next.more i ≡ after → slice_index c.prev.more i ≡ before → slice_index c.face.more i ≡ f → IsLinked T f before h after
  linked-new within i f before h after is less next prev face = record {
    live = after-new s c within h (omega (arith, is)) (omega (arith, is, less));
    next = ap T.next (sym is) ∙ patched_at-new _ (2 * s.edges) c.next i ∙ next;
    prev = ap T.prev (sym is) ∙ patched_at-new _ (2 * s.edges) c.prev i ∙ prev;
    face = ap T.face (sym is) ∙ patched_at-new _ (2 * s.edges) c.face i ∙ face;
  }

  -- the triangle of an old half edge and two new ones
  pub linked-corner : IsWithin s.removal s.vertices s.edges (face_count s) → (k x y z i j : ℕ) → IsLive s x → IsLinked T k z x y
      → 2 * s.edges + i ≡ y → 2 * s.edges + j ≡ z → i < 2 * c.edges → j < 2 * c.edges → i ≢ j
      → slice_index c.next.more i ≡ z → slice_index c.next.more j ≡ x → slice_index c.prev.more i ≡ x → slice_index c.prev.more j ≡ y
      → slice_index c.face.more i ≡ k → slice_index c.face.more j ≡ k → IsTriangleOf T k x y z
  linked-corner within k x y z i j live at_x y_is z_is i_in j_in differs next_y next_z prev_y prev_z face_y face_z =
      let x_in = half-below s x live in
      triangle_linked T k x y z at_x (linked-new within i k x y z y_is i_in next_y prev_y face_y) (linked-new within j k y z x z_is j_in next_z prev_z face_z)
      (λ is. omega (arith, is, x_in, y_is)) (λ is. differs (omega (arith, is, y_is, z_is))) (λ is. omega (arith, is, x_in, z_is))

-- a half edge on a triangle of a mesh, with the next one and the one before
pub triangle_of : {V DE UE F : Type 0} (m : Mesh V DE UE F) → IsMesh m → (h : ℕ) → IsLive m.shape h → IsTriangle m.shape (face_of m.shape h)
    → IsTriangleOf (map_of m.shape) (face_of m.shape h) h (next_of m.shape h) (prev_of m.shape h)
triangle_of m mesh h live triangle =
    let sound = map-sound mesh.sound in
    triangle_at (map_of m.shape) sound h live
    ((is_triangle (map_of m.shape) m.shape.words (links_stand mesh.sound) h live sound).0 triangle.three)

-- and the other way round
pub triangle_is : {V DE UE F : Type 0} (m : Mesh V DE UE F) → IsMesh m → (f x y z : ℕ) → IsTriangleOf (map_of m.shape) f x y z
    → IsTriangle m.shape (face_of m.shape x)
triangle_is m mesh f x y z a = record {
  live = face-live mesh.sound x a.live_x;
  three = triangle_long (map_of m.shape) (map-sound mesh.sound) f x y z a m.shape.words (links_stand mesh.sound);
}

-- a half edge lies on one just where two steps back lead to the next one
pub triangle_back-iff : {V DE UE F : Type 0} (m : Mesh V DE UE F) → IsMesh m → (h : ℕ) → IsLive m.shape h
    → (prev_of m.shape (prev_of m.shape h) ≡ next_of m.shape h) ↔ IsTriangle m.shape (face_of m.shape h)
triangle_back-iff m mesh h live =
    let three = is_triangle-back (map_of m.shape) m.shape.words (links_stand mesh.sound) h live (map-sound mesh.sound) in
    (λ back. record { live = face-live mesh.sound h live; three = three.1 back }, λ triangle. three.0 triangle.three)

-- the word of a triangle, which isn't empty
module _ (M : Map) (sound : Sound M) (f x y z : ℕ) (triangle : IsTriangleOf M f x y z) where
  pub triangle_full : IsFull M f (from_least (x ∷ y ∷ z ∷ []))
  triangle_full =
      let is = triangle-word_of M sound f x y z triangle in record { word = is; full = word_full M f _ is x triangle.live_x triangle.face_x }

  pub triangle_full-least : x < y → x < z → IsFull M f (x ∷ y ∷ z ∷ [])
  triangle_full-least less_y less_z = record { word = triangle-word M sound f x y z triangle less_y less_z; full = λ is. cc }

module _ {V DE UE F : Type 0} (m : Mesh V DE UE F) (mesh : IsMesh m) where
  pub face_live-at : (f h : ℕ) → IsLive m.shape h → face_of m.shape h ≡ f → face_is_live m.shape f ≡ true
  face_live-at f h live at = subst (λ k. face_is_live m.shape k ≡ true) at (face-live mesh.sound h live)
