-- A flip of an edge whose circle test is positive keeps a mesh in the plane.
use Rattle.std.proofs.Common.{◌≡◌, ◌≢◌, ℕ, ◌+◌, ◌*◌, ◌/◌, ◌<◌, List, [], ◌∷◌, ◌++◌, length, slice_set, append-nil, refl, sym, ap, ◌∙◌, pos, ◌<ℤ◌, arith}
use Rattle.dcel_fixed.proofs.Halves.{rev-double}
use Rattle.dcel_predicates.specs.declared.point.Point.{Point}
use Rattle.dcel_predicates.specs.Determinants.{incircle_of}
use Rattle.dcel_predicates.proofs.Convex.{AreFlipped, flipped}
use Rattle.dcel_predicates.proofs.Points.{incircle-third}
use Rattle.dcel_predicates.proofs.Signs.{ordered}
use Rattle.dcel_maps.specs.Conditions.{CanFlip}
use Rattle.dcel_maps.specs.Cyclic.{from_least}
use Rattle.dcel_maps.specs.edits.Flip.{edge_flipped}
use Rattle.dcel_maps.specs.Shapes.{IsLive, IsMesh, Mesh, Shape, face_of, map_of, origin_of, prev_of}
use Rattle.dcel_maps.specs.Words.{count_of, word_of}
use Rattle.dcel_maps.proofs.edits.Around.{at_edge, known}
use Rattle.dcel_maps.proofs.edits.Flips.{at_flip, flipped_mesh}
use Rattle.dcel_maps.proofs.edits.Patches.{Patch, replacing}
use Rattle.dcel_maps.proofs.maps.Halves.{turn_back}
use Rattle.dcel_maps.proofs.maps.Triangles.{IsApart, triangles_apart}
use Rattle.dcel_maps.proofs.walks.Links.{half-below}
use Rattle.dcel_maps.proofs.words.EachSet.{first-two_set, other-two_set, second-two_set}
use Rattle.dcel_maps.proofs.words.Mapped.{count-at}
use Rattle.dcel_maps.proofs.words.Reading.{face_in_word, live_in}
use Rattle.dcel_plane.specs.Edges.{edges_of_flip}
use Rattle.dcel_plane.specs.Plane.{IsCircled, IsInner, ListsCircled, TrianglesTurnLeft, TurnsLeft, origin_point}
use Rattle.dcel_plane.proofs.edits.Corners.{LeftOf, corners_are, left-from_least, left_of_triangle, of_least}
use Rattle.dcel_plane.proofs.edits.Splits.{listed_as}
use Rattle.dcel_plane.proofs.edits.Written.{IsWritten, origin_away, written_lists, written_plane}

module _ {V DE UE F : Type 0} (m : Mesh V DE UE F) (mesh : IsMesh m) (u : ℕ) (can : CanFlip m.shape u) where
  abbrev s : Shape
  s = m.shape

  abbrev n : Shape
  n = (edge_flipped m u).shape

  open (at_edge s u) use {e, t, f, g, ep, en, tp, tn}
  open (known m mesh) use {sound, stands}
  open (at_flip m u mesh can) use {was, facing, differ}

  apart : IsApart e en ep t tn tp
  apart = triangles_apart (map_of s) f e en ep g t tn tp was facing differ

  -- where each half edge of the two starts
  pub from_end : origin_of s en ≡ origin_of s t
  from_end = sound.origin-next e was.live_x ∙ ap (origin_of s) (rev-double u)

  pub from_start : origin_of s tn ≡ origin_of s e
  from_start = sound.origin-next t facing.live_x ∙ ap (origin_of s) (turn_back e t (rev-double u))

  abbrev pub words : Patch (List ℕ)
  words = replacing ((f, from_least (e ∷ tp ∷ en ∷ [])) ∷ (g, from_least (t ∷ ep ∷ tn ∷ [])) ∷ [])

  abbrev pub origins : Patch ℕ
  origins = replacing ((e, origin_of s ep) ∷ (t, origin_of s tp) ∷ [])

  pub flip_written : IsWritten s n words origins
  flip_written = record {
    words_are = sym (append-nil (slice_set (slice_set s.words f (from_least (e ∷ tp ∷ en ∷ []))) g (from_least (t ∷ ep ∷ tn ∷ []))));
    origins_are = sym (append-nil (slice_set (slice_set s.origins e (origin_of s ep)) t (origin_of s tp)));
    many = mesh.sized.origins;
    starts_stay = λ h live inner away. (λ is. away.0 (ap (face_of s) is), (λ is. away.1.0 (ap (face_of s) is), tt));
  }

  in_range : (h : ℕ) → IsLive s h → h < length s.origins
  in_range h live = omega (arith, mesh.sized.origins, half-below s h live)

  pub origin_e : origin_of n e ≡ origin_of s ep
  origin_e = first-two_set s.origins e t (origin_of s ep) (origin_of s tp) 0 (λ is. omega (arith, is)) (in_range e was.live_x)

  pub origin_t : origin_of n t ≡ origin_of s tp
  origin_t = second-two_set s.origins e t (origin_of s ep) (origin_of s tp) 0 (in_range t facing.live_x)

  pub origin_same : (at : ℕ → Point) (h : ℕ) → IsLive s h → h ≢ e → h ≢ t → origin_of n h ≡ origin_of s h
  origin_same at h live not_e not_t = origin_away at s n words origins flip_written mesh.sound h live (not_e, (not_t, tt))

  -- the words of the two faces, and of each other one
  pub word_f : word_of n.words f ≡ from_least (e ∷ tp ∷ en ∷ [])
  word_f = first-two_set s.words f g (from_least (e ∷ tp ∷ en ∷ [])) (from_least (t ∷ ep ∷ tn ∷ [])) [] differ (sound.below_faces e was.live_x)

  pub word_g : word_of n.words g ≡ from_least (t ∷ ep ∷ tn ∷ [])
  word_g = second-two_set s.words f g (from_least (e ∷ tp ∷ en ∷ [])) (from_least (t ∷ ep ∷ tn ∷ [])) [] (sound.below_faces t facing.live_x)

  pub word_else : (i : ℕ) → i ≢ f → i ≢ g → word_of n.words i ≡ word_of s.words i
  word_else i = other-two_set s.words f g (from_least (e ∷ tp ∷ en ∷ [])) (from_least (t ∷ ep ∷ tn ∷ [])) [] i

  -- its half edges start where they did
  pub starts_else : (i k : ℕ) → i ≢ f → i ≢ g → 0 < count_of k (word_of s.words i) → origin_of n k ≡ origin_of s k
  starts_else i k not_f not_g found =
      let on : face_of s k ≡ i = face_in_word (map_of s) s.words stands k i found in
      origin_same (λ v. origin_point) k (live_in (map_of s) s.words stands k i found) (λ same. not_f (sym on ∙ ap (face_of s) same)) (λ same. not_g (sym on ∙ ap (face_of s) same))

  module _ (at : ℕ → Point) where
    abbrev start : Point
    start = at (origin_of s e)

    abbrev end : Point
    end = at (origin_of s t)

    abbrev near : Point
    near = at (origin_of s ep)

    abbrev far : Point
    far = at (origin_of s tp)

    -- the two triangles before the flip
    pub left_before : TrianglesTurnLeft at s → 0 < f → TurnsLeft start end near
    left_before plane inner = corners_are at refl from_end refl (left_of_triangle at s mesh.sound plane f e en ep inner was)

    pub right_before : TrianglesTurnLeft at s → 0 < g → TurnsLeft end start far
    right_before plane inner = corners_are at refl from_start refl (left_of_triangle at s mesh.sound plane g t tn tp inner facing)

    pub new_corners : TrianglesTurnLeft at s → 0 < f → 0 < g → IsCircled at s u → AreFlipped start end near far
    new_corners plane f_inner g_inner circled = flipped start end near far (left_before plane f_inner) (right_before plane g_inner) circled

    -- the other half edges start where they did
    pub origin_far : origin_of n tp ≡ origin_of s tp
    origin_far = origin_same at tp facing.live_z apart.z_off.0 (λ is. facing.x≢z (sym is))

    pub origin_after : origin_of n en ≡ origin_of s en
    origin_after = origin_same at en was.live_y (λ is. was.x≢y (sym is)) (λ is. apart.x_off.1 (sym is))

    pub origin_near : origin_of n ep ≡ origin_of s ep
    origin_near = origin_same at ep was.live_z (λ is. was.x≢z (sym is)) (λ is. apart.x_off.2 (sym is))

    pub origin_t_after : origin_of n tn ≡ origin_of s tn
    origin_t_after = origin_same at tn facing.live_y apart.y_off.0 (λ is. facing.x≢y (sym is))

    -- the new triangles
    first_after : AreFlipped start end near far → LeftOf at n e tp en
    first_after new = corners_are at (sym origin_e) (sym origin_far) (sym from_end ∙ sym origin_after) new.first

    second_after : AreFlipped start end near far → LeftOf at n t ep tn
    second_after new = corners_are at (sym origin_t) (sym origin_near) (sym from_start ∙ sym origin_t_after) new.second

    pub flip_plane : 0 < f → 0 < g → IsCircled at s u → TrianglesTurnLeft at s → TrianglesTurnLeft at n
    flip_plane f_inner g_inner circled plane =
        let new = new_corners plane f_inner g_inner circled in
        written_plane at s n words origins flip_written mesh.sound plane (
          (λ x y z inner is. left-from_least at n e tp en x y z is (first_after new)),
          (λ x y z inner is. left-from_least at n t ep tn x y z is (second_after new), tt),
        )
        tt

    pub flip_lists : (due : List ℕ) → ListsCircled at s due → ListsCircled at n (due ++ edges_of_flip s u)
    flip_lists due lists =
        let list = edges_of_flip s u in
        let at_e = listed_as list e u (omega arith) (count-at list 4 0 (omega arith)) in
        let at_t = listed_as list t u (omega arith) (count-at list 4 0 (omega arith)) in
        written_lists at s n words origins flip_written mesh.sound list due (flipped_mesh m u mesh can).sound (
          λ inner h found. of_least (λ x. 0 < count_of (x / 2) list) e tp en h at_e (count-at list 3 0 (omega arith)) (count-at list 0 0 (omega arith)) found,
          (λ inner h found. of_least (λ x. 0 < count_of (x / 2) list) t ep tn h at_t (count-at list 1 0 (omega arith)) (count-at list 2 0 (omega arith)) found, tt),
        )
        tt lists

-- a corner that is the other one as well is not inside the circle
corners_differ : (at : ℕ → Point) (a b c d : ℕ) → pos 0 <ℤ incircle_of (at a) (at b) (at c) (at d) → c ≡ d → ⊥
corners_differ at a b c d inside is =
    let none : incircle_of (at a) (at b) (at c) (at d) ≡ pos 0 = ap (λ k. incircle_of (at a) (at b) (at c) (at k)) (sym is) ∙ incircle-third (at a) (at b) (at c) in
    omega (arith, ordered, none, inside)

pub circled_can_flip : {V DE UE F : Type 0} (m : Mesh V DE UE F) → IsMesh m → (u : ℕ) (at : ℕ → Point) → IsInner m.shape u → IsCircled at m.shape u → CanFlip m.shape u
circled_can_flip m mesh u at inner circled = record {
  live = inner.live;
  triangle = inner.triangle;
  facing = inner.facing;
  corners = corners_differ at (origin_of m.shape (2 * u)) (origin_of m.shape (2 * u + 1)) (origin_of m.shape (prev_of m.shape (2 * u))) (origin_of m.shape (prev_of m.shape (2 * u + 1))) circled;
}
