-- Four flips of one edge turn it round once: then all is as it was but the anchors.
use Rattle.std.proofs.Common.{◌≡◌, ◌≢◌, ℕ, ◌+◌, ◌*◌, ◌<◌, true, List, [], ◌∷◌, refl, sym, ap, ◌∙◌, arith}
use Rattle.std.proofs.Math.Logic.{Ne-symm}
use Rattle.dcel_fixed.proofs.Halves.{rev-double, rev-double-suc}
use Rattle.dcel_maps.specs.Conditions.{CanFlip}
use Rattle.dcel_maps.specs.Cyclic.{from_least}
use Rattle.dcel_maps.specs.edits.Flip.{GoesRound, edge_flipped, flips}
use Rattle.dcel_maps.specs.Maps.{Map}
use Rattle.dcel_maps.specs.theory.Sound.{Sound}
use Rattle.dcel_maps.specs.Shapes.{IsMesh, Mesh, Shape, edge_is_live, face_count, face_of, map_of, next_of, origin_of, prev_of}
use Rattle.dcel_maps.specs.Words.{word_of}
use Rattle.dcel_maps.proofs.Liveness.{even_live, odd_live}
use Rattle.dcel_maps.proofs.edits.Flips.{flipped_mesh}
use Rattle.dcel_maps.proofs.edits.Linking.{triangle_is, triangle_of}
use Rattle.dcel_maps.proofs.maps.Triangles.{IsTriangleOf, facing_differ}
use Rattle.dcel_maps.proofs.shapes.Maps.{map-sound}
use Rattle.dcel_maps.proofs.walks.Links.{links_stand}
use Rattle.dcel_maps.proofs.words.EachSet.{first-two_set, length-two_set, other-two_set, second-two_set, two_set, two_set-again, two_set-back}
use Rattle.dcel_maps.proofs.words.Triangles.{triangle_read, triangle_written}

-- an edge of a shape between two faces
module _ (base : Shape) (u f g : ℕ) (live : edge_is_live base u ≡ true) (f_in : f < face_count base) (g_in : g < face_count base) (differ : f ≢ g) where
  abbrev e : ℕ
  e = 2 * u

  abbrev t : ℕ
  t = 2 * u + 1

  -- a shape with other words of the two, and other starts of the edge
  abbrev with_edge : Shape → List ℕ → List ℕ → ℕ → ℕ → Shape
  with_edge s p q v w = record s { words = two_set s.words f p g q; origins = two_set s.origins e v t w }

  with_edge-again : (p q p' q' : List ℕ) (v w v' w' : ℕ) → with_edge (with_edge base p q v w) p' q' v' w' ≡ with_edge base p' q' v' w'
  with_edge-again p q p' q' v w v' w' =
      rw (two_set-again base.words f g p q p' q' differ, two_set-again base.origins e t v w v' w' (λ is. omega (arith, is))) refl

  -- the shape with the words (e, a, b) and (t, c, d) there, where e starts where c does and t where a does
  abbrev turned : (a b c d : ℕ) → Shape
  turned a b c d = with_edge base (from_least (e ∷ a ∷ b ∷ [])) (from_least (t ∷ c ∷ d ∷ [])) (origin_of base c) (origin_of base a)

  -- a mesh of that shape, where the corners and the ends are two vertices each
  record Stage {V DE UE F : Type 0} (m : Mesh V DE UE F) (a b c d : ℕ) : Type 0 where
    mesh : IsMesh m
    shape : m.shape ≡ turned a b c d
    corners : origin_of base b ≢ origin_of base d
    ends : origin_of base a ≢ origin_of base c

  module _ {V DE UE F : Type 0} (m : Mesh V DE UE F) (a b c d : ℕ) (at : Stage m a b c d) where
    abbrev S : Map
    S = map_of m.shape

    sound : Sound S
    sound = map-sound at.mesh.sound

    faces : face_count m.shape ≡ face_count base
    faces = ap face_count at.shape ∙ length-two_set base.words f g _ _

    near : IsTriangleOf S f e a b
    near =
        triangle_read S m.shape.words (links_stand at.mesh.sound) sound f e a b (omega (arith, f_in, faces))
        (ap (λ s. word_of s.words f) at.shape ∙ first-two_set base.words f g _ _ [] differ f_in)

    far : IsTriangleOf S g t c d
    far =
        triangle_read S m.shape.words (links_stand at.mesh.sound) sound g t c d (omega (arith, g_in, faces))
        (ap (λ s. word_of s.words g) at.shape ∙ second-two_set base.words f g _ _ [] g_in)

    -- half edges of other edges start where they did
    same_origin : (h : ℕ) → h ≢ e → h ≢ t → origin_of m.shape h ≡ origin_of base h
    same_origin h not_e not_t = ap (λ s. origin_of s h) at.shape ∙ other-two_set base.origins e t _ _ 0 h not_e not_t

    at_b : origin_of m.shape b ≡ origin_of base b
    at_b = same_origin b (Ne-symm near.x≢z) (λ is. differ (sym near.face_z ∙ ap S.face is ∙ far.face_x))

    at_d : origin_of m.shape d ≡ origin_of base d
    at_d = same_origin d (λ is. differ (sym near.face_x ∙ ap S.face (sym is) ∙ far.face_z)) (Ne-symm far.x≢z)

    stage_can : CanFlip m.shape u
    stage_can = record {
      live = ap (λ s. edge_is_live s u) at.shape ∙ live;
      triangle = triangle_is m at.mesh f e a b near;
      facing = triangle_is m at.mesh g t c d far;
      corners = rw (near.prev_x, far.prev_x, at_b, at_d) at.corners;
    }

    -- a flip turns the edge by one side
    next_stage : Stage (edge_flipped m u) d a b c
    next_stage = record {
      mesh = flipped_mesh m u at.mesh stage_can;
      shape =
          rw (near.face_x, far.face_x, near.next_x, near.prev_x, far.next_x, far.prev_x, at_b, at_d)
          (ap (λ s. with_edge s (from_least (e ∷ d ∷ a ∷ [])) (from_least (t ∷ b ∷ c ∷ [])) (origin_of base b) (origin_of base d)) at.shape
          ∙ with_edge-again _ _ _ _ _ _ _ _);
      corners = at.ends;
      ends = Ne-symm at.corners;
    }

  -- so four turn it round
  round : {V DE UE F : Type 0} (m : Mesh V DE UE F) (a b c d : ℕ) → Stage m a b c d → GoesRound m u
  round m a b c d first =
      let second = next_stage m a b c d first in
      let third = next_stage (flips 1 m u) d a b c second in
      let fourth = next_stage (flips 2 m u) c d a b third in
      let last = next_stage (flips 3 m u) b c d a fourth in
      record {
        second = stage_can (flips 1 m u) d a b c second;
        third = stage_can (flips 2 m u) c d a b third;
        fourth = stage_can (flips 3 m u) b c d a fourth;
        same =
            ap (λ s. record m { shape = s; vertex_anchors = (flips 4 m u).vertex_anchors; face_anchors = (flips 4 m u).face_anchors })
            (last.shape ∙ sym first.shape);
      }

pub four_flips : {V DE UE F : Type 0} (m : Mesh V DE UE F) → IsMesh m → (u : ℕ) → CanFlip m.shape u → GoesRound m u
four_flips m mesh u can =
    let s = m.shape in
    let e = 2 * u in
    let t = 2 * u + 1 in
    let f = face_of s e in
    let g = face_of s t in
    let a = next_of s e in
    let b = prev_of s e in
    let c = next_of s t in
    let d = prev_of s t in
    let sound : Sound (map_of s) = map-sound mesh.sound in
    let live_e = even_live s u can.live in
    let live_t = odd_live s u can.live in
    let near : IsTriangleOf (map_of s) f e a b = triangle_of m mesh e live_e can.triangle in
    let far : IsTriangleOf (map_of s) g t c d = triangle_of m mesh t live_t can.facing in
    let differ : f ≢ g = facing_differ (map_of s) sound f e a b g t c d near far (rev-double u) in
    let start : origin_of s c ≡ origin_of s e = sound.origin-next t live_t ∙ ap (origin_of s) (rev-double-suc u) in
    let end : origin_of s a ≡ origin_of s t = sound.origin-next e live_e ∙ ap (origin_of s) (rev-double u) in
    let f_in : f < face_count s = sound.below_faces e live_e in
    let g_in : g < face_count s = sound.below_faces t live_t in
    round s u f g can.live f_in g_in differ m a b c d
    record {
      mesh = mesh;
      shape =
          rw (
            start,
            end,
            ← triangle_written (map_of s) sound f e a b near s.words (links_stand mesh.sound),
            ← triangle_written (map_of s) sound g t c d far s.words (links_stand mesh.sound),
            two_set-back s.words f g [],
            two_set-back s.origins e t 0,
          ) refl;
      corners = can.corners;
      ends = λ is. sound.two_ends e live_e (sym start ∙ sym is ∙ end ∙ ap (origin_of s) (sym (rev-double u)));
    }
