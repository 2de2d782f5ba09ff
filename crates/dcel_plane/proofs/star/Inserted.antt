-- A vertex put into a triangle leaves no other one in a circle.
use Rattle.std.proofs.Common.{◌≡◌, ◌⊎◌, inl, inr, ℕ, zero, suc, ◌+◌, ◌*◌, ◌<◌, List, [], ◌∷◌, slice_index, refl, sym, pos, ◌<ℤ◌, ◌≤ℤ◌, arith}
use Rattle.dcel_predicates.specs.declared.point.Point.{Point}
use Rattle.dcel_predicates.proofs.Signs.{ordered}
use Rattle.dcel_maps.specs.Conditions.{IsTriangle}
use Rattle.dcel_maps.specs.edits.Triangle.{vertex_inserted}
use Rattle.dcel_maps.specs.Shapes.{IsLive, IsMesh, Mesh, Shape, adjacent_edge_of, next_of, origin_of, prev_of}
use Rattle.dcel_plane.specs.Plane.{TrianglesTurnLeft, LiesInFace, TurnsLeft}
use Rattle.dcel_plane.proofs.edits.Corners.{left_of_triangle, left_turned, same}
use Rattle.dcel_plane.proofs.edits.Inserted.{first_side, old, origins, second_side, third_side, was, words, written}
use Rattle.dcel_plane.proofs.edits.Written.{origin_more}
use Rattle.dcel_plane.specs.star.Star.{IsEmptyAt, IsEmptyRound, HasEmptyCirclesBut}
use Rattle.dcel_plane.proofs.star.Pencils.{inside_its_circle}
use Rattle.dcel_plane.proofs.star.Turning.{at_triangle, empty_nested, round_turned}
use Rattle.dcel_plane.proofs.hull.Becomes.{old_or_new}
use Rattle.dcel_plane.proofs.hull.Keeping.{StartsOldOr}
use Rattle.dcel_plane.proofs.star.Grown.{empty_more, tip_round, written_star}

-- above 0, so not below
pub least : {z : _} → pos 0 <ℤ z → pos 0 ≤ℤ z
least more = omega (arith, ordered, more)

module _ {V DE UE F : Type 0} (m : Mesh V DE UE F) (mesh : IsMesh m) (at : ℕ → Point) (plane : TrianglesTurnLeft at m.shape) (v f : ℕ) (star : HasEmptyCirclesBut at m.shape v) (inner : 0 < f)
    (triangle : IsTriangle m.shape f) (lies : LiesInFace at m.shape f (at v)) (halves : List DE) (edges : List UE) (faces : List F) where
  abbrev s : Shape
  s = m.shape

  abbrev t : Shape
  t = (vertex_inserted m v f halves edges faces).shape

  abbrev p : ℕ → Point
  p h = at (origin_of m.shape h)

  abbrev n : ℕ
  n = 2 * m.shape.edges

  abbrev a : ℕ
  a = adjacent_edge_of m f

  abbrev b : ℕ
  b = next_of m.shape a

  abbrev c : ℕ
  c = prev_of m.shape a

  starts : (k i : ℕ) → k ≡ 2 * s.edges + i → origin_of t k ≡ slice_index (origins m mesh v f triangle halves edges faces at).more i
  starts = origin_more at s t (words m mesh v f triangle halves edges faces at) (origins m mesh v f triangle halves edges faces at) (written m mesh v f triangle halves edges faces at) mesh.sound

  new_start : (k i : ℕ) → k ≡ 2 * s.edges + i → i < 6 → (origin_of t k ≡ v) ⊎ ((j : ℕ) × IsLive s j × (origin_of s j ≡ origin_of t k))
  new_start k zero is few = inr (b, (was m mesh v f triangle halves edges faces at).live_y, sym (starts k 0 is))
  new_start k (suc zero) is few = inl (starts k 1 is)
  new_start k (suc (suc zero)) is few = inr (c, (was m mesh v f triangle halves edges faces at).live_z, sym (starts k 2 is))
  new_start k (suc (suc (suc zero))) is few = inl (starts k 3 is)
  new_start k (suc (suc (suc (suc zero)))) is few = inr (a, (was m mesh v f triangle halves edges faces at).live_x, sym (starts k 4 is))
  new_start k (suc (suc (suc (suc (suc zero))))) is few = inl (starts k 5 is)
  new_start k (suc (suc (suc (suc (suc (suc i)))))) is few = absurd (omega (arith, few))

  inserted_starts : StartsOldOr s t v
  inserted_starts k live = elim (old_or_new s t 3 refl refl k live) [
    | inl live_k ↦ inr (k, live_k, old m mesh v f triangle halves edges faces at k live_k)
    | inr new ↦ new_start k new.0 new.1 new.2
  ]

  whole : TurnsLeft (p a) (p b) (p c)
  whole = left_of_triangle at s mesh.sound plane f a b c inner (was m mesh v f triangle halves edges faces at)

  ab : TurnsLeft (p a) (p b) (at v)
  ab = first_side m mesh v f triangle halves edges faces at lies

  bc : TurnsLeft (p b) (p c) (at v)
  bc = second_side m mesh v f triangle halves edges faces at lies

  ca : TurnsLeft (p c) (p a) (at v)
  ca = third_side m mesh v f triangle halves edges faces at lies

  old_round : IsEmptyRound at s v a b c
  old_round = at_triangle s (IsEmptyRound at s v) (round_turned at s v) mesh.sound star.empty f a b c inner (was m mesh v f triangle halves edges faces at)

  -- the sides of the triangle, seen from v
  side : (x y z : ℕ) → TurnsLeft (p x) (p y) (p z) → TurnsLeft (p x) (p y) (at v) → TurnsLeft (p y) (p z) (at v) → TurnsLeft (p z) (p x) (at v)
      → IsEmptyAt at s v (origin_of s x) (origin_of s y) (origin_of s z) → IsEmptyAt at t v (origin_of s x) (origin_of s y) v
  side x y z left xy yz zx empty =
      empty_more at s t v (origin_of s x) (origin_of s y) v inserted_starts
      (empty_nested at s v (origin_of s x) (origin_of s y) (origin_of s z) v left xy (inside_its_circle (p x) (p y) (p z) (at v) (least xy) yz zx) empty)

  as_word : (x y z h i j : ℕ) → x ∷ y ∷ z ∷ [] ≡ h ∷ i ∷ j ∷ [] → IsEmptyRound at t v x y z → IsEmptyRound at t v h i j
  as_word = same (IsEmptyRound at t v) (round_turned at t v)

  pub inserted_star : HasEmptyCirclesBut at t v
  inserted_star =
      let tri = was m mesh v f triangle halves edges faces at in
      written_star at s t (words m mesh v f triangle halves edges faces at) (origins m mesh v f triangle halves edges faces at) (written m mesh v f triangle halves edges faces at) mesh.sound v inserted_starts star (
        (λ x y z above is. as_word a n (n + 5) x y z is
            (tip_round at t v a n (n + 5) (origin_of s a) (origin_of s b) (old m mesh v f triangle halves edges faces at a tri.live_x) (sym (starts n 0 (omega arith))) (sym (starts (n + 5) 5 refl))
            (side a b c whole ab bc ca old_round.0))),
        tt,
      ) (
        (λ x y z above is. as_word b (n + 2) (n + 1) x y z is
            (tip_round at t v b (n + 2) (n + 1) (origin_of s b) (origin_of s c) (old m mesh v f triangle halves edges faces at b tri.live_y) (sym (starts (n + 2) 2 refl)) (sym (starts (n + 1) 1 refl))
            (side b c a (left_turned (p a) (p b) (p c) whole) bc ca ab old_round.1))),
        (
          (λ x y z above is. as_word c (n + 4) (n + 3) x y z is
              (tip_round at t v c (n + 4) (n + 3) (origin_of s c) (origin_of s a) (old m mesh v f triangle halves edges faces at c tri.live_z) (sym (starts (n + 4) 4 refl)) (sym (starts (n + 3) 3 refl))
              (side c a b (left_turned (p b) (p c) (p a) (left_turned (p a) (p b) (p c) whole)) ca ab bc old_round.2))),
          tt,
        ),
      )
