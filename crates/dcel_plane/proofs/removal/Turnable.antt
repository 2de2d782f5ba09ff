-- Edges whose flip makes two triangles that turn left.
use Rattle.std.proofs.Common.{◌≡◌, ◌≢◌, inl, inr, ℕ, ◌+◌, ◌*◌, ◌/◌, ◌<◌, List, [], ◌∷◌, sym, ap, ◌∙◌, subst, pos, arith}
use Rattle.std.proofs.lemmas.Bool.{cases_eq}
use Rattle.dcel_fixed.specs.HalfEdges.{rev}
use Rattle.dcel_fixed.proofs.Halves.{rev-double, rev-double-suc, rev-rev}
use Rattle.dcel_predicates.specs.declared.point.Point.{Point}
use Rattle.dcel_predicates.specs.Determinants.{orient2d_of}
use Rattle.dcel_predicates.proofs.Points.{orient2d-turned}
use Rattle.dcel_predicates.proofs.Signs.{ordered}
use Rattle.dcel_maps.specs.Conditions.{IsTriangle}
use Rattle.dcel_maps.specs.Cyclic.{from_least}
use Rattle.dcel_maps.specs.edits.Flip.{edge_flipped}
use Rattle.dcel_maps.specs.Shapes.{IsLive, IsMesh, Mesh, Shape, end_of, face_of, map_of, origin_of, prev_of}
use Rattle.dcel_maps.specs.Triangulations.{AllTriangles}
use Rattle.dcel_maps.specs.Walking.{ccw_of}
use Rattle.dcel_maps.proofs.edits.Around.{at_edge}
use Rattle.dcel_maps.proofs.edits.Patches.{Patch, replacing}
use Rattle.dcel_maps.proofs.maps.Soundness.{rev_live}
use Rattle.dcel_plane.specs.Plane.{TrianglesTurnLeft, TurnsLeft}
use Rattle.dcel_plane.proofs.edits.Corners.{LeftOf, corners_are, left-from_least}
use Rattle.dcel_plane.proofs.edits.Flipped.{flip_written, from_end, from_start, origin_after, origin_e, origin_far, origin_near, origin_t, origin_t_after}
use Rattle.dcel_plane.proofs.edits.Written.{written_plane}
use Rattle.dcel_plane.specs.removal.Wheels.{CanFlipInPlane, CanTurnAt}
use Rattle.dcel_plane.proofs.covering.Inside.{on_end, on_start}
use Rattle.dcel_plane.proofs.covering.Triangles.{is_triangle, round}

-- what holds of a half edge and its other half, in either order, holds of the even one and the odd one
pub both_halves : (P : ℕ → ℕ → Type 0) → ((x y : ℕ) → P x y → P y x) → (e : ℕ) → P e (rev e) → P (2 * (e / 2)) (2 * (e / 2) + 1)
both_halves P swap e holds = elim (cases_eq e (2 * (e / 2))) [
  | inl even ↦
      let other : rev e ≡ 2 * (e / 2) + 1 = ap rev even ∙ rev-double (e / 2) in
      subst (λ (y : ℕ). P (2 * (e / 2)) y) other (subst (λ (x : ℕ). P x (rev e)) even holds)
  | inr not ↦
      let odd : e ≡ 2 * (e / 2) + 1 = omega (arith, not) in
      let other : rev e ≡ 2 * (e / 2) = ap rev odd ∙ rev-double-suc (e / 2) in
      swap (2 * (e / 2) + 1) (2 * (e / 2)) (subst (λ (y : ℕ). P (2 * (e / 2) + 1) y) other (subst (λ (x : ℕ). P x (rev e)) odd holds))
]

-- a flip after which both triangles turn left keeps the mesh in the plane
module _ {V DE UE F : Type 0} (m : Mesh V DE UE F) (mesh : IsMesh m) (at : ℕ → Point) (u : ℕ) (turn : CanFlipInPlane at m.shape u) where
  abbrev n : Shape
  n = (edge_flipped m u).shape

  open (at_edge m.shape u) use {e, t, f, g, ep, en, tp, tn}

  abbrev words : Patch (List ℕ)
  words = replacing ((f, from_least (e ∷ tp ∷ en ∷ [])) ∷ (g, from_least (t ∷ ep ∷ tn ∷ [])) ∷ [])

  abbrev origins : Patch ℕ
  origins = replacing ((e, origin_of m.shape ep) ∷ (t, origin_of m.shape tp) ∷ [])

  first_turns : LeftOf at n e tp en
  first_turns =
      corners_are at (sym (origin_e m mesh u turn.can)) (sym (origin_far m mesh u turn.can at)) (sym (from_end m mesh u turn.can) ∙ sym (origin_after m mesh u turn.can at))
      turn.first

  second_turns : LeftOf at n t ep tn
  second_turns =
      corners_are at (sym (origin_t m mesh u turn.can)) (sym (origin_near m mesh u turn.can at)) (sym (from_start m mesh u turn.can) ∙ sym (origin_t_after m mesh u turn.can at))
      turn.second

  pub turn_keeps_plane : TrianglesTurnLeft at m.shape → TrianglesTurnLeft at n
  turn_keeps_plane plane =
      written_plane at m.shape n words origins (flip_written m mesh u turn.can) mesh.sound plane (
        (λ x y z inner is. left-from_least at n e tp en x y z is first_turns),
        (λ x y z inner is. left-from_least at n t ep tn x y z is second_turns, tt),
      )
      tt

-- a half edge h whose edge can be flipped so that both triangles turn left, told by h and its other half, in this order
module _ (at : ℕ → Point) (s : Shape) where
  pub record Turned (h t : ℕ) : Type 0 where
    pub face : 0 < face_of s h
    pub facing : 0 < face_of s t
    pub triangle : IsTriangle s (face_of s h)
    pub triangle_facing : IsTriangle s (face_of s t)
    pub corners : origin_of s (prev_of s h) ≢ origin_of s (prev_of s t)
    pub first : TurnsLeft (at (origin_of s (prev_of s h))) (at (origin_of s (prev_of s t))) (at (origin_of s t))
    pub second : TurnsLeft (at (origin_of s (prev_of s t))) (at (origin_of s (prev_of s h))) (at (origin_of s h))

  swapped : (h t : ℕ) → Turned h t → Turned t h
  swapped h t is = record {
    face = is.facing;
    facing = is.face;
    triangle = is.triangle_facing;
    triangle_facing = is.triangle;
    corners = λ same. is.corners (sym same);
    first = is.second;
    second = is.first;
  }

  pub turned_can : (h : ℕ) → IsLive s h → Turned h (rev h) → CanFlipInPlane at s (h / 2)
  turned_can h live is =
      let found = both_halves Turned swapped h is in
      record {
        can = record { live = live; triangle = found.triangle; facing = found.triangle_facing; corners = found.corners };
        inner = found.face;
        inner_facing = found.facing;
        first = found.first;
        second = found.second;
      }

-- the edge after a, of triangles at both sides
module _ {V DE UE F : Type 0} (m : Mesh V DE UE F) (mesh : IsMesh m) (triangles : AllTriangles m.shape) (at : ℕ → Point) (o a : ℕ)
    (live_a : IsLive m.shape a) (on_a : 0 < face_of m.shape a)
    (live_e : IsLive m.shape (ccw_of m.shape a)) (from_e : origin_of m.shape (ccw_of m.shape a) ≡ o) (on_e : 0 < face_of m.shape (ccw_of m.shape a)) where
  abbrev s : Shape
  s = m.shape

  abbrev e : ℕ
  e = ccw_of m.shape a

  -- the neighbors
  abbrev x : Point
  x = at (end_of m.shape a)

  abbrev y : Point
  y = at (end_of m.shape (ccw_of m.shape a))

  abbrev z : Point
  z = at (end_of m.shape (ccw_of m.shape (ccw_of m.shape a)))

  pub turn_after : TurnsLeft (at o) (at (end_of m.shape a)) (at (end_of m.shape (ccw_of m.shape (ccw_of m.shape a))))
      → TurnsLeft (at (end_of m.shape a)) (at (end_of m.shape (ccw_of m.shape a))) (at (end_of m.shape (ccw_of m.shape (ccw_of m.shape a))))
      → CanFlipInPlane at m.shape (ccw_of m.shape a / 2)
  turn_after near off =
      let tri = round m mesh triangles a live_a on_a in
      let other : rev (ccw_of s a) ≡ prev_of s a = rev-rev (prev_of s a) in
      let face_other : face_of s (rev (ccw_of s a)) ≡ face_of s a = ap (face_of s) other ∙ tri.face_z in
      let before_other : origin_of s (prev_of s (rev (ccw_of s a))) ≡ end_of s a =
      ap (λ k. origin_of s (prev_of s k)) other ∙ ap (origin_of s) tri.prev_z ∙ mesh.sound.joined a live_a in
      let before : origin_of s (prev_of s (ccw_of s a)) ≡ end_of s (ccw_of s (ccw_of s a)) = sym (ap (origin_of s) (rev-rev (prev_of s (ccw_of s a)))) in
      let facing : 0 < face_of s (rev (ccw_of s a)) = subst (λ (k : ℕ). 0 < k) (sym face_other) on_a in
      let r = orient2d-turned z x y in
      let q = orient2d-turned (at o) x z in
      let first : TurnsLeft z x y = omega (arith, ordered, r, off) in
      let second : TurnsLeft x z (at o) = omega (arith, ordered, q, near) in
      turned_can at s (ccw_of s a) live_e (record {
        face = on_e;
        facing = facing;
        triangle = is_triangle m mesh triangles (ccw_of s a) live_e on_e;
        triangle_facing = is_triangle m mesh triangles (rev (ccw_of s a)) (rev_live (map_of s) (ccw_of s a) live_e) facing;
        corners = λ same.
            (let w : orient2d_of (at o) x z ≡ pos 0 = ap (λ (k : ℕ). orient2d_of (at o) x (at k)) (sym before ∙ same ∙ before_other) ∙ on_start (at o) x in
            omega (arith, ordered, w, near));
        first =
            subst (λ (k : ℕ). TurnsLeft (at (origin_of s (prev_of s (ccw_of s a)))) (at k) y) (sym before_other)
            (subst (λ (k : ℕ). TurnsLeft (at k) x y) (sym before) first);
        second =
            subst (λ (k : ℕ). TurnsLeft (at (origin_of s (prev_of s (rev (ccw_of s a))))) (at (origin_of s (prev_of s (ccw_of s a)))) (at k)) (sym from_e)
            (subst (λ (k : ℕ). TurnsLeft (at (origin_of s (prev_of s (rev (ccw_of s a))))) (at k) (at o)) (sym before)
            (subst (λ (k : ℕ). TurnsLeft (at k) z (at o)) (sym before_other) second));
      })

  -- where only the triangle off the vertex must turn left
  record TurnedAt (h t : ℕ) : Type 0 where
    triangle : IsTriangle s (face_of s h)
    triangle_facing : IsTriangle s (face_of s t)
    corners : origin_of s (prev_of s h) ≢ origin_of s (prev_of s t)
    first : origin_of s t ≢ o → TurnsLeft (at (origin_of s (prev_of s h))) (at (origin_of s (prev_of s t))) (at (origin_of s t))
    second : origin_of s h ≢ o → TurnsLeft (at (origin_of s (prev_of s t))) (at (origin_of s (prev_of s h))) (at (origin_of s h))

  swapped_at : (h t : ℕ) → TurnedAt h t → TurnedAt t h
  swapped_at h t is = record {
    triangle = is.triangle_facing;
    triangle_facing = is.triangle;
    corners = λ same. is.corners (sym same);
    first = is.second;
    second = is.first;
  }

  pub turn_after_at : TurnsLeft (at (end_of m.shape a)) (at (end_of m.shape (ccw_of m.shape a))) (at (end_of m.shape (ccw_of m.shape (ccw_of m.shape a))))
      → CanTurnAt at m.shape (ccw_of m.shape a / 2) o
  turn_after_at off =
      let tri = round m mesh triangles a live_a on_a in
      let other : rev (ccw_of s a) ≡ prev_of s a = rev-rev (prev_of s a) in
      let face_other : face_of s (rev (ccw_of s a)) ≡ face_of s a = ap (face_of s) other ∙ tri.face_z in
      let before_other : origin_of s (prev_of s (rev (ccw_of s a))) ≡ end_of s a =
      ap (λ k. origin_of s (prev_of s k)) other ∙ ap (origin_of s) tri.prev_z ∙ mesh.sound.joined a live_a in
      let before : origin_of s (prev_of s (ccw_of s a)) ≡ end_of s (ccw_of s (ccw_of s a)) = sym (ap (origin_of s) (rev-rev (prev_of s (ccw_of s a)))) in
      let facing : 0 < face_of s (rev (ccw_of s a)) = subst (λ (k : ℕ). 0 < k) (sym face_other) on_a in
      let r = orient2d-turned z x y in
      let first : TurnsLeft z x y = omega (arith, ordered, r, off) in
      let is : TurnedAt (ccw_of s a) (rev (ccw_of s a)) = record {
        triangle = is_triangle m mesh triangles (ccw_of s a) live_e on_e;
        triangle_facing = is_triangle m mesh triangles (rev (ccw_of s a)) (rev_live (map_of s) (ccw_of s a) live_e) facing;
        corners = λ same.
            (let w : orient2d_of x y z ≡ pos 0 = ap (λ (k : ℕ). orient2d_of x y (at k)) (sym before ∙ same ∙ before_other) ∙ on_end x y in
            omega (arith, ordered, w, off));
        first = λ not_o.
            subst (λ (k : ℕ). TurnsLeft (at (origin_of s (prev_of s (ccw_of s a)))) (at k) y) (sym before_other)
            (subst (λ (k : ℕ). TurnsLeft (at k) x y) (sym before) first);
        second = λ not_o. absurd (not_o from_e);
      } in
      let found = both_halves TurnedAt swapped_at (ccw_of s a) is in
      record {
        can = record { live = live_e; triangle = found.triangle; facing = found.triangle_facing; corners = found.corners };
        first = found.first;
        second = found.second;
      }
