-- The outer face of a triangulation that is a convex hull goes round.
use Rattle.std.proofs.Common.{◌≡◌, inl, inr, ℕ, ◌<◌, sym, ap, ◌∙◌, subst, pos, ◌≤ℤ◌, eq-zero-or-pos, arith}
use Rattle.std.proofs.lemmas.Int.{by_lt_z}
use Rattle.dcel_fixed.specs.HalfEdges.{rev}
use Rattle.dcel_predicates.specs.declared.point.Point.{Point}
use Rattle.dcel_predicates.specs.Determinants.{orient2d_of}
use Rattle.dcel_predicates.proofs.Points.{orient2d-first_swapped}
use Rattle.dcel_predicates.proofs.Signs.{ordered}
use Rattle.dcel_maps.specs.Shapes.{IsLive, IsMesh, Mesh, Shape, face_of, map_of, next_of, origin_of, prev_of}
use Rattle.dcel_maps.specs.Triangulations.{AllTriangles}
use Rattle.dcel_maps.specs.theory.Sound.{Sound}
use Rattle.dcel_maps.proofs.maps.Soundness.{face_prev, rev_live}
use Rattle.dcel_maps.proofs.shapes.Maps.{map-sound}
use Rattle.dcel_plane.specs.Plane.{TrianglesTurnLeft}
use Rattle.dcel_plane.specs.covering.Covering.{IsConvex, IsHull}
use Rattle.dcel_plane.specs.covering.Round.{Begins, GoesRoundOnce, IsRightOf, LeadsLeft, LeadsRight}
use Rattle.dcel_plane.proofs.covering.Along.{one_point}
use Rattle.dcel_plane.proofs.covering.Faces.{not_bare}
use Rattle.dcel_plane.proofs.covering.Leading.{all_straight, none_left, one_spot, right_or_not}
use Rattle.dcel_plane.proofs.covering.Opposite.{convex-opposite, hull-opposite, left-opposite, opposite, plane-opposite, right-opposite}
use Rattle.dcel_plane.proofs.covering.Triangles.{left_at, round}

module _ {V DE UE F : Type 0} (m : Mesh V DE UE F) (mesh : IsMesh m) (triangles : AllTriangles m.shape) (t : ℕ) (live_t : IsLive m.shape t) (inner_t : 0 < face_of m.shape t) where
  abbrev s : Shape
  s = m.shape

  sound : Sound (map_of s)
  sound = map-sound mesh.sound

  module _ (at : ℕ → Point) (plane : TrianglesTurnLeft at s) (convex : IsConvex at s) (hull : IsHull at s) where
    abbrev p : ℕ → Point
    p h = at (origin_of s h)

    -- not all vertices stand on the line of an edge
    not_flat : (h : ℕ) → IsLive s h → ((w : ℕ) → IsLive s w → orient2d_of (p h) (p (rev h)) (p w) ≡ pos 0) → ⊥
    not_flat h live flat =
        let tri = round m mesh triangles t live_t inner_t in
        let one = one_point (p t) (p (next_of s t)) (p (prev_of s t)) (p h) (p (rev h)) (left_at m mesh triangles at plane t live_t inner_t)
        (flat t live_t) (flat (next_of s t) tri.live_y) (flat (prev_of s t) tri.live_z) in
        mesh.sound.two_ends h live (hull.distinct h (rev h) live (rev_live (map_of s) h live) one.0 one.1)

    -- where it begins to lead to the right no vertex lies to the left
    leftmost : (h : ℕ) → Begins (LeadsRight at s) s h → (w : ℕ) → IsLive s w → IsRightOf (p w) (p h) → ⊥
    leftmost h begins w live_w =
        let l = prev_of s h in
        let v = p h in
        let a = p (rev h) in
        let b = p l in
        let live = begins.live in
        let live_l = sound.live_prev h live in
        let outer_l = face_prev (map_of s) sound h live ∙ begins.outer in
        let meets : p (rev l) ≡ v = ap at (sym (mesh.sound.joined l live_l) ∙ ap (origin_of s) (sound.next-prev h live)) in
        let right_l : (k : ℕ) → IsLive s k → pos 0 ≤ℤ orient2d_of v b (p k) =
        λ k live_k.
        let o = subst (λ (q : Point). orient2d_of b q (p k) ≤ℤ pos 0) meets (convex.supports l k live_l outer_l live_k).0 in
        let e = orient2d-first_swapped b v (p k) in
        omega (arith, ordered, o, e) in
        let to_b : IsRightOf v b =
        elim (right_or_not v b) [
          | inl is ↦ is
          | inr not ↦
              absurd
              (let same = one_spot v b not (λ back. begins.before (subst (λ (q : Point). IsRightOf b q) (sym meets) back)) in
              mesh.sound.two_ends l live_l (sym (hull.distinct (rev l) l (rev_live (map_of s) l live_l) live_l
              (ap (λ (q : Point). q.x) meets ∙ same.0) (ap (λ (q : Point). q.y) meets ∙ same.1))))
        ] in
        let turn : orient2d_of v a b ≤ℤ pos 0 = (convex.supports h l live begins.outer live_l).0 in
        by_lt_z (orient2d_of v a b) (pos 0)
        (λ strict. none_left v a b (p w) begins.there to_b strict (convex.supports h w live begins.outer live_w).0 (right_l w live_w))
        (λ not. absurd (not_flat h live (λ k live_k.
        all_straight v a b (p k) begins.there to_b (omega (arith, ordered, turn, not)) (convex.supports h k live begins.outer live_k).0 (right_l k live_k))))

    begins_once : (h k : ℕ) → Begins (LeadsRight at s) s h → Begins (LeadsRight at s) s k → h ≡ k
    begins_once h k one other =
        let same = one_spot (p h) (p k) (leftmost k other h one.live) (leftmost h one k other.live) in
        hull.once h k one.live other.live one.outer other.outer (hull.distinct h k one.live other.live same.0 same.1)

  module _ (at : ℕ → Point) (plane : TrianglesTurnLeft at s) (convex : IsConvex at s) (hull : IsHull at s) where
    begins-opposite : (h : ℕ) → Begins (LeadsLeft at s) s h → Begins (LeadsRight (λ v. opposite (at v)) s) s h
    begins-opposite h begins = record {
      live = begins.live;
      outer = begins.outer;
      there = right-opposite (at (origin_of s (rev h))) (at (origin_of s h)) begins.there;
      before = λ leads. begins.before (left-opposite (at (origin_of s (prev_of s h))) (at (origin_of s (rev (prev_of s h)))) leads);
    }

    pub goes_round : GoesRoundOnce at s
    goes_round = record {
      inner = λ h live outer. elim (eq-zero-or-pos (face_of s (rev h))) [
        | inr inner ↦ inner
        | inl outer_too ↦ absurd (not_bare m mesh triangles at plane convex hull h t live outer outer_too live_t inner_t)
      ];
      turns = λ h live outer. (convex.supports h (rev (next_of s h)) live outer (rev_live (map_of s) (next_of s h) (sound.live_next h live))).0;
      right = begins_once at plane convex hull;
      left = λ h k one other.
          begins_once (λ v. opposite (at v)) (plane-opposite at s plane) (convex-opposite at s convex) (hull-opposite at s hull) h k (begins-opposite h one) (begins-opposite k other);
    }
