-- A vertex inside of triangles with three edges has none to turn: a flip would leave a triangle there that turns right.
use Rattle.std.proofs.Common.{◌≡◌, ℕ, zero, suc, ◌/◌, ◌<◌, Option, Some, sym, ap, ◌∙◌, subst, arith}
use Rattle.dcel_fixed.specs.HalfEdges.{rev}
use Rattle.dcel_fixed.proofs.Halves.{rev-rev}
use Rattle.dcel_predicates.specs.declared.point.Point.{Point}
use Rattle.dcel_predicates.proofs.Points.{orient2d-last_swapped, orient2d-turned}
use Rattle.dcel_predicates.proofs.Signs.{ordered}
use Rattle.dcel_maps.specs.Shapes.{AnchorsVertex, IsLive, IsMesh, Mesh, Shape, end_of, face_of, origin_of, prev_of, vertex_anchor}
use Rattle.dcel_maps.specs.Walking.{IsOutEdge, ccw_of, walk_of}
use Rattle.dcel_maps.proofs.walks.Links.{ccw-lawful}
use Rattle.dcel_maps.proofs.walks.Turning.{walk-out_edges}
use Rattle.dcel_maps.proofs.walks.UnderWay.{walk-round}
use Rattle.dcel_plane.specs.Plane.{TurnsLeft, point_at}
use Rattle.dcel_plane.specs.removal.Wheels.{CanFlipInPlane, turns}
use Rattle.dcel_plane.proofs.covering.Triangles.{round}
use Rattle.dcel_plane.proofs.removal.Cutting.{number_of}
use Rattle.dcel_plane.proofs.removal.Fewer.{of_both_halves}
use Rattle.dcel_plane.proofs.removal.Turning.{left_out, out, out_next}
use Rattle.dcel_planar.specs.Growing.{HasHull, IsTriangleMesh}
use Rattle.dcel_delaunay.specs.Removing.{HasNoneToTurn, IsInnerVertex}

-- three steps lead back from each place of a walk, if they do so from the first
back_again : (f : ℕ → ℕ) (h : ℕ) → f (f (f h)) ≡ h → (n : ℕ) → f (f (f (turns f n h))) ≡ turns f n h
back_again f h back zero = back
back_again f h back (suc n) = ap f (back_again f h back n)

-- the triangle that a flip leaves at the start of x, where y is its other half
abbrev LeavesLeft : (ℕ → Point) → Shape → ℕ → ℕ → Type 0
LeavesLeft at s x y = TurnsLeft (at (origin_of s (prev_of s y))) (at (origin_of s (prev_of s x))) (at (origin_of s x))

module _ {DE UE F : Type 0} (m : Mesh Point DE UE F) (mesh : IsMesh m) (sound : IsTriangleMesh m) (has : HasHull m) (v : ℕ) (inside : IsInnerVertex m.shape v) where
  abbrev s : Shape
  s = m.shape

  abbrev at : ℕ → Point
  at = point_at m

  abbrev step : ℕ → ℕ
  step h = ccw_of m.shape h

  -- of three edges
  module _ (e : ℕ) (starts : IsOutEdge m.shape v e) (back : step (step (step e)) ≡ e) where
    inner : (k : ℕ) → IsLive m.shape k → origin_of m.shape k ≡ origin_of m.shape e → 0 < face_of m.shape k
    inner k live same = inside k (record { live = live; start = same ∙ starts.start })

    -- the third triangle, across from e
    third : TurnsLeft (at (origin_of s e)) (at (end_of s (step e))) (at (end_of s (step (step e))))
    third =
        let first = out m mesh sound.triangles at sound.plane has.convex has.hull e starts.live inner 0 in
        left_out m mesh sound.triangles at sound.plane has.convex has.hull e starts.live inner (step e)
        (out_next m mesh sound.triangles at sound.plane has.convex has.hull e starts.live inner e first)

    before : origin_of s (prev_of s e) ≡ end_of s (step e)
    before = sym (ap (origin_of s) (rev-rev (prev_of s e)))

    beyond : origin_of s (prev_of s (rev e)) ≡ end_of s (step (step e))
    beyond =
        let first = out m mesh sound.triangles at sound.plane has.convex has.hull e starts.live inner 0 in
        let next = out_next m mesh sound.triangles at sound.plane has.convex has.hull e starts.live inner e first in
        let last = out_next m mesh sound.triangles at sound.plane has.convex has.hull e starts.live inner (step e) next in
        let b = step (step e) in
        let tri = round m mesh sound.triangles b last.alive last.on in
        let other : rev e ≡ prev_of s b = ap rev (sym back) ∙ rev-rev (prev_of s b) in
        ap (λ k. origin_of s (prev_of s k)) other ∙ ap (origin_of s) tri.prev_z ∙ mesh.sound.joined b last.alive

    cant : ¬ CanFlipInPlane at s (e / 2)
    cant can =
        let (left, other) = of_both_halves (λ x y. LeavesLeft at s x y × LeavesLeft at s y x) (λ x y both. (both.1, both.0)) e (can.second, can.first) in
        let a = at (end_of s (step e)) in
        let b = at (end_of s (step (step e))) in
        let o = at (origin_of s e) in
        let turned : TurnsLeft b a o =
        subst (λ (k : ℕ). TurnsLeft b (at k) o) before (subst (λ (k : ℕ). TurnsLeft (at k) (at (origin_of s (prev_of s e))) o) beyond left) in
        let same = orient2d-turned o b a in
        let swapped = orient2d-last_swapped o a b in
        let is = third in
        omega (arith, ordered, turned, same, swapped, is)

  -- so none of them can
  three_none : (h : ℕ) → IsOutEdge m.shape v h → step (step (step h)) ≡ h → HasNoneToTurn m v
  three_none h starts back e out_e =
      let trip = walk-round (ccw-lawful mesh.sound) h starts.live in
      let (n, below, is) = number_of step h (walk_of s (ccw_of s) h) trip (walk-out_edges mesh.sound v h starts) e out_e in
      cant e out_e (subst (λ (k : ℕ). step (step (step k)) ≡ k) is (back_again step h back n))

  -- as a call finds it
  pub three_found : (lent n : Mesh Point DE UE F) (w h : ℕ) → lent ≡ m → w ≡ v → Some h ≡ vertex_anchor lent w → AnchorsVertex lent.shape w (vertex_anchor lent w)
      → n ≡ lent → ccw_of n.shape (ccw_of n.shape (ccw_of n.shape h)) ≡ h → HasNoneToTurn m v
  three_found lent n w h same number anchor anchored behind back =
      let starts : AnchorsVertex m.shape v (Some h) =
      subst (λ (k : ℕ). AnchorsVertex m.shape k (Some h)) number
      (subst (λ (x : Mesh Point DE UE F). AnchorsVertex x.shape w (Some h)) same (subst (λ (a : Option ℕ). AnchorsVertex lent.shape w a) (sym anchor) anchored)) in
      three_none h (record { live = starts.0; start = starts.1 }) (subst (λ (x : Mesh Point DE UE F). ccw_of x.shape (ccw_of x.shape (ccw_of x.shape h)) ≡ h) (behind ∙ same) back)
