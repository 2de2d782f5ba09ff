-- A vertex of three or four triangles given up: the hole is filled with triangles that turn left.
use Rattle.std.proofs.Common.{◌≡◌, ℕ, suc, ◌+◌, ◌/◌, ◌<◌, ◌≤◌, List, [], ◌∷◌, ◌++◌, length, map, reverse, refl, sym, ap, ◌∙◌, subst, arith}
use Rattle.std.proofs.lemmas.List.{length-map, length-reverse}
use Rattle.dcel_predicates.specs.declared.point.Point.{Point}
use Rattle.dcel_predicates.proofs.Points.{orient2d-turned}
use Rattle.dcel_predicates.proofs.Signs.{ordered}
use Rattle.dcel_maps.specs.Borders.{IsBorderLoop}
use Rattle.dcel_maps.specs.edits.Fill.{edges_at, faces_at, hole_filled, loop_filled}
use Rattle.dcel_maps.specs.Maps.{By}
use Rattle.dcel_maps.specs.Removals.{Closed, Removal, opened}
use Rattle.dcel_maps.specs.Shapes.{IsLive, IsMesh, Mesh, Shape, end_of, face_count, face_of, next_of, origin_of}
use Rattle.dcel_maps.specs.theory.Cycles.{Path}
use Rattle.dcel_maps.specs.Triangulations.{AllTriangles}
use Rattle.dcel_maps.specs.Walking.{IsRoundTrip, ccw_of, walk_of}
use Rattle.dcel_maps.specs.Words.{count_of}
use Rattle.dcel_maps.proofs.removal.Hollows.{HollowOf}
use Rattle.dcel_maps.proofs.removal.RingLists.{at_border}
use Rattle.dcel_maps.proofs.removal.VertexHoles.{vertex_hollow}
use Rattle.dcel_maps.proofs.walks.Links.{ccw-lawful}
use Rattle.dcel_maps.proofs.walks.UnderWay.{walk-round}
use Rattle.dcel_plane.specs.Plane.{ListsCircled, TrianglesTurnLeft, TurnsLeft}
use Rattle.dcel_plane.proofs.edits.Corners.{corners_are, three_items}
use Rattle.dcel_plane.specs.covering.Covering.{IsConvex, IsHull}
use Rattle.dcel_plane.specs.removal.Wheels.{EarsLeft, MakesTwo, turns}
use Rattle.dcel_plane.proofs.removal.Filling.{filled_convex, filled_hull, filled_lists, filled_plane}
use Rattle.dcel_plane.proofs.removal.Flippable.{three_turn}
use Rattle.dcel_plane.proofs.removal.Turning.{out}

pub two_items : (w : List ℕ) → length w ≡ 2 → (a : ℕ) × (b : ℕ) × (w ≡ a ∷ b ∷ [])
two_items [] e = absurd (omega (arith, e))
two_items (a ∷ []) e = absurd (omega (arith, e))
two_items (a ∷ b ∷ []) e = (a, b, refl)
two_items (a ∷ b ∷ c ∷ r) e = absurd (omega (arith, e))

-- a list of three or more
pub by_three : (P : List ℕ → Type 0) (w : List ℕ) → 3 ≤ length w → ((p q r : ℕ) (rest : List ℕ) → w ≡ p ∷ q ∷ r ∷ rest → P (p ∷ q ∷ r ∷ rest)) → P w
by_three P [] many holds = absurd (omega (arith, many))
by_three P (p ∷ []) many holds = absurd (omega (arith, many))
by_three P (p ∷ q ∷ []) many holds = absurd (omega (arith, many))
by_three P (p ∷ q ∷ r ∷ rest) many holds = holds p q r rest refl

module _ {V DE UE F : Type 0} (m : Mesh V DE UE F) (mesh : IsMesh m) (closed : m.shape.removal ≡ Closed) (border : List ℕ) (v : ℕ) (l : IsBorderLoop m.shape border v)
    (halves : List DE) (edges : List UE) (faces : List F) (at : ℕ → Point) where
  abbrev s : Shape
  s = m.shape

  abbrev removal : Removal
  removal = opened (edges_at m v) (faces_at m v) v

  abbrev result : Shape
  result = (hole_filled m v border halves edges faces).shape

  pub hole : (p q r : ℕ) (rest : List ℕ) → reverse border ≡ p ∷ q ∷ r ∷ rest → HollowOf m.shape (opened (edges_at m v) (faces_at m v) v) (p ∷ q ∷ r ∷ rest) (face_count m.shape + length rest)
  hole p q r rest is =
      subst (λ (w : List ℕ). HollowOf m.shape (opened (edges_at m v) (faces_at m v) v) w (face_count m.shape + length rest)) is
      (vertex_hollow m.shape mesh.sound mesh.sphere closed border v (face_count m.shape + length rest) l (opened (edges_at m v) (faces_at m v) v) (at_border m mesh border v l) (omega arith))

  long : 3 ≤ length (reverse border)
  long = let many = l.many in let e = length-reverse border in omega (arith, many, e)

  pub hole_plane : (p q r : ℕ) (rest : List ℕ) → reverse border ≡ p ∷ q ∷ r ∷ rest → EarsLeft at (origin_of m.shape) (origin_of m.shape p) q r rest
      → TrianglesTurnLeft at m.shape → TrianglesTurnLeft at (hole_filled m v border halves edges faces).shape
  hole_plane p q r rest is lefts plane =
      subst (λ (w : List ℕ). TrianglesTurnLeft at (loop_filled m (opened (edges_at m v) (faces_at m v) v) w halves edges faces).shape) (sym is)
      (filled_plane m p q r rest halves edges faces mesh closed (opened (edges_at m v) (faces_at m v) v) (hole p q r rest is) at lefts plane)

  pub hole_convex : IsConvex at m.shape → IsConvex at (hole_filled m v border halves edges faces).shape
  hole_convex convex =
      by_three (λ w. IsConvex at (loop_filled m (opened (edges_at m v) (faces_at m v) v) w halves edges faces).shape) (reverse border) long
      (λ p q r rest is. filled_convex m p q r rest halves edges faces mesh closed (opened (edges_at m v) (faces_at m v) v) (hole p q r rest is) at convex)

  pub hole_hull : IsHull at m.shape → IsHull at (hole_filled m v border halves edges faces).shape
  hole_hull hull =
      by_three (λ w. IsHull at (loop_filled m (opened (edges_at m v) (faces_at m v) v) w halves edges faces).shape) (reverse border) long
      (λ p q r rest is. filled_hull m p q r rest halves edges faces mesh closed (opened (edges_at m v) (faces_at m v) v) (hole p q r rest is) at hull)

  pub hole_lists : (due list : List ℕ)
      → ((h : ℕ) → IsLive (hole_filled m v border halves edges faces).shape h → face_count m.shape ≤ face_of (hole_filled m v border halves edges faces).shape h
      → 0 < count_of (h / 2) list)
      → ListsCircled at m.shape due → ListsCircled at (hole_filled m v border halves edges faces).shape (due ++ list)
  hole_lists due list =
      by_three (λ w. ((h : ℕ) → IsLive (loop_filled m removal w halves edges faces).shape h → face_count m.shape ≤ face_of (loop_filled m removal w halves edges faces).shape h
      → 0 < count_of (h / 2) list) → ListsCircled at m.shape due → ListsCircled at (loop_filled m removal w halves edges faces).shape (due ++ list)) (reverse border) long
      (λ p q r rest is. filled_lists m p q r rest halves edges faces mesh closed removal (hole p q r rest is) at due list)

  -- the half edges from v, from the first on
  abbrev w : List ℕ
  w = walk_of m.shape (ccw_of m.shape) l.first

  trip : IsRoundTrip (ccw_of m.shape) l.first (walk_of m.shape (ccw_of m.shape) l.first)
  trip = walk-round (ccw-lawful mesh.sound) l.first l.out.live

  pub as_long : length (walk_of m.shape (ccw_of m.shape) l.first) ≡ length border
  as_long = sym (length-map (walk_of m.shape (ccw_of m.shape) l.first) (next_of m.shape)) ∙ sym (ap length l.ring) ∙ length-reverse border

  rest_long : suc (length trip.rest) ≡ length border
  rest_long = (let e : suc (length trip.rest) ≡ length (l.first ∷ trip.rest) = refl in e) ∙ sym (ap length trip.from) ∙ as_long

  ring_is : (items : List ℕ) → trip.rest ≡ items → reverse border ≡ map (next_of m.shape) (l.first ∷ items)
  ring_is items is = l.ring ∙ ap (map (next_of m.shape)) (trip.from ∙ ap (λ (r : List ℕ). l.first ∷ r) is)

  inner : (k : ℕ) → IsLive m.shape k → origin_of m.shape k ≡ origin_of m.shape l.first → 0 < face_of m.shape k
  inner k live_k same = (l.triangles k (record { live = live_k; start = same ∙ l.out.start })).0

  module _ (triangles : AllTriangles m.shape) (plane : TrianglesTurnLeft at m.shape) (convex : IsConvex at m.shape) (hull : IsHull at m.shape) where
    -- where the half edges of the ring start
    starts : (i : ℕ) → origin_of m.shape (next_of m.shape (turns (ccw_of m.shape) i l.first)) ≡ end_of m.shape (turns (ccw_of m.shape) i l.first)
    starts i = mesh.sound.joined (turns (ccw_of m.shape) i l.first) (out m mesh triangles at plane convex hull l.first l.out.live inner i).alive

    pub three_plane : length border ≡ 3 → TrianglesTurnLeft at (hole_filled m v border halves edges faces).shape
    three_plane three =
        let e = rest_long in
        let (y, z, is) = two_items trip.rest (omega (arith, e, three)) in
        let path : Path (By (ccw_of s)) l.first (y ∷ z ∷ []) l.first = subst (λ (r : List ℕ). Path (By (ccw_of s)) l.first r l.first) is trip.round in
        let first_y : turns (ccw_of s) 1 l.first ≡ y = path.0 in
        let second_z : turns (ccw_of s) 2 l.first ≡ z = ap (ccw_of s) path.0 ∙ path.1.0 in
        hole_plane (next_of s l.first) (next_of s y) (next_of s z) [] (ring_is (y ∷ z ∷ []) is)
        (corners_are at (sym (starts 0)) (sym (ap (λ k. origin_of s (next_of s k)) (sym first_y) ∙ starts 1)) (sym (ap (λ k. origin_of s (next_of s k)) (sym second_z) ∙ starts 2))
        (three_turn m mesh triangles at plane convex hull l.first l.out.live inner w trip (as_long ∙ three))) plane

    pub four_plane : length border ≡ 4 → MakesTwo at m.shape l.first → TrianglesTurnLeft at (hole_filled m v border halves edges faces).shape
    four_plane four two =
        let e = rest_long in
        let (y, z, x, is) = three_items trip.rest (omega (arith, e, four)) in
        let path : Path (By (ccw_of s)) l.first (y ∷ z ∷ x ∷ []) l.first = subst (λ (r : List ℕ). Path (By (ccw_of s)) l.first r l.first) is trip.round in
        let first_y : turns (ccw_of s) 1 l.first ≡ y = path.0 in
        let second_z : turns (ccw_of s) 2 l.first ≡ z = ap (ccw_of s) path.0 ∙ path.1.0 in
        let third_x : turns (ccw_of s) 3 l.first ≡ x = ap (ccw_of s) second_z ∙ path.1.1.0 in
        let at_y = sym (ap (λ k. origin_of s (next_of s k)) (sym first_y) ∙ starts 1) in
        let at_z = sym (ap (λ k. origin_of s (next_of s k)) (sym second_z) ∙ starts 2) in
        let at_x = sym (ap (λ k. origin_of s (next_of s k)) (sym third_x) ∙ starts 3) in
        let o = orient2d-turned (at (end_of s (turns (ccw_of s) 2 l.first))) (at (end_of s (turns (ccw_of s) 3 l.first))) (at (end_of s l.first)) in
        let o' = orient2d-turned (at (end_of s l.first)) (at (end_of s (turns (ccw_of s) 2 l.first))) (at (end_of s (turns (ccw_of s) 3 l.first))) in
        let turn = two.second in
        let turn' : TurnsLeft (at (end_of s l.first)) (at (end_of s (turns (ccw_of s) 2 l.first))) (at (end_of s (turns (ccw_of s) 3 l.first))) = omega (arith, ordered, o, o', turn) in
        hole_plane (next_of s l.first) (next_of s y) (next_of s z) (next_of s x ∷ []) (ring_is (y ∷ z ∷ x ∷ []) is)
        (corners_are at (sym (starts 0)) at_y at_z two.first, corners_are at (sym (starts 0)) at_z at_x turn') plane
