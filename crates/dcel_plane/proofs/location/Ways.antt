-- Where a point lies that no side of a triangle has on its right: inside, on a side or at a corner.
use Rattle.std.proofs.Common.{◌≡◌, ◌≢◌, ◌⊎◌, inl, inr, ℕ, ◌<◌, refl, sym, ◌∙◌, subst, ℤ, pos, ◌+ℤ◌, ◌-ℤ◌, ◌*ℤ◌, ◌<ℤ◌, ◌≤ℤ◌, arith}
use Rattle.std.proofs.lemmas.Int.{by_lt_z}
use Rattle.std.proofs.Math.IntN.{*ℤ_comm}
use Rattle.dcel_fixed.specs.HalfEdges.{rev}
use Rattle.dcel_fixed.proofs.Halves.{rev-rev}
use Rattle.dcel_predicates.specs.Determinants.{orient2d_of}
use Rattle.dcel_predicates.specs.declared.point.Point.{Point}
use Rattle.dcel_predicates.proofs.Points.{orient2d-first_swapped, orient2d-last_swapped, orient2d-turned}
use Rattle.dcel_predicates.proofs.Signs.{ordered, times_positive}
use Rattle.dcel_maps.specs.Shapes.{IsLive, IsMesh, Mesh, Shape, end_of, face_of, map_of, next_of, origin_of, prev_of}
use Rattle.dcel_maps.specs.Triangulations.{AllTriangles}
use Rattle.dcel_maps.proofs.maps.Triangles.{IsTriangleOf}
use Rattle.dcel_plane.specs.Plane.{IsLeftOf, LiesInFace, TrianglesTurnLeft, TurnsLeft}
use Rattle.dcel_plane.proofs.edits.Corners.{left_of_triangle}
use Rattle.dcel_plane.specs.covering.Covering.{Covers, dot}
use Rattle.dcel_plane.proofs.covering.Along.{between_ends, dot_start, first_weight, long, none_first, one_point, second_weight}
use Rattle.dcel_plane.proofs.covering.Inside.{on_end, on_start, same_place}
use Rattle.dcel_plane.proofs.covering.Products.{positive_factor, zero_of}
use Rattle.dcel_plane.proofs.covering.Triangles.{meets, of_face, round, turned_triangle}
use Rattle.dcel_plane.proofs.hull.OneLine.{apart_down, inside_of}
use Rattle.dcel_plane.specs.location.Locating.{HasCorner, HasEdge, orient2d_along, LiesOn}

-- two points that differ, from a triangle that they are corners of
apart_corners : (a b c : Point) → TurnsLeft a b c → a.x ≡ b.x → a.y ≡ b.y → ⊥
apart_corners a b c turn ex ey =
    let none : orient2d_of c a b ≡ pos 0 = sym (same_place c a a b ex ey) ∙ on_start c a in
    let e = orient2d-turned c a b in
    omega (arith, ordered, none, e, turn)

-- on a side, and left of the other two: strictly between its ends; and back
module _ (a b c p : Point) (turn : TurnsLeft a b c) (on : orient2d_of a b p ≡ pos 0) where
  far : pos 0 <ℤ dot a a b
  far = long a b (apart_corners a b c turn)

  on_too : orient2d_of b a p ≡ pos 0
  on_too = let e = orient2d-first_swapped a b p in omega (arith, ordered, e, on)

  pub between_of : TurnsLeft b c p → TurnsLeft c a p → dot a b p <ℤ pos 0
  between_of bc ca =
      let is = between_ends a b c p far turn bc ca on on_too in
      let x = is.above in let y = is.below in let z = dot_start a b in
      apart_down b a a b p far (on_start b a) (on_end b a) on_too y (omega (arith, ordered, x, z))

  pub left_of_both : dot a b p <ℤ pos 0 → TurnsLeft b c p × TurnsLeft c a p
  left_of_both apart =
      let other : dot b a p <ℤ pos 0 = (let x = *ℤ_comm (a.x -ℤ p.x) (b.x -ℤ p.x) in let y = *ℤ_comm (a.y -ℤ p.y) (b.y -ℤ p.y) in omega (arith, ordered, apart, x, y)) in
      let is = inside_of b a p far on_too other in
      let x = is.0 in let y = is.1 in (
        weight (dot p a b) (orient2d_of a b c) (orient2d_of b c p) (dot a a b) (orient2d_of a b p *ℤ dot c a b) (first_weight a b c p)
            (none_first (orient2d_of a b p) (dot c a b) on) turn x far,
        weight (dot a a b -ℤ dot p a b) (orient2d_of a b c) (orient2d_of c a p) (dot a a b) (orient2d_of a b p *ℤ (dot a a b -ℤ dot c a b)) (second_weight a b c p)
            (none_first (orient2d_of a b p) (dot a a b -ℤ dot c a b) on) turn (omega (arith, ordered, y)) far,
      )
    where
      weight : (d t w l z : ℤ) → d *ℤ t ≡ (w *ℤ l) +ℤ z → z ≡ pos 0 → pos 0 <ℤ t → pos 0 <ℤ d → pos 0 <ℤ l → pos 0 <ℤ w
      weight d t w l z is zero ht hd hl = let q = times_positive d t hd ht in positive_factor w l hl (omega (arith, ordered, is, zero, q))

-- strictly inside of a triangle there is no edge of it
-- what lies between the ends of a half edge lies between those of its other half
pub lies_back : (at : ℕ → Point) (s : Shape) (v : Point) (k : ℕ) → LiesOn at s v k → LiesOn at s v (rev k)
lies_back at s v k lies =
    let a = at (origin_of s k) in
    let b = at (end_of s k) in
    record {
      on =
          subst (λ (i : ℕ). orient2d_of b (at (origin_of s i)) v ≡ pos 0) (sym (rev-rev k))
          (let o = orient2d-first_swapped a b v in let on = lies.on in omega (arith, ordered, o, on));
      between =
          subst (λ (i : ℕ). dot b (at (origin_of s i)) v <ℤ pos 0) (sym (rev-rev k))
          (let x = *ℤ_comm (a.x -ℤ v.x) (b.x -ℤ v.x) in let y = *ℤ_comm (a.y -ℤ v.y) (b.y -ℤ v.y) in let apart = lies.between in omega (arith, ordered, apart, x, y));
    }

pub not_both : (at : ℕ → Point) (s : Shape) (v : Point) (f : ℕ) → LiesInFace at s f v → ¬ HasEdge at s v f
not_both at s v f lies edge = let a = lies edge.side edge.live edge.face in let b = edge.lies.on in omega (arith, ordered, a, b)

module _ {V DE UE F : Type 0} (m : Mesh V DE UE F) (mesh : IsMesh m) (triangles : AllTriangles m.shape) (at : ℕ → Point) (plane : TrianglesTurnLeft at m.shape) (v : Point) where
  abbrev s : Shape
  s = m.shape

  abbrev p : ℕ → Point
  p h = at (origin_of s h)

  module _ (f x y z : ℕ) (tri : IsTriangleOf (map_of m.shape) f x y z) (inner : 0 < f) where
    left : TurnsLeft (p x) (p y) (p z)
    left = left_of_triangle at s mesh.sound plane f x y z inner tri

    to_y : origin_of s y ≡ end_of s x
    to_y = meets m mesh f x y z tri

    to_z : origin_of s z ≡ end_of s y
    to_z = meets m mesh f y z x (turned_triangle (map_of s) f x y z tri)

    to_x : origin_of s x ≡ end_of s z
    to_x = meets m mesh f z x y (turned_triangle (map_of s) f y z x (turned_triangle (map_of s) f x y z tri))

    left_of : (h b : ℕ) → b ≡ end_of s h → TurnsLeft (p h) (at b) v → IsLeftOf at s v h
    left_of h b is turns = subst (λ (j : ℕ). TurnsLeft (p h) (at j) v) is turns

    inside : TurnsLeft (p x) (p y) v → TurnsLeft (p y) (p z) v → TurnsLeft (p z) (p x) v → LiesInFace at s f v
    inside xy yz zx = of_face m mesh f x y z tri (IsLeftOf at s v) (left_of x (origin_of s y) to_y xy) (left_of y (origin_of s z) to_z yz) (left_of z (origin_of s x) to_x zx)

    on_side : orient2d_of (p x) (p y) v ≡ pos 0 → TurnsLeft (p y) (p z) v → TurnsLeft (p z) (p x) v → HasEdge at s v f
    on_side on yz zx = record {
      side = x;
      live = tri.live_x;
      face = tri.face_x;
      lies = record {
        on = subst (λ (j : ℕ). orient2d_of (p x) (at j) v ≡ pos 0) to_y on;
        between = subst (λ (j : ℕ). dot (p x) (at j) v <ℤ pos 0) to_y (between_of (p x) (p y) (p z) v left on yz zx);
      };
      across =
          λ j live_j on_j off.
          of_face m mesh f x y z tri (λ i. i ≢ x → IsLeftOf at s v i) (λ not. absurd (not refl)) (λ not. left_of y (origin_of s z) to_z yz) (λ not. left_of z (origin_of s x) to_x zx) j live_j
          (on_j ∙ tri.face_x) off;
    }

    at_second : orient2d_of (p x) (p y) v ≡ pos 0 → orient2d_of (p y) (p z) v ≡ pos 0 → HasCorner at s v f
    at_second xy yz =
        let a = orient2d-turned (p x) (p y) v in
        let c = orient2d-last_swapped (p y) (p z) v in
        record {
          corner = y;
          live = tri.live_y;
          face = tri.face_y;
          stands = one_point (p x) (p y) (p z) (p y) v left (omega (arith, ordered, a, xy)) (on_end (p y) v) (omega (arith, ordered, c, yz));
        }

  three_ways : (f x y z : ℕ) → IsTriangleOf (map_of m.shape) f x y z → 0 < f → Covers (p x) (p y) (p z) v → LiesInFace at s f v ⊎ (HasEdge at s v f ⊎ HasCorner at s v f)
  three_ways f x y z tri inner covers =
      let tri_y = turned_triangle (map_of s) f x y z tri in
      let tri_z = turned_triangle (map_of s) f y z x tri_y in
      by_lt_z (pos 0) (orient2d_of (p x) (p y) v)
      (λ xy. by_lt_z (pos 0) (orient2d_of (p y) (p z) v)
      (λ yz. by_lt_z (pos 0) (orient2d_of (p z) (p x) v)
      (λ zx. inl (inside f x y z tri inner xy yz zx))
      (λ no_zx. inr (inl (on_side f z x y tri_z inner (zero_of (orient2d_of (p z) (p x) v) covers.2 no_zx) xy yz))))
      (λ no_yz. by_lt_z (pos 0) (orient2d_of (p z) (p x) v)
      (λ zx. inr (inl (on_side f y z x tri_y inner (zero_of (orient2d_of (p y) (p z) v) covers.1 no_yz) zx xy)))
      (λ no_zx. inr (inr (at_second f y z x tri_y inner (zero_of (orient2d_of (p y) (p z) v) covers.1 no_yz) (zero_of (orient2d_of (p z) (p x) v) covers.2 no_zx))))))
      (λ no_xy. by_lt_z (pos 0) (orient2d_of (p y) (p z) v)
      (λ yz. by_lt_z (pos 0) (orient2d_of (p z) (p x) v)
      (λ zx. inr (inl (on_side f x y z tri inner (zero_of (orient2d_of (p x) (p y) v) covers.0 no_xy) yz zx)))
      (λ no_zx. inr (inr (at_second f z x y tri_z inner (zero_of (orient2d_of (p z) (p x) v) covers.2 no_zx) (zero_of (orient2d_of (p x) (p y) v) covers.0 no_xy)))))
      (λ no_yz. inr (inr (at_second f x y z tri inner (zero_of (orient2d_of (p x) (p y) v) covers.0 no_xy) (zero_of (orient2d_of (p y) (p z) v) covers.1 no_yz)))))

  -- by the tests on the sides
  covers_by : (h : ℕ) → (live : IsLive s h) → (inner : 0 < face_of s h) → pos 0 ≤ℤ orient2d_along at s h v → pos 0 ≤ℤ orient2d_along at s (next_of s h) v → pos 0 ≤ℤ orient2d_along at s (prev_of s h) v
      → Covers (p h) (p (next_of s h)) (p (prev_of s h)) v
  covers_by h live inner first second third =
      let tri = round m mesh triangles h live inner in
      let tri_y = turned_triangle (map_of s) (face_of s h) h (next_of s h) (prev_of s h) tri in
      let tri_z = turned_triangle (map_of s) (face_of s h) (next_of s h) (prev_of s h) h tri_y in (
        subst (λ (j : ℕ). pos 0 ≤ℤ orient2d_of (p h) (at j) v) (sym (meets m mesh (face_of s h) h (next_of s h) (prev_of s h) tri)) first,
        subst (λ (j : ℕ). pos 0 ≤ℤ orient2d_of (p (next_of s h)) (at j) v) (sym (meets m mesh (face_of s h) (next_of s h) (prev_of s h) h tri_y)) second,
        subst (λ (j : ℕ). pos 0 ≤ℤ orient2d_of (p (prev_of s h)) (at j) v) (sym (meets m mesh (face_of s h) (prev_of s h) h (next_of s h) tri_z)) third,
      )

  pub found_in : (h : ℕ) → IsLive s h → 0 < face_of s h → pos 0 ≤ℤ orient2d_along at s h v → pos 0 ≤ℤ orient2d_along at s (next_of s h) v → pos 0 ≤ℤ orient2d_along at s (prev_of s h) v
      → LiesInFace at s (face_of s h) v ⊎ (HasEdge at s v (face_of s h) ⊎ HasCorner at s v (face_of s h))
  found_in h live inner first second third =
      three_ways (face_of s h) h (next_of s h) (prev_of s h) (round m mesh triangles h live inner) inner (covers_by h live inner first second third)
