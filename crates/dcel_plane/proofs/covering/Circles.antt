-- Delaunay's condition on edges is one on all vertices, where triangles are disjoint: a place beside a vertex that lies inside a circle would lie
-- in two triangles.
use Rattle.std.proofs.Common.{◌≡◌, inl, inr, ℕ, ◌<◌, [], ◌∷◌, refl, sym, ap, ◌∙◌, subst, ℤ, pos, ◌+ℤ◌, ◌-ℤ◌, ◌*ℤ◌, ◌<ℤ◌, ◌≤ℤ◌, arith}
use Rattle.std.proofs.lemmas.Bool.{cases_eq}
use Rattle.std.proofs.Math.IntN.{*ℤ-zero}
use Rattle.dcel_fixed.specs.HalfEdges.{rev}
use Rattle.dcel_predicates.specs.Determinants.{orient2d_of, incircle_of}
use Rattle.dcel_predicates.specs.declared.point.Point.{Point}
use Rattle.dcel_predicates.proofs.Points.{incircle-turned}
use Rattle.dcel_predicates.proofs.Points.{orient2d-first_swapped, orient2d-turned}
use Rattle.dcel_predicates.proofs.Ring.{by_terms, minus, plus, times as by, var}
use Rattle.dcel_predicates.proofs.Signs.{ordered, square, times_positive}
use Rattle.dcel_predicates.proofs.Terms.{incircle, incircle_in, orient, orient_in, place, spot}
use Rattle.dcel_maps.specs.Shapes.{IsLive, IsMesh, Mesh, Shape, face_of, next_of, origin_of, prev_of}
use Rattle.dcel_maps.specs.Triangulations.{AllTriangles}
use Rattle.dcel_plane.specs.Plane.{IsLocallyDelaunay}
use Rattle.dcel_plane.specs.covering.Covering.{HasEmptyCircles, IsConvex, IsHull}
use Rattle.dcel_plane.specs.covering.Places.{IsStrictlyIn, Place, incircle_at, orient_at}
use Rattle.dcel_plane.proofs.covering.Faces.{corner_of, disjoint_at}
use Rattle.dcel_plane.proofs.covering.Inside.{as_place, closed_disjoint, middle, middle-first, middle-second, middle-third, not_right, nudged, nudged-is, on_end, on_start, other_way, place_of}
use Rattle.dcel_plane.proofs.covering.Powers.{less_first}
use Rattle.dcel_plane.proofs.covering.Products.{outweighs}
use Rattle.dcel_plane.proofs.covering.Reaching.{incircle_at-turned, none_holds}
use Rattle.dcel_plane.proofs.covering.Triangles.{at_word, left_at, round, same_face}

-- the powers of a place compared, by its weights in the second triangle
module _ (a b c x y z : Point) (p : Place) where
  powers_apart : (incircle_at a b c p *ℤ orient2d_of x y z) -ℤ (incircle_at x y z p *ℤ orient2d_of a b c)
      ≡ (p.w *ℤ p.w) *ℤ (((orient_at y z p *ℤ incircle_of a b c x) +ℤ (orient_at z x p *ℤ incircle_of a b c y)) +ℤ (orient_at x y p *ℤ incircle_of a b c z))
  powers_apart =
      by_terms (a.x ∷ a.y ∷ b.x ∷ b.y ∷ c.x ∷ c.y ∷ x.x ∷ x.y ∷ y.x ∷ y.y ∷ z.x ∷ z.y ∷ p.x ∷ p.y ∷ p.w ∷ [])
      (minus (by (incircle_in (spot 0) (spot 1) (spot 2) (place 12)) (orient (spot 3) (spot 4) (spot 5)))
      (by (incircle_in (spot 3) (spot 4) (spot 5) (place 12)) (orient (spot 0) (spot 1) (spot 2))))
      (by (by (place 12).w (place 12).w) (plus (plus (by (orient_in (spot 4) (spot 5) (place 12)) (incircle (spot 0) (spot 1) (spot 2) (spot 3)))
      (by (orient_in (spot 5) (spot 3) (place 12)) (incircle (spot 0) (spot 1) (spot 2) (spot 4)))) (by (orient_in (spot 3) (spot 4) (place 12)) (incircle (spot 0) (spot 1) (spot 2) (spot 5))))) refl

-- a place inside (v, y, z), so near v that its power at (a, b, c), inside whose circle v lies, is greater than at (v, y, z)
pub record IsBeside (a b c v y z : Point) : Type 0 where
  pub place : Place
  pub inside : IsStrictlyIn v y z place
  pub less : (incircle_at v y z place *ℤ orient2d_of a b c) <ℤ (incircle_at a b c place *ℤ orient2d_of v y z)

pub beside : (a b c v y z : Point) → pos 0 <ℤ orient2d_of v y z → pos 0 <ℤ incircle_of a b c v → IsBeside a b c v y z
beside a b c v y z turn inside =
    let j = incircle_of a b c v in
    let k = incircle_of a b c y in
    let l = incircle_of a b c z in
    with_weight (pos 1 +ℤ ((j +ℤ k +ℤ l) *ℤ (j +ℤ k +ℤ l))) (let q = square (j +ℤ k +ℤ l) in omega (arith, ordered, q)) (omega (arith, ordered))
  where
    with_weight : (n : ℤ) → pos 0 <ℤ n → ((incircle_of a b c v +ℤ incircle_of a b c y +ℤ incircle_of a b c z) *ℤ (incircle_of a b c v +ℤ incircle_of a b c y +ℤ incircle_of a b c z)) <ℤ n → IsBeside a b c v y z
    with_weight n more big =
        let t = orient2d_of v y z in
        let q = nudged n more (place_of v) (middle v y z) in
        let first : orient_at v y q ≡ t =
        nudged-is n more (place_of v) (middle v y z) v y ∙ sums n (orient_at v y (place_of v)) (orient_at v y (middle v y z)) t (as_place v y v ∙ on_end v y) (middle-first v y z) in
        let second : orient_at y z q ≡ (n *ℤ t) +ℤ t =
        nudged-is n more (place_of v) (middle v y z) y z ∙ ap (λ i. (n *ℤ i) +ℤ orient_at y z (middle v y z)) (as_place y z v ∙ orient2d-turned v y z) ∙ ap (λ i. (n *ℤ t) +ℤ i) (middle-second v y z) in
        let third : orient_at z v q ≡ t =
        nudged-is n more (place_of v) (middle v y z) z v ∙ sums n (orient_at z v (place_of v)) (orient_at z v (middle v y z)) t (as_place z v v ∙ on_start z v) (middle-third v y z) in
        let nt = times_positive n t more turn in
        let outweighed = outweighs n (incircle_of a b c v) (incircle_of a b c v +ℤ incircle_of a b c y +ℤ incircle_of a b c z) inside big in
        let bracket = times_positive t ((n *ℤ incircle_of a b c v) +ℤ (incircle_of a b c v +ℤ incircle_of a b c y +ℤ incircle_of a b c z)) turn outweighed in
        let weights = spread n t (incircle_of a b c v) (incircle_of a b c y) (incircle_of a b c z) in
        let whole : pos 0 <ℤ (((orient_at y z q *ℤ incircle_of a b c v) +ℤ (orient_at z v q *ℤ incircle_of a b c y)) +ℤ (orient_at v y q *ℤ incircle_of a b c z)) =
        known (orient_at y z q) (orient_at z v q) (orient_at v y q) n t (incircle_of a b c v) (incircle_of a b c y) (incircle_of a b c z) second third first (subst (λ i. pos 0 <ℤ i) weights bracket) in
        let square_w = times_positive q.w q.w q.above q.above in
        let apart = powers_apart a b c v y z q in
        let positive = times_positive (q.w *ℤ q.w) (((orient_at y z q *ℤ incircle_of a b c v) +ℤ (orient_at z v q *ℤ incircle_of a b c y)) +ℤ (orient_at v y q *ℤ incircle_of a b c z)) square_w whole in
        record {
          place = q;
          inside = (subst (λ i. pos 0 <ℤ i) (sym first) turn, subst (λ i. pos 0 <ℤ i) (sym second) (omega (arith, ordered, nt, turn)), subst (λ i. pos 0 <ℤ i) (sym third) turn);
          less = compare (incircle_at a b c q *ℤ orient2d_of v y z) (incircle_at v y z q *ℤ orient2d_of a b c)
              ((q.w *ℤ q.w) *ℤ (((orient_at y z q *ℤ incircle_of a b c v) +ℤ (orient_at z v q *ℤ incircle_of a b c y)) +ℤ (orient_at v y q *ℤ incircle_of a b c z))) apart positive;
        }
      where
        sums : (n i j t : ℤ) → i ≡ pos 0 → j ≡ t → (n *ℤ i) +ℤ j ≡ t
        sums n i j t ei ej = let e = ap (λ k. n *ℤ k) ei ∙ *ℤ-zero n in omega (arith, ordered, e, ej)

        spread : (n t j k l : ℤ) → t *ℤ ((n *ℤ j) +ℤ (j +ℤ k +ℤ l)) ≡ ((((n *ℤ t) +ℤ t) *ℤ j) +ℤ (t *ℤ k)) +ℤ (t *ℤ l)
        spread n t j k l =
            by_terms (n ∷ t ∷ j ∷ k ∷ l ∷ []) (by (var 1) (plus (by (var 0) (var 2)) (plus (plus (var 2) (var 3)) (var 4))))
            (plus (plus (by (plus (by (var 0) (var 1)) (var 1)) (var 2)) (by (var 1) (var 3))) (by (var 1) (var 4))) refl

        known : (g h i n t j k l : ℤ) → g ≡ (n *ℤ t) +ℤ t → h ≡ t → i ≡ t → pos 0 <ℤ (((((n *ℤ t) +ℤ t) *ℤ j) +ℤ (t *ℤ k)) +ℤ (t *ℤ l))
            → pos 0 <ℤ (((g *ℤ j) +ℤ (h *ℤ k)) +ℤ (i *ℤ l))
        known g h i n t j k l eg eh ei more =
            subst (λ u. pos 0 <ℤ (((u *ℤ j) +ℤ (h *ℤ k)) +ℤ (i *ℤ l))) (sym eg)
            (subst (λ u. pos 0 <ℤ (((((n *ℤ t) +ℤ t) *ℤ j) +ℤ (u *ℤ k)) +ℤ (i *ℤ l))) (sym eh)
            (subst (λ u. pos 0 <ℤ (((((n *ℤ t) +ℤ t) *ℤ j) +ℤ (t *ℤ k)) +ℤ (u *ℤ l))) (sym ei) more))

        compare : (x y z : ℤ) → x -ℤ y ≡ z → pos 0 <ℤ z → y <ℤ x
        compare x y z is more = omega (arith, ordered, is, more)

module _ {V DE UE F : Type 0} (m : Mesh V DE UE F) (mesh : IsMesh m) (triangles : AllTriangles m.shape) (at : ℕ → Point) (delaunay : IsLocallyDelaunay at m.shape)
    (convex : IsConvex at m.shape) (hull : IsHull at m.shape) where
  abbrev s : Shape
  s = m.shape

  abbrev p : ℕ → Point
  p h = at (origin_of s h)

  module _ (k : ℕ) (live_k : IsLive s k) (h : ℕ) (live : IsLive s h) (inner : 0 < face_of s h)
      (inside : pos 0 <ℤ incircle_of (p h) (p (next_of s h)) (p (prev_of s h)) (p k)) where
    nothing_inside : ⊥
    nothing_inside =
        let (i, live_i, inner_i, starts) = corner_of m mesh triangles at delaunay.plane convex hull k h live_k live inner in
        at_corner i live_i inner_i (subst (λ (j : ℕ). pos 0 <ℤ incircle_of (p h) (p (next_of s h)) (p (prev_of s h)) (at j)) (sym starts) inside)
      where
        le_same : (z : ℤ) → z ≤ℤ z
        le_same z = omega (arith, ordered)

        at_corner : (i : ℕ) → IsLive s i → 0 < face_of s i → pos 0 <ℤ incircle_of (p h) (p (next_of s h)) (p (prev_of s h)) (p i) → ⊥
        at_corner i live_i inner_i within =
            let a = p h in
            let b = p (next_of s h) in
            let c = p (prev_of s h) in
            let v = p i in
            let y = p (next_of s i) in
            let z = p (prev_of s i) in
            let left_h = left_at m mesh triangles at delaunay.plane h live inner in
            let left_i = left_at m mesh triangles at delaunay.plane i live_i inner_i in
            let tri = round m mesh triangles i live_i inner_i in
            let near = beside a b c v y z left_i within in
            let q = near.place in
            let n = near.inside in
            none_holds m mesh triangles at delaunay q
            (λ e live_e outer.
            let right : (j : ℕ) → IsLive s j → pos 0 ≤ℤ orient2d_of (p (rev e)) (p e) (p j) =
            λ j live_j. let r = (convex.supports e j live_e outer live_j).0 in let o = orient2d-first_swapped (p e) (p (rev e)) (p j) in omega (arith, ordered, r, o) in
            let there = not_right v y z (p (rev e)) (p e) q left_i (right i live_i) (right (next_of s i) tri.live_y) (right (prev_of s i) tri.live_z)
            (let n0 = n.0 in let n1 = n.1 in let n2 = n.2 in (omega (arith, ordered, n0), omega (arith, ordered, n1), omega (arith, ordered, n2))) in
            let o = other_way (p e) (p (rev e)) q in
            omega (arith, ordered, there, o))
            (incircle_at a b c q) (orient2d_of a b c) left_h
            (λ t live_t inner_t covers holds. elim (cases_eq (face_of s i) (face_of s t)) [
              | inl same ↦
                  let equal = same_face m mesh triangles (λ x' y' z'. incircle_at (p x') (p y') (p z') q *ℤ orient2d_of v y z ≡ incircle_at v y z q *ℤ orient2d_of (p x') (p y') (p z'))
                  (λ x' y' z' is.
                  ap (λ j. j *ℤ orient2d_of v y z) (incircle_at-turned (p x') (p y') (p z') q) ∙ is ∙ ap (λ j. incircle_at v y z q *ℤ j) (sym (orient2d-turned (p x') (p y') (p z'))))
                  i t live_i inner_i live_t inner_t same refl in
                  let less = less_first (incircle_at v y z q) (orient2d_of v y z) (incircle_at a b c q) (orient2d_of a b c)
                  (incircle_at (p t) (p (next_of s t)) (p (prev_of s t)) q) (orient2d_of (p t) (p (next_of s t)) (p (prev_of s t)))
                  left_i left_h (left_at m mesh triangles at delaunay.plane t live_t inner_t) near.less holds in
                  omega (arith, ordered, equal, less)
              | inr differ ↦
                  closed_disjoint v y z (p t) (p (next_of s t)) (p (prev_of s t)) (disjoint_at m mesh triangles at delaunay.plane convex hull i t live_i inner_i live_t inner_t differ)
                  (left_at m mesh triangles at delaunay.plane t live_t inner_t) q near.inside covers
            ])
            h live inner (le_same (incircle_at a b c q *ℤ orient2d_of a b c))

pub no_vertex_inside : {V DE UE F : Type 0} (m : Mesh V DE UE F) → IsMesh m → AllTriangles m.shape → (at : ℕ → Point) → IsLocallyDelaunay at m.shape → IsConvex at m.shape
    → IsHull at m.shape → HasEmptyCircles at m.shape
no_vertex_inside m mesh triangles at delaunay convex hull = record {
  empty = λ f x y z k inner is live_k.
      let s = m.shape in
      at_word m mesh triangles (λ a b c. ¬ (pos 0 <ℤ incircle_of (at (origin_of s a)) (at (origin_of s b)) (at (origin_of s c)) (at (origin_of s k))))
      (λ a b c not inside. not (subst (λ i. pos 0 <ℤ i) (incircle-turned (at (origin_of s a)) (at (origin_of s b)) (at (origin_of s c)) (at (origin_of s k))) inside))
      (λ h live inner_h inside. nothing_inside m mesh triangles at delaunay convex hull k live_k h live inner_h inside) f x y z inner is;
}
