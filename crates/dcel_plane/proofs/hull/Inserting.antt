-- A vertex put into a triangle keeps the hull.
use Rattle.std.proofs.Common.{◌≡◌, ◌⊎◌, inl, inr, ℕ, zero, suc, ◌+◌, ◌*◌, ◌<◌, List, [], ◌∷◌, slice_set, refl, sym, ◌∙◌, subst, pos, ◌<ℤ◌, ◌≤ℤ◌, arith, ◌+ℤ◌}
use Rattle.std.proofs.lemmas.List.{get_or-set_other, get_or_append_left, length-set}
use Rattle.std.proofs.lemmas.Int.{by_lt_z}
use Rattle.dcel_fixed.specs.HalfEdges.{rev}
use Rattle.dcel_predicates.specs.Determinants.{orient2d_of}
use Rattle.dcel_predicates.specs.declared.point.Point.{Point}
use Rattle.dcel_predicates.proofs.Signs.{ordered}
use Rattle.dcel_maps.specs.Conditions.{IsTriangle}
use Rattle.dcel_maps.specs.Shapes.{IsLive, IsMesh, Mesh, Shape, adjacent_edge_of, end_of, face_of, map_of, next_of, origin_of, prev_of}
use Rattle.dcel_maps.specs.Triangulations.{AllTriangles}
use Rattle.dcel_maps.specs.Words.{word_of}
use Rattle.dcel_maps.specs.edits.Triangle.{vertex_inserted}
use Rattle.dcel_maps.proofs.maps.Soundness.{rev_live}
use Rattle.dcel_plane.specs.Plane.{LiesInFace, TrianglesTurnLeft, TurnsLeft}
use Rattle.dcel_plane.proofs.edits.Inserted.{first_side, old, origins, second_side, third_side, was, words, written}
use Rattle.dcel_plane.proofs.edits.Written.{origin_more}
use Rattle.dcel_plane.specs.covering.Covering.{IsConvex, IsHull}
use Rattle.dcel_plane.specs.covering.Places.{orient_at}
use Rattle.dcel_plane.proofs.covering.Alone.{none_inside}
use Rattle.dcel_plane.proofs.covering.Faces.{right_of_hull}
use Rattle.dcel_plane.proofs.covering.Inside.{as_place, left, place_of, weighed}
use Rattle.dcel_plane.proofs.covering.Products.{no_weights}
use Rattle.dcel_plane.proofs.covering.Triangles.{left_at}
use Rattle.dcel_plane.proofs.hull.Becomes.{old_or_new}
use Rattle.dcel_plane.proofs.hull.Keeping.{same_outer, KeepsOuter, LiesWithin, StartsOldOr, gains_convex, gains_hull}

-- the line from e to f has no corner of (a, b, c) on its right, and g on its left: then one of the corners isn't on it, and q inside the
-- triangle lies on its left
module _ (a b c e f : Point) (turn : pos 0 <ℤ orient2d_of a b c) (at_a : pos 0 ≤ℤ orient2d_of e f a) (at_b : pos 0 ≤ℤ orient2d_of e f b) (at_c : pos 0 ≤ℤ orient2d_of e f c) where
  pub not_all_on : (g : Point) → pos 0 <ℤ orient2d_of e f g → pos 0 <ℤ (orient2d_of e f a +ℤ orient2d_of e f b +ℤ orient2d_of e f c)
  not_all_on g off =
      by_lt_z (pos 0) (orient2d_of e f a +ℤ orient2d_of e f b +ℤ orient2d_of e f c) (λ is. is)
      (λ none. absurd
      (no_weights (orient_at e f (place_of g)) (orient2d_of a b c) (orient_at b c (place_of g)) (orient_at c a (place_of g)) (orient_at a b (place_of g))
      (orient2d_of e f a) (orient2d_of e f b) (orient2d_of e f c) (weighed a b c e f (place_of g)) turn
      (subst (λ z. pos 0 <ℤ z) (sym (as_place e f g)) off) (omega (arith, ordered)) (omega (arith, ordered)) (omega (arith, ordered))))

  pub inserted_left : (g q : Point) → pos 0 <ℤ orient2d_of e f g → pos 0 <ℤ orient2d_of a b q → pos 0 <ℤ orient2d_of b c q → pos 0 <ℤ orient2d_of c a q → pos 0 <ℤ orient2d_of e f q
  inserted_left g q off ab bc ca =
      subst (λ z. pos 0 <ℤ z) (as_place e f q)
      (left a b c e f (place_of q) turn at_a at_b at_c (not_all_on g off)
      (subst (λ i. pos 0 <ℤ i) (sym (as_place a b q)) ab, subst (λ i. pos 0 <ℤ i) (sym (as_place b c q)) bc, subst (λ i. pos 0 <ℤ i) (sym (as_place c a q)) ca))

module _ {V DE UE F : Type 0} (m : Mesh V DE UE F) (mesh : IsMesh m) (triangles : AllTriangles m.shape) (at : ℕ → Point) (plane : TrianglesTurnLeft at m.shape)
    (convex : IsConvex at m.shape) (hull : IsHull at m.shape) (v f : ℕ) (inner : 0 < f) (triangle : IsTriangle m.shape f) (lies : LiesInFace at m.shape f (at v))
    (halves : List DE) (edges : List UE) (faces : List F) where
  abbrev s : Shape
  s = m.shape

  abbrev t : Shape
  t = (vertex_inserted m v f halves edges faces).shape

  abbrev p : ℕ → Point
  p h = at (origin_of s h)

  abbrev a : ℕ
  a = adjacent_edge_of m f

  abbrev b : ℕ
  b = next_of s a

  abbrev c : ℕ
  c = prev_of s a

  inner_a : 0 < face_of s a
  inner_a = let e = (was m mesh v f triangle halves edges faces at).face_x in omega (arith, e, inner)

  live_a : IsLive s a
  live_a = (was m mesh v f triangle halves edges faces at).live_x

  ab : TurnsLeft (p a) (p b) (at v)
  ab = first_side m mesh v f triangle halves edges faces at lies

  bc : TurnsLeft (p b) (p c) (at v)
  bc = second_side m mesh v f triangle halves edges faces at lies

  ca : TurnsLeft (p c) (p a) (at v)
  ca = third_side m mesh v f triangle halves edges faces at lies

  inserted_right : (h : ℕ) → IsLive s h → face_of s h ≡ 0 → orient2d_of (p h) (at (end_of s h)) (at v) <ℤ pos 0
  inserted_right =
      right_of_hull m mesh triangles at plane convex hull (at v) a live_a inner_a (λ h none_right off.
      let tri = was m mesh v f triangle halves edges faces at in
      inserted_left (p a) (p b) (p c) (p (rev h)) (p h) (left_at m mesh triangles at plane a live_a inner_a)
      (none_right a live_a) (none_right b tri.live_y) (none_right c tri.live_z) (p (prev_of s (rev h))) (at v) off ab bc ca)

  inserted_alone : (k : ℕ) → IsLive s k → (p k).x ≡ (at v).x → (p k).y ≡ (at v).y → ⊥
  inserted_alone = none_inside m mesh triangles at plane convex hull (at v) a live_a inner_a ab bc ca

  within : LiesWithin at s v
  within = record { right = inserted_right; alone = inserted_alone }

  outer_word : word_of t.words 0 ≡ word_of s.words 0
  outer_word =
      let n = 2 * s.edges in
      let w = a ∷ n ∷ (n + 5) ∷ [] in
      get_or_append_left (slice_set s.words f w) ((b ∷ (n + 2) ∷ (n + 1) ∷ []) ∷ (c ∷ (n + 4) ∷ (n + 3) ∷ []) ∷ []) [] 0
      (let l = length-set s.words f w in let o = mesh.sized.outer in omega (arith, l, o))
      ∙ get_or-set_other s.words f 0 w [] (λ is. omega (arith, is, inner))

  module _ (result : IsMesh (vertex_inserted m v f halves edges faces)) where
    inserted_outer : KeepsOuter s t
    inserted_outer h live on =
        let (live_h, outside) = same_outer s t mesh.sound result.sound outer_word h live on in
        record {
          live = live_h;
          on = outside;
          start = old m mesh v f triangle halves edges faces at h live_h;
          end = old m mesh v f triangle halves edges faces at (rev h) (rev_live (map_of s) h live_h);
        }

    new_start : (k i : ℕ) → k ≡ 2 * s.edges + i → i < 6 → (origin_of t k ≡ v) ⊎ ((j : ℕ) × IsLive s j × (origin_of s j ≡ origin_of t k))
    new_start k zero is few =
        inr (b, (was m mesh v f triangle halves edges faces at).live_y, sym (origin_more at s t (words m mesh v f triangle halves edges faces at) (origins m mesh v f triangle halves edges faces at) (written m mesh v f triangle halves edges faces at) mesh.sound k 0 is))
    new_start k (suc zero) is few = inl (origin_more at s t (words m mesh v f triangle halves edges faces at) (origins m mesh v f triangle halves edges faces at) (written m mesh v f triangle halves edges faces at) mesh.sound k 1 is)
    new_start k (suc (suc zero)) is few =
        inr (c, (was m mesh v f triangle halves edges faces at).live_z, sym (origin_more at s t (words m mesh v f triangle halves edges faces at) (origins m mesh v f triangle halves edges faces at) (written m mesh v f triangle halves edges faces at) mesh.sound k 2 is))
    new_start k (suc (suc (suc zero))) is few = inl (origin_more at s t (words m mesh v f triangle halves edges faces at) (origins m mesh v f triangle halves edges faces at) (written m mesh v f triangle halves edges faces at) mesh.sound k 3 is)
    new_start k (suc (suc (suc (suc zero)))) is few =
        inr (a, live_a, sym (origin_more at s t (words m mesh v f triangle halves edges faces at) (origins m mesh v f triangle halves edges faces at) (written m mesh v f triangle halves edges faces at) mesh.sound k 4 is))
    new_start k (suc (suc (suc (suc (suc zero))))) is few = inl (origin_more at s t (words m mesh v f triangle halves edges faces at) (origins m mesh v f triangle halves edges faces at) (written m mesh v f triangle halves edges faces at) mesh.sound k 5 is)
    new_start k (suc (suc (suc (suc (suc (suc i)))))) is few = absurd (omega (arith, few))

    inserted_starts : StartsOldOr s t v
    inserted_starts k live = elim (old_or_new s t 3 refl refl k live) [
      | inl live_k ↦ inr (k, live_k, old m mesh v f triangle halves edges faces at k live_k)
      | inr new ↦ new_start k new.0 new.1 new.2
    ]

    pub inserted_convex : IsConvex at t
    inserted_convex = gains_convex at s t v inserted_outer inserted_starts within convex

    pub inserted_hull : IsHull at t
    inserted_hull = gains_hull at s t v inserted_outer inserted_starts within hull
