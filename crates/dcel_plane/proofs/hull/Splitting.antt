-- A vertex put into an edge between two inner triangles keeps the hull.
use Rattle.std.proofs.Common.{◌≡◌, ◌≢◌, ◌⊎◌, inl, inr, ℕ, zero, suc, ◌+◌, ◌*◌, ◌<◌, List, [], ◌∷◌, slice_index, slice_set, refl, sym, ap, ◌∙◌, pos, ◌<ℤ◌, arith}
use Rattle.std.proofs.lemmas.Bool.{cases_eq}
use Rattle.std.proofs.lemmas.List.{get_or-set_other, get_or_append_left, length-set}
use Rattle.dcel_fixed.specs.HalfEdges.{rev}
use Rattle.dcel_fixed.proofs.Halves.{rev-rev}
use Rattle.dcel_predicates.specs.Determinants.{orient2d_of}
use Rattle.dcel_predicates.specs.declared.point.Point.{Point}
use Rattle.dcel_maps.specs.Around.{around}
use Rattle.dcel_maps.specs.Cyclic.{from_least}
use Rattle.dcel_maps.specs.Shapes.{IsLive, IsMesh, Mesh, Shape, end_of, face_of, map_of, origin_of, prev_of}
use Rattle.dcel_maps.specs.Triangulations.{AllTriangles}
use Rattle.dcel_maps.specs.Words.{word_of}
use Rattle.dcel_maps.specs.edits.Split.{edge_split}
use Rattle.dcel_maps.proofs.maps.Soundness.{rev_live}
use Rattle.dcel_maps.proofs.maps.Triangles.{IsTriangleOf}
use Rattle.dcel_plane.specs.Plane.{LiesAcross, TrianglesTurnLeft}
use Rattle.dcel_plane.specs.covering.Covering.{IsConvex, IsHull}
use Rattle.dcel_plane.proofs.covering.Alone.{IsWithin, far_left, lies_within, near_left, none_within}
use Rattle.dcel_plane.proofs.covering.Faces.{right_of_hull}
use Rattle.dcel_plane.proofs.covering.Triangles.{round}
use Rattle.dcel_plane.proofs.hull.Becomes.{old_or_new}
use Rattle.dcel_plane.proofs.hull.Keeping.{same_outer, KeepsOuter, LiesWithin, StartsOldOr, gains_convex, gains_hull}
use Rattle.dcel_plane.proofs.hull.Quads.{quad_left}
use Rattle.dcel_plane.proofs.edits.Splits.{split_more, split_old, split_start, split_words}

module _ {V DE UE F : Type 0} (m : Mesh V DE UE F) (mesh : IsMesh m) (triangles : AllTriangles m.shape) (at : ℕ → Point) (plane : TrianglesTurnLeft at m.shape)
    (convex : IsConvex at m.shape) (hull : IsHull at m.shape) (e v : ℕ) (live : IsLive m.shape e) (inner : 0 < face_of m.shape e) (inner_facing : 0 < face_of m.shape (rev e))
    (across : LiesAcross at m.shape e (at v)) (across_t : LiesAcross at m.shape (rev e) (at v)) (halves : List DE) (edges : List UE) (faces : List F) where
  open (around m.shape e) use {n, l, t, f, g, before as ep, after as en, t_before as tp, t_after as tn, end}

  abbrev s : Shape
  s = m.shape

  abbrev r : Shape
  r = (edge_split m e v halves edges faces).shape

  abbrev p : ℕ → Point
  p h = at (origin_of s h)

  live_t : IsLive s t
  live_t = rev_live (map_of s) e live

  near : IsTriangleOf (map_of s) f e en ep
  near = round m mesh triangles e live inner

  far : IsTriangleOf (map_of s) g t tn tp
  far = round m mesh triangles t live_t inner_facing

  inside : IsWithin m mesh triangles at plane convex hull (at v) e live inner inner_facing
  inside = lies_within m mesh triangles at plane convex hull (at v) e live inner inner_facing across across_t

  split_right : (h : ℕ) → IsLive s h → face_of s h ≡ 0 → orient2d_of (p h) (at (end_of s h)) (at v) <ℤ pos 0
  split_right =
      right_of_hull m mesh triangles at plane convex hull (at v) e live inner (λ h none_right off.
      quad_left (p e) (p t) (p ep) (p tp) (p (rev h)) (p h) (p (prev_of s (rev h))) (at v) (near_left m mesh triangles at plane convex hull (at v) e live inner inner_facing) (far_left m mesh triangles at plane convex hull (at v) e live inner inner_facing)
      (none_right e live) (none_right t live_t) (none_right ep near.live_z) (none_right tp far.live_z) off inside.bc inside.ca inside.ad inside.db)

  split_alone : (k : ℕ) → IsLive s k → (p k).x ≡ (at v).x → (p k).y ≡ (at v).y → ⊥
  split_alone = none_within m mesh triangles at plane convex hull (at v) e live inner inner_facing inside

  within : LiesWithin at s v
  within = record { right = split_right; alone = split_alone }

  old : (h : ℕ) → IsLive s h → h ≢ t → origin_of s h ≡ origin_of r h
  old = split_old m mesh e v live halves edges faces at

  more_at : (k i : ℕ) → k ≡ 2 * s.edges + i → origin_of r k ≡ slice_index (origin_of s tp ∷ v ∷ end ∷ v ∷ origin_of s ep ∷ v ∷ []) i
  more_at = split_more m mesh e v live halves edges faces at

  outer_word : word_of r.words 0 ≡ word_of s.words 0
  outer_word =
      let first = from_least (e ∷ (n + 5) ∷ ep ∷ []) in
      let second = from_least (t ∷ tn ∷ n ∷ []) in
      get_or_append_left (slice_set (slice_set s.words f first) g second) (split_words m mesh e v live halves edges faces at).more [] 0
      (let k = length-set (slice_set s.words f first) g second in let l = length-set s.words f first in let o = mesh.sized.outer in omega (arith, k, l, o))
      ∙ get_or-set_other (slice_set s.words f first) g 0 second [] (λ is. omega (arith, is, inner_facing))
      ∙ get_or-set_other s.words f 0 first [] (λ is. omega (arith, is, inner))

  module _ (result : IsMesh (edge_split m e v halves edges faces)) where
    split_outer : KeepsOuter s r
    split_outer h live_h on =
        let (was, outside) = same_outer s r mesh.sound result.sound outer_word h live_h on in
        record {
          live = was;
          on = outside;
          start = old h was (λ is. let k = ap (face_of s) is in omega (arith, k, outside, inner_facing));
          end =
              old (rev h) (rev_live (map_of s) h was)
              (λ is. let k = ap (face_of s) (sym (rev-rev h) ∙ ap rev is ∙ rev-rev e) in omega (arith, k, outside, inner));
        }

    new_start : (k i : ℕ) → k ≡ 2 * s.edges + i → i < 6 → (origin_of r k ≡ v) ⊎ ((j : ℕ) × IsLive s j × (origin_of s j ≡ origin_of r k))
    new_start k zero is few = inr (tp, far.live_z, sym (more_at k 0 is))
    new_start k (suc zero) is few = inl (more_at k 1 is)
    new_start k (suc (suc zero)) is few = inr (t, live_t, sym (more_at k 2 is))
    new_start k (suc (suc (suc zero))) is few = inl (more_at k 3 is)
    new_start k (suc (suc (suc (suc zero)))) is few = inr (ep, near.live_z, sym (more_at k 4 is))
    new_start k (suc (suc (suc (suc (suc zero))))) is few = inl (more_at k 5 is)
    new_start k (suc (suc (suc (suc (suc (suc i)))))) is few = absurd (omega (arith, few))

    split_starts : StartsOldOr s r v
    split_starts k live_k = elim (old_or_new s r 3 refl refl k live_k) [
      | inl was ↦ elim (cases_eq k t) [ inl is ↦ inl (ap (origin_of r) is ∙ split_start m mesh e v live halves edges faces at) | inr differs ↦ inr (k, was, old k was differs) ]
      | inr new ↦ new_start k new.0 new.1 new.2
    ]

    pub split_convex : IsConvex at r
    split_convex = gains_convex at s r v split_outer split_starts within convex

    pub split_hull : IsHull at r
    split_hull = gains_hull at s r v split_outer split_starts within hull
