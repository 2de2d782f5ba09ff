-- A walk along a segment, from one half edge that it crosses to the next: those passed make a channel once the segment ends.
use Rattle.std.proofs.Common.{◌≡◌, ℕ, ◌*◌, ◌<◌, ◌≤◌, List, [], ◌∷◌, ◌++◌, length, inl, inr, refl, sym, ap, subst, pos, ◌<ℤ◌, eq-zero-or-pos, arith}
use Rattle.std.proofs.lemmas.Bool.{cases_eq}
use Rattle.dcel_fixed.specs.HalfEdges.{rev}
use Rattle.dcel_predicates.specs.declared.point.Point.{Point}
use Rattle.dcel_maps.specs.Shapes.{IsLive, IsMesh, Mesh, Shape, edge_is_live, face_of, next_of, prev_of}
use Rattle.dcel_maps.specs.Triangulations.{AllTriangles}
use Rattle.dcel_maps.specs.Words.{count_of}
use Rattle.dcel_maps.proofs.walks.Lengths.{count-le}
use Rattle.dcel_maps.proofs.walks.Returning.{length-live}
use Rattle.dcel_maps.proofs.words.Counts.{count-append, count-equal, count-other}
use Rattle.dcel_plane.specs.Plane.{TrianglesTurnLeft}
use Rattle.dcel_plane.specs.covering.Covering.{IsConvex, IsHull}
use Rattle.dcel_plane.specs.segments.Segments.{AreEnds, BeginsAt, Crosses, IsChannel, IsCorner, LeadsThrough, corner_beyond, orient2d_by}
use Rattle.dcel_plane.proofs.segments.Channels.{all_cross, leads_on}
use Rattle.dcel_plane.proofs.segments.Gates.{far, inner_near}
use Rattle.dcel_plane.proofs.segments.Onward.{IsFurther, Next, further_along, further_itself, left_is, over_left, over_right, right_is}

module _ {V DE UE F : Type 0} (m : Mesh V DE UE F) (mesh : IsMesh m) (triangles : AllTriangles m.shape) (at : ℕ → Point) (plane : TrianglesTurnLeft at m.shape)
    (convex : IsConvex at m.shape) (hull : IsHull at m.shape) (v w : ℕ) (ends : AreEnds m.shape v w) where
  abbrev s : Shape
  s = m.shape

  abbrev Further : ℕ → ℕ → Type 0
  Further = IsFurther m mesh triangles at plane convex hull v w ends

  -- the walk has passed these, and comes to h
  pub record Comes (passed : List ℕ) (h : ℕ) : Type 0 where
    pub first : ℕ
    pub inner : 0 < first
    pub start : IsCorner s first v
    pub leads : LeadsThrough at s v w first passed (face_of s h)
    pub crosses : Crosses at s v w h
    pub before : (j : ℕ) → 0 < count_of j passed → Further j h
    pub once : (j : ℕ) → count_of j passed ≤ 1

  pub comes_first : (h : ℕ) → BeginsAt at s v w h → Comes [] h
  comes_first h begins = record {
    first = face_of s h;
    inner = inner_near m mesh triangles at plane convex v w ends h begins.crosses;
    start = begins.start;
    leads = refl;
    crosses = begins.crosses;
    before = λ j found. absurd (omega (arith, found));
    once = λ j. omega arith;
  }

  module _ (passed : List ℕ) (h : ℕ) (comes : Comes passed h) where
    -- h itself is none of those passed
    not_passed : count_of h passed ≡ 0
    not_passed = elim (eq-zero-or-pos (count_of h passed)) [
      | inl none ↦ none
      | inr some ↦ absurd (further_itself m mesh triangles at plane convex hull v w ends h (comes.before h some))
    ]

    pub one_more : (j : ℕ) → count_of j (passed ++ (h ∷ [])) ≤ 1
    one_more j = elim (cases_eq j h) [
      | inl is ↦
          (let a = count-append j passed (h ∷ []) in
          let b = count-equal j h [] is in
          let c = ap (λ (i : ℕ). count_of i passed) is in
          let n = not_passed in omega (arith, a, b, c, n))
      | inr not ↦ (let a = count-append j passed (h ∷ []) in let b = count-other j h [] not in let o = comes.once j in omega (arith, a, b, o))
    ]

    leads_further : (g : ℕ) → face_of s (rev h) ≡ g → LeadsThrough at s v w comes.first (passed ++ (h ∷ [])) g
    leads_further g is = leads_on at s v w comes.first (face_of s h) g passed (h ∷ []) comes.leads (comes.crosses, refl, is)

    -- no longer than there are half edges
    pub few : length (passed ++ (h ∷ [])) ≤ 2 * s.edges
    few =
        let live : (j : ℕ) → 0 < count_of j (passed ++ (h ∷ [])) → IsLive s j = λ j found.
        (all_cross at s v w comes.first (face_of s (rev h)) (passed ++ (h ∷ [])) (leads_further (face_of s (rev h)) refl) j found).live in
        omega (arith, length-live s (passed ++ (h ∷ [])) one_more live, count-le (edge_is_live s) s.edges)

    pub comes_next : (next : Next m mesh triangles at plane convex hull v w ends h comes.crosses) → Comes (passed ++ (h ∷ [])) next.half
    comes_next next = record {
      first = comes.first;
      inner = comes.inner;
      start = comes.start;
      leads = leads_further (face_of s next.half) (sym next.face);
      crosses = next.crosses_too;
      before = λ j found. elim (cases_eq j h) [
        | inl is ↦ subst (λ (i : ℕ). Further i next.half) (sym is) next.further
        | inr not ↦
            let among : 0 < count_of j passed = (let a = count-append j passed (h ∷ []) in let b = count-other j h [] not in omega (arith, a, b, found)) in
            further_along m mesh triangles at plane convex hull v w ends j h next.half
            (all_cross at s v w comes.first (face_of s h) passed comes.leads j among) comes.crosses next.crosses_too (comes.before j among) next.further
      ];
      once = one_more;
    }

    pub comes_right : pos 0 <ℤ orient2d_by at v w (corner_beyond s h) → Comes (passed ++ (h ∷ [])) (next_of s (rev h))
    comes_right side =
        subst (λ (i : ℕ). Comes (passed ++ (h ∷ [])) i) (right_is m mesh triangles at plane convex hull v w ends h comes.crosses side)
        (comes_next (over_right m mesh triangles at plane convex hull v w ends h comes.crosses side))

    pub comes_left : orient2d_by at v w (corner_beyond s h) <ℤ pos 0 → Comes (passed ++ (h ∷ [])) (prev_of s (rev h))
    comes_left side =
        subst (λ (i : ℕ). Comes (passed ++ (h ∷ [])) i) (left_is m mesh triangles at plane convex hull v w ends h comes.crosses side)
        (comes_next (over_left m mesh triangles at plane convex hull v w ends h comes.crosses side))

    pub comes_to_end : corner_beyond s h ≡ w → IsChannel at s v w (passed ++ (h ∷ []))
    comes_to_end is =
        let tri = far m mesh triangles at plane convex v w ends h comes.crosses in record {
          first = comes.first;
          last = face_of s (rev h);
          inner = comes.inner;
          start = comes.start;
          end = record { side = prev_of s (rev h); live = tri.live_z; on = tri.face_z; from = is };
          leads = leads_further (face_of s (rev h)) refl;
          once = one_more;
        }
