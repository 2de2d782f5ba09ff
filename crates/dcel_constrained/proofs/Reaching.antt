-- A segment followed from one vertex on it to the next, as long as it crosses no marked edge.
use Rattle.std.proofs.Common.{◌≡◌, ◌≢◌, ◌⊎◌, ◌↔◌, inl, inr, ℕ, ◌+◌, ◌*◌, ◌/◌, ◌<◌, List, [], ◌∷◌, ◌++◌, length, refl, sym, ap, ◌∙◌, subst, pos, ◌<ℤ◌, arith}
use Rattle.std.proofs.lemmas.Bool.{cases_eq}
use Rattle.std.proofs.lemmas.Int.{by_lt_z}
use Rattle.std.proofs.lemmas.List.{length-append}
use Rattle.dcel_fixed.specs.HalfEdges.{rev}
use Rattle.dcel_predicates.specs.declared.point.Point.{Point}
use Rattle.dcel_predicates.specs.Determinants.{orient2d_of}
use Rattle.dcel_predicates.proofs.Ring.{by_terms, num}
use Rattle.dcel_predicates.proofs.Signs.{ordered}
use Rattle.dcel_predicates.proofs.Terms.{orient, spot}
use Rattle.dcel_maps.specs.Shapes.{Mesh, Shape, end_of, map_of, next_of, prev_of}
use Rattle.dcel_maps.specs.Words.{count_of}
use Rattle.dcel_maps.proofs.maps.Soundness.{rev_live}
use Rattle.dcel_maps.proofs.words.Counts.{count-append, count-other}
use Rattle.dcel_plane.specs.Plane.{point_at}
use Rattle.dcel_plane.specs.covering.Covering.{dot}
use Rattle.dcel_plane.specs.segments.Segments.{AreEnds, BeginsAt, IsChannel, LeadsAlong, TriangulatesItsHull, corner_beyond, orient2d_by}
use Rattle.dcel_plane.proofs.segments.Gates.{far}
use Rattle.dcel_plane.proofs.segments.Listing.{stands_in}
use Rattle.dcel_plane.proofs.segments.Onward.{on_line}
use Rattle.dcel_plane.proofs.segments.Walking.{Comes, comes_first, comes_left, comes_right, comes_to_end, few}
use Rattle.dcel_regions.specs.Marked.{IsMarked}
use Rattle.dcel_regions.specs.declared.mark.Mark.{Mark}
use Rattle.dcel_constrained.specs.Constraints.{IsFreeWay}
use Rattle.dcel_constrained.specs.Meeting.{LiesBetweenEnds}
use Rattle.dcel_constrained.specs.Reached.{ReachesFreely}
use Rattle.dcel_constrained.proofs.Between.{crosses_later, leads_ahead, shorter_end, shorter_later, span}
use Rattle.dcel_constrained.proofs.Passed.{channel_clear, comes_to_vertex}
use Rattle.dcel_constrained.proofs.Passing.{crosses_one, edges_cross_nothing, vertices_apart}

module _ {DE F : Type 0} (m : Mesh Point DE Mark F) (planar : TriangulatesItsHull (point_at m) m) where
  abbrev s : Shape
  s = m.shape

  abbrev at : ℕ → Point
  at = point_at m

  -- along an edge
  pub reaches_along : (v w y : ℕ) → AreEnds s v w → (k : ℕ) × LeadsAlong at s v w k × (end_of s k ≡ y) → ReachesFreely m v w y
  reaches_along v w y ends way = record {
    there = leads_ahead at s v w y way.0 way.1 way.2;
    ends = record {
      i = rev way.0;
      live_i = rev_live (map_of s) way.0 way.1.live;
      from_i = way.2;
      j = ends.j;
      live_j = ends.live_j;
      from_j = ends.from_j;
    };
    free = λ h crosses. absurd (edges_cross_nothing m at planar v y way.0 way.1.live way.1.from way.2 h crosses);
  }

  -- through a list of half edges that aren't marked
  pub through_list : (v y : ℕ) (list : List ℕ) → list ≢ [] → IsChannel at s v y list → ((h : ℕ) → 0 < count_of h list → ¬ IsMarked m (h / 2)) → IsFreeWay m v y
  through_list v y [] some channel free h crosses = absurd (some refl)
  through_list v y (a ∷ rest) some channel free h crosses =
      free h
      (stands_in m planar.mesh planar.triangles at planar.plane planar.convex planar.hull v y (channel_clear m at planar v y a rest channel) (a ∷ rest) channel some h crosses)

  module _ (v w : ℕ) (ends : AreEnds m.shape v w) where
    -- a walk that has passed some, none of which is marked, and comes to h
    pub record IsFreeWalk (h steps : ℕ) : Type 0 where
      pub passed : List ℕ
      pub comes : Comes m planar.mesh planar.triangles at planar.plane planar.convex planar.hull v w ends passed h
      pub free : (j : ℕ) → 0 < count_of j passed → ¬ IsMarked m (j / 2)
      pub many : length passed ≡ steps

    pub walk_begins : (h : ℕ) → BeginsAt at s v w h → IsFreeWalk h 0
    walk_begins h begins = record {
      passed = [];
      comes = comes_first m planar.mesh planar.triangles at planar.plane planar.convex planar.hull v w ends h begins;
      free = λ j found. absurd (omega (arith, found));
      many = refl;
    }

    module _ (h steps : ℕ) (walk : IsFreeWalk h steps) where
      pub walk_short : steps < 2 * s.edges
      walk_short =
          let all = few m planar.mesh planar.triangles at planar.plane planar.convex planar.hull v w ends walk.passed h walk.comes in
          let long = length-append walk.passed (h ∷ []) in
          let many = walk.many in
          omega (arith, all, long, many)

      pub walk_blocked : IsMarked m (h / 2) → ¬ IsFreeWay m v w
      walk_blocked marked free = free h walk.comes.crosses marked

      module _ (unmarked : ¬ IsMarked m (h / 2)) where
        none_marked : (j : ℕ) → 0 < count_of j (walk.passed ++ (h ∷ [])) → ¬ IsMarked m (j / 2)
        none_marked j found = elim (cases_eq j h) [
          | inl is ↦ subst (λ (i : ℕ). ¬ IsMarked m (i / 2)) (sym is) unmarked
          | inr not ↦ walk.free j (let a = count-append j walk.passed (h ∷ []) in let b = count-other j h [] not in omega (arith, a, b, found))
        ]

        goes_on : (k : ℕ) → Comes m planar.mesh planar.triangles at planar.plane planar.convex planar.hull v w ends (walk.passed ++ (h ∷ [])) k → IsFreeWalk k (steps + 1)
        goes_on k comes = record {
          passed = walk.passed ++ (h ∷ []);
          comes = comes;
          free = none_marked;
          many = (let a = length-append walk.passed (h ∷ []) in let c = walk.many in omega (arith, a, c));
        }

        pub walk_goes_on : (k : ℕ) → ((pos 0 <ℤ orient2d_by at v w (corner_beyond s h)) × (k ≡ next_of s (rev h))) ⊎ ((orient2d_by at v w (corner_beyond s h) <ℤ pos 0) × (k ≡ prev_of s (rev h)))
            → IsFreeWalk k (steps + 1)
        walk_goes_on k (inl right) =
            subst (λ (i : ℕ). IsFreeWalk i (steps + 1)) (sym right.1)
            (goes_on (next_of s (rev h)) (comes_right m planar.mesh planar.triangles at planar.plane planar.convex planar.hull v w ends walk.passed h walk.comes right.0))
        walk_goes_on k (inr left) =
            subst (λ (i : ℕ). IsFreeWalk i (steps + 1)) (sym left.1)
            (goes_on (prev_of s (rev h)) (comes_left m planar.mesh planar.triangles at planar.plane planar.convex planar.hull v w ends walk.passed h walk.comes left.0))

        some : (list : List ℕ) → list ++ (h ∷ []) ≢ []
        some list is = (let a = ap length is in let b = length-append list (h ∷ []) in omega (arith, a, b))

        pub walk_reaches : (y : ℕ) → (orient2d_by at v w (corner_beyond s h) ≡ pos 0) × (y ≡ corner_beyond s h) → ReachesFreely m v w y
        walk_reaches y met =
            let tri = far m planar.mesh planar.triangles at planar.plane planar.convex v w ends h walk.comes.crosses in
            let ends_there : AreEnds s y w = record {
              i = prev_of s (rev h);
              live_i = tri.live_z;
              from_i = sym met.1;
              j = ends.j;
              live_j = ends.live_j;
              from_j = ends.from_j;
            } in
            by_lt_z (dot (at v) (at w) (at (corner_beyond s h))) (pos 0)
            (λ less.
            let lies : LiesBetweenEnds at v w y = subst (λ (i : ℕ). LiesBetweenEnds at v w i) (sym met.1) (record { on = met.0; inside = less }) in
            record {
              there = inr lies;
              ends = ends_there;
              free =
                  through_list v y (walk.passed ++ (h ∷ [])) (some walk.passed)
                  (comes_to_vertex m at planar v w ends y lies walk.passed h walk.comes (sym met.1)) none_marked;
            })
            (λ not.
            let is : w ≡ y = on_line m planar.mesh planar.triangles at planar.plane planar.convex planar.hull v w ends h walk.comes.crosses met.0 not ∙ sym met.1 in
            record {
              there = inl (sym is);
              ends = ends_there;
              free =
                  subst (λ (i : ℕ). IsFreeWay m v i) is
                  (through_list v w (walk.passed ++ (h ∷ [])) (some walk.passed)
                  (comes_to_end m planar.mesh planar.triangles at planar.plane planar.convex planar.hull v w ends walk.passed h walk.comes (sym met.1 ∙ sym is)) none_marked);
            })

  -- nothing crosses where both ends are one
  pub free_there : (w : ℕ) → IsFreeWay m w w
  free_there w h crosses =
      absurd (let l = crosses.left in let z = flat (at w) (at (end_of s h)) in omega (arith, ordered, l, z))
    where
      flat : (a b : Point) → orient2d_of a a b ≡ pos 0
      flat a b = by_terms (a.x ∷ a.y ∷ b.x ∷ b.y ∷ []) (orient (spot 0) (spot 0) (spot 1)) (num (pos 0)) refl

  -- the rest of the way is free if and only if the way is
  module _ (v w y : ℕ) (differ : v ≢ w) (ends : AreEnds m.shape v w) (reaches : ReachesFreely m v w y) where
    pub rest_free : IsFreeWay m v w ↔ IsFreeWay m y w
    rest_free = elim reaches.there [
      | inl is ↦ (
        λ free. subst (λ (i : ℕ). IsFreeWay m i w) (sym is) (free_there w),
        λ free. subst (λ (i : ℕ). IsFreeWay m v i) is reaches.free,
      )
      | inr lies ↦ (
        λ free h c. free h (crosses_later at v w y lies s h c),
        λ free h c. elim (crosses_one m at planar v w y reaches.ends.i ends lies reaches.ends.live_i reaches.ends.from_i h c) [
          | inl before ↦ reaches.free h before
          | inr after ↦ free h after
        ],
      )
    ]

    pub rest_shorter : span at y w < span at v w
    rest_shorter = elim reaches.there [
      | inl is ↦ subst (λ (i : ℕ). span at i w < span at v w) (sym is) (shorter_end at v w (vertices_apart m at planar v w differ ends))
      | inr lies ↦ shorter_later at v w y lies
    ]

-- a walk, with what it rests on
pub record IsWalk {DE F : Type 0} (m : Mesh Point DE Mark F) (v w h steps : ℕ) : Type 0 where
  pub planar : TriangulatesItsHull (point_at m) m
  pub ends : AreEnds m.shape v w
  pub walk : IsFreeWalk m planar v w ends h steps

-- the way from v to w followed as far as x
pub record IsFollowed {DE F : Type 0} (m : Mesh Point DE Mark F) (v w x : ℕ) : Type 0 where
  pub ends : AreEnds m.shape x w
  pub same : IsFreeWay m v w ↔ IsFreeWay m x w

module _ {DE F : Type 0} (m : Mesh Point DE Mark F) (planar : TriangulatesItsHull (point_at m) m) (v w : ℕ) where
  pub follow_begins : AreEnds m.shape v w → IsFollowed m v w v
  follow_begins ends = record { ends = ends; same = (λ free. free, λ free. free) }

  module _ (x : ℕ) (followed : IsFollowed m v w x) where
    pub follow_goes_on : x ≢ w → (y : ℕ) → ReachesFreely m x w y → IsFollowed m v w y
    follow_goes_on differ y reaches =
        let rest = rest_free m planar x w y differ followed.ends reaches in
        record { ends = reaches.ends; same = (λ free. rest.0 (followed.same.0 free), λ free. followed.same.1 (rest.1 free)) }

    pub follow_shorter : x ≢ w → (y : ℕ) → ReachesFreely m x w y → span (point_at m) y w < span (point_at m) x w
    follow_shorter differ y reaches = rest_shorter m planar x w y differ followed.ends reaches

    pub follow_ends : x ≡ w → IsFreeWay m v w
    follow_ends is = followed.same.1 (subst (λ (i : ℕ). IsFreeWay m i w) (sym is) (free_there m planar w))

    pub follow_blocked : ¬ IsFreeWay m x w → ¬ IsFreeWay m v w
    follow_blocked blocked free = blocked (followed.same.0 free)
