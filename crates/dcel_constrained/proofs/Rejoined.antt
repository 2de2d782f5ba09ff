-- A vertex removed from a constraint that goes straight through it: its ends can be joined, and what is kept then.
use Rattle.std.proofs.Common.{◌≡◌, ◌≢◌, ◌⊎◌, inl, inr, ℕ, ◌-◌, ◌/◌, ◌<◌, List, length, slice_index_or, Result, Ok, Err, IfErr, IfOk, OnOk, sym, ap, ◌∙◌, subst, arith}
use Rattle.std.proofs.lemmas.Bool.{cases_eq}
use Rattle.dcel_fixed.specs.HalfEdges.{rev}
use Rattle.dcel_fixed.proofs.Halves.{rev-rev}
use Rattle.dcel_predicates.specs.declared.point.Point.{Point}
use Rattle.dcel_maps.specs.Removals.{Closed}
use Rattle.dcel_maps.specs.Renumbering.{moved}
use Rattle.dcel_maps.specs.Shapes.{IsLive, IsMesh, Mesh, Shape, end_of, map_of, origin_of}
use Rattle.dcel_maps.proofs.Liveness.{closed-live}
use Rattle.dcel_maps.proofs.maps.Soundness.{rev_live}
use Rattle.dcel_maps.proofs.renumbering.Moves.{moved-back, moved-below, moved-last, moved-other, moved-within}
use Rattle.dcel_maps.proofs.shapes.Maps.{map-sound}
use Rattle.dcel_plane.specs.Plane.{origin_point, point_at}
use Rattle.dcel_plane.specs.segments.Segments.{AreEnds, Crosses}
use Rattle.dcel_planar.specs.Growing.{HasHull, IsFlat}
use Rattle.dcel_planar.specs.Outcomes.{IsWholeMesh, KeepsWhole}
use Rattle.dcel_planar.specs.declared.planar.PlanarMesh.{PlanarMesh}
use Rattle.dcel_delaunay.specs.Removing.{FailsToRemove, Loses}
use Rattle.dcel_delaunay.specs.declared.errors.RemovalError.{RemovalError}
use Rattle.dcel_delaunay.specs.declared.errors.RemovalError.TheVariants.{NoVertex, OutOfMemory, TooManyPoints, Unfinished}
use Rattle.dcel_delaunay.specs.declared.removed.Removed.{Removed}
use Rattle.dcel_delaunay.proofs.Lost.{lost_before}
use Rattle.dcel_regions.specs.declared.mark.Mark.{Mark}
use Rattle.dcel_constrained.specs.Constraints.{HasConstraint, IsFreeWay, KeepsMarked, LiesOnSegment, MarksOnly}
use Rattle.dcel_constrained.specs.Meeting.{LiesBetweenEnds}
use Rattle.dcel_constrained.specs.Rejoining.{FailsToRejoin, IsStraightAt, IsUnjoined, KeepsAllButParts, LeavesNone, RejoinsConstraintsOf, error_after, number_without}
use Rattle.dcel_constrained.specs.Removing.{LeavesConstraints, LosesConstraintsOf}
use Rattle.dcel_constrained.specs.Soundness.{AreConstrained, CanAdd, IsConstrained}
use Rattle.dcel_constrained.specs.Splitting.{StaysMarked}
use Rattle.dcel_constrained.specs.declared.errors.JoinError.{JoinError}
use Rattle.dcel_constrained.specs.declared.errors.JoinError.TheVariants.{NotJoined, Removal}
use Rattle.dcel_constrained.proofs.Between.{lies_differ, lies_not_end, lies_not_start, lies_turned}
use Rattle.dcel_constrained.proofs.Free.{end_kept, start_kept}
use Rattle.dcel_constrained.proofs.Laid.{points_stay}
use Rattle.dcel_constrained.proofs.Many.{part_end, part_start}
use Rattle.dcel_constrained.proofs.Marking.{marked_below}
use Rattle.dcel_constrained.proofs.Others.{constrained_before, constrained_still, freed_then, vertices_same}
use Rattle.dcel_constrained.proofs.Outlined.{line_free, planar}
use Rattle.dcel_constrained.proofs.Passing.{crosses_one, edges_cross_nothing}
use Rattle.dcel_constrained.proofs.Settled.{stays_both}

-- the same crossing, between vertices of other names
crosses_named : (at to : ℕ → Point) (s n : Shape) (v w x y h k : ℕ) → IsLive n k → to x ≡ at v → to y ≡ at w → to (origin_of n k) ≡ at (origin_of s h) → to (end_of n k) ≡ at (end_of s h)
    → Crosses at s v w h → Crosses to n x y k
crosses_named at to s n v w x y h k live is_v is_w is_o is_e c = record {
  live = live;
  right = rw (is_v, is_w, is_o) c.right;
  left = rw (is_v, is_w, is_e) c.left;
  near = rw (is_o, is_e, is_v) c.near;
  far = rw (is_o, is_e, is_w) c.far;
}

module _ {DE F : Type 0} where
  -- a constraint leads from a vertex to a vertex
  pub start_below : (m : Mesh Point DE Mark F) → IsMesh m → (v w : ℕ) → AreConstrained m v w → v < m.shape.vertices
  start_below m mesh v w are = subst (λ (i : ℕ). i < m.shape.vertices) are.1.start ((map-sound mesh.sound).below_vertices are.0 are.1.live)

  pub end_below : (m : Mesh Point DE Mark F) → IsMesh m → (v w : ℕ) → AreConstrained m v w → w < m.shape.vertices
  end_below m mesh v w are =
      subst (λ (i : ℕ). i < m.shape.vertices) are.1.end ((map-sound mesh.sound).below_vertices (rev are.0) (rev_live (map_of m.shape) are.0 are.1.live))

  -- where the ends of the constraints of v are told
  module _ (m : Mesh Point DE Mark F) (v : ℕ) where
    pub none_straight : ((w : ℕ) → AreConstrained m v w → (w ≡ v) ⊎ (w ≡ v)) → (a b : ℕ) → ¬ IsStraightAt m v a b
    none_straight all a b is = elim (all a is.first) [
      | inl same ↦ lies_not_start (point_at m) a b v is.between (sym same)
      | inr same ↦ lies_not_start (point_at m) a b v is.between (sym same)
    ]

    pub one_straight : (x : ℕ) → ((w : ℕ) → AreConstrained m v w → (w ≡ x) ⊎ (w ≡ x)) → (a b : ℕ) → ¬ IsStraightAt m v a b
    one_straight x all a b is = lies_differ (point_at m) a b v is.between (of a is.first ∙ sym (of b is.second))
      where
        of : (w : ℕ) → AreConstrained m v w → w ≡ x
        of w are = elim (all w are) [ inl same ↦ same | inr same ↦ same ]

    module _ (x y : ℕ) (is_x : AreConstrained m v x) (is_y : AreConstrained m v y) (differ : y ≢ x) where
      -- a third one
      pub three_straight : (z : ℕ) → AreConstrained m v z → z ≢ x → z ≢ y → (a b : ℕ) → ¬ IsStraightAt m v a b
      three_straight z is_z not_x not_y a b is = elim (is.only x is_x) [
        | inl x_a ↦ elim (is.only y is_y) [
          | inl y_a ↦ differ (y_a ∙ sym x_a)
          | inr y_b ↦ elim (is.only z is_z) [ inl z_a ↦ not_x (z_a ∙ sym x_a) | inr z_b ↦ not_y (z_b ∙ sym y_b) ]
        ]
        | inr x_b ↦ elim (is.only y is_y) [
          | inr y_b ↦ differ (y_b ∙ sym x_b)
          | inl y_a ↦ elim (is.only z is_z) [ inl z_a ↦ not_y (z_a ∙ sym y_a) | inr z_b ↦ not_x (z_b ∙ sym x_b) ]
        ]
      ]

      -- v doesn't lie between them
      pub bent_straight : ¬ LiesBetweenEnds (point_at m) x y v → (a b : ℕ) → ¬ IsStraightAt m v a b
      bent_straight not a b is = elim (is.only x is_x) [
        | inl x_a ↦ elim (is.only y is_y) [
          | inl y_a ↦ differ (y_a ∙ sym x_a)
          | inr y_b ↦
              not (subst (λ (i : ℕ). LiesBetweenEnds (point_at m) i y v) (sym x_a) (subst (λ (i : ℕ). LiesBetweenEnds (point_at m) a i v) (sym y_b) is.between))
        ]
        | inr x_b ↦ elim (is.only y is_y) [
          | inr y_b ↦ differ (y_b ∙ sym x_b)
          | inl y_a ↦
              not
              (subst (λ (i : ℕ). LiesBetweenEnds (point_at m) i y v) (sym x_b)
              (subst (λ (i : ℕ). LiesBetweenEnds (point_at m) b i v) (sym y_a) (lies_turned (point_at m) a b v is.between)))
        ]
      ]

  -- nothing that is marked crosses the segment between them
  module _ (m : Mesh Point DE Mark F) (mesh : IsMesh m) (due : List ℕ) (sound : IsConstrained m due) (outline : IsFlat m ⊎ HasHull m) (v a b : ℕ) (is : IsStraightAt m v a b) where
    abbrev h1 : ℕ
    h1 = is.first.0

    abbrev h2 : ℕ
    h2 = is.second.0

    abbrev at : ℕ → Point
    at = point_at m

    way_free : IsFreeWay m a b
    way_free h crosses marked = elim outline [
      | inl flat ↦
          line_free m mesh due sound flat a b (lies_differ at a b v is.between) (end_below m mesh v a is.first) (end_below m mesh v b is.second) h crosses marked
      | inr has ↦
          (let pl = planar m mesh due sound has in
          let ends : AreEnds m.shape a b = record {
            i = rev h1;
            live_i = rev_live (map_of m.shape) h1 is.first.1.live;
            from_i = is.first.1.end;
            j = rev h2;
            live_j = rev_live (map_of m.shape) h2 is.second.1.live;
            from_j = is.second.1.end;
          } in
          elim (crosses_one m at pl a b v h1 ends is.between is.first.1.live is.first.1.start h crosses) [
            | inl before ↦
                edges_cross_nothing m at pl a v (rev h1) (rev_live (map_of m.shape) h1 is.first.1.live) is.first.1.end
                (ap (origin_of m.shape) (rev-rev h1) ∙ is.first.1.start) h before
            | inr after ↦ edges_cross_nothing m at pl v b h2 is.second.1.live is.second.1.start is.second.1.end h after
          ])
    ]

    -- nor once v is removed
    module _ (new : Mesh Point DE Mark F) (mesh_new : IsMesh new) (r : Removed) (loses : Loses m new v r) (lost : LosesConstraintsOf m new v) where
      module _ (p : ℕ) (below : p < new.shape.vertices) where
        inside : p < m.shape.vertices - 1
        inside = omega (arith, below, loses.vertices)

        named : moved (m.shape.vertices - 1) v (moved v (m.shape.vertices - 1) p) ≡ p
        named = moved-back v (m.shape.vertices - 1) p (λ same. omega (arith, inside, same))

        other : moved v (m.shape.vertices - 1) p ≢ v
        other same = elim (cases_eq p v) [
          | inl is_v ↦
              (let e = ap (moved v (m.shape.vertices - 1)) is_v ∙ moved-last v (m.shape.vertices - 1) in omega (arith, inside, is_v, same, e))
          | inr not ↦ not (sym (moved-other v (m.shape.vertices - 1) p not) ∙ same)
        ]

        stands : point_at new p ≡ point_at m (moved v (m.shape.vertices - 1) p)
        stands =
            ap (point_at new) (sym named) ∙ loses.others (moved v (m.shape.vertices - 1) p) (moved-within v m.shape.vertices p loses.within inside) other

      number_below : (k : ℕ) → k < m.shape.vertices → k ≢ v → number_without m v k < new.shape.vertices
      number_below k below not =
          let within = loses.within in
          let less = moved-below (m.shape.vertices - 1) v k (omega (arith, within)) (omega (arith, below)) not in
          omega (arith, less, loses.vertices)

      can_join : CanAdd new (number_without m v a) (number_without m v b)
      can_join = record {
        from = number_below a (end_below m mesh v a is.first) (λ same. lies_not_start at a b v is.between (sym same));
        to = number_below b (end_below m mesh v b is.second) (λ same. lies_not_end at a b v is.between (sym same));
        free = λ h crosses marked.
            (let p = origin_of new.shape h in
            let q = end_of new.shape h in
            let below_p = (map-sound mesh_new.sound).below_vertices h crosses.live in
            let below_q = (map-sound mesh_new.sound).below_vertices (rev h) (rev_live (map_of new.shape) h crosses.live) in
            let are : AreConstrained new (number_without m v (moved v (m.shape.vertices - 1) p)) (number_without m v (moved v (m.shape.vertices - 1) q)) =
            (h, record { live = crosses.live; start = sym (named p below_p); end = sym (named q below_q) }, marked) in
            let was = (lost (moved v (m.shape.vertices - 1) p) (moved v (m.shape.vertices - 1) q) (other p below_p) (other q below_q)).1 are in
            way_free was.0
            (crosses_named (point_at new) (point_at m) new.shape m.shape (number_without m v a) (number_without m v b) a b h was.0 was.1.live
            (sym (loses.others a (end_below m mesh v a is.first) (λ same. lies_not_start at a b v is.between (sym same))))
            (sym (loses.others b (end_below m mesh v b is.second) (λ same. lies_not_end at a b v is.between (sym same))))
            (ap (point_at m) was.1.start ∙ sym (stands p below_p)) (ap (point_at m) was.1.end ∙ sym (stands q below_q)) crosses)
            was.2);
      }

      -- under the names that they have then
      pub can_named : (x y : ℕ) → x ≡ number_without m v a → y ≡ number_without m v b → CanAdd new x y
      can_named x y is_x is_y = subst (λ (i : ℕ). CanAdd new i y) (sym is_x) (subst (CanAdd new (number_without m v a)) (sym is_y) can_join)

  -- where nothing is joined yet
  pub keeps_lost : (old new : Mesh Point DE Mark F) (v a b : ℕ) → LosesConstraintsOf old new v → KeepsAllButParts old new v a b
  keeps_lost old new v a b lost = record { others = λ p q not_p not_q are. (lost p q not_p not_q).0 are; only = λ p q not_p not_q are. inl ((lost p q not_p not_q).1 are) }

  -- and where parts of the segment are marked after that
  module _ (new then : Mesh Point DE Mark F) (keeps : KeepsMarked new then) (mesh : IsMesh new) (mesh_then : IsMesh then) (closed : new.shape.removal ≡ Closed)
      (closed_then : then.shape.removal ≡ Closed) where
    still_constrained : (x y : ℕ) → AreConstrained new x y → AreConstrained then x y
    still_constrained x y are =
        let marked = keeps.marked (are.0 / 2) are.2 in (
          are.0,
          record {
            live = closed-live then.shape closed_then (are.0 / 2) (marked_below then mesh_then (are.0 / 2) marked);
            start = start_kept new then keeps are.0 are.2 ∙ are.1.start;
            end = end_kept new then keeps are.0 are.2 ∙ are.1.end;
          },
          marked,
        )

    pub keeps_joined : (old : Mesh Point DE Mark F) (v a b : ℕ) → MarksOnly new then (number_without old v a) (number_without old v b) → LosesConstraintsOf old new v
        → KeepsAllButParts old then v a b
    keeps_joined old v a b only lost = record {
      others = λ p q not_p not_q are. still_constrained (number_without old v p) (number_without old v q) ((lost p q not_p not_q).0 are);
      only = λ p q not_p not_q are.
          elim (only (are.0 / 2) are.2) [
            | inl was ↦ inl ((lost p q not_p not_q).1 (
              are.0,
              record {
                live = closed-live new.shape closed (are.0 / 2) (marked_below new mesh (are.0 / 2) was);
                start = sym (start_kept new then keeps are.0 was) ∙ are.1.start;
                end = sym (end_kept new then keeps are.0 was) ∙ are.1.end;
              },
              was,
            ))
            | inr part ↦ inr (
              subst (LiesOnSegment (point_at then) (number_without old v a) (number_without old v b)) are.1.start
                  (part_start then (number_without old v a) (number_without old v b) are.0 part),
              subst (LiesOnSegment (point_at then) (number_without old v a) (number_without old v b)) are.1.end
                  (part_end then (number_without old v a) (number_without old v b) are.0 part),
            )
          ];
    }

    -- of the ends of the segment, which are x and y now
    module _ (old : Mesh Point DE Mark F) (v a b x y : ℕ) (is_x : x ≡ number_without old v a) (is_y : y ≡ number_without old v b) (is : IsStraightAt old v a b)
        (only : MarksOnly new then x y) (lost : LosesConstraintsOf old new v) where
      keeps_named : KeepsAllButParts old then v a b
      keeps_named = keeps_joined old v a b (subst (λ (i : ℕ). MarksOnly new then i (number_without old v b)) is_x (subst (MarksOnly new then x) is_y only)) lost

      pub rejoined : HasConstraint then x y → RejoinsConstraintsOf old then v
      rejoined has =
          inr (
            a,
            b,
            record {
              straight = is;
              joined = subst (λ (i : ℕ). HasConstraint then i (number_without old v b)) is_x (subst (HasConstraint then x) is_y has);
              keeps = keeps_named;
            },
          )

      pub unjoined : CanAdd then x y → IsUnjoined old then v x y
      unjoined can = record { a = a; b = b; straight = is; from_is = is_x; to_is = is_y; can = can; keeps = keeps_named }

    -- the vertices stand where they stood
    pub loses_then : (old : Mesh Point DE Mark F) (v : ℕ) (r : Removed) → then.vertex_data ≡ new.vertex_data → Loses old new v r → Loses old then v r
    loses_then old v r points loses = record {
      within = loses.within;
      vertices = (let count = ap length points in let v = loses.vertices in omega (arith, count, v, mesh.sized.vertex_data, mesh_then.sized.vertex_data));
      point = loses.point;
      renamed = loses.renamed;
      others = λ w below other.
          subst (λ (list : List Point). slice_index_or list (moved (old.shape.vertices - 1) v w) origin_point ≡ point_at old w) (sym points) (loses.others w below other);
    }

  -- told of the mesh from before the same edges were marked
  module _ (old m : Mesh Point DE Mark F) (stays : StaysMarked old m) (mesh : IsMesh old) (mesh_m : IsMesh m) (closed : old.shape.removal ≡ Closed)
      (closed_m : m.shape.removal ≡ Closed) (v : ℕ) where
    many : m.shape.vertices ≡ old.shape.vertices
    many = vertices_same old m stays mesh mesh_m

    pub straight_before : (a b : ℕ) → IsStraightAt m v a b → IsStraightAt old v a b
    straight_before a b is = record {
      first = constrained_before old m stays mesh closed v a is.first;
      second = constrained_before old m stays mesh closed v b is.second;
      only = λ w are. is.only w (constrained_still old m stays mesh_m closed_m v w are);
      between = subst (λ (at : ℕ → Point). LiesBetweenEnds at a b v) (points_stay old m stays.points) is.between;
    }

    pub straight_then : (a b : ℕ) → IsStraightAt old v a b → IsStraightAt m v a b
    straight_then a b is = record {
      first = constrained_still old m stays mesh_m closed_m v a is.first;
      second = constrained_still old m stays mesh_m closed_m v b is.second;
      only = λ w are. is.only w (constrained_before old m stays mesh closed v w are);
      between = subst (λ (at : ℕ → Point). LiesBetweenEnds at a b v) (sym (points_stay old m stays.points)) is.between;
    }

    none_before : ((a b : ℕ) → ¬ IsStraightAt m v a b) → (a b : ℕ) → ¬ IsStraightAt old v a b
    none_before none a b is = none a b (straight_then a b is)

    module _ (new : Mesh Point DE Mark F) where
      lost_since : LosesConstraintsOf m new v → LosesConstraintsOf old new v
      lost_since lost p q not_p not_q = (
        λ are.
            subst (λ (n : ℕ). AreConstrained new (moved (n - 1) v p) (moved (n - 1) v q)) many
            ((lost p q not_p not_q).0 (constrained_still old m stays mesh_m closed_m p q are)),
        λ are.
            constrained_before old m stays mesh closed p q
            ((lost p q not_p not_q).1 (subst (λ (n : ℕ). AreConstrained new (moved (n - 1) v p) (moved (n - 1) v q)) (sym many) are)),
      )

      keeps_since : (a b : ℕ) → KeepsAllButParts m new v a b → KeepsAllButParts old new v a b
      keeps_since a b keeps = record {
        others = λ p q not_p not_q are.
            subst (λ (n : ℕ). AreConstrained new (moved (n - 1) v p) (moved (n - 1) v q)) many
            (keeps.others p q not_p not_q (constrained_still old m stays mesh_m closed_m p q are));
        only = λ p q not_p not_q are.
            elim (keeps.only p q not_p not_q (subst (λ (n : ℕ). AreConstrained new (moved (n - 1) v p) (moved (n - 1) v q)) (sym many) are)) [
              | inl was ↦ inl (constrained_before old m stays mesh closed p q was)
              | inr part ↦ inr
                  (subst
                  (λ (n : ℕ). LiesOnSegment (point_at new) (moved (n - 1) v a) (moved (n - 1) v b) (moved (n - 1) v p)
                  × LiesOnSegment (point_at new) (moved (n - 1) v a) (moved (n - 1) v b) (moved (n - 1) v q))
                  many part)
            ];
      }

      rejoins_since : RejoinsConstraintsOf m new v → RejoinsConstraintsOf old new v
      rejoins_since (inl lost) = inl (none_before lost.0, lost_since lost.1)
      rejoins_since (inr joins) =
          inr (
            joins.0,
            joins.1,
            record {
              straight = straight_before joins.0 joins.1 joins.2.straight;
              joined = subst (λ (n : ℕ). HasConstraint new (moved (n - 1) v joins.0) (moved (n - 1) v joins.1)) many joins.2.joined;
              keeps = keeps_since joins.0 joins.1 joins.2.keeps;
            },
          )

      unjoined_since : (from to : ℕ) → IsUnjoined m new v from to → IsUnjoined old new v from to
      unjoined_since from to un = record {
        a = un.a;
        b = un.b;
        straight = straight_before un.a un.b un.straight;
        from_is = un.from_is ∙ ap (λ (n : ℕ). moved (n - 1) v un.a) many;
        to_is = un.to_is ∙ ap (λ (n : ℕ). moved (n - 1) v un.b) many;
        can = un.can;
        keeps = keeps_since un.a un.b un.keeps;
      }

      loses_since : (r : Removed) → Loses m new v r → Loses old new v r
      loses_since r loses = lost_before old m new v r stays.points many loses

      pub ok_loses : (x : Result Removed JoinError) → IfOk x (Loses m new v) → IfOk x (Loses old new v)
      ok_loses (Ok r) loses = loses_since r loses
      ok_loses (Err e) loses = tt

      pub ok_rejoins : (x : Result Removed JoinError) → OnOk x (RejoinsConstraintsOf m new v) → OnOk x (RejoinsConstraintsOf old new v)
      ok_rejoins (Ok r) joins = rejoins_since joins
      ok_rejoins (Err e) joins = tt

      leaves_since : (e : RemovalError) → LeavesConstraints m new v e → LeavesConstraints old new v e
      leaves_since NoVertex left = stays_both old m new stays left
      leaves_since TooManyPoints left = stays_both old m new stays left
      leaves_since OutOfMemory left = freed_then old m stays mesh mesh_m closed closed_m v new left
      leaves_since (Unfinished r) left = lost_since left

    leaves_none_since : (e : RemovalError) → LeavesNone m v e → LeavesNone old v e
    leaves_none_since NoVertex none = tt
    leaves_none_since TooManyPoints none = tt
    leaves_none_since OutOfMemory none = tt
    leaves_none_since (Unfinished r) none = none_before none

  -- where no constraint goes through v
  pub leaves_none : (m : Mesh Point DE Mark F) (v : ℕ) (e : RemovalError) → ((a b : ℕ) → ¬ IsStraightAt m v a b) → LeavesNone m v e
  leaves_none m v NoVertex none = tt
  leaves_none m v TooManyPoints none = tt
  leaves_none m v OutOfMemory none = tt
  leaves_none m v (Unfinished r) none = none

module _ {A : Type 0} where
  module _ (old m new : PlanarMesh Mark A) (stays : StaysMarked old.dcel m.dcel) (mesh : IsMesh old.dcel) (mesh_m : IsMesh m.dcel) (closed : old.dcel.shape.removal ≡ Closed)
      (closed_m : m.dcel.shape.removal ≡ Closed) (v : ℕ) (same : IsWholeMesh old → m.dcel ≡ old.dcel) (whole : IsWholeMesh m) where
    whole_since : KeepsWhole m new → KeepsWhole old new
    whole_since keeps = record { points = keeps.points ∙ stays.points; same = λ was. keeps.same whole ∙ same was }

    fails_since : (e : RemovalError) → FailsToRemove m new v e → FailsToRemove old new v e
    fails_since NoVertex fails = (fails.0, whole_since fails.1, fails.2)
    fails_since TooManyPoints fails = (fails.0, fails.1, fails.2, whole_since fails.3, fails.4)
    fails_since OutOfMemory fails = fails ∙ stays.points
    fails_since (Unfinished r) fails = (loses_since old.dcel m.dcel stays mesh mesh_m closed closed_m v new.dcel r fails.0, fails.1)

    rejoin_since : (e : JoinError) → FailsToRejoin m new v e → FailsToRejoin old new v e
    rejoin_since (Removal e) fails = (
      fails_since e fails.0,
      leaves_since old.dcel m.dcel stays mesh mesh_m closed closed_m v new.dcel e fails.1,
      leaves_none_since old.dcel m.dcel stays mesh mesh_m closed closed_m v e fails.2,
    )
    rejoin_since (NotJoined left) fails = (
      loses_since old.dcel m.dcel stays mesh mesh_m closed closed_m v new.dcel left.removed fails.0,
      unjoined_since old.dcel m.dcel stays mesh mesh_m closed closed_m v new.dcel left.from left.to fails.1,
    )

    pub err_fails : (x : Result Removed JoinError) → IfErr x (FailsToRejoin m new v) → IfErr x (FailsToRejoin old new v)
    err_fails (Ok r) fails = tt
    err_fails (Err e) fails = rejoin_since e fails

  -- a removal that fails where v and its two constraints are known, whose other ends are x and y afterwards
  module _ (m new : PlanarMesh Mark A) (v a b x y : ℕ) (is_x : x ≡ number_without m.dcel v a) (is_y : y ≡ number_without m.dcel v b) (is : IsStraightAt m.dcel v a b)
      (can : (r : Removed) → Loses m.dcel new.dcel v r → LosesConstraintsOf m.dcel new.dcel v → CanAdd new.dcel x y) where
    fails_between : (e : RemovalError) → FailsToRemove m new v e → LeavesConstraints m.dcel new.dcel v e → FailsToRejoin m new v (error_after e x y)
    fails_between NoVertex fails left = (fails, left, tt)
    fails_between TooManyPoints fails left = (fails, left, tt)
    fails_between OutOfMemory fails left = (fails, left, tt)
    fails_between (Unfinished r) fails left = (
      fails.0,
      record {
        a = a;
        b = b;
        straight = is;
        from_is = is_x;
        to_is = is_y;
        can = can r fails.0 left;
        keeps = keeps_lost m.dcel new.dcel v a b left;
      },
    )

    pub fails_named : (e : RemovalError) (f : JoinError) → f ≡ error_after e x y → FailsToRemove m new v e → LeavesConstraints m.dcel new.dcel v e → FailsToRejoin m new v f
    fails_named e f named fails left = subst (FailsToRejoin m new v) (sym named) (fails_between e fails left)
