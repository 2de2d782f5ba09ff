-- Segments between points made constraints, one after another.
use Rattle.std.proofs.Common.{◌≡◌, inl, inr, ℕ, ◌*◌, ◌+◌, ◌++◌, ◌/◌, ◌<◌, List, [], All, Contains, None, Some, length, slice_get, slice_index, refl, sym, ap, ◌∙◌, subst, arith}
use Rattle.std.proofs.lemmas.Bool.{cases_eq}
use Rattle.std.proofs.lemmas.Option.{get_or_from_slice_get, none-some, same_Some, slice_get-get_or, slice_get_within}
use Rattle.dcel_predicates.specs.declared.point.Point.{Point}
use Rattle.dcel_maps.specs.Conditions.{HasRoom}
use Rattle.dcel_maps.specs.Removals.{Closed}
use Rattle.dcel_maps.specs.Shapes.{IsMesh, Mesh, end_of, origin_of}
use Rattle.dcel_maps.proofs.Liveness.{closed-live}
use Rattle.dcel_plane.specs.Plane.{origin_point, point_at}
use Rattle.dcel_delaunay.specs.Bulk.{AddsVertices, FailsToInsertAll, StandAt}
use Rattle.dcel_delaunay.specs.Triangles.{point_numbered}
use Rattle.dcel_delaunay.proofs.Outline.{all_single}
use Rattle.dcel_planar.specs.Outcomes.{IsWholeMesh}
use Rattle.dcel_planar.specs.declared.errors.InsertionError.{InsertionError}
use Rattle.dcel_planar.specs.declared.errors.InsertionError.TheVariants as inserting
use Rattle.dcel_planar.specs.declared.planar.PlanarMesh.{PlanarMesh}
use Rattle.dcel_regions.specs.Marked.{IsMarked}
use Rattle.dcel_regions.specs.declared.mark.Mark.{Mark}
use Rattle.dcel_constrained.specs.Blocking.{Blocks, FailsToAdd}
use Rattle.dcel_constrained.specs.Constraints.{HasConstraint, IsPartOf, KeepsMarked, LiesOnSegment, MarksOnly}
use Rattle.dcel_constrained.specs.Loading.{AreLaid, ArePartsOf, DoCross, EndsBelow, FailsToLay, FailsToLoad, IsFull, IsInsertionFailure, IsReasonFor}
use Rattle.dcel_constrained.specs.Soundness.{HasNoConstraint, IsConstrained}
use Rattle.dcel_constrained.specs.Splitting.{KeepsConstraints, SplitsMarked}
use Rattle.dcel_constrained.specs.declared.errors.ConstraintError.{ConstraintError}
use Rattle.dcel_constrained.specs.declared.errors.ConstraintError.TheVariants as told
use Rattle.dcel_constrained.specs.declared.errors.LoadError.{LoadError}
use Rattle.dcel_constrained.specs.declared.errors.LoadError.TheVariants.{Crosses, NoPoint, OutOfMemory, TooManyPoints}
use Rattle.dcel_constrained.specs.declared.load.Segment.{Segment}
use Rattle.dcel_constrained.specs.declared.triangulation.ConstrainedTriangulation.{ConstrainedTriangulation}
use Rattle.dcel_constrained.proofs.Across.{do_cross}
use Rattle.dcel_constrained.proofs.Blocked.{a_block}
use Rattle.dcel_constrained.proofs.Free.{end_kept, start_kept}
use Rattle.dcel_constrained.proofs.Laid.{points_stay}
use Rattle.dcel_constrained.proofs.Many.{part_end, part_start}
use Rattle.dcel_constrained.proofs.Marking.{marked_below}
use Rattle.dcel_constrained.proofs.Settled.{outlined_of, sound_of}
use Rattle.dcel_constrained.proofs.Splits.{constraints_kept}

module _ {DE F : Type 0} where
  -- what was a constraint is one still
  constraints_stay : (old new : Mesh Point DE Mark F) → IsMesh old → IsMesh new → new.shape.removal ≡ Closed → KeepsMarked old new → new.vertex_data ≡ old.vertex_data
      → KeepsConstraints old new
  constraints_stay old new mesh mesh_new closed keeps points =
      constraints_kept old new mesh (λ v below. ap (λ (at : ℕ → Point). at v) (points_stay old new points)) (λ h live marked. inl (record {
        leads = record {
          live = closed-live new.shape closed (h / 2) (marked_below new mesh_new (h / 2) (keeps.marked (h / 2) marked));
          start = start_kept old new keeps h marked;
          end = end_kept old new keeps h marked;
        };
        marked = keeps.marked (h / 2) marked;
      }))

  module _ (old new : Mesh Point DE Mark F) (vertices : List ℕ) (segments : List Segment) (i : ℕ) where
    pub laid_more : IsMesh old → IsMesh new → new.shape.removal ≡ Closed → KeepsMarked old new → new.vertex_data ≡ old.vertex_data
        → (s : Segment) → slice_get segments i ≡ Some s → EndsBelow (length vertices) s → HasConstraint new (slice_index vertices s.from) (slice_index vertices s.to)
        → AreLaid old vertices segments i → AreLaid new vertices segments (i + 1)
    laid_more mesh mesh_new closed keeps points s at below has laid k t less there = elim (cases_eq k i) [
      | inl is ↦
          (let same : s ≡ t = same_Some s t (sym at ∙ ap (slice_get segments) (sym is) ∙ there) in
          subst (λ (r : Segment). EndsBelow (length vertices) r × HasConstraint new (slice_index vertices r.from) (slice_index vertices r.to)) same (below, has))
      | inr differ ↦
          (let was = laid k t (omega (arith, less, differ)) there in
          (was.0, constraints_stay old new mesh mesh_new closed keeps points (slice_index vertices t.from) (slice_index vertices t.to) was.1))
    ]

    pub parts_more : KeepsMarked old new → new.vertex_data ≡ old.vertex_data → (s : Segment) → slice_get segments i ≡ Some s
        → MarksOnly old new (slice_index vertices s.from) (slice_index vertices s.to) → ArePartsOf old vertices segments i → ArePartsOf new vertices segments (i + 1)
    parts_more keeps points s at only parts u marked = elim (only u marked) [
      | inl was ↦
          (let before = parts u was in
          let less = before.2 in
          (before.0, before.1, omega (arith, less), before.3, stays (slice_index vertices before.1.from) (slice_index vertices before.1.to) u was before.4))
      | inr part ↦ (i, s, omega arith, at, part)
    ]
      where
        stays : (v w u : ℕ) → IsMarked old u → IsPartOf old v w u → IsPartOf new v w u
        stays v w u was part =
            let same = points_stay old new points in
            record {
              from =
                  subst (λ (at : ℕ → Point). LiesOnSegment at v w (origin_of new.shape (2 * u))) (sym same)
                  (subst (LiesOnSegment (point_at old) v w) (sym (keeps.from u was)) part.from);
              to =
                  subst (λ (at : ℕ → Point). LiesOnSegment at v w (origin_of new.shape (2 * u + 1))) (sym same)
                  (subst (LiesOnSegment (point_at old) v w) (sym (keeps.to u was)) part.to);
            }

  -- there is no such segment
  pub laid_past : (m : Mesh Point DE Mark F) (vertices : List ℕ) (segments : List Segment) (i : ℕ) → slice_get segments i ≡ None
      → AreLaid m vertices segments i → AreLaid m vertices segments (i + 1)
  laid_past m vertices segments i none laid k t less there = elim (cases_eq k i) [
    | inl is ↦ absurd (none-some t (sym none ∙ ap (slice_get segments) (sym is) ∙ there))
    | inr differ ↦ laid k t (omega (arith, less, differ)) there
  ]

  pub parts_past : (m : Mesh Point DE Mark F) (vertices : List ℕ) (segments : List Segment) (i : ℕ) → ArePartsOf m vertices segments i
      → ArePartsOf m vertices segments (i + 1)
  parts_past m vertices segments i parts u marked =
      (let before = parts u marked in let less = before.2 in (before.0, before.1, omega (arith, less), before.3, before.4))

  -- before the first
  pub laid_first : (m : Mesh Point DE Mark F) (vertices : List ℕ) (segments : List Segment) → AreLaid m vertices segments 0
  laid_first m vertices segments k t less there = absurd (omega (arith, less))

  pub parts_first : (empty m : Mesh Point DE Mark F) (vertices : List ℕ) (segments : List Segment) → HasNoConstraint empty → SplitsMarked empty m
      → ArePartsOf m vertices segments 0
  parts_first empty m vertices segments none splits u marked = (let was = splits.parts u marked in absurd (none (was.0 / 2) was.1))

  -- a point has its place at its vertex
  module _ (m : Mesh Point DE Mark F) (points : List Point) (vertices : List ℕ) (stand : StandAt m points vertices) where
    pub stands_there : (n : ℕ) → n < length vertices → point_at m (slice_index vertices n) ≡ point_numbered points n
    stands_there n below =
        get_or_from_slice_get m.vertex_data (slice_index vertices n) (point_numbered points n) origin_point
        (stand.each n (point_numbered points n) (slice_index vertices n) (slice_get-get_or points n origin_point (omega (arith, below, stand.length_is)))
        (slice_get-get_or vertices n 0 below))

    pub stands_within : (n v : ℕ) → slice_get vertices n ≡ Some v → v < length m.vertex_data
    stands_within n v at =
        let below = slice_get_within vertices n v at in
        let has = stand.each n (point_numbered points n) v (slice_get-get_or points n origin_point (omega (arith, below, stand.length_is))) at in
        slice_get_within m.vertex_data v (point_numbered points n) has

    ends_of_points : (s : Segment) → EndsBelow (length vertices) s → EndsBelow (length points) s
    ends_of_points s below = record { from = omega (arith, below.from, stand.length_is); to = omega (arith, below.to, stand.length_is) }

    module _ (segments : List Segment) (i : ℕ) (laid : AreLaid m vertices segments i) (parts : ArePartsOf m vertices segments i) where
      crossed_at : (t : Segment) → EndsBelow (length vertices) t → (u : ℕ) → Blocks m (slice_index vertices t.from) (slice_index vertices t.to) u
          → (j : ℕ) × (s : Segment) × (j < i) × (slice_get segments j ≡ Some s) × EndsBelow (length points) s
          × DoCross (point_numbered points t.from) (point_numbered points t.to) (point_numbered points s.from) (point_numbered points s.to)
      crossed_at t below u blocks =
          let found = parts u blocks.marked in
          let s = found.1 in
          let ends = (laid found.0 s found.2 found.3).0 in
          let v = slice_index vertices t.from in
          let w = slice_index vertices t.to in
          let x = slice_index vertices s.from in
          let y = slice_index vertices s.to in
          let h = blocks.half in
          let part = subst (IsPartOf m x y) (sym blocks.edge) found.4 in
          let c = blocks.crosses in
          let cross = do_cross (point_at m) v w x y (origin_of m.shape h) (end_of m.shape h) c.right c.left c.near c.far (part_start m x y h part) (part_end m x y h part) in (
            found.0,
            s,
            found.2,
            found.3,
            ends_of_points s ends,
            subst (λ (p : Point). DoCross p (point_numbered points t.to) (point_numbered points s.from) (point_numbered points s.to)) (stands_there t.from below.from)
                (subst (λ (p : Point). DoCross (point_at m v) p (point_numbered points s.from) (point_numbered points s.to)) (stands_there t.to below.to)
                (subst (λ (p : Point). DoCross (point_at m v) (point_at m w) p (point_numbered points s.to)) (stands_there s.from ends.from)
                (subst (λ (p : Point). DoCross (point_at m v) (point_at m w) (point_at m x) p) (stands_there s.to ends.to) cross))),
          )

      fails_to_load : (e : LoadError) → FailsToLay m vertices segments i e → FailsToLoad points segments e
      fails_to_load (NoPoint k) fails =
          (fails.1.0, ap (slice_get segments) fails.0 ∙ fails.1.1, λ below. fails.1.2 (record { from = omega (arith, below.from, stand.length_is); to = omega (arith, below.to, stand.length_is) }))
      fails_to_load (Crosses k) fails =
          (let t = fails.1.0 in
          let below = fails.1.2 in
          let found = crossed_at t below fails.1.3.0 fails.1.3.1 in
          let less = found.2 in
          (found.0, found.1, t, omega (arith, less, fails.0), found.3, ap (slice_get segments) fails.0 ∙ fails.1.1, found.4, ends_of_points t below, found.5))
      fails_to_load TooManyPoints fails = absurd fails
      fails_to_load OutOfMemory fails = tt

      -- told with the list under another name
      pub fails_since : (list : List ℕ) → list ≡ vertices → (e : LoadError) → FailsToLay m list segments i e → FailsToLoad points segments e
      fails_since list same e fails = fails_to_load e (subst (λ (l : List ℕ). FailsToLay m l segments i e) same fails)

  -- the points stay where they stood
  pub stand_still : (old new : Mesh Point DE Mark F) (points : List Point) (vertices : List ℕ) → new.vertex_data ≡ old.vertex_data → StandAt old points vertices
      → StandAt new points vertices
  stand_still old new points vertices same stand = record {
    length_is = stand.length_is;
    each = λ n p v at there. ap (λ (d : List Point). slice_get d v) same ∙ stand.each n p v at there;
  }

-- what a list has at a place
pub found_at : (xs : List ℕ) (i v : ℕ) → slice_get xs i ≡ Some v → v ≡ slice_index xs i
found_at xs i v at = sym (get_or_from_slice_get xs i v 0 at)

pub ends_found : (vertices : List ℕ) (s : Segment) (v w : ℕ) → slice_get vertices s.from ≡ Some v → slice_get vertices s.to ≡ Some w → EndsBelow (length vertices) s
ends_found vertices s v w from to = record { from = slice_get_within vertices s.from v from; to = slice_get_within vertices s.to w to }

pub at_ends : (P : ℕ → ℕ → Type 0) (vertices : List ℕ) (s : Segment) (v w : ℕ) → slice_get vertices s.from ≡ Some v → slice_get vertices s.to ≡ Some w → P v w
    → P (slice_index vertices s.from) (slice_index vertices s.to)
at_ends P vertices s v w from to holds =
    subst (λ (x : ℕ). P x (slice_index vertices s.to)) (found_at vertices s.from v from) (subst (λ (y : ℕ). P v y) (found_at vertices s.to w to) holds)

-- and doesn't have
pub no_start : (vertices : List ℕ) (s : Segment) → slice_get vertices s.from ≡ None → ¬ EndsBelow (length vertices) s
no_start vertices s none below = none-some (slice_index vertices s.from) (sym none ∙ slice_get-get_or vertices s.from 0 below.from)

pub no_end : (vertices : List ℕ) (s : Segment) → slice_get vertices s.to ≡ None → ¬ EndsBelow (length vertices) s
no_end vertices s none below = none-some (slice_index vertices s.to) (sym none ∙ slice_get-get_or vertices s.to 0 below.to)

-- a segment that isn't added
pub unlaid : {A : Type 0} (old new : PlanarMesh Mark A) (vertices : List ℕ) (segments : List Segment) (i : ℕ) (s : Segment) (v w : ℕ) → slice_get segments i ≡ Some s
    → slice_get vertices s.from ≡ Some v → slice_get vertices s.to ≡ Some w → IsWholeMesh old → IsMesh new.dcel → v < length old.dcel.vertex_data → w < length old.dcel.vertex_data
    → (e : ConstraintError A) (r : LoadError) → FailsToAdd old new v w e → IsReasonFor i e r → FailsToLay old.dcel vertices segments i r
unlaid old new vertices segments i s v w at from to whole mesh below_v below_w told.NoVertex r fails is =
    let many = ap length fails.1.keeps.points in
    absurd (fails.0 (record { from = omega (arith, many, below_v, mesh.sized.vertex_data); to = omega (arith, many, below_w, mesh.sized.vertex_data) }))
unlaid old new vertices segments i s v w at from to whole mesh below_v below_w (told.Blocked edges) r fails is =
    let block = a_block new.dcel v w edges.items fails.1 fails.2 in
    let before = subst (λ (m : Mesh Point (Unit {0}) Mark (Unit {0})). Blocks m v w block.0) (fails.3.keeps.same whole) block.1 in
    subst (FailsToLay old.dcel vertices segments i) (sym is)
    (refl, (s, at, ends_found vertices s v w from to, (block.0, at_ends (λ x y. Blocks old.dcel x y block.0) vertices s v w from to before)))
unlaid old new vertices segments i s v w at from to whole mesh below_v below_w told.OutOfMemory r fails is = subst (FailsToLay old.dcel vertices segments i) (sym is) tt

-- where there was no vertex before, each is at one of the points
pub all_given : {DE F : Type 0} (old new : Mesh Point DE Mark F) (given : List Point) (most : ℕ) → old.vertex_data ≡ [] → AddsVertices old new given most
    → All (Contains given) new.vertex_data
all_given old new given most none adds = subst (All (Contains given)) (sym (adds.points ∙ ap (λ (l : List Point). l ++ adds.added) none)) adds.from

module _ {A : Type 0} where
  pub is_full : (t : ConstrainedTriangulation A) (points : List Point) → IsMesh t.planar.dcel → All (Contains points) t.planar.dcel.vertex_data → IsWholeMesh t.planar
      → ¬ HasRoom t.planar.dcel.shape 1 3 2 → IsFull points t.planar.dcel
  is_full t points mesh from whole full = record {
    mesh = mesh;
    constrained = subst (IsConstrained t.planar.dcel) whole (sound_of t);
    single = all_single t.planar.dcel mesh (outlined_of t whole) t.planar.triangulated.closed t.planar.triangulated.joined;
    from = from;
    full = full;
  }

  -- points that aren't inserted
  pub not_all_inserted : (old new : PlanarMesh Mark A) (points : List Point) (segments : List Segment) (r : InsertionError) (e : LoadError) → FailsToInsertAll old new r
      → IsInsertionFailure r e → (IsWholeMesh new → ¬ HasRoom new.dcel.shape 1 3 2 → IsFull points new.dcel) → FailsToLoad points segments e
  not_all_inserted old new points segments inserting.OutOfRange e fails is full = absurd fails
  not_all_inserted old new points segments inserting.TooManyPoints e fails is full =
      subst (FailsToLoad points segments) (sym is) (new.dcel, full fails.1 fails.0)
  not_all_inserted old new points segments inserting.OutOfMemory e fails is full = subst (FailsToLoad points segments) (sym is) tt
  not_all_inserted old new points segments inserting.Unfinished e fails is full = subst (FailsToLoad points segments) (sym is) tt
