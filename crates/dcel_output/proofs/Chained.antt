-- Segments between points made chains of marked edges, one after another.
use Rattle.std.proofs.Common.{◌≡◌, inl, inr, ◌⊎◌, ℕ, ◌*◌, ◌+◌, ◌/◌, List, Option, None, Some, length, slice_get, slice_index_or, refl, sym, ap, ◌∙◌, subst, arith}
use Rattle.std.proofs.lemmas.Bool.{cases_eq}
use Rattle.std.proofs.lemmas.Option.{same_Some}
use Rattle.dcel_predicates.specs.declared.point.Point.{Point}
use Rattle.dcel_maps.specs.Removals.{Closed}
use Rattle.dcel_maps.specs.Shapes.{IsMesh, Mesh, end_of, origin_of}
use Rattle.dcel_maps.proofs.Liveness.{closed-live}
use Rattle.dcel_plane.specs.Plane.{origin_point, point_at}
use Rattle.dcel_planar.specs.Outcomes.{IsWholeMesh}
use Rattle.dcel_planar.specs.declared.planar.PlanarMesh.{PlanarMesh}
use Rattle.dcel_delaunay.specs.Bulk.{AnswersEach}
use Rattle.dcel_regions.specs.Marked.{IsMarked}
use Rattle.dcel_regions.specs.declared.mark.Mark.{Mark}
use Rattle.dcel_constrained.specs.Blocking.{Blocks, FailsToAdd}
use Rattle.dcel_constrained.specs.Constraints.{HasConstraint, IsPartOf, KeepsMarked, LiesOnSegment, MarksOnly}
use Rattle.dcel_constrained.specs.Loading.{DoCross}
use Rattle.dcel_constrained.specs.Soundness.{HasNoConstraint}
use Rattle.dcel_constrained.specs.Splitting.{KeepsConstraints}
use Rattle.dcel_constrained.specs.declared.errors.ConstraintError.{ConstraintError}
use Rattle.dcel_constrained.specs.declared.errors.ConstraintError.TheVariants as told
use Rattle.dcel_constrained.specs.declared.load.Segment.{Segment}
use Rattle.dcel_constrained.proofs.Across.{do_cross}
use Rattle.dcel_constrained.proofs.Blocked.{a_block}
use Rattle.dcel_constrained.proofs.Free.{end_kept, start_kept}
use Rattle.dcel_constrained.proofs.Many.{part_end, part_start}
use Rattle.dcel_constrained.proofs.Marking.{marked_below}
use Rattle.dcel_constrained.proofs.Splits.{constraints_kept}
use Rattle.dcel_output.specs.Constraining.{AreChains, FailsToConstrain, HasEnds, IsChain, IsNotLaid, IsOn, IsReasonFor, LieOnSegments, StandsThere, vertex_at}
use Rattle.dcel_output.specs.Numbering.{NumbersVertices}
use Rattle.dcel_output.specs.declared.constraining.SegmentError.{SegmentError}
use Rattle.dcel_output.specs.declared.constraining.SegmentError.TheVariants.{Crosses, NoVertex, OneVertex, OutOfMemory}

-- vertices that stand still
pub same_points : {DE UE F DE2 UE2 F2 : Type 0} (old : Mesh Point DE UE F) (new : Mesh Point DE2 UE2 F2) → new.vertex_data ≡ old.vertex_data → point_at new ≡ point_at old
same_points old new same = ap (λ (d : List Point). λ (i : ℕ). slice_index_or d i origin_point) same

pub same_count : {DE UE F DE2 UE2 F2 : Type 0} (old : Mesh Point DE UE F) (new : Mesh Point DE2 UE2 F2) → IsMesh old → IsMesh new → new.vertex_data ≡ old.vertex_data
    → new.shape.vertices ≡ old.shape.vertices
same_count old new mesh mesh_new same = let many = ap length same in omega (arith, many, mesh.sized.vertex_data, mesh_new.sized.vertex_data)

-- the ends of a segment that were found
pub ends_found : (vertices : List (Option ℕ)) (s : Segment) (v w : ℕ) (from to : Option ℕ) → from ≡ vertex_at vertices s.from → from ≡ Some v → to ≡ vertex_at vertices s.to
    → to ≡ Some w → HasEnds vertices s v w
ends_found vertices s v w from to is_from some_from is_to some_to = record { from = sym is_from ∙ some_from; to = sym is_to ∙ some_to }

-- there is one pair of them
pub one_start : (vertices : List (Option ℕ)) (s : Segment) (v w x y : ℕ) → HasEnds vertices s v w → HasEnds vertices s x y → v ≡ x
one_start vertices s v w x y a b = same_Some v x (sym {b = Some v} a.from ∙ b.from)

pub one_end : (vertices : List (Option ℕ)) (s : Segment) (v w x y : ℕ) → HasEnds vertices s v w → HasEnds vertices s x y → w ≡ y
one_end vertices s v w x y a b = same_Some w y (sym {b = Some w} a.to ∙ b.to)

module _ {DE F : Type 0} where
  -- what was a constraint is one still
  constraints_stay : (old new : Mesh Point DE Mark F) → IsMesh old → IsMesh new → new.shape.removal ≡ Closed → KeepsMarked old new → new.vertex_data ≡ old.vertex_data
      → KeepsConstraints old new
  constraints_stay old new mesh mesh_new closed keeps points =
      constraints_kept old new mesh (λ v below. ap (λ (at : ℕ → Point). at v) (same_points old new points)) (λ h live marked. inl (record {
        leads = record {
          live = closed-live new.shape closed (h / 2) (marked_below new mesh_new (h / 2) (keeps.marked (h / 2) marked));
          start = start_kept old new keeps h marked;
          end = end_kept old new keeps h marked;
        };
        marked = keeps.marked (h / 2) marked;
      }))

  module _ (old new : Mesh Point DE Mark F) (vertices : List (Option ℕ)) (segments : List Segment) (i : ℕ) where
    pub chains_more : IsMesh old → IsMesh new → new.shape.removal ≡ Closed → KeepsMarked old new → new.vertex_data ≡ old.vertex_data
        → (s : Segment) → slice_get segments i ≡ Some s → (halves : List ℕ) × IsChain new vertices s halves → AreChains old vertices segments i
        → AreChains new vertices segments (i + 1)
    chains_more mesh mesh_new closed keeps points s at chain before k t less there = elim (cases_eq k i) [
      | inl is ↦
          (let same : s ≡ t = same_Some s t (sym at ∙ ap (slice_get segments) (sym is) ∙ there) in
          subst (λ (r : Segment). (halves : List ℕ) × IsChain new vertices r halves) same chain)
      | inr differ ↦
          (let was = before k t (omega (arith, less, differ)) there in
          let stays = constraints_stay old new mesh mesh_new closed keeps points was.1.from was.1.to (was.0, was.1.way) in
          (stays.0, record { from = was.1.from; to = was.1.to; ends = was.1.ends; way = stays.1 }))
    ]

    pub on_more : KeepsMarked old new → new.vertex_data ≡ old.vertex_data → (s : Segment) → slice_get segments i ≡ Some s
        → ((u : ℕ) → IsMarked new u → IsMarked old u ⊎ IsOn new vertices s u) → LieOnSegments old vertices segments i → LieOnSegments new vertices segments (i + 1)
    on_more keeps points s at only parts u marked = elim (only u marked) [
      | inl was ↦
          (let before = parts u was in
          let less = before.2 in (
            before.0,
            before.1,
            omega (arith, less),
            before.3,
            record {
              from = before.4.from;
              to = before.4.to;
              ends = before.4.ends;
              part = stays before.4.from before.4.to was before.4.part;
            },
          ))
      | inr part ↦ (i, s, omega arith, at, part)
    ]
      where
        stays : (v w : ℕ) → IsMarked old u → IsPartOf old v w u → IsPartOf new v w u
        stays v w was part =
            let same = same_points old new points in
            record {
              from =
                  subst (λ (at : ℕ → Point). LiesOnSegment at v w (origin_of new.shape (2 * u))) (sym same)
                  (subst (LiesOnSegment (point_at old) v w) (sym (keeps.from u was)) part.from);
              to =
                  subst (λ (at : ℕ → Point). LiesOnSegment at v w (origin_of new.shape (2 * u + 1))) (sym same)
                  (subst (LiesOnSegment (point_at old) v w) (sym (keeps.to u was)) part.to);
            }

  -- before the first
  pub chains_first : (m : Mesh Point DE Mark F) (vertices : List (Option ℕ)) (segments : List Segment) → AreChains m vertices segments 0
  chains_first m vertices segments k t less there = absurd (omega (arith, less))

  pub on_first : (m : Mesh Point DE Mark F) (vertices : List (Option ℕ)) (segments : List Segment) → HasNoConstraint m → LieOnSegments m vertices segments 0
  on_first m vertices segments none u marked = absurd (none u marked)

  -- what a segment becomes once it is added
  pub chain_of : (m : Mesh Point DE Mark F) (vertices : List (Option ℕ)) (s : Segment) (v w : ℕ) → HasEnds vertices s v w → HasConstraint m v w
      → (halves : List ℕ) × IsChain m vertices s halves
  chain_of m vertices s v w ends has = (has.0, record { from = v; to = w; ends = ends; way = has.1 })

  pub on_of : (old new : Mesh Point DE Mark F) (vertices : List (Option ℕ)) (s : Segment) (v w : ℕ) → HasEnds vertices s v w → MarksOnly old new v w
      → (u : ℕ) → IsMarked new u → IsMarked old u ⊎ IsOn new vertices s u
  on_of old new vertices s v w ends only u marked = elim (only u marked) [
    | inl was ↦ inl was
    | inr part ↦ inr (record { from = v; to = w; ends = ends; part = part })
  ]

-- a segment that isn't added
pub not_laid : {A : Type 0} (old new : PlanarMesh Mark A) (vertices : List (Option ℕ)) (s : Segment) (i v w : ℕ) → HasEnds vertices s v w → IsWholeMesh old → IsMesh old.dcel
    → IsMesh new.dcel → (e : ConstraintError A) (r : SegmentError) → FailsToAdd old new v w e → IsReasonFor i e r → IsNotLaid old.dcel vertices s i r
not_laid old new vertices s i v w ends whole mesh mesh_new told.NoVertex r fails is =
    subst (IsNotLaid old.dcel vertices s i) (sym is) (
      refl,
      λ x y has within.
          let first = one_start vertices s v w x y ends has in
          let second = one_end vertices s v w x y ends has in
          let many = same_count old.dcel new.dcel mesh mesh_new fails.1.keeps.points in
          fails.0 (record { from = omega (arith, first, many, within.from); to = omega (arith, second, many, within.to) }),
    )
not_laid old new vertices s i v w ends whole mesh mesh_new (told.Blocked edges) r fails is =
    let block = a_block new.dcel v w edges.items fails.1 fails.2 in
    subst (IsNotLaid old.dcel vertices s i) (sym is)
    (refl, (v, w, block.0, ends, subst (λ (m : Mesh Point (Unit {0}) Mark (Unit {0})). Blocks m v w block.0) (fails.3.keeps.same whole) block.1))
not_laid old new vertices s i v w ends whole mesh mesh_new told.OutOfMemory r fails is = subst (IsNotLaid old.dcel vertices s i) (sym is) tt

-- told of the triangulation at first
module _ {DE F DE2 UE2 F2 : Type 0} (first : Mesh Point DE2 UE2 F2) (m : Mesh Point DE Mark F) (mesh_first : IsMesh first) (mesh : IsMesh m) (points : m.vertex_data ≡ first.vertex_data)
    (vertices : List (Option ℕ)) (segments : List Segment) (i : ℕ) (only : LieOnSegments m vertices segments i) (s : Segment) (at : slice_get segments i ≡ Some s) where
  pub fails_then : (e : SegmentError) → IsNotLaid m vertices s i e → FailsToConstrain first vertices segments e
  fails_then (NoVertex k) fails = (
    s,
    ap (slice_get segments) fails.0 ∙ at,
    λ v w ends within.
        let many = same_count first m mesh_first mesh points in
        fails.1 v w ends (record { from = omega (arith, many, within.from); to = omega (arith, many, within.to) }),
  )
  fails_then (OneVertex k) fails = (s, ap (slice_get segments) fails.0 ∙ at, fails.1)
  fails_then (Crosses k) fails =
      let v = fails.1.0 in
      let w = fails.1.1 in
      let blocks = fails.1.4 in
      let found = only fails.1.2 blocks.marked in
      let less = found.2 in
      let on = found.4 in
      let x = on.from in
      let y = on.to in
      let h = blocks.half in
      let part = subst (IsPartOf m x y) (sym blocks.edge) on.part in
      let c = blocks.crosses in
      let cross = do_cross (point_at m) v w x y (origin_of m.shape h) (end_of m.shape h) c.right c.left c.near c.far (part_start m x y h part) (part_end m x y h part) in (
        found.0,
        found.1,
        s,
        omega (arith, less, fails.0),
        found.3,
        ap (slice_get segments) fails.0 ∙ at,
        (
          x,
          y,
          v,
          w,
          on.ends,
          fails.1.3,
          subst (λ (p : ℕ → Point). DoCross (p v) (p w) (p x) (p y)) (same_points first m points) cross,
        ),
      )
  fails_then OutOfMemory fails = tt

-- numbers at vertices that stand still
pub numbers_kept : {DE UE F DE2 UE2 F2 : Type 0} (old : Mesh Point DE UE F) (new : Mesh Point DE2 UE2 F2) → IsMesh old → IsMesh new → new.vertex_data ≡ old.vertex_data
    → (points : List Point) (numbers : List ℕ) → NumbersVertices old points numbers → NumbersVertices new points numbers
numbers_kept old new mesh mesh_new same points numbers numbered =
    let many = same_count old new mesh mesh_new same in
    record {
      vertices = numbered.vertices;
      stand = record {
        length_is = numbered.stand.length_is;
        each = λ i p v at there. ap (λ (d : List Point). slice_get d v) same ∙ numbered.stand.each i p v at there;
      };
      from = λ v below.
          let found = numbered.from v (omega (arith, below, many)) in
          (found.0, found.1, found.2 ∙ sym (ap (λ (at : ℕ → Point). at v) (same_points old new same)));
      least = numbered.least;
      count = numbered.count ∙ sym many;
    }

pub stand_still : {DE UE F DE2 UE2 F2 : Type 0} (old : Mesh Point DE UE F) (new : Mesh Point DE2 UE2 F2) → new.vertex_data ≡ old.vertex_data → (points : List Point) (vertices : List (Option ℕ))
    → AnswersEach (StandsThere old) points vertices → AnswersEach (StandsThere new) points vertices
stand_still old new same points vertices stand = record {
  length_is = stand.length_is;
  each = λ i p v at there. stays p v (stand.each i p v at there);
}
  where
    stays : (p : Point) (v : Option ℕ) → StandsThere old p v → StandsThere new p v
    stays p None there = absurd there
    stays p (Some v) there = ap (λ (d : List Point). slice_get d v) same ∙ there
