-- What an insertion among constraints leaves, step by step.
use Rattle.std.proofs.Common.{◌≡◌, ◌≢◌, ◌⊎◌, inl, inr, ℕ, ◌*◌, ◌+◌, ◌/◌, ◌<◌, List, [], ◌∷◌, ◌++◌, Result, Ok, Err, IfOk, OnErr, refl, sym, ap, ◌∙◌, subst, arith}
use Rattle.dcel_fixed.proofs.Halves.{rev-double}
use Rattle.dcel_predicates.specs.declared.point.Point.{Point}
use Rattle.dcel_maps.specs.Removals.{Closed}
use Rattle.dcel_maps.specs.Shapes.{IsMesh, Mesh, end_of, origin_of}
use Rattle.dcel_maps.proofs.Liveness.{closed-live}
use Rattle.dcel_maps.proofs.words.Counts.{in_either}
use Rattle.dcel_plane.specs.Plane.{point_at}
use Rattle.dcel_planar.specs.Edges.{KeepsEdgeData, KeepsEnds, KeepsStarts}
use Rattle.dcel_planar.specs.Growing.{Gains, HasHull, HasOutside, IsFlat, IsTriangleMesh, KeepsListed}
use Rattle.dcel_planar.specs.Leaving.{IsPutIn}
use Rattle.dcel_planar.specs.declared.planar.PlanarMesh.{PlanarMesh}
use Rattle.dcel_planar.specs.declared.errors.InsertionError.{InsertionError}
use Rattle.dcel_planar.specs.declared.position.PositionInTriangulation.{PositionInTriangulation}
use Rattle.dcel_planar.specs.declared.position.PositionInTriangulation.TheVariants.{BeyondLine, NoTriangulation, OnEdge, OnFace, OnVertex, OutsideOfConvexHull}
use Rattle.dcel_planar.proofs.Recovered.{settled_outlined}
use Rattle.dcel_regions.specs.Marked.{IsMarked}
use Rattle.dcel_regions.specs.declared.mark.Mark.{Mark}
use Rattle.dcel_regions.specs.declared.mark.Mark.TheVariants.{Free}
use Rattle.dcel_constrained.specs.Constraints.{IsPartOf, LiesOnSegment, ListsFree, TurnsFree}
use Rattle.dcel_constrained.specs.Soundness.{IsConstrained}
use Rattle.dcel_constrained.specs.Splitting.{KeepsConstraints, SplitsMarked, StaysMarked}
use Rattle.dcel_constrained.specs.declared.triangulation.ConstrainedTriangulation.{ConstrainedTriangulation}
use Rattle.dcel_constrained.proofs.Added.{points_before, splits_none, starts_marked}
use Rattle.dcel_constrained.proofs.Free.{end_kept, free_keeps, free_kept, kept_unmarked, start_kept}
use Rattle.dcel_constrained.proofs.Laid.{keeps_both, points_stay}
use Rattle.dcel_constrained.proofs.Marking.{marked_below}
use Rattle.dcel_constrained.proofs.Marks.{listed_marked, marked_edges, to_circled}
use Rattle.dcel_constrained.proofs.Splits.{IsAsWas, constraints_kept}

module _ {DE F : Type 0} where
  pub constrained_of : (m : Mesh Point DE Mark F) (due : List ℕ) → IsTriangleMesh m → ListsFree m due → IsConstrained m due
  constrained_of m due is listed = record { closed = is.closed; joined = is.joined; triangles = is.triangles; plane = is.plane; listed = listed }

  pub triangulated_of : (m : Mesh Point DE Mark F) (due : List ℕ) → IsConstrained m due → IsTriangleMesh m
  triangulated_of m due sound = record { closed = sound.closed; joined = sound.joined; triangles = sound.triangles; plane = sound.plane }

  -- where each edge that is to be looked at is listed, and none is freed
  pub free_put : (old new : Mesh Point DE Mark F) (due items : List ℕ) → ListsFree old due → KeepsListed old new due items
      → ((u : ℕ) → IsMarked old u → IsMarked new u) → ListsFree new items
  free_put old new due items listed lists marked u inner circled free =
      elim (in_either u items (marked_edges old) (lists (marked_edges old) (to_circled old due listed) u inner circled)) [
        | inl there ↦ there
        | inr before ↦ absurd (free (marked u (listed_marked old u before)))
      ]

  pub stays_both : (old mid new : Mesh Point DE Mark F) → StaysMarked old mid → StaysMarked mid new → StaysMarked old new
  stays_both old mid new first second = record {
    keeps = keeps_both old mid new first.keeps second.keeps;
    only = λ u marked. first.only u (second.only u marked);
    points = second.points ∙ first.points;
  }

  pub stays_free : (old new : Mesh Point DE Mark F) → TurnsFree old new → StaysMarked old new
  stays_free old new turns =
      let kept = free_kept old new turns in record { keeps = free_keeps old new turns; only = kept_unmarked old new kept; points = kept.points }

  module _ (old mid new : Mesh Point DE Mark F) where
    -- a step before others
    module _ (stays : StaysMarked old mid) (mesh : IsMesh old) (mesh_then : IsMesh mid) (closed : mid.shape.removal ≡ Closed) where
      stays_each : (h : ℕ) → IsMarked old (h / 2) → IsAsWas old mid h
      stays_each h marked =
          let still = stays.keeps.marked (h / 2) marked in
          record {
            leads = record {
              live = closed-live mid.shape closed (h / 2) (marked_below mid mesh_then (h / 2) still);
              start = start_kept old mid stays.keeps h marked;
              end = end_kept old mid stays.keeps h marked;
            };
            marked = still;
          }

      constraints_stay : KeepsConstraints old mid
      constraints_stay =
          constraints_kept old mid mesh (λ v below. ap (λ (at : ℕ → Point). at v) (points_stay old mid stays.points)) (λ h live marked. inl (stays_each h marked))

      part_before : (h u : ℕ) → IsMarked old (h / 2) → IsPartOf new (origin_of mid.shape h) (end_of mid.shape h) u → IsPartOf new (origin_of old.shape h) (end_of old.shape h) u
      part_before h u was part =
          subst (λ (v : ℕ). IsPartOf new v (end_of old.shape h) u) (start_kept old mid stays.keeps h was)
          (subst (λ (w : ℕ). IsPartOf new (origin_of mid.shape h) w u) (end_kept old mid stays.keeps h was) part)

      pub stays_splits : SplitsMarked mid new → SplitsMarked old new
      stays_splits splits = record {
        marked = λ u marked. splits.marked u (stays.keeps.marked u marked);
        own = λ u marked.
            (let half : 2 * u / 2 ≡ u = omega arith in
            part_before (2 * u) u (subst (IsMarked old) (sym half) marked) (splits.own u (stays.keeps.marked u marked)));
        constraints = λ v w has. splits.constraints v w (constraints_stay v w has);
        parts = λ u marked.
            (let found = splits.parts u marked in
            let was = stays.only (found.0 / 2) found.1 in
            (found.0, was, part_before found.0 u was found.2));
      }

  -- where no other step follows
  pub splits_alone : (old new : Mesh Point DE Mark F) → StaysMarked old new → IsMesh old → IsMesh new → new.shape.removal ≡ Closed → SplitsMarked old new
  splits_alone old new stays mesh mesh_then closed = record {
    marked = stays.keeps.marked;
    own = own;
    constraints = constraints_stay old new new stays mesh mesh_then closed;
    parts = λ u marked.
        (let was = stays.only u marked in
        let half : 2 * u / 2 ≡ u = omega arith in
        (2 * u, subst (IsMarked old) (sym half) was, own u was));
  }
    where
      own : (u : ℕ) → IsMarked old u → IsPartOf new (origin_of old.shape (2 * u)) (end_of old.shape (2 * u)) u
      own u was = record { from = inl (stays.keeps.from u was); to = inr (inl (stays.keeps.to u was ∙ ap (origin_of old.shape) (sym (rev-double u)))) }

  -- or after them
  pub splits_stays : (old mid new : Mesh Point DE Mark F) → SplitsMarked old mid → StaysMarked mid new → IsMesh mid → IsMesh new → new.shape.removal ≡ Closed → SplitsMarked old new
  splits_stays old mid new splits stays mesh mesh_then closed = record {
    marked = λ u marked. stays.keeps.marked u (splits.marked u marked);
    own = λ u marked. part_stays (origin_of old.shape (2 * u)) (end_of old.shape (2 * u)) u (splits.marked u marked) (splits.own u marked);
    constraints = λ v w has. constraints_stay mid new new stays mesh mesh_then closed v w (splits.constraints v w has);
    parts = λ u marked.
        (let was = stays.only u marked in
        let found = splits.parts u was in
        (found.0, found.1, part_stays (origin_of old.shape found.0) (end_of old.shape found.0) u was found.2));
  }
    where
      part_stays : (v w u : ℕ) → IsMarked mid u → IsPartOf mid v w u → IsPartOf new v w u
      part_stays v w u marked part =
          let same = points_stay mid new stays.points in
          record {
            from =
                subst (λ (at : ℕ → Point). LiesOnSegment at v w (origin_of new.shape (2 * u))) (sym same)
                (subst (LiesOnSegment (point_at mid) v w) (sym (stays.keeps.from u marked)) part.from);
            to =
                subst (λ (at : ℕ → Point). LiesOnSegment at v w (origin_of new.shape (2 * u + 1))) (sym same)
                (subst (LiesOnSegment (point_at mid) v w) (sym (stays.keeps.to u marked)) part.to);
          }

  -- what a point put in leaves of the vertices: nothing has changed, or one is new
  pub points_kept : (old new : Mesh Point DE Mark F) (p : Point) (t : ℕ) → IsMesh old → (new ≡ old) ⊎ Gains old new p t → (v : ℕ) → v < old.shape.vertices
      → point_at new v ≡ point_at old v
  points_kept old new p t mesh (inl same) v below = ap (λ (m : Mesh Point DE Mark F). point_at m v) same
  points_kept old new p t mesh (inr gains) v below = points_before old new p t mesh gains v below

  -- beside an edge none is split
  pub starts_beside : (old new : Mesh Point DE Mark F) (position : PositionInTriangulation) (t : ℕ) → ((h : ℕ) → position ≢ OnEdge h) → KeepsEnds old new position t → KeepsStarts old new
  starts_beside old new (OnVertex v) t beside kept = kept
  starts_beside old new (OnFace f) t beside kept = kept
  starts_beside old new (OnEdge h) t beside kept = absurd (beside h refl)
  starts_beside old new (OutsideOfConvexHull h) t beside kept = kept
  starts_beside old new (BeyondLine v) t beside kept = kept
  starts_beside old new NoTriangulation t beside kept = kept

  module _ (old new : Mesh Point DE Mark F) (is_free : Mark → Type 0) (free : (x : Mark) → is_free x → x ≡ Free) (added : KeepsEdgeData is_free old new) (mesh : IsMesh old)
      (mesh_after : IsMesh new) (closed : new.shape.removal ≡ Closed) (starts : KeepsStarts old new) where
    pub splits_beside : ((v : ℕ) → v < old.shape.vertices → point_at new v ≡ point_at old v) → SplitsMarked old new
    splits_beside points =
        splits_none old new is_free free added mesh mesh_after closed (starts_marked old new is_free free added mesh mesh_after closed starts) points

  -- where more is to be looked at, the hull may be open still
  pub outside_more : (m : Mesh Point DE Mark F) (due : List ℕ) (u : ℕ) → HasOutside m due → HasOutside m (due ++ u ∷ [])
  outside_more m due u (inl flat) = inl flat
  outside_more m due u (inr (inl has)) = inr (inl has)
  outside_more m [] u (inr (inr opened)) = absurd (opened.0 refl)
  outside_more m (x ∷ due) u (inr (inr opened)) = inr (inr ((λ none. cc), opened.1))

  pub starts_result : (old new : Mesh Point DE Mark F) (position : PositionInTriangulation) (r : Result ℕ InsertionError) → ((h : ℕ) → position ≢ OnEdge h)
      → IfOk r (KeepsEnds old new position) → OnErr r (KeepsStarts old new) → KeepsStarts old new
  starts_result old new position (Ok t) beside ends starts = starts_beside old new position t beside ends
  starts_result old new position (Err e) beside ends starts = starts

-- a point put in, or refused
module _ {A : Type 0} (old new : PlanarMesh Mark A) (position : PositionInTriangulation) (p : Point) where
  pub points_result : (r : Result ℕ InsertionError) → IsMesh old.dcel → IfOk r (IsPutIn old new position p)
      → OnErr r ((new.dcel ≡ old.dcel) ⊎ Gains old.dcel new.dcel p old.dcel.shape.vertices) → (v : ℕ) → v < old.dcel.shape.vertices
      → point_at new.dcel v ≡ point_at old.dcel v
  points_result (Ok t) mesh (inl same) fails = points_kept old.dcel new.dcel p t mesh (inl same.1.mesh)
  points_result (Ok t) mesh (inr gains) fails = points_kept old.dcel new.dcel p t mesh (inr gains)
  points_result (Err e) mesh put fails = points_kept old.dcel new.dcel p old.dcel.shape.vertices mesh fails

module _ {A : Type 0} (t : ConstrainedTriangulation A) where
  pub sound_of : IsConstrained t.planar.dcel t.planar.due.items
  sound_of = constrained_of t.planar.dcel t.planar.due.items t.planar.triangulated t.listed

  pub outlined_of : t.planar.due.items ≡ [] → IsFlat t.planar.dcel ⊎ HasHull t.planar.dcel
  outlined_of none = settled_outlined t.planar.dcel t.planar.due.items t.planar.outlined none
