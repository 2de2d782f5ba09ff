-- Segments made constraints one after another.
use Rattle.std.proofs.Common.{◌≡◌, ◌≢◌, ◌⊎◌, inl, inr, ℕ, ◌*◌, ◌+◌, ◌≤◌, ◌/◌, List, Some, slice_get, sym, ap, ◌∙◌, subst, arith}
use Rattle.std.proofs.lemmas.Bool.{cases_eq}
use Rattle.std.proofs.lemmas.Option.{same_Some}
use Rattle.std.specs.Global.{Global}
use Rattle.dcel_predicates.specs.declared.point.Point.{Point}
use Rattle.dcel_maps.specs.Removals.{Closed}
use Rattle.dcel_maps.specs.Shapes.{IsMesh, Mesh, origin_of}
use Rattle.dcel_maps.proofs.Liveness.{closed-live}
use Rattle.dcel_plane.specs.Plane.{point_at}
use Rattle.dcel_planar.specs.Outcomes.{IsWholeMesh}
use Rattle.dcel_delaunay.specs.declared.lists.Ends.{Ends}
use Rattle.dcel_regions.specs.Marked.{IsMarked}
use Rattle.dcel_regions.specs.declared.mark.Mark.{Mark}
use Rattle.dcel_constrained.specs.Blocking.{FailsToAdd}
use Rattle.dcel_constrained.specs.Constraints.{HasConstraint, IsPartOf, KeepsMarked, LiesOnSegment, MarksOnly}
use Rattle.dcel_constrained.specs.Splitting.{KeepsConstraints}
use Rattle.dcel_constrained.specs.declared.errors.ConstraintError.{ConstraintError}
use Rattle.dcel_constrained.specs.declared.errors.ConstraintError.TheVariants.{Blocked, NoVertex, OutOfMemory}
use Rattle.dcel_constrained.proofs.Blocked.{a_block}
use Rattle.dcel_constrained.proofs.Free.{end_kept, start_kept}
use Rattle.dcel_constrained.proofs.Laid.{keeps_both, points_stay}
use Rattle.dcel_constrained.proofs.Marking.{marked_below}
use Rattle.dcel_constrained.proofs.Splits.{constraints_kept}
use Rattle.dcel_triangulations.specs.constrained.Adding.{IsRefusedSegment, LaysSegments, constraint_status}
use Rattle.dcel_triangulations.specs.constrained.Held.{State}

module _ {DE F : Type 0} where
  -- a mesh that is lent is sound, and so is the one behind it
  pub mesh_is : (lent m : Mesh Point DE Mark F) → lent ≡ m → IsMesh lent → IsMesh m
  mesh_is lent m is mesh = subst (λ (k : Mesh Point DE Mark F). IsMesh k) is mesh

  -- what was a constraint is one still
  constraints_stay : (old new : Mesh Point DE Mark F) → IsMesh old → IsMesh new → new.shape.removal ≡ Closed → KeepsMarked old new → new.vertex_data ≡ old.vertex_data
      → KeepsConstraints old new
  constraints_stay old new mesh mesh_new closed keeps points =
      constraints_kept old new mesh (λ v below. ap (λ (at : ℕ → Point). at v) (points_stay old new points)) (λ h live marked. inl (record {
        leads = record {
          live = closed-live new.shape closed (h / 2) (marked_below new mesh_new (h / 2) (keeps.marked (h / 2) marked));
          start = start_kept old new keeps h marked;
          end = end_kept old new keeps h marked;
        };
        marked = keeps.marked (h / 2) marked;
      }))

  -- and a part of a segment is one still
  part_stays : (old new : Mesh Point DE Mark F) → KeepsMarked old new → new.vertex_data ≡ old.vertex_data → (v w u : ℕ) → IsMarked old u → IsPartOf old v w u
      → IsPartOf new v w u
  part_stays old new keeps points v w u was part =
      let same = points_stay old new points in
      record {
        from =
            subst (λ (at : ℕ → Point). LiesOnSegment at v w (origin_of new.shape (2 * u))) (sym same)
            (subst (LiesOnSegment (point_at old) v w) (sym (keeps.from u was)) part.from);
        to =
            subst (λ (at : ℕ → Point). LiesOnSegment at v w (origin_of new.shape (2 * u + 1))) (sym same)
            (subst (LiesOnSegment (point_at old) v w) (sym (keeps.to u was)) part.to);
      }

  -- before the first
  pub lays_none : (segments : List Ends) (tried : ℕ) (old new : Mesh Point DE Mark F) → KeepsMarked old new → ((u : ℕ) → IsMarked new u → IsMarked old u)
      → new.vertex_data ≡ old.vertex_data → LaysSegments segments 0 tried old new
  lays_none segments tried old new keeps only points = record {
    laid = λ i s less. absurd (omega (arith, less));
    keeps = keeps;
    only = λ u marked. inl (only u marked);
    points = points;
  }

  module _ (segments : List Ends) (old mid new : Mesh Point DE Mark F) (k : ℕ) (s : Ends) (there : slice_get segments k ≡ Some s)
      (mesh : IsMesh mid) (mesh_new : IsMesh new) (closed : new.shape.removal ≡ Closed) (keeps : KeepsMarked mid new) (points : new.vertex_data ≡ mid.vertex_data)
      (only : MarksOnly mid new s.from s.to) (lays : LaysSegments segments k k old mid) where
    -- parts of one more
    pub lays_part : LaysSegments segments k (k + 1) old new
    lays_part = record {
      laid = λ i t less at. constraints_stay mid new mesh mesh_new closed keeps points t.from t.to (lays.laid i t less at);
      keeps = keeps_both old mid new lays.keeps keeps;
      only = λ u marked. elim (only u marked) [
        | inl was ↦
            elim (lays.only u was) [
              | inl before ↦ inl before
              | inr part ↦
                  (let less = part.2 in inr (part.0, part.1, omega (arith, less), part.3, part_stays mid new keeps points part.1.from part.1.to u was part.4))
            ]
        | inr part ↦ inr (k, s, omega arith, there, part)
      ];
      points = points ∙ lays.points;
    }

    -- one more
    pub lays_more : HasConstraint new s.from s.to → LaysSegments segments (k + 1) (k + 1) old new
    lays_more has = record {
      laid = λ i t less at. elim (cases_eq i k) [
        | inl is ↦
            (let same : s ≡ t = same_Some s t (sym there ∙ ap (slice_get segments) (sym is) ∙ at) in
            subst (λ (r : Ends). HasConstraint new r.from r.to) same has)
        | inr differ ↦ lays_part.laid i t (omega (arith, less, differ)) at
      ];
      keeps = lays_part.keeps;
      only = lays_part.only;
      points = lays_part.points;
    }

-- what is left once a segment isn't added, by what is told
module _ (old new : State) (s : Ends) where
  pub refused_as : (e : ConstraintError Global) (status : ℕ) → status ≡ constraint_status e → FailsToAdd old.planar new.planar s.from s.to e
      → (status ≡ 1) ⊎ (status ≡ 26) → IsRefusedSegment s status new × (IsWholeMesh old.planar → new.planar.dcel ≡ old.planar.dcel)
  refused_as NoVertex status is fails why = (inl (is, fails.0), fails.1.keeps.same)
  refused_as (Blocked edges) status is fails why =
      (inr (is, a_block new.planar.dcel s.from s.to edges.items fails.1 fails.2), fails.3.keeps.same)
  refused_as OutOfMemory status is fails why = absurd (elim why [
    | inl one ↦ omega (arith, is, one)
    | inr other ↦ omega (arith, is, other)
  ])

  pub whole_still : (e : ConstraintError Global) (status : ℕ) → status ≡ constraint_status e → FailsToAdd old.planar new.planar s.from s.to e
      → status ≢ 20 → IsWholeMesh new.planar
  whole_still NoVertex status is fails other = fails.1.whole
  whole_still (Blocked edges) status is fails other = fails.3.whole
  whole_still OutOfMemory status is fails other = absurd (other is)

  pub status_is : (e : ConstraintError Global) (status : ℕ) → status ≡ constraint_status e → (status ≤ 1) ⊎ ((status ≡ 20) ⊎ (status ≡ 26))
  status_is NoVertex status is = inl (omega (arith, is))
  status_is (Blocked edges) status is = inr (inr is)
  status_is OutOfMemory status is = inr (inl is)
