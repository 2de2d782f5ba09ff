-- Marked edges between vertices, over a removal.
use Rattle.std.proofs.Common.{◌≡◌, ◌≢◌, ◌↔◌, inl, inr, ℕ, ◌+◌, ◌-◌, ◌/◌, length, List, slice_index_or, sym, ap, ◌∙◌, subst, arith}
use Rattle.dcel_fixed.specs.HalfEdges.{rev}
use Rattle.dcel_fixed.proofs.Halves.{rev-rev}
use Rattle.dcel_predicates.specs.declared.point.Point.{Point}
use Rattle.dcel_maps.specs.Borders.{IsEdgeAt}
use Rattle.dcel_maps.specs.Removals.{Closed}
use Rattle.dcel_maps.specs.Renumbering.{moved}
use Rattle.dcel_maps.specs.Shapes.{IsMesh, Mesh, Shape, origin_of}
use Rattle.dcel_maps.specs.Walking.{Leads}
use Rattle.dcel_maps.proofs.Liveness.{closed-live}
use Rattle.dcel_maps.proofs.maps.Halves.{rev_or_same}
use Rattle.dcel_delaunay.specs.Removing.{Loses}
use Rattle.dcel_delaunay.specs.Staying.{HasConstraintAt, KeepsStaying, LosesNoneStaying, StaysBetween}
use Rattle.dcel_delaunay.specs.declared.removed.Removed.{Removed}
use Rattle.dcel_planar.specs.Growing.{Keeps}
use Rattle.dcel_plane.specs.Plane.{origin_point, point_at}
use Rattle.dcel_regions.specs.Marked.{is_constraint}
use Rattle.dcel_regions.specs.declared.mark.Mark.{Mark}
use Rattle.dcel_constrained.specs.Removing.{FreesEdgesOf, HasNoConstraintAt, KeepsOtherConstraints, LosesConstraintsOf}
use Rattle.dcel_constrained.specs.Soundness.{AreConstrained}
use Rattle.dcel_constrained.specs.Splitting.{StaysMarked}
use Rattle.dcel_constrained.proofs.Free.{end_kept, start_kept}
use Rattle.dcel_constrained.proofs.Loose.{of_stay, to_stay}
use Rattle.dcel_constrained.proofs.Marking.{marked_below}

module _ {DE F : Type 0} where
  -- marks are what stays
  pub loose_from : (m : Mesh Point DE Mark F) (v : ℕ) → HasNoConstraintAt m v → ¬ HasConstraintAt is_constraint m v
  loose_from m v none at = none at.0 at.1 (of_stay m (at.0 / 2) at.2)

  to_between : (m : Mesh Point DE Mark F) (a b : ℕ) → AreConstrained m a b → StaysBetween is_constraint m a b
  to_between m a b are = (are.0, are.1, to_stay m (are.0 / 2) are.2)

  of_between : (m : Mesh Point DE Mark F) (a b : ℕ) → StaysBetween is_constraint m a b → AreConstrained m a b
  of_between m a b are = (are.0, are.1, of_stay m (are.0 / 2) are.2)

  -- where the same edges are marked
  module _ (old new : Mesh Point DE Mark F) (stays : StaysMarked old new) where
    pub constrained_still : IsMesh new → new.shape.removal ≡ Closed → (a b : ℕ) → AreConstrained old a b → AreConstrained new a b
    constrained_still mesh closed a b are =
        let h = are.0 in
        let leads = are.1 in
        let still = stays.keeps.marked (h / 2) are.2 in (
          h,
          record {
            live = closed-live new.shape closed (h / 2) (marked_below new mesh (h / 2) still);
            start = start_kept old new stays.keeps h are.2 ∙ leads.start;
            end = end_kept old new stays.keeps h are.2 ∙ leads.end;
          },
          still,
        )

    pub constrained_before : IsMesh old → old.shape.removal ≡ Closed → (a b : ℕ) → AreConstrained new a b → AreConstrained old a b
    constrained_before mesh closed a b are =
        let h = are.0 in
        let leads = are.1 in
        let was = stays.only (h / 2) are.2 in (
          h,
          record {
            live = closed-live old.shape closed (h / 2) (marked_below old mesh (h / 2) was);
            start = sym (start_kept old new stays.keeps h was) ∙ leads.start;
            end = sym (end_kept old new stays.keeps h was) ∙ leads.end;
          },
          was,
        )

    pub vertices_same : IsMesh old → IsMesh new → new.shape.vertices ≡ old.shape.vertices
    vertices_same mesh mesh_new = (let many = ap length stays.points in omega (arith, many, mesh.sized.vertex_data, mesh_new.sized.vertex_data))

  -- where edges of v are freed
  module _ (old new : Mesh Point DE Mark F) (v : ℕ) (frees : FreesEdgesOf old new v) where
    off : (a b h : ℕ) → a ≢ v → b ≢ v → Leads old.shape a b h → ¬ IsEdgeAt old.shape v (h / 2)
    off a b h not_a not_b leads at = elim (rev_or_same h at.half (sym at.is)) [
      | inl is ↦ not_a (sym leads.start ∙ ap (origin_of old.shape) is ∙ at.out.start)
      | inr is ↦ not_b (sym leads.end ∙ ap (λ (k : ℕ). origin_of old.shape (rev k)) is ∙ ap (origin_of old.shape) (rev-rev at.half) ∙ at.out.start)
    ]

    pub others_freed : KeepsOtherConstraints old new v
    others_freed = record {
      others = λ a b not_a not_b are.
          (are.0, subst (λ (s : Shape). Leads s a b are.0) (sym frees.shape) are.1, frees.others (are.0 / 2) are.2 (off a b are.0 not_a not_b are.1));
      only = λ a b are. (are.0, subst (λ (s : Shape). Leads s a b are.0) frees.shape are.1, frees.only (are.0 / 2) are.2);
    }

  -- and others flipped
  pub others_flipped : (old mid new : Mesh Point DE Mark F) (v : ℕ) → KeepsOtherConstraints old mid v → KeepsStaying is_constraint mid new → KeepsOtherConstraints old new v
  others_flipped old mid new v first then = record {
    others = λ a b not_a not_b are. of_between new a b ((then a b).0 (to_between mid a b (first.others a b not_a not_b are)));
    only = λ a b are. first.only a b (of_between mid a b ((then a b).1 (to_between new a b are)));
  }

  -- and v taken out
  pub others_left : (old mid new : Mesh Point DE Mark F) (v : ℕ) → mid.shape ≡ old.shape → KeepsOtherConstraints old mid v → LosesNoneStaying is_constraint mid new v
      → LosesConstraintsOf old new v
  others_left old mid new v shape first loses =
      subst (λ (k : ℕ). (a b : ℕ) → a ≢ v → b ≢ v → AreConstrained old a b ↔ AreConstrained new (moved (k - 1) v a) (moved (k - 1) v b)) (ap (λ (s : Shape). s.vertices) shape)
      (λ a b not_a not_b. (
        λ are. of_between new _ _ ((loses a b not_a not_b).0 (to_between mid a b (first.others a b not_a not_b are))),
        λ are. first.only a b (of_between mid a b ((loses a b not_a not_b).1 (to_between new _ _ are))),
      ))

  -- with the same edges marked before and afterwards
  module _ (old first : Mesh Point DE Mark F) (stays : StaysMarked old first) (mesh : IsMesh old) (mesh_first : IsMesh first) (closed : old.shape.removal ≡ Closed)
      (closed_first : first.shape.removal ≡ Closed) (v : ℕ) where
    pub none_freed : KeepsOtherConstraints old first v
    none_freed = record {
      others = λ a b not_a not_b. constrained_still old first stays mesh_first closed_first a b;
      only = constrained_before old first stays mesh closed;
    }

    pub freed_then : (new : Mesh Point DE Mark F) → KeepsOtherConstraints first new v → KeepsOtherConstraints old new v
    freed_then new then = record {
      others = λ a b not_a not_b are. then.others a b not_a not_b (constrained_still old first stays mesh_first closed_first a b are);
      only = λ a b are. constrained_before old first stays mesh closed a b (then.only a b are);
    }

    pub lost_then : (last new : Mesh Point DE Mark F) → LosesConstraintsOf first last v → StaysMarked last new → IsMesh last → IsMesh new → last.shape.removal ≡ Closed
        → new.shape.removal ≡ Closed → LosesConstraintsOf old new v
    lost_then last new loses then mesh_last mesh_new closed_last closed_new =
        subst (λ (k : ℕ). (a b : ℕ) → a ≢ v → b ≢ v → AreConstrained old a b ↔ AreConstrained new (moved (k - 1) v a) (moved (k - 1) v b)) (vertices_same old first stays mesh mesh_first)
        (λ a b not_a not_b. (
          λ are. constrained_still last new then mesh_new closed_new _ _ ((loses a b not_a not_b).0 (constrained_still old first stays mesh_first closed_first a b are)),
          λ are. constrained_before old first stays mesh closed a b ((loses a b not_a not_b).1 (constrained_before last new then mesh_last closed_last _ _ are)),
        ))

  -- the vertices stand where they stood once v is gone
  pub loses_still : (old last new : Mesh Point DE Mark F) (v : ℕ) (r : Removed) → Loses old last v r → Keeps last new → Loses old new v r
  loses_still old last new v r loses keeps = record {
    within = loses.within;
    vertices = ap (λ (k : ℕ). k + 1) keeps.vertices ∙ loses.vertices;
    point = loses.point;
    renamed = loses.renamed;
    others = λ w below other.
        subst (λ (points : List Point). slice_index_or points (moved (old.shape.vertices - 1) v w) origin_point ≡ point_at old w) (sym keeps.points) (loses.others w below other);
  }
