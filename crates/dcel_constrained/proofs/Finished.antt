-- Where the same edges are marked as before, between the same vertices.
use Rattle.std.proofs.Common.{◌≡◌, ◌↔◌, inl, inr, ℕ, ◌*◌, ◌+◌, ◌/◌, Bool, IsTrue, length, sym, ap, subst, pos, arith}
use Rattle.std.proofs.lemmas.Bool.{cases_eq}
use Rattle.dcel_predicates.specs.declared.point.Point.{Point}
use Rattle.dcel_predicates.proofs.Signs.{ordered}
use Rattle.dcel_maps.specs.Removals.{Closed}
use Rattle.dcel_maps.specs.Shapes.{IsMesh, Mesh, origin_of}
use Rattle.dcel_maps.proofs.Liveness.{closed-live}
use Rattle.dcel_plane.specs.Plane.{point_at}
use Rattle.dcel_plane.proofs.covering.Inside.{on_end, on_start}
use Rattle.dcel_plane.specs.segments.Segments.{Crosses, orient2d_by}
use Rattle.dcel_regions.specs.Marked.{IsMarked}
use Rattle.dcel_regions.specs.declared.mark.Mark.{Mark}
use Rattle.dcel_constrained.specs.Constraints.{IsPartOf, KeepsMarked, LiesOnSegment, MarksOnly}
use Rattle.dcel_constrained.specs.Soundness.{CanAdd, MarksAnother}
use Rattle.dcel_constrained.proofs.Free.{crosses_as, end_kept, start_kept}
use Rattle.dcel_constrained.proofs.Laid.{points_stay}
use Rattle.dcel_constrained.proofs.Marking.{marked_below}

-- a vertex on a segment lies on its line
on_segment : (at : ℕ → Point) (v w x : ℕ) → LiesOnSegment at v w x → orient2d_by at v w x ≡ pos 0
on_segment at v w x (inl is) = subst (λ (i : ℕ). orient2d_by at v w i ≡ pos 0) (sym is) (on_end (at v) (at w))
on_segment at v w x (inr (inl is)) = subst (λ (i : ℕ). orient2d_by at v w i ≡ pos 0) (sym is) (on_start (at v) (at w))
on_segment at v w x (inr (inr lies)) = lies.on

module _ {DE F : Type 0} where
  -- so a part of a segment doesn't cross it
  part_crosses : (m : Mesh Point DE Mark F) (v w h : ℕ) → IsPartOf m v w (h / 2) → Crosses (point_at m) m.shape v w h → ⊥
  part_crosses m v w h part crosses =
      let on : orient2d_by (point_at m) v w (origin_of m.shape h) ≡ pos 0 = on_segment (point_at m) v w (origin_of m.shape h) (elim (cases_eq h (2 * (h / 2))) [
        | inl even ↦ subst (λ (i : ℕ). LiesOnSegment (point_at m) v w (origin_of m.shape i)) (sym even) part.from
        | inr not ↦
            (let odd : h ≡ 2 * (h / 2) + 1 = omega (arith, not) in
            subst (λ (i : ℕ). LiesOnSegment (point_at m) v w (origin_of m.shape i)) (sym odd) part.to)
      ]) in
      let right = crosses.right in
      omega (arith, ordered, on, right)

  -- what could be added can be, whatever parts of it are marked
  pub can_again : (old new : Mesh Point DE Mark F) (v w : ℕ) → KeepsMarked old new → MarksOnly old new v w → IsMesh old → IsMesh new → old.shape.removal ≡ Closed
      → new.vertex_data ≡ old.vertex_data → CanAdd old v w → CanAdd new v w
  can_again old new v w keeps only mesh mesh_new closed points can =
      let many = ap length points in
      let vertices : new.shape.vertices ≡ old.shape.vertices = omega (arith, many, mesh.sized.vertex_data, mesh_new.sized.vertex_data) in
      record {
        from = omega (arith, vertices, can.from);
        to = omega (arith, vertices, can.to);
        free = λ h crosses marked. elim (only (h / 2) marked) [
          | inl was ↦
              can.free h
              (crosses_as (point_at new) (point_at old) new.shape old.shape v w h (sym (points_stay old new points))
              (closed-live old.shape closed (h / 2) (marked_below old mesh (h / 2) was)) (sym (start_kept old new keeps h was)) (sym (end_kept old new keeps h was)) crosses)
              was
          | inr part ↦ part_crosses new v w h part crosses
        ];
      }

module _ {DE F : Type 0} (old new : Mesh Point DE Mark F) (keeps : KeepsMarked old new) (only : (u : ℕ) → IsMarked new u → IsMarked old u) where
  pub can_still : IsMesh old → IsMesh new → old.shape.removal ≡ Closed → new.vertex_data ≡ old.vertex_data → (v w : ℕ) → CanAdd old v w → CanAdd new v w
  can_still mesh mesh_new closed points v w can = can_again old new v w keeps (λ u marked. inl (only u marked)) mesh mesh_new closed points can

  -- and what is marked after that is told from before
  pub only_still : (then : Mesh Point DE Mark F) (v w : ℕ) → MarksOnly new then v w → MarksOnly old then v w
  only_still then v w marks u marked = elim (marks u marked) [ inl was ↦ inl (only u was) | inr part ↦ inr part ]

  pub added_still : (then : Mesh Point DE Mark F) (b : Bool) → (IsTrue b ↔ MarksAnother new then) → IsTrue b ↔ MarksAnother old then
  added_still then b told = (
    λ so. (let some = told.0 so in (some.0, some.1, λ was. some.2 (keeps.marked some.0 was))),
    λ another. told.1 (another.0, another.1, λ was. another.2 (only another.0 was)),
  )
