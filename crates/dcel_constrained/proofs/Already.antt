-- An edge that joins the ends of a segment: marked, it is what is laid; and one that was marked before flips of free edges was there.
use Rattle.std.proofs.Common.{◌≡◌, ◌↔◌, inl, inr, ℕ, ◌/◌, ◌<◌, Bool, IsTrue, List, refl, sym, ◌∙◌, subst}
use Rattle.dcel_predicates.specs.declared.point.Point.{Point}
use Rattle.dcel_maps.specs.edits.Data.{undirected_edge_updated}
use Rattle.dcel_maps.specs.Removals.{gives_up_edge}
use Rattle.dcel_maps.specs.Shapes.{IsMesh, Mesh}
use Rattle.dcel_maps.specs.Walking.{Leads}
use Rattle.dcel_maps.specs.Words.{count_of}
use Rattle.dcel_maps.proofs.Liveness.{closed-live, is_live-parts}
use Rattle.dcel_plane.specs.Plane.{point_at}
use Rattle.dcel_plane.specs.segments.Segments.{Crosses, TurnsInto}
use Rattle.dcel_planar.specs.Growing.{HasHull}
use Rattle.dcel_regions.specs.Marked.{IsMarked}
use Rattle.dcel_regions.specs.declared.mark.Mark.{Mark}
use Rattle.dcel_regions.specs.declared.mark.Mark.TheVariants.{Constraint}
use Rattle.dcel_constrained.specs.Constraints.{IsFreeWay, KeepsMarked}
use Rattle.dcel_constrained.specs.Laying.{IsLaid, MarksBetween}
use Rattle.dcel_constrained.specs.Soundness.{IsConstrained, MarksAnother}
use Rattle.dcel_constrained.proofs.Free.{end_kept, free_keeps, free_kept, joined_free, kept_unmarked, start_kept}
use Rattle.dcel_constrained.proofs.Marking.{constrained_more, marked_again, marked_below, marked_itself, marked_keeps, marked_now, marked_or_not}

module _ {DE F : Type 0} (old made : Mesh Point DE Mark F) (v w : ℕ) (mesh : IsMesh old) (due : List ℕ) (sound : IsConstrained old due) (free : IsFreeWay old v w)
    (flips : (list : List ℕ) × TurnsInto (point_at old) old made list × ((k : ℕ) → 0 < count_of k list → Crosses (point_at old) old.shape v w k))
    (h : ℕ) (leads : Leads made.shape v w h) (marked : IsMarked made (h / 2)) where
  keeps : KeepsMarked old made
  keeps = free_keeps old made (joined_free old made v w free flips)

  pub was_marked : IsMarked old (h / 2)
  was_marked = kept_unmarked old made (free_kept old made (joined_free old made v w free flips)) (h / 2) marked

  pub has_led : Leads old.shape v w h
  has_led = record {
    live = closed-live old.shape sound.closed (h / 2) (marked_below old mesh (h / 2) was_marked);
    start = sym (start_kept old made keeps h was_marked) ∙ leads.start;
    end = sym (end_kept old made keeps h was_marked) ∙ leads.end;
  }

-- an edge h leads from v to w, and is marked
module _ {DE F : Type 0} (old : Mesh Point DE Mark F) (v w h : ℕ) (mesh : IsMesh old) (leads : Leads old.shape v w h) where
  pub edge_below : h / 2 < old.shape.edges
  edge_below = (is_live-parts (gives_up_edge old.shape.removal) old.shape.edges (h / 2) leads.live).0

  module _ (new : Mesh Point DE Mark F) (edit : new ≡ undirected_edge_updated old (h / 2) Constraint) where
    pub edge_laid : (is_new : Bool) → (IsTrue is_new ↔ (¬ IsMarked old (h / 2))) → IsLaid old new v w is_new
    edge_laid is_new told = subst (λ (m : Mesh Point DE Mark F). IsLaid old m v w is_new) (sym edit) (record {
      half = h;
      leads = record { live = leads.live; start = leads.start; end = leads.end };
      marked = marked_itself old (h / 2) mesh edge_below;
      only = λ u marked. elim (marked_now old (h / 2) u marked) [ inl is ↦ inr (sym is) | inr was ↦ inl was ];
      added = told;
    })

    pub edge_marked : MarksBetween old new v w
    edge_marked = subst (λ (m : Mesh Point DE Mark F). MarksBetween old m v w) (sym edit) (record {
      vertices = refl;
      edges = refl;
      points = refl;
      keeps = marked_keeps old (h / 2) mesh;
      only = λ u marked. elim (marked_now old (h / 2) u marked) [
        | inl is ↦ inr (h, record { live = leads.live; start = leads.start; end = leads.end }, sym is)
        | inr was ↦ inl was
      ];
    })

    pub edge_same : ¬ MarksAnother old new → new ≡ old
    edge_same none = elim (marked_or_not old (h / 2)) [
      | inl marked ↦ edit ∙ marked_again old (h / 2) marked
      | inr not ↦
          absurd (none (h / 2, subst (λ (m : Mesh Point DE Mark F). IsMarked m (h / 2)) (sym edit) (marked_itself old (h / 2) mesh edge_below), not))
    ]

    pub edge_sound : (due : List ℕ) → IsConstrained old due → IsConstrained new due
    edge_sound due sound = subst (λ (m : Mesh Point DE Mark F). IsConstrained m due) (sym edit) (constrained_more old (h / 2) due mesh sound)

    pub edge_hull : HasHull old → HasHull new
    edge_hull has = subst (λ (m : Mesh Point DE Mark F). HasHull m) (sym edit) (record { inner = has.inner; convex = has.convex; hull = has.hull })
