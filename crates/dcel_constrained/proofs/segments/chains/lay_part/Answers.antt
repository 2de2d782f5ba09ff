use Rattle.std.proofs.Common.{◌≡◌, ◌↔◌, ℕ, ◌/◌, IsTrue, inl, inr, refl, ap, ◌∙◌, subst}
use Rattle.dcel_maps.specs.edits.Data.{undirected_edge_updated}
use Rattle.dcel_plane.specs.Plane.{point_at}
use Rattle.dcel_regions.specs.Marked.{IsMarked}
use Rattle.dcel_regions.specs.declared.mark.Mark.TheVariants.{Constraint}
use Rattle.dcel_constrained.specs.declared.segments.join.Joined.TheVariants.{Between}
use Rattle.dcel_constrained.proofs.Already.{edge_hull, edge_laid, edge_marked, edge_same, edge_sound}
use Rattle.dcel_constrained.proofs.Ending.{along_joins}
use Rattle.dcel_constrained.proofs.Outlined.{ends_of, inner_one, planar}
use Rattle.dcel_constrained.proofs.Passing.{edges_cross_nothing}
use Rattle.dcel_constrained.proofs.Settled.{triangulated_of}
use Rattle.dcel_constrained.proofs.segments.chains.lay_part.Goals as goal

pub invariant_of-planar : goal.invariant_of-planar
invariant_of-planar g c =
    let m = c.args.planar.now.dcel in
    let edit : c.mark-is_new.new.dcel ≡ undirected_edge_updated m (c.in-Some.half / 2) Constraint =
    c.mark-is_new.ensures.marked ∙ ap (λ (u : ℕ). undirected_edge_updated m u Constraint) c.as_undirected.ensures in
    let new = c.mark-is_new.new.dcel in
    record {
      triangulated =
          triangulated_of new c.args.planar.now.due.items
          (edge_sound m c.args.from c.args.to c.in-Some.half c.every_mesh.ensures c.in-Some.ensures.some new edit c.args.planar.now.due.items c.requires.sound);
      outlined = ∣ inr (inl (edge_hull m c.args.from c.args.to c.in-Some.half c.every_mesh.ensures c.in-Some.ensures.some new edit c.requires.hull)) ∣₁;
    }

pub returns-in-Some-clause-sound : goal.returns-in-Some-clause-sound
returns-in-Some-clause-sound g c =
    let m = c.args.planar.now.dcel in
    let edit : c.mark-is_new.new.dcel ≡ undirected_edge_updated m (c.in-Some.half / 2) Constraint =
    c.mark-is_new.ensures.marked ∙ ap (λ (u : ℕ). undirected_edge_updated m u Constraint) c.as_undirected.ensures in
    edge_sound m c.args.from c.args.to c.in-Some.half c.every_mesh.ensures c.in-Some.ensures.some c.mark-is_new.new.dcel edit c.args.planar.now.due.items c.requires.sound

pub returns-in-Some-clause-part : goal.returns-in-Some-clause-part
returns-in-Some-clause-part g c =
    let m = c.args.planar.now.dcel in
    let leads = c.in-Some.ensures.some in
    let edit : c.mark-is_new.new.dcel ≡ undirected_edge_updated m (c.in-Some.half / 2) Constraint =
    c.mark-is_new.ensures.marked ∙ ap (λ (u : ℕ). undirected_edge_updated m u Constraint) c.as_undirected.ensures in (
      edge_laid m c.args.from c.args.to c.in-Some.half c.every_mesh.ensures leads c.mark-is_new.new.dcel edit c.mark-is_new.result
          (subst (λ (u : ℕ). IsTrue c.mark-is_new.result ↔ (¬ IsMarked m u)) c.as_undirected.ensures c.mark-is_new.ensures.added),
      λ h crosses marked.
          edges_cross_nothing m (point_at m) (planar m c.every_mesh.ensures c.args.planar.now.due.items c.requires.sound c.requires.hull) c.args.from c.args.to c.in-Some.half
          leads.live leads.start leads.end h crosses,
    )

pub returns-in-Some-clause-marks : goal.returns-in-Some-clause-marks
returns-in-Some-clause-marks g c =
    let m = c.args.planar.now.dcel in
    let edit : c.mark-is_new.new.dcel ≡ undirected_edge_updated m (c.in-Some.half / 2) Constraint =
    c.mark-is_new.ensures.marked ∙ ap (λ (u : ℕ). undirected_edge_updated m u Constraint) c.as_undirected.ensures in
    edge_marked m c.args.from c.args.to c.in-Some.half c.every_mesh.ensures c.in-Some.ensures.some c.mark-is_new.new.dcel edit

pub returns-in-Some-clause-same : goal.returns-in-Some-clause-same
returns-in-Some-clause-same g c none =
    let m = c.args.planar.now.dcel in
    let edit : c.mark-is_new.new.dcel ≡ undirected_edge_updated m (c.in-Some.half / 2) Constraint =
    c.mark-is_new.ensures.marked ∙ ap (λ (u : ℕ). undirected_edge_updated m u Constraint) c.as_undirected.ensures in
    (edge_same m c.args.from c.args.to c.in-Some.half c.every_mesh.ensures c.in-Some.ensures.some c.mark-is_new.new.dcel edit none, c.requires.whole)

pub first_met-requires-clause-planar : goal.first_met-requires-clause-planar
first_met-requires-clause-planar g c = planar c.args.planar.now.dcel c.every_mesh.ensures c.args.planar.now.due.items c.requires.sound c.requires.hull

pub first_met-requires-clause-inner : goal.first_met-requires-clause-inner
first_met-requires-clause-inner g c = inner_one c.args.planar.now.dcel c.every_mesh.ensures c.args.planar.now.due.items c.requires.sound c.requires.hull

pub first_met-requires-clause-ends : goal.first_met-requires-clause-ends
first_met-requires-clause-ends g c =
    ends_of c.args.planar.now.dcel c.every_mesh.ensures c.args.planar.now.due.items c.requires.sound c.args.from c.args.to c.requires.differ c.requires.ends.from c.requires.ends.to

pub returns-in-Vertex-clause-part : goal.returns-in-Vertex-clause-part
returns-in-Vertex-clause-part g c =
    let m = c.args.planar.now.dcel in
    let way = c.in-Vertex.ensures in
    along_joins m c.every_mesh.ensures c.args.from c.args.to c.in-Vertex.vertex (Between c.in-Vertex.vertex) way
    (λ is. absurd (c.in_default.ensures.none way.0 (record { live = way.1.live; start = way.1.from; end = way.2 ∙ is }))) (λ not. refl)
