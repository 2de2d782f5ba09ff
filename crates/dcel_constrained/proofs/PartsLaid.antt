-- One part of a segment made a marked edge: flips of free edges, a mark, and more flips.
use Rattle.std.proofs.Common.{◌≡◌, ◌⊎◌, ◌↔◌, inl, inr, ℕ, ◌/◌, ◌<◌, Bool, IsTrue, List, [], ◌++◌, refl, sym, ap, ◌∙◌, subst, arith}
use Rattle.dcel_predicates.specs.declared.point.Point.{Point}
use Rattle.dcel_maps.specs.edits.Data.{undirected_edge_updated}
use Rattle.dcel_maps.specs.Removals.{gives_up_edge}
use Rattle.dcel_maps.specs.Shapes.{IsMesh, Mesh, face_count}
use Rattle.dcel_maps.specs.Walking.{Leads}
use Rattle.dcel_maps.specs.Words.{count_of}
use Rattle.dcel_maps.proofs.Liveness.{is_live-parts}
use Rattle.dcel_plane.specs.Plane.{ListsCircled, point_at}
use Rattle.dcel_plane.specs.segments.Segments.{Crosses, TriangulatesItsHull, TurnsInto}
use Rattle.dcel_planar.specs.Growing.{HasHull, IsJoined, KeepsListed}
use Rattle.dcel_regions.specs.Marked.{IsMarked}
use Rattle.dcel_regions.specs.declared.mark.Mark.{Mark}
use Rattle.dcel_regions.specs.declared.mark.Mark.TheVariants.{Constraint}
use Rattle.dcel_constrained.specs.Constraints.{IsFreeWay, KeepsMarked, ListsFree, TurnsFree}
use Rattle.dcel_constrained.specs.Laying.{IsLaid, MarksBetween}
use Rattle.dcel_constrained.specs.Meeting.{IsJoinedAs}
use Rattle.dcel_constrained.specs.Soundness.{IsConstrained}
use Rattle.dcel_constrained.specs.declared.segments.join.Joined.{Joined}
use Rattle.dcel_constrained.specs.declared.segments.join.Joined.TheVariants.{Edge}
use Rattle.dcel_constrained.proofs.Free.{IsKept, end_kept, free_keeps, free_kept, free_planar, joined_free, kept_live, kept_mark, kept_unmarked, start_kept}
use Rattle.dcel_constrained.proofs.Laid.{keeps_both, keeps_none}
use Rattle.dcel_constrained.proofs.Marking.{constrained_more, marked_itself, marked_keeps, marked_now}
use Rattle.dcel_constrained.proofs.Marks.{joined_lists}
use Rattle.dcel_constrained.proofs.Outlined.{planar}

module _ {DE F : Type 0} where
  -- Euler's formula speaks of counts alone
  joined_too : (old new : Mesh Point DE Mark F) → new.shape.vertices ≡ old.shape.vertices → new.shape.edges ≡ old.shape.edges → face_count new.shape ≡ face_count old.shape
      → IsJoined old.shape → IsJoined new.shape
  joined_too old new vertices edges faces joined = record {
    euler = λ some. (let e = joined.euler (omega (arith, some, vertices)) in omega (arith, e, vertices, edges, faces));
    empty = λ none. faces ∙ joined.empty (sym vertices ∙ none);
  }

  -- flips of free edges
  module _ (old new : Mesh Point DE Mark F) (due items : List ℕ) (mesh : IsMesh old) (sound : IsConstrained old due) (has : HasHull old) (turns : TurnsFree old new) where
    planar_before : TriangulatesItsHull (point_at old) old
    planar_before = planar old mesh due sound has

    pub planar_then : TriangulatesItsHull (point_at new) new
    planar_then = free_planar old new turns planar_before

    pub constrained_then : ListsFree new items → IsConstrained new items
    constrained_then lists =
        let kept = free_kept old new turns in
        record {
          closed = kept.removal ∙ sound.closed;
          joined = joined_too old new kept.vertices kept.edges kept.faces sound.joined;
          triangles = planar_then.triangles;
          plane = planar_then.plane;
          listed = lists;
        }

    pub hull_then : HasHull new
    hull_then = record {
      inner = subst (λ (n : ℕ). 1 < n) (sym (free_kept old new turns).faces) has.inner;
      convex = planar_then.convex;
      hull = planar_then.hull;
    }

  pub lays_nothing : (old new : Mesh Point DE Mark F) (v w : ℕ) → new ≡ old → MarksBetween old new v w
  lays_nothing old new v w same = subst (λ (m : Mesh Point DE Mark F). MarksBetween old m v w) (sym same) (record {
    vertices = refl;
    edges = refl;
    points = refl;
    keeps = keeps_none old;
    only = λ u marked. inl marked;
  })

  -- from the old mesh an edge is made by flips, it is marked, and then edges are flipped that are due
  module _ (old made marked : Mesh Point DE Mark F) (due : List ℕ) (v w : ℕ) (is_new : Bool) (mesh : IsMesh old) (sound : IsConstrained old []) (has : HasHull old)
      (free : IsFreeWay old v w)
      (flips : (list : List ℕ) × TurnsInto (point_at old) old made list × ((k : ℕ) → 0 < count_of k list → Crosses (point_at old) old.shape v w k))
      (lists : (lacking : List ℕ) → ListsCircled (point_at old) old.shape lacking → ListsCircled (point_at made) made.shape (due ++ lacking))
      (mesh_made : IsMesh made)
      (marks : (h : ℕ) × Leads made.shape v w h × (marked ≡ undirected_edge_updated made (h / 2) Constraint) × (IsTrue is_new ↔ (¬ IsMarked made (h / 2)))) where
    abbrev half : ℕ
    half = marks.0

    abbrev edge : ℕ
    edge = marks.0 / 2

    first : TurnsFree old made
    first = joined_free old made v w free flips

    kept_first : IsKept old made
    kept_first = free_kept old made first

    sound_made : IsConstrained made due
    sound_made = constrained_then old made [] due mesh sound has first (joined_lists old made due lists first sound.listed)

    has_made : HasHull made
    has_made = hull_then old made [] due mesh sound has first

    pub sound_marked : IsConstrained marked due
    sound_marked = subst (λ (m : Mesh Point DE Mark F). IsConstrained m due) (sym marks.2) (constrained_more made edge due mesh_made sound_made)

    pub has_marked : HasHull marked
    has_marked =
        subst (λ (m : Mesh Point DE Mark F). HasHull m) (sym marks.2) (record { inner = has_made.inner; convex = has_made.convex; hull = has_made.hull })

    module _ (new : Mesh Point DE Mark F) (items : List ℕ) (mesh_marked : IsMesh marked) (turns : TurnsFree marked new) (goes_on : ListsFree marked due → ListsFree new items) where
      kept_last : IsKept marked new
      kept_last = free_kept marked new turns

      pub sound_new : IsConstrained new items
      sound_new = constrained_then marked new due items mesh_marked sound_marked has_marked turns (goes_on sound_marked.listed)

      pub has_new : HasHull new
      has_new = hull_then marked new due items mesh_marked sound_marked has_marked turns

      edge_marked : IsMarked marked edge
      edge_marked =
          let below = (is_live-parts (gives_up_edge made.shape.removal) made.shape.edges edge marks.1.live).0 in
          subst (λ (m : Mesh Point DE Mark F). IsMarked m edge) (sym marks.2) (marked_itself made edge mesh_made below)

      leads_marked : Leads marked.shape v w half
      leads_marked = subst (λ (m : Mesh Point DE Mark F). Leads m.shape v w half) (sym marks.2) marks.1

      leads_new : Leads new.shape v w half
      leads_new =
          let keeps = free_keeps marked new turns in
          record {
            live = kept_live marked new kept_last half leads_marked.live;
            start = start_kept marked new keeps half edge_marked ∙ leads_marked.start;
            end = end_kept marked new keeps half edge_marked ∙ leads_marked.end;
          }

      only_edge : (u : ℕ) → IsMarked new u → IsMarked old u ⊎ (edge ≡ u)
      only_edge u is = elim (marked_now made edge u (subst (λ (m : Mesh Point DE Mark F). IsMarked m u) marks.2 (kept_unmarked marked new kept_last u is))) [
        | inl here ↦ inr (sym here)
        | inr was ↦ inl (kept_unmarked old made kept_first u was)
      ]

      pub is_laid : IsLaid old new v w is_new
      is_laid = record {
        half = half;
        leads = leads_new;
        marked = kept_mark marked new kept_last edge edge_marked;
        only = only_edge;
        added = (
          λ so was. marks.3.0 so (kept_mark old made kept_first edge was),
          λ not. marks.3.1 (λ was. not (kept_unmarked old made kept_first edge was)),
        );
      }

      pub is_between : MarksBetween old new v w
      is_between = record {
        vertices = kept_last.vertices ∙ ap (λ (m : Mesh Point DE Mark F). m.shape.vertices) marks.2 ∙ kept_first.vertices;
        edges = kept_last.edges ∙ ap (λ (m : Mesh Point DE Mark F). m.shape.edges) marks.2 ∙ kept_first.edges;
        points = kept_last.points ∙ ap (λ (m : Mesh Point DE Mark F). m.vertex_data) marks.2 ∙ kept_first.points;
        keeps =
            keeps_both old marked new
            (keeps_both old made marked (free_keeps old made first)
            (subst (λ (m : Mesh Point DE Mark F). KeepsMarked made m) (sym marks.2) (marked_keeps made edge mesh_made)))
            (free_keeps marked new turns);
        only = λ u is. elim (only_edge u is) [ inl was ↦ inl was | inr here ↦ inr (half, leads_new, here) ];
      }

  -- what is left then
  pub record IsPartLaid (old new : Mesh Point DE Mark F) (items : List ℕ) (v w : ℕ) (is_new : Bool) : Type 0 where
    pub sound : IsConstrained new items
    pub has : HasHull new
    pub laid : IsLaid old new v w is_new
    pub between : MarksBetween old new v w

  pub part_laid : (old made marked new : Mesh Point DE Mark F) (before due items : List ℕ) (v w : ℕ) (joined : Joined) (is_new : Bool) → IsMesh old → IsConstrained old before
      → before ≡ [] → HasHull old → IsFreeWay old v w → IsJoinedAs old made v w joined → joined ≡ Edge
      → KeepsListed old made before due → TriangulatesItsHull (point_at made) made
      → (h : ℕ) × Leads made.shape v w h × (marked ≡ undirected_edge_updated made (h / 2) Constraint) × (IsTrue is_new ↔ (¬ IsMarked made (h / 2)))
      → IsMesh marked → TurnsFree marked new → (ListsFree marked due → ListsFree new items) → IsPartLaid old new items v w is_new
  part_laid old made marked new before due items v w joined is_new mesh sound none has free made_so is lists planar_made marks mesh_marked turns goes_on =
      let whole : IsConstrained old [] = subst (λ (l : List ℕ). IsConstrained old l) none sound in
      let lists_all : KeepsListed old made [] due = subst (λ (l : List ℕ). KeepsListed old made l due) none lists in
      let flips = (subst (λ (j : Joined). IsJoinedAs old made v w j) is made_so).1 in
      record {
        sound = sound_new old made marked due v w is_new mesh whole has free flips lists_all planar_made.mesh marks new items mesh_marked turns goes_on;
        has = has_new old made marked due v w is_new mesh whole has free flips lists_all planar_made.mesh marks new items mesh_marked turns goes_on;
        laid = is_laid old made marked due v w is_new mesh whole has free flips lists_all planar_made.mesh marks new items mesh_marked turns goes_on;
        between = is_between old made marked due v w is_new mesh whole has free flips lists_all planar_made.mesh marks new items mesh_marked turns goes_on;
      }

  pub part_marked : (old made marked : Mesh Point DE Mark F) (before due : List ℕ) (v w : ℕ) (joined : Joined) (is_new : Bool) → IsMesh old → IsConstrained old before
      → before ≡ [] → HasHull old → IsFreeWay old v w → IsJoinedAs old made v w joined → joined ≡ Edge
      → KeepsListed old made before due → TriangulatesItsHull (point_at made) made
      → (h : ℕ) × Leads made.shape v w h × (marked ≡ undirected_edge_updated made (h / 2) Constraint) × (IsTrue is_new ↔ (¬ IsMarked made (h / 2)))
      → IsConstrained marked due × HasHull marked
  part_marked old made marked before due v w joined is_new mesh sound none has free made_so is lists planar_made marks =
      let whole : IsConstrained old [] = subst (λ (l : List ℕ). IsConstrained old l) none sound in
      let lists_all : KeepsListed old made [] due = subst (λ (l : List ℕ). KeepsListed old made l due) none lists in
      let flips = (subst (λ (j : Joined). IsJoinedAs old made v w j) is made_so).1 in (
        sound_marked old made marked due v w is_new mesh whole has free flips lists_all planar_made.mesh marks,
        has_marked old made marked due v w is_new mesh whole has free flips lists_all planar_made.mesh marks,
      )

  -- before edges are flipped again
  pub planar_marked : (made marked : Mesh Point DE Mark F) (u : ℕ) → TriangulatesItsHull (point_at made) made → marked ≡ undirected_edge_updated made u Constraint
      → IsMesh marked → TriangulatesItsHull (point_at marked) marked
  planar_marked made marked u planar is mesh =
      subst (λ (m : Mesh Point DE Mark F). IsMesh m → TriangulatesItsHull (point_at m) m) (sym is)
      (λ mesh. record { mesh = mesh; triangles = planar.triangles; plane = planar.plane; convex = planar.convex; hull = planar.hull }) mesh

  -- flips change no vertex, and open no removal
  pub joined_closed : (old made : Mesh Point DE Mark F) (v w : ℕ) (joined : Joined) → IsJoinedAs old made v w joined → joined ≡ Edge → IsFreeWay old v w
      → IsKept old made
  joined_closed old made v w joined made_so is free =
      free_kept old made (joined_free old made v w free (subst (λ (j : Joined). IsJoinedAs old made v w j) is made_so).1)
