-- A segment that crosses a list of half edges, none of which is marked, on its way to be a marked edge.
use Rattle.std.proofs.Common.{◌≡◌, ◌≢◌, ◌↔◌, ℕ, ◌/◌, ◌<◌, true, IsTrue, List, [], ◌∷◌, refl, subst}
use Rattle.dcel_predicates.specs.declared.point.Point.{Point}
use Rattle.dcel_maps.specs.edits.Data.{undirected_edge_updated}
use Rattle.dcel_maps.specs.Shapes.{IsMesh, Mesh}
use Rattle.dcel_maps.specs.Walking.{Leads}
use Rattle.dcel_maps.specs.Words.{count_of}
use Rattle.dcel_plane.specs.Plane.{point_at}
use Rattle.dcel_plane.specs.segments.Segments.{Crosses, IsChannel, TriangulatesItsHull, TurnsInto}
use Rattle.dcel_plane.proofs.segments.Peaks.{empty_joins}
use Rattle.dcel_planar.specs.Growing.{HasHull, KeepsListed}
use Rattle.dcel_regions.specs.Marked.{IsMarked}
use Rattle.dcel_regions.specs.declared.mark.Mark.{Mark}
use Rattle.dcel_regions.specs.declared.mark.Mark.TheVariants.{Constraint}
use Rattle.dcel_constrained.specs.Constraints.{IsFreeWay, ListsFree, TurnsFree}
use Rattle.dcel_constrained.specs.Meeting.{IsJoinedAs}
use Rattle.dcel_constrained.specs.Soundness.{IsConstrained}
use Rattle.dcel_constrained.specs.declared.segments.join.Joined.TheVariants.{Edge}
use Rattle.dcel_constrained.proofs.Already.{has_led}
use Rattle.dcel_constrained.proofs.Ending.{each_crosses}
use Rattle.dcel_constrained.proofs.Outlined.{planar}
use Rattle.dcel_constrained.proofs.Passing.{edges_cross_nothing}
use Rattle.dcel_constrained.proofs.Free.{IsKept}
use Rattle.dcel_constrained.proofs.PartsLaid.{IsPartLaid, joined_closed, part_laid, part_marked}
use Rattle.dcel_constrained.proofs.Reaching.{through_list}

-- a list known by another name
pub none_there : {V DE F : Type 0} (m : Mesh V DE Mark F) (list halves : List ℕ) → halves ≡ list → ((h : ℕ) → 0 < count_of h halves → ¬ IsMarked m (h / 2))
    → (h : ℕ) → 0 < count_of h list → ¬ IsMarked m (h / 2)
none_there {V} {DE} {F} m list halves is none = subst (λ (l : List ℕ). (h : ℕ) → 0 < count_of h l → ¬ IsMarked m (h / 2)) is none

pub some_there : {V DE F : Type 0} (m : Mesh V DE Mark F) (list halves : List ℕ) → halves ≡ list → (h : ℕ) × (0 < count_of h halves) × IsMarked m (h / 2)
    → (h : ℕ) × (0 < count_of h list) × IsMarked m (h / 2)
some_there {V} {DE} {F} m list halves is some = (some.0, subst (λ (l : List ℕ). 0 < count_of some.0 l) is some.1, some.2)

module _ {DE F : Type 0} (old : Mesh Point DE Mark F) (mesh : IsMesh old) (before : List ℕ) (sound : IsConstrained old before) (has : HasHull old) (v w : ℕ) (differ : v ≢ w)
    (list : List ℕ) (channel : IsChannel (point_at old) old.shape v w list) where
  plane : TriangulatesItsHull (point_at old) old
  plane = planar old mesh before sound has

  -- a marked one is in the way
  pub way_blocked : (h : ℕ) × (0 < count_of h list) × IsMarked old (h / 2) → ¬ IsFreeWay old v w
  way_blocked some free = free some.0 (each_crosses (point_at old) old.shape v w list channel some.0 some.1) some.2

  module _ (unmarked : (h : ℕ) → 0 < count_of h list → ¬ IsMarked old (h / 2)) where
    free_by : (l : List ℕ) → IsChannel (point_at old) old.shape v w l → ((h : ℕ) → 0 < count_of h l → ¬ IsMarked old (h / 2)) → IsFreeWay old v w
    free_by [] along free = λ h crosses.
        let edge = empty_joins old mesh plane.triangles (point_at old) v w differ along in
        absurd (edges_cross_nothing old (point_at old) plane v w edge.edge edge.live edge.from edge.to h crosses)
    free_by (a ∷ rest) along free = through_list old plane v w (a ∷ rest) (λ is. cc) along free

    pub way_free : IsFreeWay old v w
    way_free = free_by list channel unmarked

    module _ (made : Mesh Point DE Mark F) (turns : TurnsInto (point_at old) old made list) (joins : (h : ℕ) × Leads made.shape v w h) where
      pub joins_as : IsJoinedAs old made v w Edge
      joins_as = (joins, (list, turns, each_crosses (point_at old) old.shape v w list channel))

      -- the edge that flips make of it wasn't one before, so it isn't marked
      module _ (first : ℕ) (crosses : Crosses (point_at old) old.shape v w first) where
        not_marked : (h : ℕ) → Leads made.shape v w h → ¬ IsMarked made (h / 2)
        not_marked h leads marked =
            let led = has_led old made v w mesh before sound way_free joins_as.1 h leads marked in
            edges_cross_nothing old (point_at old) plane v w h led.live led.start led.end first crosses

        pub newly_marked : (marked : Mesh Point DE Mark F) → (h : ℕ) × Leads made.shape v w h × (marked ≡ undirected_edge_updated made (h / 2) Constraint)
            → (h : ℕ) × Leads made.shape v w h × (marked ≡ undirected_edge_updated made (h / 2) Constraint) × (IsTrue true ↔ (¬ IsMarked made (h / 2)))
        newly_marked marked marks = (marks.0, marks.1, marks.2, (λ yes. not_marked marks.0 marks.1, λ not. refl))

      pub flips_keep : IsKept old made
      flips_keep = joined_closed old made v w Edge joins_as refl way_free

      -- what is left then, before edges are flipped again and afterwards
      module _ (first : ℕ) (crosses : Crosses (point_at old) old.shape v w first) (none : before ≡ []) (due : List ℕ) (lists : KeepsListed old made before due)
          (planar_made : TriangulatesItsHull (point_at made) made) (marked : Mesh Point DE Mark F)
          (marks : (h : ℕ) × Leads made.shape v w h × (marked ≡ undirected_edge_updated made (h / 2) Constraint)) where
        pub through_marked : IsConstrained marked due × HasHull marked
        through_marked =
            part_marked old made marked before due v w Edge true mesh sound none has way_free joins_as refl lists planar_made (newly_marked first crosses marked marks)

        pub through_laid : (new : Mesh Point DE Mark F) (items : List ℕ) → IsMesh marked → TurnsFree marked new → (ListsFree marked due → ListsFree new items)
            → IsPartLaid old new items v w true
        through_laid new items mesh_marked turns goes_on =
            part_laid old made marked new before due items v w Edge true mesh sound none has way_free joins_as refl lists planar_made
            (newly_marked first crosses marked marks) mesh_marked turns goes_on
