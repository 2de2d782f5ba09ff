-- The parts of a segment laid one after another: what holds before each, and that they come to an end.
use Rattle.std.proofs.Common.{◌≡◌, ◌≢◌, ◌⊎◌, ◌↔◌, inl, inr, ℕ, ◌+◌, ◌*◌, ◌/◌, ◌^◌, ◌<◌, Bool, IsTrue, List, [], ◌∷◌, refl, sym, ◌∙◌, subst, pos, ◌<ℤ◌, arith}
use Rattle.dcel_fixed.specs.HalfEdges.{rev}
use Rattle.dcel_predicates.proofs.Points.{point_same}
use Rattle.dcel_predicates.specs.declared.point.Point.{Point}
use Rattle.dcel_predicates.specs.Determinants.{orient2d_of}
use Rattle.dcel_predicates.proofs.Ring.{by_terms, num}
use Rattle.dcel_predicates.proofs.Signs.{ordered}
use Rattle.dcel_predicates.proofs.Terms.{orient, spot}
use Rattle.dcel_maps.specs.edits.Data.{undirected_edge_updated}
use Rattle.dcel_maps.specs.Removals.{gives_up_edge}
use Rattle.dcel_maps.specs.Shapes.{IsMesh, Mesh, end_of, map_of, origin_of}
use Rattle.dcel_maps.specs.Walking.{Leads}
use Rattle.dcel_maps.proofs.Liveness.{is_live-parts}
use Rattle.dcel_maps.proofs.maps.Soundness.{rev_live}
use Rattle.dcel_maps.proofs.shapes.Maps.{map-sound}
use Rattle.dcel_plane.specs.Plane.{point_at}
use Rattle.dcel_plane.proofs.covering.Along.{long}
use Rattle.dcel_plane.specs.segments.Segments.{LeadsAlong}
use Rattle.dcel_plane.specs.covering.Covering.{dot}
use Rattle.dcel_planar.specs.Growing.{HasHull, IsFlat}
use Rattle.dcel_delaunay.specs.Triangulated.{PointsAreSingle}
use Rattle.dcel_delaunay.proofs.Outline.{all_single}
use Rattle.dcel_regions.specs.Marked.{IsMarked}
use Rattle.dcel_regions.specs.declared.mark.Mark.{Mark}
use Rattle.dcel_regions.specs.declared.mark.Mark.TheVariants.{Constraint}
use Rattle.dcel_constrained.specs.Constraints.{IsFreeWay}
use Rattle.dcel_constrained.specs.Laying.{IsLaid, MarksBetween}
use Rattle.dcel_constrained.specs.Meeting.{LiesBetweenEnds}
use Rattle.dcel_constrained.specs.Soundness.{CanAdd, IsConstrained, MarksAnother}
use Rattle.dcel_constrained.proofs.Between.{leads_ahead, lies_not_start, lies_sooner, shorter_end, shorter_later, shorter_sooner, span, span_within}
use Rattle.dcel_constrained.proofs.Laid.{IsLaidTo, laid_further, rest_free}
use Rattle.dcel_constrained.proofs.Marking.{constrained_more, marked_again, marked_itself, marked_keeps, marked_now, marked_or_not}
use Rattle.dcel_constrained.proofs.Parts.{free_later, free_sooner}

no_turn : (a c : Point) → orient2d_of a a c ≡ pos 0
no_turn a c = by_terms (a.x ∷ a.y ∷ c.x ∷ c.y ∷ []) (orient (spot 0) (spot 0) (spot 1)) (num (pos 0)) refl

-- how far it is to the end of a segment, and then to the end of its next part
abbrev pub way_left : (ℕ → Point) → ℕ → ℕ → ℕ → ℕ
way_left at v w goal = span at v w * 2 ^ 110 + span at v goal

pub sooner_left : (at : ℕ → Point) (v w goal y : ℕ) → LiesBetweenEnds at v goal y → way_left at v w y < way_left at v w goal
sooner_left at v w goal y lies = (let less = shorter_sooner at v goal y lies in omega (arith, less))

-- two vertices are apart
pub are_apart : {DE UE F : Type 0} (m : Mesh Point DE UE F) → PointsAreSingle m → (v w : ℕ) → v < m.shape.vertices → w < m.shape.vertices → v ≢ w
    → pos 0 <ℤ dot (point_at m w) (point_at m w) (point_at m v)
are_apart m single v w below_v below_w differ =
    long (point_at m w) (point_at m v) (λ x y. differ (single v w below_v below_w (point_same (point_at m v) (point_at m w) (sym x) (sym y))))

pub nearer : (at : ℕ → Point) (v w y : ℕ) → pos 0 <ℤ dot (at w) (at w) (at v) → (y ≡ w) ⊎ LiesBetweenEnds at v w y → span at y w < span at v w
nearer at v w y apart (inl is) = subst (λ (x : ℕ). span at x w < span at v w) (sym is) (shorter_end at v w apart)
nearer at v w y apart (inr lies) = shorter_later at v w y lies

pub later_left : (at : ℕ → Point) (v w goal : ℕ) → span at goal w < span at v w → way_left at goal w w < way_left at v w goal
later_left at v w goal less = (let few = span_within at goal w in omega (arith, less, few))

module _ {DE F : Type 0} where
  -- nothing crosses the segment from a vertex to itself
  pub free_none : (m : Mesh Point DE Mark F) (w : ℕ) → IsFreeWay m w w
  free_none m w h crosses marked =
      let right = crosses.right in
      let zero = no_turn (point_at m w) (point_at m (origin_of m.shape h)) in
      omega (arith, ordered, right, zero)

  pub free_ahead : (m : Mesh Point DE Mark F) (v w y : ℕ) → (y ≡ w) ⊎ LiesBetweenEnds (point_at m) v w y → IsFreeWay m v w → IsFreeWay m y w
  free_ahead m v w y (inl is) free = subst (λ (x : ℕ). IsFreeWay m x w) (sym is) (free_none m w)
  free_ahead m v w y (inr lies) free = free_later m v w y lies free

  -- the segment from v to w is laid up to `at`, its way from there is free, and the next part leads to `goal`
  pub record IsLaying (old m : Mesh Point DE Mark F) (v w at goal : ℕ) (due crossed : List ℕ) (added : Bool) : Type 0 where
    pub laid : IsLaidTo old m v w at added
    pub mesh : IsMesh m
    pub sound : IsConstrained m due
    pub whole : due ≡ []
    pub has : HasHull m
    pub empty : crossed ≡ []
    pub free : IsFreeWay m at w
    pub below : goal < m.shape.vertices
    pub ahead : (goal ≡ w) ⊎ LiesBetweenEnds (point_at m) at w goal

  module _ (old m : Mesh Point DE Mark F) (v w at goal : ℕ) (due crossed : List ℕ) (added : Bool) (laying : IsLaying old m v w at goal due crossed added) (more : at ≢ w) where
    pub parts_differ : at ≢ goal
    parts_differ is = elim laying.ahead [
      | inl end ↦ more (is ∙ end)
      | inr lies ↦ lies_not_start (point_at m) at w goal lies (sym is)
    ]

    pub can_go : CanAdd m at goal
    can_go = record {
      from = laying.laid.below;
      to = laying.below;
      free = elim laying.ahead [
        | inl end ↦ subst (λ (x : ℕ). IsFreeWay m at x) (sym end) laying.free
        | inr lies ↦ free_sooner m at w goal lies laying.free
      ];
    }

    pub goes_nearer : span (point_at m) goal w < span (point_at m) at w
    goes_nearer =
        nearer (point_at m) at w goal
        (are_apart m (all_single m laying.mesh (inr laying.has) laying.sound.closed laying.sound.joined) at w laying.laid.below laying.laid.end_below more) laying.ahead

    module _ (new : Mesh Point DE Mark F) (items nothing : List ℕ) (mesh : IsMesh new) (sound : IsConstrained new items) (whole : items ≡ []) (has : HasHull new)
        (empty : nothing ≡ []) where
      -- a vertex lies between
      pub sooner : (y : ℕ) → new ≡ m → y < m.shape.vertices → LiesBetweenEnds (point_at m) at goal y → IsLaying old new v w at y items nothing added
      sooner y same below lies = record {
        laid = subst (λ (k : Mesh Point DE Mark F). IsLaidTo old k v w at added) (sym same) laying.laid;
        mesh = mesh;
        sound = sound;
        whole = whole;
        has = has;
        empty = empty;
        free = subst (λ (k : Mesh Point DE Mark F). IsFreeWay k at w) (sym same) laying.free;
        below = subst (λ (k : Mesh Point DE Mark F). y < k.shape.vertices) (sym same) below;
        ahead = subst (λ (k : Mesh Point DE Mark F). (y ≡ w) ⊎ LiesBetweenEnds (point_at k) at w y) (sym same) (inr (elim laying.ahead [
          | inl end ↦ subst (λ (x : ℕ). LiesBetweenEnds (point_at m) at x y) end lies
          | inr further ↦ lies_sooner (point_at m) at w goal y further lies
        ]));
      }

      -- the part is laid
      pub later : (is_new both : Bool) → MarksBetween m new at goal → IsLaid m new at goal is_new → (IsTrue both ↔ (IsTrue added ⊎ IsTrue is_new))
          → (¬ MarksAnother m new → new ≡ m) → IsLaying old new v w goal w items nothing both
      later is_new both step part either again = record {
        laid = laid_further old m new v w at goal added laying.laid step laying.ahead is_new both mesh sound.closed part laying.below either again;
        mesh = mesh;
        sound = sound;
        whole = whole;
        has = has;
        empty = empty;
        free =
            rest_free old m new v w at goal added laying.laid step laying.ahead laying.mesh laying.sound.closed (free_ahead m at w goal laying.ahead laying.free);
        below = subst (λ (n : ℕ). w < n) (sym step.vertices) laying.laid.end_below;
        ahead = inl refl;
      }

  -- on a line: the segment from v to w is laid up to `at`
  pub record IsLayingOnLine (old m : Mesh Point DE Mark F) (v w at : ℕ) (is_more : Bool) : Type 0 where
    pub laid : IsLaidTo old m v w at is_more
    pub mesh : IsMesh m
    pub sound : IsConstrained m []
    pub flat : IsFlat m

  module _ (old m : Mesh Point DE Mark F) (v w at : ℕ) (added : Bool) (laying : IsLayingOnLine old m v w at added) where
    pub line_apart : at ≢ w → pos 0 <ℤ dot (point_at m w) (point_at m w) (point_at m at)
    line_apart more =
        are_apart m (all_single m laying.mesh (inl laying.flat) laying.sound.closed laying.sound.joined) at w laying.laid.below laying.laid.end_below more

    module _ (half : ℕ) (along : LeadsAlong (point_at m) m.shape at w half) where
      abbrev new : Mesh Point DE Mark F
      new = undirected_edge_updated m (half / 2) Constraint

      half_below : half / 2 < m.shape.edges
      half_below = (is_live-parts (gives_up_edge m.shape.removal) m.shape.edges (half / 2) along.live).0

      leads_on : Leads new.shape at (end_of m.shape half) half
      leads_on = record { live = along.live; start = along.from; end = refl }

      step : MarksBetween m new at (end_of m.shape half)
      step = record {
        vertices = refl;
        edges = refl;
        points = refl;
        keeps = marked_keeps m (half / 2) laying.mesh;
        only = λ u marked. elim (marked_now m (half / 2) u marked) [ inl is ↦ inr (half, leads_on, sym is) | inr was ↦ inl was ];
      }

      part : (is_new : Bool) → (IsTrue is_new ↔ (¬ IsMarked m (half / 2))) → IsLaid m new at (end_of m.shape half) is_new
      part is_new told = record {
        half = half;
        leads = leads_on;
        marked = marked_itself m (half / 2) laying.mesh half_below;
        only = λ u marked. elim (marked_now m (half / 2) u marked) [ inl is ↦ inr (sym is) | inr was ↦ inl was ];
        added = told;
      }

      again : ¬ MarksAnother m new → new ≡ m
      again none = elim (marked_or_not m (half / 2)) [
        | inl marked ↦ marked_again m (half / 2) marked
        | inr not ↦ absurd (none (half / 2, marked_itself m (half / 2) laying.mesh half_below, not))
      ]

      further : (is_new both : Bool) → (IsTrue is_new ↔ (¬ IsMarked m (half / 2))) → (IsTrue both ↔ (IsTrue added ⊎ IsTrue is_new)) → IsMesh new
          → IsLayingOnLine old new v w (end_of m.shape half) both
      further is_new both told either mesh = record {
        laid =
            laid_further old m new v w at (end_of m.shape half) added laying.laid step (leads_ahead (point_at m) m.shape at w (end_of m.shape half) half along refl)
            is_new both mesh laying.sound.closed (part is_new told)
            ((map-sound laying.mesh.sound).below_vertices (rev half) (rev_live (map_of m.shape) half along.live)) either again;
        mesh = mesh;
        sound = constrained_more m (half / 2) [] laying.mesh laying.sound;
        flat = record { alone = laying.flat.alone; straight = laying.flat.straight };
      }

      module _ (then : Mesh Point DE Mark F) (is : then ≡ undirected_edge_updated m (half / 2) Constraint) (end : ℕ) (ends : end ≡ end_of m.shape half) where
        pub line_further : (is_new both : Bool) → (IsTrue is_new ↔ (¬ IsMarked m (half / 2))) → (IsTrue both ↔ (IsTrue added ⊎ IsTrue is_new)) → IsMesh then
            → IsLayingOnLine old then v w end both
        line_further is_new both told either mesh =
            subst (λ (x : ℕ). IsLayingOnLine old then v w x both) (sym ends)
            (subst (λ (k : Mesh Point DE Mark F). IsMesh k → IsLayingOnLine old k v w (end_of m.shape half) both) (sym is) (further is_new both told either) mesh)

        pub line_nearer : at ≢ w → span (point_at then) end w < span (point_at m) at w
        line_nearer more =
            subst (λ (k : Mesh Point DE Mark F). span (point_at k) end w < span (point_at m) at w) (sym is)
            (nearer (point_at m) at w end (line_apart more) (leads_ahead (point_at m) m.shape at w end half along (sym ends)))
