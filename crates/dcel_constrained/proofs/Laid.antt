-- A segment made one of marked edges, part after part: what holds after each part.
use Rattle.std.proofs.Common.{◌≡◌, ◌⊎◌, ◌↔◌, inl, inr, ℕ, ◌*◌, ◌+◌, ◌/◌, ◌<◌, Bool, false, IsTrue, List, [], ◌∷◌, ◌++◌, slice_index_or, refl, sym, ap, ◌∙◌, subst, pos, ◌<ℤ◌, arith}
use Rattle.dcel_fixed.specs.HalfEdges.{rev}
use Rattle.dcel_fixed.proofs.Halves.{rev-double, rev-double-suc}
use Rattle.std.proofs.lemmas.Bool.{cases_Bool, cases_eq}
use Rattle.dcel_predicates.specs.declared.point.Point.{Point}
use Rattle.dcel_predicates.proofs.Signs.{ordered}
use Rattle.dcel_maps.specs.Removals.{Closed}
use Rattle.dcel_maps.specs.Shapes.{IsLive, IsMesh, Mesh, end_of, origin_of}
use Rattle.dcel_maps.specs.Walking.{Leads}
use Rattle.dcel_maps.proofs.Liveness.{closed-live}
use Rattle.dcel_plane.specs.Plane.{origin_point, point_at}
use Rattle.dcel_plane.proofs.covering.Inside.{on_end}
use Rattle.dcel_plane.proofs.removal.Turnable.{both_halves}
use Rattle.dcel_plane.specs.segments.Segments.{Crosses, LeadsAlong, orient2d_by}
use Rattle.dcel_regions.specs.Marked.{IsMarked}
use Rattle.dcel_regions.specs.declared.mark.Mark.{Mark}
use Rattle.dcel_constrained.specs.Constraints.{HasConstraint, IsFreeWay, IsMarkedWay, IsPartOf, KeepsMarked, LiesOnSegment, MarksOnly}
use Rattle.dcel_constrained.specs.Laying.{IsLaid, MarksBetween}
use Rattle.dcel_constrained.specs.Meeting.{LiesBetweenEnds}
use Rattle.dcel_constrained.specs.Soundness.{MarksAnother}
use Rattle.dcel_constrained.proofs.Between.{leads_to, on_part}
use Rattle.dcel_constrained.proofs.Free.{crosses_as, end_kept, leads_as, start_kept}
use Rattle.dcel_constrained.proofs.Marking.{marked_below}

-- the halves of one edge
pub same_edge : (h k : ℕ) → k / 2 ≡ h / 2 → (h ≡ k) ⊎ (h ≡ rev k)
same_edge h k same = elim (cases_eq h k) [
  | inl is ↦ inl is
  | inr not ↦ elim (cases_eq k (2 * (k / 2))) [
    | inl even ↦ inr (let odd : h ≡ 2 * (k / 2) + 1 = omega (arith, not, same, even) in odd ∙ sym (rev-double (k / 2)) ∙ ap rev (sym even))
    | inr odd ↦
        inr
        (let even : h ≡ 2 * (k / 2) = omega (arith, not, same, odd) in
        let is : 2 * (k / 2) + 1 ≡ k = omega (arith, odd) in
        even ∙ sym (rev-double-suc (k / 2)) ∙ ap rev is)
  ]
]

module _ {DE F : Type 0} where
  pub points_stay : (old new : Mesh Point DE Mark F) → new.vertex_data ≡ old.vertex_data → point_at new ≡ point_at old
  points_stay old new same = ap (λ (d : List Point). λ (i : ℕ). slice_index_or d i origin_point) same

  pub keeps_none : (m : Mesh Point DE Mark F) → KeepsMarked m m
  keeps_none m = record { marked = λ u marked. marked; from = λ u marked. refl; to = λ u marked. refl }

  pub keeps_both : (old m new : Mesh Point DE Mark F) → KeepsMarked old m → KeepsMarked m new → KeepsMarked old new
  keeps_both old m new first second = record {
    marked = λ u marked. second.marked u (first.marked u marked);
    from = λ u marked. second.from u (first.marked u marked) ∙ first.from u marked;
    to = λ u marked. second.to u (first.marked u marked) ∙ first.to u marked;
  }

  -- an edge that is marked on the way is one that wasn't before, or one that was
  another_after : (old m new : Mesh Point DE Mark F) → KeepsMarked old m → MarksAnother m new → MarksAnother old new
  another_after old m new keeps (u, marked, not) = (u, marked, λ was. not (keeps.marked u was))

  another_before : (old m new : Mesh Point DE Mark F) → KeepsMarked m new → MarksAnother old m → MarksAnother old new
  another_before old m new keeps (u, marked, not) = (u, keeps.marked u marked, not)

  pub same_after : (old m new : Mesh Point DE Mark F) → KeepsMarked old m → KeepsMarked m new → (¬ MarksAnother old m → m ≡ old) → (¬ MarksAnother m new → new ≡ m)
      → ¬ MarksAnother old new → new ≡ old
  same_after old m new before after first then none =
      then (λ another. none (another_after old m new before another)) ∙ first (λ another. none (another_before old m new after another))

  pub left_after : (old m new : Mesh Point DE Mark F) (items : List ℕ) → KeepsMarked old m → KeepsMarked m new → (¬ MarksAnother old m → m ≡ old)
      → (¬ MarksAnother m new → (new ≡ m) × (items ≡ [])) → ¬ MarksAnother old new → (new ≡ old) × (items ≡ [])
  left_after old m new items before after first then none =
      (same_after old m new before after first (λ not. (then not).0) none, (then (λ another. none (another_after old m new before another))).1)

  -- marked half edges lead from y to z, one after another, along the segment from y to w
  abbrev pub IsMarkedPath : Mesh Point DE Mark F → ℕ → ℕ → ℕ → List ℕ → Type 0
  IsMarkedPath m w y z [] = y ≡ z
  IsMarkedPath m w y z (h ∷ rest) = LeadsAlong (point_at m) m.shape y w h × IsMarked m (h / 2) × IsMarkedPath m w (end_of m.shape h) z rest

  path_goes_on : (m : Mesh Point DE Mark F) (w y z h : ℕ) (list : List ℕ) → IsMarkedPath m w y z list → LeadsAlong (point_at m) m.shape z w h → IsMarked m (h / 2)
      → IsMarkedPath m w y (end_of m.shape h) (list ++ h ∷ [])
  path_goes_on m w y z h [] is along marked = (subst (λ (i : ℕ). LeadsAlong (point_at m) m.shape i w h) (sym is) along, marked, refl)
  path_goes_on m w y z h (k ∷ rest) path along marked = (path.0, path.1, path_goes_on m w (end_of m.shape k) z h rest path.2 along marked)

  path_ends : (m : Mesh Point DE Mark F) (w y : ℕ) (list : List ℕ) → IsMarkedPath m w y w list → IsMarkedWay m w y list
  path_ends m w y [] is = is
  path_ends m w y (k ∷ rest) path = (path.0, path.1, path_ends m w (end_of m.shape k) rest path.2)

  module _ (m new : Mesh Point DE Mark F) (keeps : KeepsMarked m new) where
    module _ (points : new.vertex_data ≡ m.vertex_data) (mesh : IsMesh new) (closed : new.shape.removal ≡ Closed) where
      marked_live : (h : ℕ) → IsMarked m (h / 2) → IsLive new.shape h
      marked_live h marked = closed-live new.shape closed (h / 2) (marked_below new mesh (h / 2) (keeps.marked (h / 2) marked))

      path_stays : (w y z : ℕ) (list : List ℕ) → IsMarkedPath m w y z list → IsMarkedPath new w y z list
      path_stays w y z [] is = is
      path_stays w y z (h ∷ rest) path =
          let to = end_kept m new keeps h path.1 in (
            leads_as (point_at m) (point_at new) m.shape new.shape y w h (points_stay m new points) (marked_live h path.1) (start_kept m new keeps h path.1) to path.0,
            keeps.marked (h / 2) path.1,
            subst (λ (e : ℕ). IsMarkedPath new w e z rest) (sym to) (path_stays w (end_of m.shape h) z rest path.2),
          )

  -- the segment from v to w is one of marked edges up to the vertex `at`, since the mesh was `old`
  pub record IsLaidTo (old m : Mesh Point DE Mark F) (v w at : ℕ) (is_more : Bool) : Type 0 where
    pub vertices : m.shape.vertices ≡ old.shape.vertices
    pub edges : m.shape.edges ≡ old.shape.edges
    pub points : m.vertex_data ≡ old.vertex_data
    pub keeps : KeepsMarked old m
    pub only : MarksOnly old m v w
    pub added : IsTrue is_more ↔ MarksAnother old m
    pub same : ¬ MarksAnother old m → m ≡ old
    pub list : List ℕ
    pub path : IsMarkedPath m w v at list
    pub below : at < m.shape.vertices
    pub end_below : w < m.shape.vertices
    pub on : LiesOnSegment (point_at m) v w at

  pub laid_all : (old m : Mesh Point DE Mark F) (v w at : ℕ) (added : Bool) → IsLaidTo old m v w at added → at ≡ w → HasConstraint m v w
  laid_all old m v w at added laid is = (laid.list, path_ends m w v laid.list (subst (λ (i : ℕ). IsMarkedPath m w v i laid.list) is laid.path))

  module _ (old m new : Mesh Point DE Mark F) (v w at goal : ℕ) (added : Bool) (laid : IsLaidTo old m v w at added) (step : MarksBetween m new at goal)
      (ahead : (goal ≡ w) ⊎ LiesBetweenEnds (point_at m) at w goal) where
    same_points : point_at new ≡ point_at m
    same_points = points_stay m new step.points

    goal_on : LiesOnSegment (point_at m) v w goal
    goal_on =
        on_part (point_at m) v w at w goal laid.on (inr (inl refl))
        (elim ahead [ inl is ↦ inr (inl is) | inr between ↦ inr (inr between) ])

    pub keeps_then : KeepsMarked old new
    keeps_then = keeps_both old m new laid.keeps step.keeps

    part_then : (u : ℕ) → IsMarked m u → IsPartOf m v w u → IsPartOf new v w u
    part_then u marked part =
        subst (λ (p : ℕ → Point). LiesOnSegment p v w (origin_of new.shape (2 * u)) × LiesOnSegment p v w (origin_of new.shape (2 * u + 1)) → IsPartOf new v w u) same_points
        (λ both. record { from = both.0; to = both.1 }) (
          subst (λ (x : ℕ). LiesOnSegment (point_at m) v w x) (sym (step.keeps.from u marked)) part.from,
          subst (λ (x : ℕ). LiesOnSegment (point_at m) v w x) (sym (step.keeps.to u marked)) part.to,
        )

    part_here : (h : ℕ) → Leads new.shape at goal h → IsPartOf new v w (h / 2)
    part_here h leads =
        let on : ℕ → Type 0 = λ x. LiesOnSegment (point_at new) v w x in
        let here : on at = subst (λ (p : ℕ → Point). LiesOnSegment p v w at) (sym same_points) laid.on in
        let there : on goal = subst (λ (p : ℕ → Point). LiesOnSegment p v w goal) (sym same_points) goal_on in
        let found = both_halves (λ a t. LiesOnSegment (point_at new) v w (origin_of new.shape a) × LiesOnSegment (point_at new) v w (origin_of new.shape t))
        (λ a t both. (both.1, both.0)) h
        (subst (λ (x : ℕ). LiesOnSegment (point_at new) v w x) (sym leads.start) here, subst (λ (x : ℕ). LiesOnSegment (point_at new) v w x) (sym leads.end) there) in
        record { from = found.0; to = found.1 }

    pub only_then : MarksOnly old new v w
    only_then u marked = elim (step.only u marked) [
      | inl was ↦ elim (laid.only u was) [ inl before ↦ inl before | inr part ↦ inr (part_then u was part) ]
      | inr here ↦ inr (subst (λ (i : ℕ). IsPartOf new v w i) here.2 (part_here here.0 here.1))
    ]

    pub edges_then : new.shape.edges ≡ old.shape.edges
    edges_then = step.edges ∙ laid.edges

    pub points_then : new.vertex_data ≡ old.vertex_data
    points_then = step.points ∙ laid.points

    -- one more part
    module _ (is_new both : Bool) (mesh : IsMesh new) (closed : new.shape.removal ≡ Closed) (part : IsLaid m new at goal is_new) (below : goal < m.shape.vertices)
        (either : IsTrue both ↔ (IsTrue added ⊎ IsTrue is_new)) (again : ¬ MarksAnother m new → new ≡ m) where
      added_then : IsTrue both ↔ MarksAnother old new
      added_then = (
        λ so. elim (either.0 so) [
          | inl before ↦ (let some = laid.added.0 before in (some.0, step.keeps.marked some.0 some.1, some.2))
          | inr now ↦ (part.half / 2, part.marked, λ was. part.added.0 now (laid.keeps.marked (part.half / 2) was))
        ],
        λ another. either.1 (elim (part.only another.0 another.1) [
          | inl was ↦ inl (laid.added.1 (another.0, was, another.2))
          | inr is ↦ new_or_before another is
        ]),
      )
        where
          new_or_before : (another : MarksAnother old new) → part.half / 2 ≡ another.0 → IsTrue added ⊎ IsTrue is_new
          new_or_before another is = elim (cases_Bool added) [
            | inl so ↦ inl so
            | inr not ↦
                inr (part.added.1 (λ was. (let so = laid.added.1 (another.0, subst (λ (i : ℕ). IsMarked m i) is was, another.2) in cc)))
          ]

      pub laid_further : IsLaidTo old new v w goal both
      laid_further =
          let along : LeadsAlong (point_at new) new.shape at w part.half =
          leads_to (point_at new) new.shape at w goal part.half part.leads.live part.leads.start part.leads.end
          (subst (λ (p : ℕ → Point). (goal ≡ w) ⊎ LiesBetweenEnds p at w goal) (sym same_points) ahead) in
          record {
            vertices = step.vertices ∙ laid.vertices;
            edges = edges_then;
            points = points_then;
            keeps = keeps_then;
            only = only_then;
            added = added_then;
            same = same_after old m new laid.keeps step.keeps laid.same again;
            list = laid.list ++ part.half ∷ [];
            path =
                subst (λ (x : ℕ). IsMarkedPath new w v x (laid.list ++ part.half ∷ [])) part.leads.end
                (path_goes_on new w v at part.half laid.list (path_stays m new step.keeps step.points mesh closed w v at laid.list laid.path) along part.marked);
            below = subst (λ (n : ℕ). goal < n) (sym step.vertices) below;
            end_below = subst (λ (n : ℕ). w < n) (sym step.vertices) laid.end_below;
            on = subst (λ (p : ℕ → Point). LiesOnSegment p v w goal) (sym same_points) goal_on;
          }

    -- and the way from its end on is free
    pub rest_free : IsMesh m → m.shape.removal ≡ Closed → IsFreeWay m goal w → IsFreeWay new goal w
    rest_free mesh closed free h crosses marked = elim (step.only (h / 2) marked) [
      | inl was ↦ free h (crossed_before was) was
      | inr here ↦ elim (same_edge h here.0 here.2) [
        | inl is ↦
            (let left = subst (λ (x : ℕ). pos 0 <ℤ orient2d_by (point_at new) goal w x) (ap (end_of new.shape) is ∙ here.1.end) crosses.left in
            let zero = on_end (point_at new goal) (point_at new w) in omega (arith, ordered, left, zero))
        | inr is ↦
            (let right = subst (λ (x : ℕ). orient2d_by (point_at new) goal w x <ℤ pos 0) (ap (origin_of new.shape) is ∙ here.1.end) crosses.right in
            let zero = on_end (point_at new goal) (point_at new w) in omega (arith, ordered, right, zero))
      ]
    ]
      where
        crossed_before : IsMarked m (h / 2) → Crosses (point_at m) m.shape goal w h
        crossed_before was =
            crosses_as (point_at new) (point_at m) new.shape m.shape goal w h (sym same_points) (closed-live m.shape closed (h / 2) (marked_below m mesh (h / 2) was))
            (sym (start_kept m new step.keeps h was)) (sym (end_kept m new step.keeps h was)) crosses

  -- a segment laid at once
  module _ (old new : Mesh Point DE Mark F) (v w : ℕ) (step : MarksBetween old new v w) (below : v < old.shape.vertices) (end_below : w < old.shape.vertices) where
    none_laid : IsLaidTo old old v w v false
    none_laid = record {
      vertices = refl;
      edges = refl;
      points = refl;
      keeps = keeps_none old;
      only = λ u marked. inl marked;
      added = (λ so. absurd (let e = so in cc), λ another. absurd (another.2 another.1));
      same = λ none. refl;
      list = [];
      path = refl;
      below = below;
      end_below = end_below;
      on = inl refl;
    }

    pub only_at_once : MarksOnly old new v w
    only_at_once = only_then old old new v w v w false none_laid step (inl refl)

    pub laid_at_once : (is_new : Bool) → IsMesh new → new.shape.removal ≡ Closed → IsLaid old new v w is_new → (¬ MarksAnother old new → new ≡ old)
        → HasConstraint new v w × (IsTrue is_new ↔ MarksAnother old new)
    laid_at_once is_new mesh closed part again =
        let laid = laid_further old old new v w v w false none_laid step (inl refl) is_new is_new mesh closed part end_below
        (λ so. inr so, λ either. elim either [ inl never ↦ absurd (let e = never in cc) | inr so ↦ so ]) again in
        (laid_all old new v w w is_new laid refl, laid.added)
