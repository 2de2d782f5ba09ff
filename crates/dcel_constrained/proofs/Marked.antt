-- A point put on a marked edge: both of its parts are marked.
use Rattle.std.proofs.Common.{◌≡◌, ◌≢◌, ◌⊎◌, inl, inr, ℕ, ◌*◌, ◌+◌, ◌/◌, ◌<◌, List, sym, ap, ◌∙◌, subst, arith}
use Rattle.std.proofs.lemmas.Bool.{cases_eq}
use Rattle.dcel_fixed.specs.HalfEdges.{rev}
use Rattle.dcel_fixed.proofs.Halves.{rev-double, rev-half, rev-rev}
use Rattle.dcel_predicates.specs.declared.point.Point.{Point}
use Rattle.dcel_maps.specs.edits.Data.{undirected_edge_updated}
use Rattle.dcel_maps.specs.Removals.{gives_up_edge}
use Rattle.dcel_maps.specs.Shapes.{IsLive, IsMesh, Mesh, Shape, end_of, map_of, origin_of}
use Rattle.dcel_maps.specs.Walking.{Leads}
use Rattle.dcel_maps.proofs.Liveness.{is_live-parts}
use Rattle.dcel_maps.proofs.maps.Soundness.{rev_live}
use Rattle.dcel_plane.specs.Plane.{point_at}
use Rattle.dcel_plane.proofs.removal.Turnable.{both_halves}
use Rattle.dcel_plane.specs.location.Locating.{LiesOn}
use Rattle.dcel_planar.specs.Edges.{IsSplit, KeepsEdgeData}
use Rattle.dcel_planar.specs.Growing.{Gains, HasHull, HasOutside, IsFlat, IsTriangleMesh, KeepsListed}
use Rattle.dcel_regions.specs.Marked.{IsMarked}
use Rattle.dcel_regions.specs.declared.mark.Mark.{Mark}
use Rattle.dcel_regions.specs.declared.mark.Mark.TheVariants.{Constraint, Free}
use Rattle.dcel_constrained.specs.Constraints.{IsPartOf, LiesOnSegment}
use Rattle.dcel_constrained.specs.Meeting.{LiesBetweenEnds}
use Rattle.dcel_constrained.specs.Splitting.{MarksParts, SplitsMarked}
use Rattle.dcel_constrained.proofs.Added.{as_was, half_below, marked_before, marked_later, point_gained, points_before, splits_none}
use Rattle.dcel_constrained.proofs.Between.{lies_turned}
use Rattle.dcel_constrained.proofs.Laid.{same_edge}
use Rattle.dcel_constrained.proofs.Marking.{marked_itself, marked_now, marked_still, outlined_then}
use Rattle.dcel_constrained.proofs.Splits.{IsAsWas, IsTwo, constraints_kept, ends_below, starts_below}

turned_leads : (s : Shape) (v w h : ℕ) → Leads s v w h → Leads s w v (rev h)
turned_leads s v w h leads = record {
  live = rev_live (map_of s) h leads.live;
  start = leads.end;
  end = ap (origin_of s) (rev-rev h) ∙ leads.start;
}

-- a segment seen from its other end
part_turned : {DE F : Type 0} (m : Mesh Point DE Mark F) (v w u : ℕ) → IsPartOf m v w u → IsPartOf m w v u
part_turned m v w u part = record { from = on_turned (origin_of m.shape (2 * u)) part.from; to = on_turned (origin_of m.shape (2 * u + 1)) part.to }
  where
    on_turned : (x : ℕ) → LiesOnSegment (point_at m) v w x → LiesOnSegment (point_at m) w v x
    on_turned x (inl is) = inr (inl is)
    on_turned x (inr (inl is)) = inl is
    on_turned x (inr (inr lies)) = inr (inr (lies_turned (point_at m) v w x lies))

-- a mark changes neither triangles nor points
module _ {DE F : Type 0} (m : Mesh Point DE Mark F) (e : ℕ) (k : Mark) where
  pub triangulated_too : IsTriangleMesh m → IsTriangleMesh (undirected_edge_updated m e k)
  triangulated_too is = record { closed = is.closed; joined = is.joined; triangles = is.triangles; plane = is.plane }

  pub outside_too : (due : List ℕ) → HasOutside m due → HasOutside (undirected_edge_updated m e k) due
  outside_too due (inl flat) = inl (record { alone = flat.alone; straight = flat.straight })
  outside_too due (inr (inl has)) = inr (inl (record { inner = has.inner; convex = has.convex; hull = has.hull }))
  outside_too due (inr (inr (some, (t, opened)))) =
      inr (inr (some, (t, record { inner = opened.inner; last = opened.last; closing = opened.closing; from = opened.from })))

  pub gains_too : (old : Mesh Point DE Mark F) (p : Point) (t : ℕ) → Gains old m p t → Gains old (undirected_edge_updated m e k) p t
  gains_too old p t gains = record { closed = gains.closed; vertices = gains.vertices; vertex = gains.vertex; points = gains.points; edges = gains.edges }

  pub lists_too : (old : Mesh Point DE Mark F) (due items : List ℕ) → KeepsListed old m due items → KeepsListed old (undirected_edge_updated m e k) due items
  lists_too old due items lists lacking before = lists lacking before

module _ {DE F : Type 0} (old m : Mesh Point DE Mark F) (is_free : Mark → Type 0) (free : (x : Mark) → is_free x → x ≡ Free) (added : KeepsEdgeData is_free old m) (mesh : IsMesh old)
    (mesh_after : IsMesh m) (e t : ℕ) (split : IsSplit old m e t) (p : Point) (gains : Gains old m p t) where
  others : (h : ℕ) → IsMarked old (h / 2) → h / 2 ≢ e / 2 → origin_of m.shape h ≡ origin_of old.shape h
  others h marked differ =
      split.others h (half_below old m is_free free added mesh mesh_after gains.closed h marked) (λ is. differ (ap (λ (i : ℕ). i / 2) is))
      (λ is. differ (ap (λ (i : ℕ). i / 2) is ∙ rev-half e))

  points : (v : ℕ) → v < old.shape.vertices → point_at m v ≡ point_at old v
  points = points_before old m p t mesh gains

  -- an edge that isn't marked
  pub splits_free : ¬ IsMarked old (e / 2) → SplitsMarked old m
  splits_free not =
      splits_none old m is_free free added mesh mesh_after gains.closed (λ h marked. others h marked (λ is. not (subst (IsMarked old) is marked))) points

  module _ (live : IsLive old.shape e) (lies : LiesOn (point_at old) old.shape p e) (was : IsMarked old (e / 2)) (a b : ℕ)
      (to_start : Leads m.shape t (origin_of old.shape e) a) (to_end : Leads m.shape t (end_of old.shape e) b)
      (mesh_once : IsMesh (undirected_edge_updated m (a / 2) Constraint)) where
    abbrev once : Mesh Point DE Mark F
    once = undirected_edge_updated m (a / 2) Constraint

    abbrev new : Mesh Point DE Mark F
    new = undirected_edge_updated once (b / 2) Constraint

    still : (u : ℕ) → IsMarked old u → IsMarked new u
    still u marked = marked_still once (b / 2) mesh_once u (marked_still m (a / 2) mesh_after u (marked_later old m is_free free added u marked))

    below : (h : ℕ) → IsLive m.shape h → h / 2 < m.shape.edges
    below h live_h = (is_live-parts (gives_up_edge m.shape.removal) m.shape.edges (h / 2) live_h).0

    marked_first : IsMarked new (a / 2)
    marked_first = marked_still once (b / 2) mesh_once (a / 2) (marked_itself m (a / 2) mesh_after (below a to_start.live))

    marked_second : IsMarked new (b / 2)
    marked_second = marked_itself once (b / 2) mesh_once (below b to_end.live)

    abbrev from : ℕ
    from = origin_of old.shape e

    abbrev to : ℕ
    to = end_of old.shape e

    between : LiesBetweenEnds (point_at new) from to t
    between = record {
      on = rw (points from (starts_below old mesh e live), points to (ends_below old mesh e live), point_gained old m p t mesh gains) lies.on;
      inside = rw (points from (starts_below old mesh e live), points to (ends_below old mesh e live), point_gained old m p t mesh gains) lies.between;
    }

    two : IsTwo old new e
    two = record {
      middle = t;
      between = between;
      first = rev a;
      leads = turned_leads m.shape t from a to_start;
      marked = subst (IsMarked new) (sym (rev-half a)) marked_first;
      second = b;
      leads_on = to_end;
      marked_too = marked_second;
    }

    two_back : IsTwo old new (rev e)
    two_back =
        let is : from ≡ end_of old.shape (rev e) = ap (origin_of old.shape) (sym (rev-rev e)) in
        record {
          middle = t;
          between = subst (λ (v : ℕ). LiesBetweenEnds (point_at new) to v t) is (lies_turned (point_at new) from to t between);
          first = rev b;
          leads = turned_leads m.shape t to b to_end;
          marked = subst (IsMarked new) (sym (rev-half b)) marked_second;
          second = a;
          leads_on = subst (λ (v : ℕ). Leads m.shape t v a) is to_start;
          marked_too = marked_first;
        }

    each : (h : ℕ) → IsLive old.shape h → IsMarked old (h / 2) → IsAsWas old new h ⊎ IsTwo old new h
    each h live_h marked = elim (cases_eq (h / 2) (e / 2)) [
      | inl same ↦ elim (same_edge h e (sym same)) [
        | inl is ↦ inr (subst (IsTwo old new) (sym is) two)
        | inr is ↦ inr (subst (IsTwo old new) (sym is) two_back)
      ]
      | inr differ ↦
          let to_other : rev h / 2 ≢ e / 2 = λ is. differ (sym (rev-half h) ∙ is) in
          let before =
          as_was old m is_free free added mesh mesh_after gains.closed h marked (others h marked differ)
          (others (rev h) (subst (IsMarked old) (sym (rev-half h)) marked) to_other) in
          inl (record { leads = before.leads; marked = still (h / 2) marked })
    ]

    abbrev IsOn : ℕ → Type 0
    IsOn x = LiesOnSegment (point_at new) from to x

    on_middle : (x : ℕ) → x ≡ t → IsOn x
    on_middle x is = subst IsOn (sym is) (inr (inr between))

    part : (k : ℕ) → IsOn (origin_of m.shape k) → IsOn (end_of m.shape k) → IsPartOf new from to (k / 2)
    part k starts ends =
        let found = both_halves (λ x y. IsOn (origin_of m.shape x) × IsOn (origin_of m.shape y)) (λ x y both. (both.1, both.0)) k (starts, ends) in
        record { from = found.0; to = found.1 }

    part_split : IsPartOf new from to (e / 2)
    part_split = elim split.halves [
      | inl starts ↦ part e (inl starts.0) (on_middle (end_of m.shape e) starts.1)
      | inr ends ↦ part e (on_middle (origin_of m.shape e) ends.0) (inr (inl ends.1))
    ]

    -- an edge beside it is a part of itself
    part_itself : (u : ℕ) → IsMarked old u → u ≢ e / 2 → IsPartOf new (origin_of old.shape (2 * u)) (end_of old.shape (2 * u)) u
    part_itself u marked_old differ =
        let half : 2 * u / 2 ≡ u = omega arith in
        let other : (2 * u + 1) / 2 ≡ u = omega arith in
        record {
          from = inl (others (2 * u) (subst (IsMarked old) (sym half) marked_old) (λ at_e. differ (sym half ∙ at_e)));
          to =
              inr
              (inl
              (others (2 * u + 1) (subst (IsMarked old) (sym other) marked_old) (λ at_e. differ (sym other ∙ at_e))
              ∙ ap (origin_of old.shape) (sym (rev-double u))));
        }

    own : (u : ℕ) → IsMarked old u → IsPartOf new (origin_of old.shape (2 * u)) (end_of old.shape (2 * u)) u
    own u marked_old = elim (cases_eq u (e / 2)) [
      | inl is ↦
          let found = both_halves (λ x y. IsPartOf new (origin_of old.shape x) (origin_of old.shape y) (e / 2))
          (λ x y part. part_turned new (origin_of old.shape x) (origin_of old.shape y) (e / 2) part) e part_split in
          let first : origin_of old.shape (2 * (e / 2)) ≡ origin_of old.shape (2 * u) = ap (λ (i : ℕ). origin_of old.shape (2 * i)) (sym is) in
          let second : origin_of old.shape (2 * (e / 2) + 1) ≡ end_of old.shape (2 * u) =
          ap (λ (i : ℕ). origin_of old.shape (2 * i + 1)) (sym is) ∙ ap (origin_of old.shape) (sym (rev-double u)) in
          subst (λ (i : ℕ). IsPartOf new (origin_of old.shape (2 * u)) (end_of old.shape (2 * u)) i) (sym is)
          (subst (λ (v : ℕ). IsPartOf new v (end_of old.shape (2 * u)) (e / 2)) first
          (subst (λ (w : ℕ). IsPartOf new (origin_of old.shape (2 * (e / 2))) w (e / 2)) second found))
      | inr differ ↦ part_itself u marked_old differ
    ]

    parts : MarksParts old new
    parts u marked = elim (marked_now once (b / 2) u marked) [
      | inl is ↦ (e, was, subst (IsPartOf new from to) (sym is) (part b (on_middle (origin_of m.shape b) to_end.start) (inr (inl to_end.end))))
      | inr marked_once ↦ elim (marked_now m (a / 2) u marked_once) [
        | inl is ↦ (e, was, subst (IsPartOf new from to) (sym is) (part a (on_middle (origin_of m.shape a) to_start.start) (inl to_start.end)))
        | inr marked_m ↦ elim (cases_eq u (e / 2)) [
          | inl is ↦ (e, was, subst (IsPartOf new from to) (sym is) part_split)
          | inr differ ↦ itself u (marked_before old m is_free free added u marked_m) differ
        ]
      ]
    ]
      where
        itself : (u : ℕ) → IsMarked old u → u ≢ e / 2 → (h : ℕ) × IsMarked old (h / 2) × IsPartOf new (origin_of old.shape h) (end_of old.shape h) u
        itself u marked_old differ =
            let half : 2 * u / 2 ≡ u = omega arith in
            (2 * u, subst (IsMarked old) (sym half) marked_old, part_itself u marked_old differ)

    pub splits_marked : SplitsMarked old new
    splits_marked = record { marked = still; own = own; constraints = constraints_kept old new mesh points each; parts = parts }

-- two edges marked, one after the other
twice : {DE F : Type 0} (m one both : Mesh Point DE Mark F) (a b : ℕ) → one ≡ undirected_edge_updated m a Constraint → both ≡ undirected_edge_updated one b Constraint
    → (P : Mesh Point DE Mark F → Type 0) → P (undirected_edge_updated (undirected_edge_updated m a Constraint) b Constraint) → P both
twice m one both a b first second P holds = subst P (sym second) (subst (λ n. P (undirected_edge_updated n b Constraint)) (sym first) holds)

module _ {DE F : Type 0} (m one both : Mesh Point DE Mark F) (a b : ℕ) (first : one ≡ undirected_edge_updated m a Constraint)
    (second : both ≡ undirected_edge_updated one b Constraint) where
  abbrev m_once : Mesh Point DE Mark F
  m_once = undirected_edge_updated m a Constraint

  pub triangulated_twice : IsTriangleMesh m → IsTriangleMesh both
  triangulated_twice is = twice m one both a b first second IsTriangleMesh (triangulated_too m_once b Constraint (triangulated_too m a Constraint is))

  pub outside_twice : (due : List ℕ) → HasOutside m due → HasOutside both due
  outside_twice due is = twice m one both a b first second (λ n. HasOutside n due) (outside_too m_once b Constraint due (outside_too m a Constraint due is))

  pub either_twice : IsFlat m ⊎ HasHull m → IsFlat both ⊎ HasHull both
  either_twice is = twice m one both a b first second (λ n. IsFlat n ⊎ HasHull n) (outlined_then m_once b Constraint (outlined_then m a Constraint is))

  pub gains_twice : (old : Mesh Point DE Mark F) (p : Point) (t : ℕ) → Gains old m p t → Gains old both p t
  gains_twice old p t is = twice m one both a b first second (λ n. Gains old n p t) (gains_too m_once b Constraint old p t (gains_too m a Constraint old p t is))

  pub lists_twice : (old : Mesh Point DE Mark F) (due items : List ℕ) → KeepsListed old m due items → KeepsListed old both due items
  lists_twice old due items is =
      twice m one both a b first second (λ n. KeepsListed old n due items) (lists_too m_once b Constraint old due items (lists_too m a Constraint old due items is))

-- both parts of a marked edge marked
module _ {DE F : Type 0} (old m one both : Mesh Point DE Mark F) (is_free : Mark → Type 0) (free : (x : Mark) → is_free x → x ≡ Free) (added : KeepsEdgeData is_free old m)
    (mesh : IsMesh old) (mesh_after : IsMesh m) (e t : ℕ) (split : IsSplit old m e t) (p : Point) (gains : Gains old m p t) (live : IsLive old.shape e)
    (lies : LiesOn (point_at old) old.shape p e) (was : IsMarked old (e / 2)) where
  pub splits_twice : (a b : ℕ) → Leads m.shape t (origin_of old.shape e) a → one ≡ undirected_edge_updated m (a / 2) Constraint → IsMesh one
      → Leads one.shape t (end_of old.shape e) b → both ≡ undirected_edge_updated one (b / 2) Constraint → SplitsMarked old both
  splits_twice a b to_start first mesh_once to_end second =
      twice m one both (a / 2) (b / 2) first second (SplitsMarked old)
      (splits_marked old m is_free free added mesh mesh_after e t split p gains live lies was a b to_start
      (subst (λ (n : Mesh Point DE Mark F). Leads n.shape t (end_of old.shape e) b) first to_end) (subst IsMesh first mesh_once))
