-- Each condition is met or isn't, whatever the shape.
use Rattle.std.proofs.Common.{◌≡◌, ◌≢◌, ◌⊎◌, inl, inr, ℕ, zero, suc, ◌+◌, ◌*◌, ◌/◌, ◌<◌, ◌≤◌, Bool, true, false, sym, refl, ap, subst, ◌∙◌, List, [], ◌∷◌, length, map, reverse, get_or, All, arith}
use Rattle.std.proofs.lemmas.Bool.{cases_eq, cases_lt, false≢true}
use Rattle.std.proofs.lemmas.Grind.{get_or_default_zero}
use Rattle.dcel_commands.specs.Conditions.{Condition, Meets, VertexInRange, HalfEdgeInRange, EdgeInRange, InnerFaceInRange, VertexLive, HalfEdgeLive, EdgeLive, FaceLive, Different, Unconnected, NoEdge, LineEnd, ThreeHalves, OnTriangle, Bridge, OnOuterFace, ClosesOutside, Flips, HalfEdgesInRange, EdgesInRange, InnerFacesInRange, NoneOpen, NoOtherOpen, NotCleaned, Listed, StripOfVertex, BorderOf, RingOf, Removable, OfPath, LeavesAtMost, IsIsolated, RoomFor, RoomForMesh, AreWithin}
use Rattle.dcel_fixed.specs.HalfEdges.{rev}
use Rattle.dcel_maps.specs.Conditions.{IsUnconnected, IsLineEnd, IsTriangle, IsBridge, CanFlip, CanCloseOutside, CanSwapRemove}
use Rattle.dcel_maps.specs.Degenerate.{CanRemoveDegenerate, HasFewOutEdges, IsOutPair, IsPath}
use Rattle.dcel_maps.specs.Removals.{Removal, Closed, Isolated, Cleaned, IsListed, ascending}
use Rattle.dcel_maps.specs.Shapes.{Shape, edge_is_live, end_of, face_count, face_is_live, face_of, next_of, origin_of, prev_of, vertex_is_live}
use Rattle.dcel_maps.specs.Strips.{IsEdgeStrip, IsStripAround, strip_of}
use Rattle.dcel_maps.specs.Borders.{IsBorderLoop, IsEdgeAt, IsFaceAt, IsVertexRing, StartsAlone, center_of}
use Rattle.dcel_maps.specs.Regions.{IsRegion, IsRegionRing, IsRim, IsRing, LeadsPast}
use Rattle.dcel_maps.specs.Regions.IsRing.{of_region, of_vertex}
use Rattle.dcel_maps.specs.theory.Cycles.{IsCycle, Path}
use Rattle.dcel_maps.proofs.maps.Halves.{rev_half, rev_or_same}
use Rattle.dcel_maps.proofs.removal.Passing.{leads_or_not}
use Rattle.dcel_maps.specs.Walking.{IsOutEdge, ListsOnce, ccw_of, walk_of}
use Rattle.dcel_maps.specs.Words.{count_of, word_of}
use Rattle.dcel_maps.proofs.walks.Links.{half-below}
use Rattle.dcel_maps.proofs.words.Counts.{count-later, count-same, first_or_later}

-- it holds, or it does not
abbrev pub Decided : Type 0 → Type 0
Decided P = P ⊎ (¬ P)

-- ---- how decisions go together

both : {P Q : Type 0} → Decided P → Decided Q → Decided (P × Q)
both (inl p) (inl q) = inl (p, q)
both (inr p) q = inr (λ pq. p pq.0)
both (inl p) (inr q) = inr (λ pq. q pq.1)

either : {P Q : Type 0} → Decided P → Decided Q → Decided (P ⊎ Q)
either (inl p) q = inl (inl p)
either (inr p) (inl q) = inl (inr q)
either (inr p) (inr q) = inr (λ pq. elim pq [ inl first ↦ p first | inr second ↦ q second ])

implied : {P Q : Type 0} → Decided P → Decided Q → Decided (P → Q)
implied (inr not) q = inl (λ p. absurd (not p))
implied (inl p) (inl q) = inl (λ _. q)
implied (inl p) (inr not) = inr (λ f. not (f p))

neither : {P : Type 0} → Decided P → Decided (¬ P)
neither (inl p) = inr (λ not. not p)
neither (inr not) = inl not

as_well : {P Q : Type 0} → (P → Q) → (Q → P) → Decided P → Decided Q
as_well to from (inl p) = inl (to p)
as_well to from (inr not) = inr (λ q. not (from q))

is_below : (a b : ℕ) → Decided (a < b)
is_below a b = elim (cases_lt a b) [
  | inl below ↦ inl below
  | inr past ↦ inr (λ below. omega arith)
]

is_within : (a b : ℕ) → Decided (a ≤ b)
is_within a b = elim (cases_lt b a) [
  | inl past ↦ inr (λ within. omega arith)
  | inr within ↦ inl within
]

is_true : (b : Bool) → Decided (b ≡ true)
is_true true = inl refl
is_true false = inr false≢true

-- a number below n has the property, or none has
search_below : (P : ℕ → Type 0) → ((k : ℕ) → Decided (P k)) → (n : ℕ) → ((k : ℕ) × (k < n) × P k) ⊎ ((k : ℕ) → k < n → ¬ P k)
search_below P each zero = inr (λ k below. absurd (omega arith))
search_below P each (suc n) = elim (search_below P each n) [
  | inl found ↦ inl (found.0, omega (arith, found.1), found.2)
  | inr none ↦ elim (each n) [
    | inl here ↦ inl (n, omega arith, here)
    | inr not ↦ inr (λ k below has. elim (cases_eq k n) [
      | inl same ↦ not (subst P same has)
      | inr away ↦ none k (omega arith) has
    ])
  ]
]

-- all below n have it, or not all
all_below : (P : ℕ → Type 0) → ((k : ℕ) → Decided (P k)) → (n : ℕ) → Decided ((k : ℕ) → k < n → P k)
all_below P each n = elim (search_below (λ k. ¬ P k) (λ k. neither (each k)) n) [
  | inl found ↦ inr (λ all. found.2 (all found.0 found.1))
  | inr none ↦ inl (λ k below. elim (each k) [ inl has ↦ has | inr not ↦ absurd (none k below not) ])
]

-- all items of a list have it, or not all
each : {P : ℕ → Type 0} → ((k : ℕ) → Decided (P k)) → (xs : List ℕ) → Decided (All P xs)
each {P} decide xs = as_well
    (λ all k d below. subst P (sym (get_or_default_zero xs k d below)) (all k below))
    (λ all k below. all k 0 below)
    (all_below (λ k. P (get_or xs k 0)) (λ k. decide (get_or xs k 0)) (length xs))

first_same : (x y : ℕ) (xs ys : List ℕ) → x ∷ xs ≡ y ∷ ys → x ≡ y
first_same x y xs ys e = cc

others_same : (x y : ℕ) (xs ys : List ℕ) → x ∷ xs ≡ y ∷ ys → xs ≡ ys
others_same x y xs ys e = cc

same_list : (xs ys : List ℕ) → Decided (xs ≡ ys)
same_list [] [] = inl refl
same_list [] (y ∷ ys) = inr (λ e. absurd cc)
same_list (x ∷ xs) [] = inr (λ e. absurd cc)
same_list (x ∷ xs) (y ∷ ys) = as_well (λ same. rw (same.0, same.1) refl) (λ e. (first_same x y xs ys e, others_same x y xs ys e)) (both (cases_eq x y) (same_list xs ys))

-- ---- half edges out of a vertex

out_edge : (s : Shape) (v h : ℕ) → Decided (IsOutEdge s v h)
out_edge s v h = as_well (λ p. record { live = p.0; start = p.1 }) (λ (out : IsOutEdge s v h). (out.live, out.start))
    (both (is_true (edge_is_live s (h / 2))) (cases_eq (origin_of s h) v))

-- some half edge out of v, or none
some_out : (s : Shape) (v : ℕ) → ((h : ℕ) × IsOutEdge s v h) ⊎ ((h : ℕ) → ¬ IsOutEdge s v h)
some_out s v = elim (search_below (IsOutEdge s v) (out_edge s v) (2 * s.edges)) [
  | inl found ↦ inl (found.0, found.2)
  | inr none ↦ inr (λ h out. none h (half-below s h out.live) out)
]

-- another one than h, or none
another_out : (s : Shape) (v h : ℕ) → ((k : ℕ) × IsOutEdge s v k × (k ≢ h)) ⊎ ((k : ℕ) → IsOutEdge s v k → k ≡ h)
another_out s v h = elim (search_below (λ k. IsOutEdge s v k × (k ≢ h)) (λ k. both (out_edge s v k) (neither (cases_eq k h))) (2 * s.edges)) [
  | inl found ↦ inl (found.0, found.2.0, found.2.1)
  | inr none ↦ inr (λ k out. elim (cases_eq k h) [
    | inl same ↦ same
    | inr away ↦ absurd (none k (half-below s k out.live) (out, away))
  ])
]

unconnected : (s : Shape) (v : ℕ) → Decided (IsUnconnected s v)
unconnected s v = elim (is_true (vertex_is_live s v)) [
  | inr dead ↦ inr (λ is. dead is.live)
  | inl live ↦ elim (some_out s v) [
    | inl found ↦ inr (λ is. is.bare found.0 found.1.live found.1.start)
    | inr none ↦ inl (record { live = live; bare = λ h live_h start. none h (record { live = live_h; start = start }) })
  ]
]

line_end : (s : Shape) (v : ℕ) → Decided (IsLineEnd s v)
line_end s v = elim (is_true (vertex_is_live s v)) [
  | inr dead ↦ inr (λ is. dead is.live)
  | inl live ↦ elim (some_out s v) [
    | inr none ↦ inr (λ is. none is.one.0 is.one.1.edge)
    | inl found ↦ elim (another_out s v found.0) [
      | inl other ↦ inr (λ is. other.2 (is.one.1.only other.0 other.1.live other.1.start ∙ sym (is.one.1.only found.0 found.1.live found.1.start)))
      | inr none ↦ inl (record { live = live; one = (found.0, record { edge = found.1; only = λ k live_k start. none k (record { live = live_k; start = start }) }) })
    ]
  ]
]

-- ---- conditions

triangle : (s : Shape) (f : ℕ) → Decided (IsTriangle s f)
triangle s f = as_well (λ p. record { live = p.0; three = p.1 }) (λ (is : IsTriangle s f). (is.live, is.three))
    (both (is_true (face_is_live s f)) (cases_eq (length (word_of s.words f)) 3))

bridge : (s : Shape) (h : ℕ) → Decided (IsBridge s h)
bridge s h = as_well (λ p. record { live = p.0; one_face = p.1 }) (λ (is : IsBridge s h). (is.live, is.one_face))
    (both (is_true (edge_is_live s (h / 2))) (cases_eq (face_of s h) (face_of s (rev h))))

closes_outside : (s : Shape) (h : ℕ) → Decided (CanCloseOutside s h)
closes_outside s h =
    as_well (λ p. record { live = p.0; outer = p.1.0; apart = p.1.1 }) (λ (can : CanCloseOutside s h). (can.live, (can.outer, can.apart)))
    (both (is_true (edge_is_live s (h / 2))) (both (cases_eq (face_of s h) 0) (neither (cases_eq (end_of s (next_of s h)) (origin_of s h)))))

can_flip : (s : Shape) (u : ℕ) → Decided (CanFlip s u)
can_flip s u =
    as_well (λ p. record { live = p.0; triangle = p.1.0; facing = p.1.1.0; corners = p.1.1.1 }) (λ (can : CanFlip s u). (can.live, (can.triangle, (can.facing, can.corners))))
    (both (is_true (edge_is_live s u)) (both (triangle s (face_of s (2 * u))) (both (triangle s (face_of s (2 * u + 1)))
    (neither (cases_eq (origin_of s (prev_of s (2 * u))) (origin_of s (prev_of s (2 * u + 1))))))))

within : (limit vertices edges faces : ℕ) → Decided (AreWithin limit vertices edges faces)
within limit vertices edges faces =
    as_well (λ p. record { few_vertices = p.0; few_edges = p.1.0; few_faces = p.1.1 }) (λ (are : AreWithin limit vertices edges faces). (are.few_vertices, (are.few_edges, are.few_faces)))
    (both (is_within vertices limit) (both (is_within edges limit) (is_within faces limit)))

-- ---- what removals ask

closed : (r : Removal) → Decided (r ≡ Closed)
closed Closed = inl refl
closed (Isolated edges faces vertex) = inr (λ e. absurd cc)
closed (Cleaned v) = inr (λ e. absurd cc)

leaves_at_most : (v : ℕ) (r : Removal) → Decided (LeavesAtMost v r)
leaves_at_most v Closed = inl tt
leaves_at_most v (Isolated edges faces vertex) = inr (λ none. none)
leaves_at_most v (Cleaned w) = cases_eq w v

isolated : (r : Removal) → Decided (IsIsolated r)
isolated Closed = inr (λ none. none)
isolated (Isolated edges faces vertex) = inl tt
isolated (Cleaned v) = inr (λ none. none)

listed : (r : Removal) (us fs : List ℕ) → Decided (IsListed r us fs)
listed Closed us fs = inr (λ none. none)
listed (Isolated edges faces vertex) us fs = both (same_list (ascending us) edges) (same_list (ascending fs) faces)
listed (Cleaned v) us fs = inr (λ none. none)

cleaned_to : (v : ℕ) (r : Removal) → Decided (r ≡ Cleaned v)
cleaned_to v Closed = inr (λ e. absurd cc)
cleaned_to v (Isolated edges faces vertex) = inr (λ e. absurd cc)
cleaned_to v (Cleaned w) = as_well (λ e. ap (λ (x : ℕ). Cleaned x) e) (λ e. cleaned_vertex w v e) (cases_eq w v)
  where
    cleaned_vertex : (x y : ℕ) → Cleaned x ≡ Cleaned y → x ≡ y
    cleaned_vertex x y e = cc

removable : (s : Shape) (v : ℕ) → Decided (CanSwapRemove s v)
removable s v = either (both (closed s.removal) (unconnected s v)) (cleaned_to v s.removal)

-- each half edge out of v that isn't outer lies on a triangle, and h alone is outer
spoke : (s : Shape) (v h x : ℕ) → Decided (IsOutEdge s v x → (face_of s x ≡ 0 → x ≡ h) × (face_of s x ≢ 0 → length (word_of s.words (face_of s x)) ≡ 3))
spoke s v h x = implied (out_edge s v x) (both
    (implied (cases_eq (face_of s x) 0) (cases_eq x h))
    (implied (neither (cases_eq (face_of s x) 0)) (cases_eq (length (word_of s.words (face_of s x))) 3)))

around : (s : Shape) (v h : ℕ) → Decided (IsStripAround s v h)
around s v h = as_well
    (λ p. record {
      out = p.0;
      outer = p.1.0;
      only = λ x out. (p.1.1.0 x (half-below s x out.live) out).0;
      triangles = λ x out. (p.1.1.0 x (half-below s x out.live) out).1;
      long = p.1.1.1;
    })
    (λ (is : IsStripAround s v h). (is.out, (is.outer, ((λ x below out. (is.only x out, is.triangles x out)), is.long))))
    (both (out_edge s v h) (both (cases_eq (face_of s h) 0)
    (both (all_below (λ x. IsOutEdge s v x → (face_of s x ≡ 0 → x ≡ h) × (face_of s x ≢ 0 → length (word_of s.words (face_of s x)) ≡ 3)) (spoke s v h) (2 * s.edges))
    (is_below 2 (length (word_of s.words 0))))))

strip : (s : Shape) (list : List ℕ) → Decided (IsEdgeStrip s list)
strip s list = elim (search_below (λ h. IsStripAround s (origin_of s h) h × (list ≡ strip_of s h)) (λ h. both (around s (origin_of s h) h) (same_list list (strip_of s h))) (2 * s.edges)) [
  | inl found ↦ inl (record { vertex = origin_of s found.0; half = found.0; around = found.2.0; is = found.2.1 })
  | inr none ↦ inr (λ (strip : IsEdgeStrip s list).
      none strip.half (half-below s strip.half strip.around.out.live)
      (subst (λ v. IsStripAround s v strip.half) (sym strip.around.out.start) strip.around, strip.is))
]

-- ---- paths

-- some number below n has the property, or none has
some_below : (P : ℕ → Type 0) → ((k : ℕ) → Decided (P k)) → (n : ℕ) → ((k : ℕ) → P k → k < n) → Decided ((k : ℕ) × P k)
some_below P each n bound = elim (search_below P each n) [
  | inl found ↦ inl (found.0, found.2)
  | inr none ↦ inr (λ some. none some.0 (bound some.0 some.1) some.1)
]

out_pair : (s : Shape) (v h k : ℕ) → Decided (IsOutPair s v h k)
out_pair s v h k = as_well
    (λ p. record { first = p.0; second = p.1.0; only = λ x out. p.1.1 x (half-below s x out.live) out })
    (λ (is : IsOutPair s v h k). (is.first, (is.second, (λ x below. is.only x))))
    (both (out_edge s v h) (both (out_edge s v k) (all_below (λ x. IsOutEdge s v x → (x ≡ h) ⊎ (x ≡ k)) (λ x. implied (out_edge s v x) (either (cases_eq x h) (cases_eq x k))) (2 * s.edges))))

second_out : (s : Shape) (v h : ℕ) → Decided ((k : ℕ) × IsOutPair s v h k)
second_out s v h = some_below (IsOutPair s v h) (out_pair s v h) (2 * s.edges) (λ k is. half-below s k is.second.live)

few_out_edges : (s : Shape) (v : ℕ) → Decided (HasFewOutEdges s v)
few_out_edges s v = as_well (λ p. (p.0, p.1.0, p.1.1)) (λ (few : HasFewOutEdges s v). (few.0, (few.1, few.2)))
    (some_below (λ h. (k : ℕ) × IsOutPair s v h k) (second_out s v) (2 * s.edges) (λ h pair. half-below s h pair.1.first.live))

path : (s : Shape) → Decided (IsPath s)
path s = as_well (λ p. record { one_face = p.0; few = p.1 }) (λ (is : IsPath s). (is.one_face, is.few))
    (both (cases_eq (face_count s) 1) (all_below (HasFewOutEdges s) (few_out_edges s) s.vertices))

of_path : (s : Shape) (v : ℕ) → Decided (CanRemoveDegenerate s v)
of_path s v = as_well (λ p. record { within = p.0; closed = p.1.0; shape = p.1.1 }) (λ (can : CanRemoveDegenerate s v). (can.within, (can.closed, can.shape)))
    (both (is_below v s.vertices) (both (closed s.removal) (either (cases_eq s.vertices 1) (path s))))

-- ---- borders

-- each number that stands in a list has it, or not all
items_have : {P : ℕ → Type 0} → ((k : ℕ) → Decided (P k)) → (xs : List ℕ) → Decided ((k : ℕ) → 0 < count_of k xs → P k)
items_have decide [] = inl (λ k found. absurd (omega (arith, found)))
items_have {P} decide (x ∷ xs) = as_well
    (λ p k found. elim (first_or_later k x xs found) [ inl is ↦ subst P (sym is) p.0 | inr later ↦ p.1 k later ])
    (λ all. (all x (omega (arith, count-same x xs)), (λ k found. all k (count-later k x xs found))))
    (both (decide x) (items_have decide xs))

triangle_out : (s : Shape) (v h : ℕ) → Decided (IsOutEdge s v h → (0 < face_of s h) × IsTriangle s (face_of s h))
triangle_out s v h = implied (out_edge s v h) (both (is_below 0 (face_of s h)) (triangle s (face_of s h)))

starts_alone : (s : Shape) (w : List ℕ) → Decided (StartsAlone s w)
starts_alone s [] = inl tt
starts_alone s (x ∷ r) = items_have (λ y. neither (cases_eq (origin_of s y) (origin_of s x))) r

border_from : (s : Shape) (border : List ℕ) (v : ℕ) → Decided ((h : ℕ) × IsOutEdge s v h × (reverse border ≡ map (next_of s) (walk_of s (ccw_of s) h)))
border_from s border v = as_well (λ p. (p.0, p.1.0, p.1.1))
    (λ (found : (h : ℕ) × IsOutEdge s v h × (reverse border ≡ map (next_of s) (walk_of s (ccw_of s) h))). (found.0, (found.1, found.2)))
    (some_below (λ h. IsOutEdge s v h × (reverse border ≡ map (next_of s) (walk_of s (ccw_of s) h)))
    (λ h. both (out_edge s v h) (same_list (reverse border) (map (next_of s) (walk_of s (ccw_of s) h)))) (2 * s.edges)
    (λ h found. half-below s h found.0.live))

border_loop : (s : Shape) (border : List ℕ) (v : ℕ) → Decided (IsBorderLoop s border v)
border_loop s border v = as_well
    (λ p. record {
      live = p.0;
      triangles = λ h out. p.1.0 h (half-below s h out.live) out;
      many = p.1.1.0;
      first = p.1.1.1.0.0;
      out = p.1.1.1.0.1;
      ring = p.1.1.1.0.2;
      alone = p.1.1.1.1;
    })
    (λ (l : IsBorderLoop s border v). (l.live, ((λ h below. l.triangles h), (l.many, ((l.first, l.out, l.ring), l.alone)))))
    (both (is_true (vertex_is_live s v))
    (both (all_below (λ h. IsOutEdge s v h → (0 < face_of s h) × IsTriangle s (face_of s h)) (triangle_out s v) (2 * s.edges))
    (both (as_well (λ more. omega (arith, more)) (λ many. omega (arith, many)) (is_below 2 (length border)))
    (both (border_from s border v) (starts_alone s (reverse border))))))

edge_at : (s : Shape) (v u : ℕ) → Decided (IsEdgeAt s v u)
edge_at s v u = as_well (λ p. record { half = p.0; out = p.1.0; is = p.1.1 }) (λ (at : IsEdgeAt s v u). (at.half, (at.out, at.is)))
    (some_below (λ h. IsOutEdge s v h × (h / 2 ≡ u)) (λ h. both (out_edge s v h) (cases_eq (h / 2) u)) (2 * s.edges) (λ h found. half-below s h found.0.live))

face_at : (s : Shape) (v f : ℕ) → Decided (IsFaceAt s v f)
face_at s v f = as_well (λ p. record { half = p.0; out = p.1.0; is = p.1.1 }) (λ (at : IsFaceAt s v f). (at.half, (at.out, at.is)))
    (some_below (λ h. IsOutEdge s v h × (face_of s h ≡ f)) (λ h. both (out_edge s v h) (cases_eq (face_of s h) f)) (2 * s.edges) (λ h found. half-below s h found.0.live))

-- the lists name the edges at a vertex and the faces round it, each once
lists_edges : (s : Shape) (v : ℕ) (w : List ℕ) → Decided (ListsOnce (IsEdgeAt s v) w)
lists_edges s v w = as_well
    (λ p. record { each = λ u at. subst (λ z. count_of z w ≡ 1) at.is (p.0 at.half (half-below s at.half at.out.live) at.out); no_other = p.1 })
    (λ (l : ListsOnce (IsEdgeAt s v) w). ((λ h below out. l.each (h / 2) (record { half = h; out = out; is = refl })), l.no_other))
    (both (all_below (λ h. IsOutEdge s v h → count_of (h / 2) w ≡ 1) (λ h. implied (out_edge s v h) (cases_eq (count_of (h / 2) w) 1)) (2 * s.edges))
    (items_have (edge_at s v) w))

lists_faces : (s : Shape) (v : ℕ) (w : List ℕ) → Decided (ListsOnce (IsFaceAt s v) w)
lists_faces s v w = as_well
    (λ p. record { each = λ f at. subst (λ z. count_of z w ≡ 1) at.is (p.0 at.half (half-below s at.half at.out.live) at.out); no_other = p.1 })
    (λ (l : ListsOnce (IsFaceAt s v) w). ((λ h below out. l.each (face_of s h) (record { half = h; out = out; is = refl })), l.no_other))
    (both (all_below (λ h. IsOutEdge s v h → count_of (face_of s h) w ≡ 1) (λ h. implied (out_edge s v h) (cases_eq (count_of (face_of s h) w) 1)) (2 * s.edges))
    (items_have (face_at s v) w))

vertex_ring : (s : Shape) (border edges faces : List ℕ) → Decided (IsVertexRing s border edges faces)
vertex_ring s border edges faces = as_well
    (λ p. record { border_loop = p.0; each_edge = p.1.0; each_face = p.1.1 })
    (λ (is : IsVertexRing s border edges faces). (is.border_loop, (is.each_edge, is.each_face)))
    (both (border_loop s border (center_of s border)) (both (lists_edges s (center_of s border) edges) (lists_faces s (center_of s border) faces)))

-- no number stands twice in a list
once : (w : List ℕ) → Decided ((k : ℕ) → count_of k w ≤ 1)
once w = as_well
    (λ p k. elim (cases_lt 0 (count_of k w)) [ inl found ↦ p k found | inr none ↦ omega (arith, none) ])
    (λ all k found. all k)
    (items_have (λ k. is_within (count_of k w) 1) w)

-- the halves of listed edges lie on two of the faces
abbrev Parts : Shape → List ℕ → ℕ → Type 0
Parts s faces h = (0 < count_of (face_of s h) faces) × (face_of s h ≢ face_of s (rev h))

parts : (s : Shape) (faces : List ℕ) (h : ℕ) → Decided (Parts s faces h)
parts s faces h = both (is_below 0 (count_of (face_of s h) faces)) (neither (cases_eq (face_of s h) (face_of s (rev h))))

each_half : (Q : ℕ → Type 0) → ((h : ℕ) → Decided (Q h)) → (edges : List ℕ) → Decided ((h : ℕ) → 0 < count_of (h / 2) edges → Q h)
each_half Q decide edges = as_well
    (λ p h found.
    let even : 2 * (h / 2) / 2 ≡ h / 2 = omega arith in
    let two = p (h / 2) found in
    elim (rev_or_same h (2 * (h / 2)) (sym even)) [ inl same ↦ subst Q (sym same) two.0 | inr turned ↦ subst Q (sym turned) two.1 ])
    (λ all u found.
    let even : 2 * u / 2 ≡ u = omega arith in
    (all (2 * u) (subst (λ z. 0 < count_of z edges) (sym even) found), all (rev (2 * u)) (subst (λ z. 0 < count_of z edges) (sym (rev_half (2 * u) ∙ even)) found)))
    (items_have (λ u. both (decide (2 * u)) (decide (rev (2 * u)))) edges)

region : (s : Shape) (edges faces : List ℕ) → Decided (IsRegion s edges faces)
region s edges faces = as_well
    (λ p. record { edges_once = p.0; faces_once = p.1.0; fewer = p.1.1.0; inner = p.1.1.1.0; live = p.1.1.1.1.0; between = p.1.1.1.1.1 })
    (λ (r : IsRegion s edges faces). (r.edges_once, (r.faces_once, (r.fewer, (r.inner, (r.live, r.between))))))
    (both (once edges)
    (both (once faces)
    (both (cases_eq (length faces) (suc (length edges)))
    (both (items_have (λ f. both (is_below 0 f) (is_true (face_is_live s f))) faces)
    (both (items_have (λ u. is_true (edge_is_live s u)) edges) (each_half (Parts s faces) (parts s faces) edges))))))

rim : (s : Shape) (edges faces : List ℕ) (h : ℕ) → Decided (IsRim s edges faces h)
rim s edges faces h = as_well
    (λ p. record { live = p.0; on_face = p.1.0; unlisted = p.1.1 })
    (λ (r : IsRim s edges faces h). (r.live, (r.on_face, r.unlisted)))
    (both (is_true (edge_is_live s (h / 2))) (both (is_below 0 (count_of (face_of s h) faces)) (cases_eq (count_of (h / 2) edges) 0)))

path_past : (next : ℕ → ℕ) (edges : List ℕ) (x : ℕ) (r : List ℕ) (e : ℕ) → Decided (Path (LeadsPast next edges) x r e)
path_past next edges x [] e = leads_or_not next edges x e
path_past next edges x (y ∷ r) e = both (leads_or_not next edges x y) (path_past next edges y r e)

round_past : (next : ℕ → ℕ) (edges w : List ℕ) → Decided (IsCycle (LeadsPast next edges) w)
round_past next edges [] = inl tt
round_past next edges (x ∷ r) = path_past next edges x r x

whole_rim : (s : Shape) (edges faces w : List ℕ) → Decided (ListsOnce (IsRim s edges faces) w)
whole_rim s edges faces w = as_well
    (λ p. record { each = λ h has. p.0 h (half-below s h has.live) has; no_other = p.1 })
    (λ (l : ListsOnce (IsRim s edges faces) w). ((λ h below has. l.each h has), l.no_other))
    (both (all_below (λ h. IsRim s edges faces h → count_of h w ≡ 1) (λ h. implied (rim s edges faces h) (cases_eq (count_of h w) 1)) (2 * s.edges))
    (items_have (rim s edges faces) w))

region_ring : (s : Shape) (border edges faces : List ℕ) → Decided (IsRegionRing s border edges faces)
region_ring s border edges faces = as_well
    (λ p. record { region = p.0; many = p.1.0; ring = p.1.1.0; whole = p.1.1.1.0; alone = p.1.1.1.1 })
    (λ (r : IsRegionRing s border edges faces). (r.region, (r.many, (r.ring, (r.whole, r.alone)))))
    (both (region s edges faces)
    (both (is_within 3 (length border))
    (both (round_past (next_of s) edges (reverse border)) (both (whole_rim s edges faces (reverse border)) (starts_alone s (reverse border))))))

ring : (s : Shape) (border edges faces : List ℕ) → Decided (IsRing s border edges faces)
ring s border edges faces = as_well
    (λ p. elim p [ inl vertex ↦ of_vertex vertex | inr region ↦ of_region region ])
    (λ (is : IsRing s border edges faces). elim is [ of_vertex vertex ↦ inl vertex | of_region region ↦ inr region ])
    (either (vertex_ring s border edges faces) (region_ring s border edges faces))

pub meets : (s : Shape) (condition : Condition) → Decided (Meets s condition)
meets s (VertexInRange v) = is_below v s.vertices
meets s (HalfEdgeInRange h) = is_below h (2 * s.edges)
meets s (EdgeInRange u) = is_below u s.edges
meets s (InnerFaceInRange f) = both (is_below 0 f) (is_below f (face_count s))
meets s (VertexLive v) = is_true (vertex_is_live s v)
meets s (HalfEdgeLive h) = is_true (edge_is_live s (h / 2))
meets s (EdgeLive u) = is_true (edge_is_live s u)
meets s (FaceLive f) = is_true (face_is_live s f)
meets s (Different a b) = neither (cases_eq a b)
meets s (Unconnected v) = unconnected s v
meets s NoEdge = cases_eq s.edges 0
meets s (LineEnd v) = line_end s v
meets s (ThreeHalves f) = triangle s f
meets s (OnTriangle h) = triangle s (face_of s h)
meets s (Bridge h) = bridge s h
meets s (OnOuterFace h) = cases_eq (face_of s h) 0
meets s (ClosesOutside h) = closes_outside s h
meets s (Flips u) = can_flip s u
meets s (HalfEdgesInRange hs) = each (λ h. is_below h (2 * s.edges)) hs
meets s (EdgesInRange us) = each (λ u. is_below u s.edges) us
meets s (InnerFacesInRange fs) = each (λ f. both (is_below 0 f) (is_below f (face_count s))) fs
meets s NoneOpen = closed s.removal
meets s (NoOtherOpen v) = leaves_at_most v s.removal
meets s NotCleaned = isolated s.removal
meets s (Listed us fs) = listed s.removal us fs
meets s (StripOfVertex hs) = strip s hs
meets s (BorderOf hs v) = border_loop s hs v
meets s (RingOf hs us fs) = ring s hs us fs
meets s (Removable v) = removable s v
meets s (OfPath v) = of_path s v
meets s (RoomFor limit vertices edges faces) = within limit (s.vertices + vertices) (s.edges + edges) (face_count s + faces)
meets s (RoomForMesh limit vertices edges faces) = within limit vertices edges faces
