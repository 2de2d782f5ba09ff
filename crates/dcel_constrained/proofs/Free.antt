-- Flips of edges that are free: what they keep.
use Rattle.std.proofs.Common.{◌≡◌, ◌⊎◌, inl, inr, ℕ, ◌+◌, ◌*◌, ◌/◌, ◌<◌, List, [], ◌∷◌, ◌++◌, Some, refl, sym, ap, ◌∙◌, subst, slice_index_or, true, pos, ◌<ℤ◌, arith}
use Rattle.std.specs.List.{slice_get}
use Rattle.std.proofs.lemmas.Bool.{cases_eq, cases_lt}
use Rattle.dcel_fixed.specs.HalfEdges.{rev}
use Rattle.dcel_fixed.proofs.Halves.{rev-half}
use Rattle.dcel_predicates.specs.declared.point.Point.{Point}
use Rattle.dcel_predicates.specs.Determinants.{orient2d_of}
use Rattle.dcel_maps.specs.edits.Flip.{edge_flipped}
use Rattle.dcel_maps.specs.Removals.{gives_up_edge, is_live}
use Rattle.dcel_maps.specs.Shapes.{IsLive, IsMesh, Mesh, Shape, end_of, face_count, face_of, next_of, origin_of}
use Rattle.dcel_maps.specs.Words.{count_of}
use Rattle.dcel_maps.proofs.Liveness.{even_live}
use Rattle.dcel_maps.proofs.edits.Flips.{at_flip}
use Rattle.dcel_maps.proofs.words.Counts.{count-other, count-same}
use Rattle.dcel_maps.proofs.words.EachSet.{length-two_set, other-two_set}
use Rattle.dcel_plane.specs.Plane.{TurnsLeft, origin_point, point_at}
use Rattle.dcel_plane.proofs.edits.Flipped.{from_end, from_start, origin_after, origin_same, origin_t_after}
use Rattle.dcel_plane.specs.covering.Covering.{dot}
use Rattle.dcel_plane.specs.removal.Wheels.{CanFlipInPlane}
use Rattle.dcel_plane.specs.segments.Segments.{CanTurnEach, Crosses, TriangulatesItsHull, LeadsAlong, TurnsInto, flipped_each, orient2d_by}
use Rattle.dcel_plane.proofs.segments.Becoming.{turned_planar}
use Rattle.dcel_plane.proofs.segments.Covered.{each_planar}
use Rattle.dcel_plane.proofs.segments.FlipFaces.{of_even}
use Rattle.dcel_regions.specs.Marked.{IsMarked}
use Rattle.dcel_regions.specs.declared.mark.Mark.{Mark}
use Rattle.dcel_regions.specs.declared.mark.Mark.TheVariants.{Constraint}
use Rattle.dcel_constrained.specs.Constraints.{IsFreeWay, IsMarkedWay, KeepsMarked, TurnsFree}

-- flips after others
flipped-after : {V DE UE F : Type 0} (m : Mesh V DE UE F) (a b : List ℕ) → flipped_each m (a ++ b) ≡ flipped_each (flipped_each m a) b
flipped-after m [] b = refl
flipped-after m (u ∷ a) b = flipped-after (edge_flipped m u) a b

can-after : {V DE UE F : Type 0} (at : ℕ → Point) (m : Mesh V DE UE F) (a b : List ℕ) → CanTurnEach at m a → CanTurnEach at (flipped_each m a) b → CanTurnEach at m (a ++ b)
can-after at m [] b first second = second
can-after at m (u ∷ a) b first second = (first.0, can-after at (edge_flipped m u) a b first.1 second)

-- where the halves of an edge start that isn't flipped
pub even_stays : {V DE UE F : Type 0} (m : Mesh V DE UE F) (us : List ℕ) (u : ℕ) → count_of u us ≡ 0 → origin_of (flipped_each m us).shape (2 * u) ≡ origin_of m.shape (2 * u)
even_stays m [] u off = refl
even_stays m (x ∷ us) u off = elim (cases_eq u x) [
  | inl is ↦ absurd (let c = count-same x us in let o = subst (λ (k : ℕ). count_of k (x ∷ us) ≡ 0) is off in omega (arith, c, o))
  | inr not ↦
      even_stays (edge_flipped m x) us u (let c = count-other u x us not in omega (arith, c, off))
      ∙ other-two_set m.shape.origins (2 * x) (2 * x + 1) _ _ 0 (2 * u) (λ is. not (omega (arith, is))) (λ is. omega (arith, is))
]

pub odd_stays : {V DE UE F : Type 0} (m : Mesh V DE UE F) (us : List ℕ) (u : ℕ) → count_of u us ≡ 0
    → origin_of (flipped_each m us).shape (2 * u + 1) ≡ origin_of m.shape (2 * u + 1)
odd_stays m [] u off = refl
odd_stays m (x ∷ us) u off = elim (cases_eq u x) [
  | inl is ↦ absurd (let c = count-same x us in let o = subst (λ (k : ℕ). count_of k (x ∷ us) ≡ 0) is off in omega (arith, c, o))
  | inr not ↦
      odd_stays (edge_flipped m x) us u (let c = count-other u x us not in omega (arith, c, off))
      ∙ other-two_set m.shape.origins (2 * x) (2 * x + 1) _ _ 0 (2 * u + 1) (λ is. omega (arith, is)) (λ is. not (omega (arith, is)))
]

-- what no flip changes
pub record IsKept {V DE UE F : Type 0} (old new : Mesh V DE UE F) : Type 0 where
  pub vertices : new.shape.vertices ≡ old.shape.vertices
  pub edges : new.shape.edges ≡ old.shape.edges
  pub faces : face_count new.shape ≡ face_count old.shape
  pub removal : new.shape.removal ≡ old.shape.removal
  pub points : new.vertex_data ≡ old.vertex_data
  pub halves : new.directed_data ≡ old.directed_data
  pub marks : new.undirected_data ≡ old.undirected_data
  pub inside : new.face_data ≡ old.face_data

pub each_kept : {V DE UE F : Type 0} (m : Mesh V DE UE F) (us : List ℕ) → IsKept m (flipped_each m us)
each_kept m [] = record { vertices = refl; edges = refl; faces = refl; removal = refl; points = refl; halves = refl; marks = refl; inside = refl }
each_kept m (u ∷ us) =
    let rest = each_kept (edge_flipped m u) us in
    record {
      vertices = rest.vertices;
      edges = rest.edges;
      faces = rest.faces ∙ length-two_set m.shape.words _ _ _ _;
      removal = rest.removal;
      points = rest.points;
      halves = rest.halves;
      marks = rest.marks;
      inside = rest.inside;
    }

pub kept_live : {V DE UE F : Type 0} (old new : Mesh V DE UE F) → IsKept old new → (h : ℕ) → IsLive old.shape h → IsLive new.shape h
kept_live old new kept h live =
    subst (λ r. is_live (gives_up_edge r) new.shape.edges (h / 2) ≡ true) (sym kept.removal)
    (subst (λ (n : ℕ). is_live (gives_up_edge old.shape.removal) n (h / 2) ≡ true) (sym kept.edges) live)

-- each vertex with an edge has one after a flip
ends_stay : {V DE UE F : Type 0} (m : Mesh V DE UE F) → IsMesh m → (at : ℕ → Point) (u : ℕ) → CanFlipInPlane at m.shape u → (v i : ℕ) → IsLive m.shape i → origin_of m.shape i ≡ v
    → (j : ℕ) × IsLive (edge_flipped m u).shape j × (origin_of (edge_flipped m u).shape j ≡ v)
ends_stay m mesh at u turn v i live from =
    let ends = at_flip m u mesh turn.can in
    elim (cases_eq i (2 * u)) [
      | inl is ↦ (
        next_of m.shape (2 * u + 1),
        ends.facing.live_y,
        origin_t_after m mesh u turn.can at ∙ from_start m mesh u turn.can ∙ ap (origin_of m.shape) (sym is) ∙ from,
      )
      | inr not_e ↦ elim (cases_eq i (2 * u + 1)) [
        | inl is ↦ (
          next_of m.shape (2 * u),
          ends.was.live_y,
          origin_after m mesh u turn.can at ∙ from_end m mesh u turn.can ∙ ap (origin_of m.shape) (sym is) ∙ from,
        )
        | inr not_t ↦ (i, live, origin_same m mesh u turn.can at i live not_e not_t ∙ from)
      ]
    ]

each_ends : {V DE UE F : Type 0} (at : ℕ → Point) (m : Mesh V DE UE F) (us : List ℕ) → TriangulatesItsHull at m → CanTurnEach at m us → (v i : ℕ) → IsLive m.shape i → origin_of m.shape i ≡ v
    → (j : ℕ) × IsLive (flipped_each m us).shape j × (origin_of (flipped_each m us).shape j ≡ v)
each_ends at m [] planar can v i live from = (i, live, from)
each_ends at m (u ∷ us) planar can v i live from =
    let one = ends_stay m planar.mesh at u can.0 v i live from in
    each_ends at (edge_flipped m u) us (turned_planar at m u planar can.0) can.1 v one.0 one.1 one.2

-- and there is a triangle still
each_inner : {V DE UE F : Type 0} (at : ℕ → Point) (m : Mesh V DE UE F) (us : List ℕ) → TriangulatesItsHull at m → CanTurnEach at m us
    → (h : ℕ) × IsLive m.shape h × (0 < face_of m.shape h) → (h : ℕ) × IsLive (flipped_each m us).shape h × (0 < face_of (flipped_each m us).shape h)
each_inner at m [] planar can some = some
each_inner at m (u ∷ us) planar can some =
    let flip = of_even m planar.mesh u can.0.can in
    each_inner at (edge_flipped m u) us (turned_planar at m u planar can.0) can.1
    (2 * u, even_live m.shape u can.0.can.live, subst (λ (f : ℕ). 0 < f) (sym flip.here) can.0.inner)

module _ {DE F : Type 0} where
  pub stays_free : (m : Mesh Point DE Mark F) → TurnsFree m m
  stays_free m = record { turned = []; can = tt; is = refl; free = λ u there. absurd (omega (arith, there)) }

  pub kept_points : (old new : Mesh Point DE Mark F) → IsKept old new → point_at new ≡ point_at old
  kept_points old new kept = ap (λ (d : List Point). λ (i : ℕ). slice_index_or d i origin_point) kept.points

  pub kept_mark : (old new : Mesh Point DE Mark F) → IsKept old new → (u : ℕ) → IsMarked old u → IsMarked new u
  kept_mark old new kept u marked = subst (λ (d : List Mark). slice_get d u ≡ Some Constraint) (sym kept.marks) marked

  pub kept_unmarked : (old new : Mesh Point DE Mark F) → IsKept old new → (u : ℕ) → IsMarked new u → IsMarked old u
  kept_unmarked old new kept u marked = subst (λ (d : List Mark). slice_get d u ≡ Some Constraint) kept.marks marked

  pub free_kept : (old new : Mesh Point DE Mark F) → TurnsFree old new → IsKept old new
  free_kept old new turns = subst (λ (m : Mesh Point DE Mark F). IsKept old m) (sym turns.is) (each_kept old turns.turned)

  -- flips of edges of half edges that aren't marked
  pub turned_free : (old new : Mesh Point DE Mark F) (list : List ℕ) → TurnsInto (point_at old) old new list
      → ((k : ℕ) → 0 < count_of k list → ¬ IsMarked old (k / 2)) → TurnsFree old new
  turned_free old new list turns free = record {
    turned = turns.turned;
    can = turns.can;
    is = turns.is;
    free = λ u there. (let half = turns.only u there in subst (λ (i : ℕ). ¬ IsMarked old i) half.2 (free half.0 half.1));
  }

  module _ (old new : Mesh Point DE Mark F) (turns : TurnsFree old new) where
    kept : IsKept old new
    kept = free_kept old new turns

    unlisted : (u : ℕ) → IsMarked old u → count_of u turns.turned ≡ 0
    unlisted u marked = elim (cases_lt 0 (count_of u turns.turned)) [ inl there ↦ absurd (turns.free u there marked) | inr none ↦ omega (arith, none) ]

    -- marked edges lead where they led
    pub free_even : (u : ℕ) → IsMarked old u → origin_of new.shape (2 * u) ≡ origin_of old.shape (2 * u)
    free_even u marked =
        ap (λ (m : Mesh Point DE Mark F). origin_of m.shape (2 * u)) turns.is ∙ even_stays old turns.turned u (unlisted u marked)

    pub free_odd : (u : ℕ) → IsMarked old u → origin_of new.shape (2 * u + 1) ≡ origin_of old.shape (2 * u + 1)
    free_odd u marked =
        ap (λ (m : Mesh Point DE Mark F). origin_of m.shape (2 * u + 1)) turns.is ∙ odd_stays old turns.turned u (unlisted u marked)

    pub free_keeps : KeepsMarked old new
    free_keeps = record { marked = kept_mark old new kept; from = free_even; to = free_odd }

    -- the mesh stays in the plane, with its hull
    pub free_planar : TriangulatesItsHull (point_at old) old → TriangulatesItsHull (point_at new) new
    free_planar planar =
        subst (λ (at : ℕ → Point). TriangulatesItsHull at new) (sym (kept_points old new kept))
        (subst (λ (m : Mesh Point DE Mark F). TriangulatesItsHull (point_at old) m) (sym turns.is) (each_planar (point_at old) old turns.turned planar turns.can))

-- what a flip leaves of a half edge in the segment's way
pub crosses_as : (at to : ℕ → Point) (s n : Shape) (v w h : ℕ) → to ≡ at → IsLive n h → origin_of n h ≡ origin_of s h → end_of n h ≡ end_of s h → Crosses at s v w h
    → Crosses to n v w h
crosses_as at to s n v w h points live from to_end is =
    subst (λ (p : ℕ → Point). Crosses p n v w h) (sym points)
    (record {
      live = live;
      right = subst (λ (x : ℕ). orient2d_by at v w x <ℤ pos 0) (sym from) is.right;
      left = subst (λ (y : ℕ). pos 0 <ℤ orient2d_by at v w y) (sym to_end) is.left;
      near =
          subst (λ (x : ℕ). TurnsLeft (at x) (at (end_of n h)) (at v)) (sym from)
          (subst (λ (y : ℕ). TurnsLeft (at (origin_of s h)) (at y) (at v)) (sym to_end) is.near);
      far =
          subst (λ (x : ℕ). orient2d_of (at x) (at (end_of n h)) (at w) <ℤ pos 0) (sym from)
          (subst (λ (y : ℕ). orient2d_of (at (origin_of s h)) (at y) (at w) <ℤ pos 0) (sym to_end) is.far);
    })

pub leads_as : (at to : ℕ → Point) (s n : Shape) (y w h : ℕ) → to ≡ at → IsLive n h → origin_of n h ≡ origin_of s h → end_of n h ≡ end_of s h → LeadsAlong at s y w h
    → LeadsAlong to n y w h
leads_as at to s n y w h points live from to_end is =
    subst (λ (p : ℕ → Point). LeadsAlong p n y w h) (sym points)
    (record {
      live = live;
      from = from ∙ is.from;
      on = subst (λ (x : ℕ). orient2d_by at y w x ≡ pos 0) (sym to_end) is.on;
      ahead = subst (λ (x : ℕ). (x ≡ w) ⊎ (dot (at y) (at w) (at x) <ℤ pos 0)) (sym to_end) is.ahead;
    })

module _ {DE F : Type 0} where
  module _ (old new : Mesh Point DE Mark F) (keeps : KeepsMarked old new) where
    -- half edges of marked edges lead where they led
    pub start_kept : (h : ℕ) → IsMarked old (h / 2) → origin_of new.shape h ≡ origin_of old.shape h
    start_kept h marked = elim (cases_eq h (2 * (h / 2))) [
      | inl even ↦ ap (origin_of new.shape) even ∙ keeps.from (h / 2) marked ∙ ap (origin_of old.shape) (sym even)
      | inr not ↦
          let odd : h ≡ 2 * (h / 2) + 1 = omega (arith, not) in
          ap (origin_of new.shape) odd ∙ keeps.to (h / 2) marked ∙ ap (origin_of old.shape) (sym odd)
    ]

    pub end_kept : (h : ℕ) → IsMarked old (h / 2) → end_of new.shape h ≡ end_of old.shape h
    end_kept h marked = start_kept (rev h) (subst (λ (u : ℕ). IsMarked old u) (sym (rev-half h)) marked)

    -- so what they led along, they lead along still
    module _ (points : point_at new ≡ point_at old) (live : (h : ℕ) → IsLive old.shape h → IsLive new.shape h) where
      way_kept : (w y : ℕ) (list : List ℕ) → IsMarkedWay old w y list → IsMarkedWay new w y list
      way_kept w y [] is = is
      way_kept w y (h ∷ rest) is = (
        leads_as (point_at old) (point_at new) old.shape new.shape y w h points (live h is.0.live) (start_kept h is.1) (end_kept h is.1) is.0,
        keeps.marked (h / 2) is.1,
        subst (λ (x : ℕ). IsMarkedWay new w x rest) (sym (end_kept h is.1)) (way_kept w (end_of old.shape h) rest is.2),
      )

  -- the flips of `join`
  pub joined_free : (old new : Mesh Point DE Mark F) (v w : ℕ) → IsFreeWay old v w
      → (list : List ℕ) × TurnsInto (point_at old) old new list × ((k : ℕ) → 0 < count_of k list → Crosses (point_at old) old.shape v w k) → TurnsFree old new
  joined_free old new v w free made = turned_free old new made.0 made.1 (λ k there. free k (made.2 k there))
