-- One insertion among constraints after another.
use Rattle.std.proofs.Common.{◌≡◌, inl, inr, ℕ, ◌*◌, ◌+◌, ◌/◌, ◌<◌, ◌≤◌, List, length, refl, sym, ap, ◌∙◌, subst, arith, slice_index_or}
use Rattle.std.proofs.lemmas.Bool.{cases_eq}
use Rattle.std.proofs.lemmas.List.{get_or_append_left, length-append}
use Rattle.dcel_fixed.specs.HalfEdges.{rev}
use Rattle.dcel_fixed.proofs.Halves.{rev-double, rev-double-suc}
use Rattle.dcel_predicates.specs.declared.point.Point.{Point}
use Rattle.dcel_maps.specs.Removals.{Closed}
use Rattle.dcel_maps.specs.Shapes.{IsLive, IsMesh, Mesh, end_of, origin_of}
use Rattle.dcel_maps.proofs.Liveness.{closed-live}
use Rattle.dcel_plane.specs.Plane.{origin_point, point_at}
use Rattle.dcel_delaunay.specs.Bulk.{AddsVertices}
use Rattle.dcel_regions.specs.Marked.{IsMarked}
use Rattle.dcel_regions.specs.declared.mark.Mark.{Mark}
use Rattle.dcel_constrained.specs.Constraints.{IsPartOf, LiesOnSegment}
use Rattle.dcel_constrained.specs.Splitting.{SplitsMarked}
use Rattle.dcel_constrained.proofs.Between.{on_part}
use Rattle.dcel_constrained.proofs.Laid.{keeps_none}
use Rattle.dcel_constrained.proofs.Marking.{marked_below}
use Rattle.dcel_constrained.proofs.Settled.{splits_alone}
use Rattle.dcel_constrained.proofs.Splits.{between_of, ends_below, starts_below}

-- the same points under other names
on_of : (at to : ℕ → Point) (v w x : ℕ) → to v ≡ at v → to w ≡ at w → to x ≡ at x → LiesOnSegment at v w x → LiesOnSegment to v w x
on_of at to v w x ev ew ex (inl is) = inl is
on_of at to v w x ev ew ex (inr (inl is)) = inr (inl is)
on_of at to v w x ev ew ex (inr (inr lies)) = inr (inr (between_of at to v w x ev ew ex lies))

module _ {DE F : Type 0} where
  -- where nothing has changed, none is split
  pub splits_same : (m : Mesh Point DE Mark F) → IsMesh m → m.shape.removal ≡ Closed → SplitsMarked m m
  splits_same m mesh closed = splits_alone m m (record { keeps = keeps_none m; only = λ u marked. marked; points = refl }) mesh mesh closed

  -- both ends of a part lie on the segment, from whichever end its half edge starts
  pub part_start : (m : Mesh Point DE Mark F) (v w h : ℕ) → IsPartOf m v w (h / 2) → LiesOnSegment (point_at m) v w (origin_of m.shape h)
  part_start m v w h part = elim (cases_eq h (2 * (h / 2))) [
    | inl even ↦ subst (λ (i : ℕ). LiesOnSegment (point_at m) v w (origin_of m.shape i)) (sym even) part.from
    | inr not ↦
        (let odd : h ≡ 2 * (h / 2) + 1 = omega (arith, not) in
        subst (λ (i : ℕ). LiesOnSegment (point_at m) v w (origin_of m.shape i)) (sym odd) part.to)
  ]

  pub part_end : (m : Mesh Point DE Mark F) (v w h : ℕ) → IsPartOf m v w (h / 2) → LiesOnSegment (point_at m) v w (end_of m.shape h)
  part_end m v w h part = elim (cases_eq h (2 * (h / 2))) [
    | inl even ↦
        (let other : rev h ≡ 2 * (h / 2) + 1 = ap rev even ∙ rev-double (h / 2) in
        subst (λ (i : ℕ). LiesOnSegment (point_at m) v w (origin_of m.shape i)) (sym other) part.to)
    | inr not ↦
        (let odd : h ≡ 2 * (h / 2) + 1 = omega (arith, not) in
        let other : rev h ≡ 2 * (h / 2) = ap rev odd ∙ rev-double-suc (h / 2) in
        subst (λ (i : ℕ). LiesOnSegment (point_at m) v w (origin_of m.shape i)) (sym other) part.from)
  ]

  -- vertices of before stand where they stood, however many came after them
  pub points_added : (old new : Mesh Point DE Mark F) (given : List Point) (most : ℕ) → IsMesh old → AddsVertices old new given most
      → (v : ℕ) → v < old.shape.vertices → point_at new v ≡ point_at old v
  points_added old new given most mesh adds v below =
      ap (λ (d : List Point). slice_index_or d v origin_point) adds.points
      ∙ get_or_append_left old.vertex_data adds.added origin_point v (omega (arith, below, mesh.sized.vertex_data))

  pub vertices_added : (old new : Mesh Point DE Mark F) (given : List Point) (most : ℕ) → IsMesh old → IsMesh new → AddsVertices old new given most
      → old.shape.vertices ≤ new.shape.vertices
  vertices_added old new given most mesh mesh_new adds =
      let many = ap length adds.points in
      omega (arith, many, length-append old.vertex_data adds.added, mesh.sized.vertex_data, mesh_new.sized.vertex_data)

  module _ (old mid new : Mesh Point DE Mark F) (mesh : IsMesh old) (closed : old.shape.removal ≡ Closed) (mesh_mid : IsMesh mid) (closed_mid : mid.shape.removal ≡ Closed)
      (more : old.shape.vertices ≤ mid.shape.vertices) (points : (v : ℕ) → v < mid.shape.vertices → point_at new v ≡ point_at mid v)
      (first : SplitsMarked old mid) (second : SplitsMarked mid new) where
    -- a part of a part is one of the whole
    part_of : (v w h u : ℕ) → v < mid.shape.vertices → w < mid.shape.vertices → IsMarked mid (h / 2) → IsPartOf mid v w (h / 2)
        → IsPartOf new (origin_of mid.shape h) (end_of mid.shape h) u → IsPartOf new v w u
    part_of v w h u below_v below_w marked part small =
        let live = closed-live mid.shape closed_mid (h / 2) (marked_below mid mesh_mid (h / 2) marked) in
        let start =
        on_of (point_at mid) (point_at new) v w (origin_of mid.shape h) (points v below_v) (points w below_w)
        (points (origin_of mid.shape h) (starts_below mid mesh_mid h live)) (part_start mid v w h part) in
        let end =
        on_of (point_at mid) (point_at new) v w (end_of mid.shape h) (points v below_v) (points w below_w)
        (points (end_of mid.shape h) (ends_below mid mesh_mid h live)) (part_end mid v w h part) in
        record {
          from = on_part (point_at new) v w (origin_of mid.shape h) (end_of mid.shape h) (origin_of new.shape (2 * u)) start end small.from;
          to = on_part (point_at new) v w (origin_of mid.shape h) (end_of mid.shape h) (origin_of new.shape (2 * u + 1)) start end small.to;
        }

    old_live : (h : ℕ) → IsMarked old (h / 2) → IsLive old.shape h
    old_live h marked = closed-live old.shape closed (h / 2) (marked_below old mesh (h / 2) marked)

    start_there : (h : ℕ) → IsMarked old (h / 2) → origin_of old.shape h < mid.shape.vertices
    start_there h marked = (let below = starts_below old mesh h (old_live h marked) in omega (arith, below, more))

    end_there : (h : ℕ) → IsMarked old (h / 2) → end_of old.shape h < mid.shape.vertices
    end_there h marked = (let below = ends_below old mesh h (old_live h marked) in omega (arith, below, more))

    pub splits_both : SplitsMarked old new
    splits_both = record {
      marked = λ u marked. second.marked u (first.marked u marked);
      own = λ u marked.
          (let half : 2 * u / 2 ≡ u = omega arith in
          let was : IsMarked old (2 * u / 2) = subst (IsMarked old) (sym half) marked in
          let then = first.marked u marked in
          part_of (origin_of old.shape (2 * u)) (end_of old.shape (2 * u)) (2 * u) u (start_there (2 * u) was) (end_there (2 * u) was) (subst (IsMarked mid) (sym half) then)
          (subst (IsPartOf mid (origin_of old.shape (2 * u)) (end_of old.shape (2 * u))) (sym half) (first.own u marked)) (second.own u then));
      constraints = λ v w has. second.constraints v w (first.constraints v w has);
      parts = λ u marked.
          (let then = second.parts u marked in
          let before = first.parts (then.0 / 2) then.1 in (
            before.0,
            before.1,
            part_of (origin_of old.shape before.0) (end_of old.shape before.0) then.0 u (start_there before.0 before.1) (end_there before.0 before.1) then.1 before.2 then.2,
          ));
    }
