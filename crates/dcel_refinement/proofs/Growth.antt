-- Vertices added one after another.
use Rattle.std.proofs.Common.{◌≡◌, ◌∙◌, ℕ, ◌+◌, ◌<◌, ◌≤◌, ◌++◌, List, [], length, sym, ap, arith, slice_index_or}
use Rattle.std.proofs.lemmas.List.{get_or_append_left, length-append, append_assoc, append-nil}
use Rattle.dcel_predicates.specs.declared.point.Point.{Point}
use Rattle.dcel_maps.specs.Removals.{Closed}
use Rattle.dcel_maps.specs.Shapes.{IsMesh, Mesh}
use Rattle.dcel_plane.specs.Plane.{origin_point, point_at}
use Rattle.dcel_regions.specs.declared.mark.Mark.{Mark}
use Rattle.dcel_constrained.specs.Splitting.{SplitsMarked}
use Rattle.dcel_constrained.proofs.Many.{splits_both}
use Rattle.dcel_refinement.specs.Refined.{AddsAtMost}

module _ {DE F : Type 0} where
  pub adds_none : (old new : Mesh Point DE Mark F) (most : ℕ) → new.vertex_data ≡ old.vertex_data → AddsAtMost old new most
  adds_none old new most same = record { added = []; points = same ∙ sym (append-nil old.vertex_data); few = omega arith }

  pub adds_both : (old mid new : Mesh Point DE Mark F) (m n : ℕ) → AddsAtMost old mid m → AddsAtMost mid new n → AddsAtMost old new (m + n)
  adds_both old mid new m n first second = record {
    added = first.added ++ second.added;
    points = second.points ∙ ap (λ (d : List Point). d ++ second.added) first.points ∙ append_assoc old.vertex_data first.added second.added;
    few = (let long = length-append first.added second.added in omega (arith, long, first.few, second.few));
  }

  pub adds_more : (old new : Mesh Point DE Mark F) (m n : ℕ) → m ≤ n → AddsAtMost old new m → AddsAtMost old new n
  adds_more old new m n less adds = record { added = adds.added; points = adds.points; few = omega (arith, less, adds.few) }

  pub points_stay : (old new : Mesh Point DE Mark F) (most : ℕ) → IsMesh old → AddsAtMost old new most → (v : ℕ) → v < old.shape.vertices → point_at new v ≡ point_at old v
  points_stay old new most mesh adds v below =
      ap (λ (d : List Point). slice_index_or d v origin_point) adds.points
      ∙ get_or_append_left old.vertex_data adds.added origin_point v (omega (arith, below, mesh.sized.vertex_data))

  pub vertices_stay : (old new : Mesh Point DE Mark F) (most : ℕ) → IsMesh old → IsMesh new → AddsAtMost old new most → old.shape.vertices ≤ new.shape.vertices
  vertices_stay old new most mesh mesh_new adds =
      let many = ap length adds.points in
      omega (arith, many, length-append old.vertex_data adds.added, mesh.sized.vertex_data, mesh_new.sized.vertex_data)

  -- what is split after vertices were added is split of the whole
  pub splits_more : (old mid new : Mesh Point DE Mark F) (m n : ℕ) → IsMesh old → old.shape.removal ≡ Closed → IsMesh mid → mid.shape.removal ≡ Closed
      → AddsAtMost old mid m → AddsAtMost mid new n → SplitsMarked old mid → SplitsMarked mid new → SplitsMarked old new
  splits_more old mid new m n mesh closed mesh_mid closed_mid before after first second =
      splits_both old mid new mesh closed mesh_mid closed_mid (vertices_stay old mid m mesh mesh_mid before) (points_stay mid new n mesh_mid after) first second
