-- A constrained triangulation leaves no point out.
use Rattle.std.proofs.Common.{◌≡◌, ◌≢◌, ◌∙◌, inl, inr, ℕ, ◌<◌, List, length, Option, None, Some, refl, sym, ap, arith}
use Rattle.std.proofs.lemmas.Bool.{cases_lt}
use Rattle.dcel_maps.specs.Shapes.{AnchorsVertex, IsLive, Mesh, origin_of, vertex_anchor}
use Rattle.dcel_maps.proofs.Liveness.{closed-vertex_live}
use Rattle.dcel_predicates.specs.declared.point.Point.{Point}
use Rattle.dcel_plane.specs.Plane.{point_at}
use Rattle.dcel_delaunay.specs.Triangles.{point_numbered}
use Rattle.dcel_regions.specs.declared.mark.Mark.{Mark}
use Rattle.dcel_constrained.specs.declared.load.Segment.{Segment}
use Rattle.dcel_output.specs.Constraining.{AreConstrainedTriangles}
use Rattle.dcel_output.specs.LeftOut.{with_one_left_out, without_edges}
use Rattle.dcel_output.proofs.Near.{stands}

module _ {DE F : Type 0} (points : List Point) (vertices : List (Option ℕ)) (segments : List Segment) (m : Mesh Point DE Mark F) (numbers : List ℕ)
    (are : AreConstrainedTriangles points vertices segments m numbers) where
  -- two points that differ stand at two vertices
  two_vertices : (i j : ℕ) → i < length points → j < length points → point_numbered points i ≢ point_numbered points j → 1 < m.shape.vertices
  two_vertices i j first second differ =
      let a = stands m are.mesh are.single points numbers are.numbered i first in
      let b = stands m are.mesh are.single points numbers are.numbered j second in
      elim (cases_lt 1 m.shape.vertices) [
        | inl more ↦ more
        | inr few ↦
            let same : a.vertex ≡ b.vertex = (let below_a = a.below in let below_b = b.below in omega (arith, few, below_a, below_b)) in
            absurd (differ (a.point ∙ ap (point_at m) same ∙ sym b.point))
      ]

  some_edge : (v : ℕ) → v < m.shape.vertices → 1 < m.shape.vertices → (h : ℕ) × IsLive m.shape h × (origin_of m.shape h ≡ v)
  some_edge v below more = by_anchor (vertex_anchor m v) (are.mesh.anchored.vertices v below)
    where
      by_anchor : (anchor : Option ℕ) → AnchorsVertex m.shape v anchor → (h : ℕ) × IsLive m.shape h × (origin_of m.shape h ≡ v)
      by_anchor (Some h) anchored = (h, anchored.0, anchored.1)
      by_anchor None bare = absurd (are.joined v more (record { live = closed-vertex_live m.shape are.closed v below; bare = bare }))

  -- so an edge starts at each point
  pub edge_there : (i j k : ℕ) → i < length points → j < length points → k < length points → point_numbered points i ≢ point_numbered points j
      → (h : ℕ) × IsLive m.shape h × (point_at m (origin_of m.shape h) ≡ point_numbered points k)
  edge_there i j k first second third differ =
      let there = stands m are.mesh are.single points numbers are.numbered k third in
      let (h, live, start) = some_edge there.vertex there.below (two_vertices i j first second differ) in
      (h, live, ap (point_at m) start ∙ sym there.point)

pub no_edge : (p q : Point) (points : List Point) (vertices : List (Option ℕ)) (segments : List Segment) (numbers : List ℕ)
    → ¬ AreConstrainedTriangles points vertices segments (without_edges p q) numbers
no_edge p q points vertices segments numbers are = are.joined 0 (omega arith) (record { live = closed-vertex_live (without_edges p q).shape refl 0 (omega arith); bare = are.mesh.anchored.vertices 0 (omega arith) })

pub one_left : (a b c d : Point) (points : List Point) (vertices : List (Option ℕ)) (segments : List Segment) (numbers : List ℕ)
    → ¬ AreConstrainedTriangles points vertices segments (with_one_left_out a b c d) numbers
one_left a b c d points vertices segments numbers are = are.joined 3 (omega arith) (record { live = closed-vertex_live (with_one_left_out a b c d).shape refl 3 (omega arith); bare = are.mesh.anchored.vertices 3 (omega arith) })
