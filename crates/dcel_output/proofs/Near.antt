-- Nearest points by their numbers.
use Rattle.std.proofs.Common.{◌≡◌, ◌∙◌, inl, inr, ℕ, ◌<◌, List, length, Option, None, Some, slice_get, slice_index_or, sym, ap, subst, arith}
use Rattle.std.proofs.lemmas.Bool.{cases_lt}
use Rattle.std.proofs.lemmas.Option.{get_or_from_slice_get, same_Some, slice_get-get_or, slice_get_within}
use Rattle.dcel_predicates.specs.declared.point.Point.{Point}
use Rattle.dcel_predicates.specs.Determinants.{squared_distance_of}
use Rattle.dcel_maps.specs.Shapes.{IsMesh, Mesh}
use Rattle.dcel_plane.specs.Plane.{origin_point, point_at}
use Rattle.dcel_delaunay.specs.Triangles.{IsLeastNumber, point_numbered}
use Rattle.dcel_delaunay.specs.Triangulated.{PointsAreSingle}
use Rattle.dcel_output.specs.Numbering.{IsNearestNumbered, IsNearestPoint, NumbersVertices, number_at}

module _ {DE UE F : Type 0} (m : Mesh Point DE UE F) (mesh : IsMesh m) (single : PointsAreSingle m) (points : List Point) (numbers : List ℕ) (numbered : NumbersVertices m points numbers) where
  -- where a point stands
  pub record Stands (i : ℕ) : Type 0 where
    pub vertex : ℕ
    pub is : slice_get numbered.vertices i ≡ Some vertex
    pub below : vertex < m.shape.vertices
    pub point : point_numbered points i ≡ point_at m vertex

  pub stands : (i : ℕ) → i < length points → Stands i
  stands i below =
      let v = slice_index_or numbered.vertices i 0 in
      let is : slice_get numbered.vertices i ≡ Some v = slice_get-get_or numbered.vertices i 0 (let e = numbered.stand.length_is in omega (arith, below, e)) in
      let has = numbered.stand.each i (point_numbered points i) v (slice_get-get_or points i origin_point below) is in
      record {
        vertex = v;
        is = is;
        below = let within = slice_get_within m.vertex_data v (point_numbered points i) has in let e = mesh.sized.vertex_data in omega (arith, within, e);
        point = sym (get_or_from_slice_get m.vertex_data v (point_numbered points i) origin_point has);
      }

  -- a point that stands at a vertex has it
  has_vertex : (i v : ℕ) → i < length points → v < m.shape.vertices → point_numbered points i ≡ point_at m v → slice_get numbered.vertices i ≡ Some v
  has_vertex i v below within same =
      let there = stands i below in
      there.is ∙ ap Some (single there.vertex v there.below within (sym there.point ∙ same))

  -- the number of a vertex is that of a point there, and the least
  record IsNamed (v j : ℕ) : Type 0 where
    pub first : IsLeastNumber points j
    pub point : point_numbered points j ≡ point_at m v

  named : (v : ℕ) → v < m.shape.vertices → IsNamed v (number_at numbers v)
  named v below =
      let j = number_at numbers v in
      let e = numbered.count in
      let has : v < length numbers = omega (arith, below, e) in
      let is : slice_get numbers v ≡ Some j = slice_get-get_or numbers v v has in
      let (i, within, point) = numbered.from v below in
      let (k, has_k, few, stands_k) = numbered.least i v (omega arith) (has_vertex i v within below point) has in
      let same : k ≡ j = same_Some k j (sym {b = Some k} has_k ∙ is) in
      let in_points : j < length points = omega (arith, few, same, within) in
      let there = stands j in_points in
      let here : there.vertex ≡ v = same_Some there.vertex v (sym {b = Some there.vertex} there.is ∙ subst (λ (i : ℕ). slice_get numbered.vertices i ≡ Some v) same stands_k) in
      let own : point_numbered points j ≡ point_at m v = there.point ∙ ap (point_at m) here in
      record {
        first = record {
          below = in_points;
          least = λ i same_point. elim (cases_lt i (length points)) [
            | inl below_i ↦
                let (k', has_k', few', _) = numbered.least i v (omega arith) (has_vertex i v below_i below (same_point ∙ own)) has in
                let same' = same_Some k' j (sym {b = Some k'} has_k' ∙ is) in
                omega (arith, few', same')
            | inr past ↦ omega (arith, past, in_points)
          ];
        };
        point = own;
      }

  pub nearest_named : (place : Point) (n : Option ℕ) → IsNearestNumbered m numbers place n → IsNearestPoint points place n
  nearest_named place None none = elim (cases_lt 0 (length points)) [
    | inl some ↦ absurd (let there = stands 0 some in let below = there.below in omega (arith, below, none))
    | inr few ↦ omega (arith, few)
  ]
  nearest_named place (Some n) (v, below, near, is) =
      let own = named v below in (
        subst (IsLeastNumber points) (sym is) own.first,
        λ i within.
            let there = stands i within in
            rw (is, own.point, there.point) (near there.vertex there.below),
      )
