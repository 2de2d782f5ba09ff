-- The triangles of a whole triangulation, by the numbers of points, are a Delaunay triangulation of these.
use Rattle.std.proofs.Common.{◌≡◌, ◌≢◌, inl, inr, ℕ, zero, suc, ◌+◌, ◌<◌, ◌≤◌, List, [], ◌∷◌, length, map, sym, ap, ◌∙◌, subst, pos, ◌<ℤ◌, ◌≤ℤ◌, Some, slice_get, slice_index_or, arith}
use Rattle.std.proofs.lemmas.Bool.{cases_lt}
use Rattle.std.proofs.lemmas.List.{get_or_past}
use Rattle.std.proofs.lemmas.Option.{get_or_from_slice_get, same_Some, slice_get-get_or, slice_get_cases, slice_get_within}
use Rattle.dcel_fixed.specs.HalfEdges.{rev}
use Rattle.dcel_fixed.proofs.Halves.{rev-rev}
use Rattle.dcel_predicates.specs.declared.point.Point.{Point}
use Rattle.dcel_predicates.specs.Determinants.{orient2d_of}
use Rattle.dcel_predicates.proofs.Points.{orient2d-first_swapped, orient2d-turned, point_same}
use Rattle.dcel_predicates.proofs.Signs.{ordered}
use Rattle.dcel_maps.specs.Conditions.{IsUnconnected}
use Rattle.dcel_maps.specs.Removals.{Closed}
use Rattle.dcel_maps.specs.Shapes.{IsLive, IsMesh, Mesh, Shape, end_of, face_count, map_of, origin_of}
use Rattle.dcel_maps.specs.Words.{TurnsTo, word_of}
use Rattle.dcel_maps.proofs.maps.Soundness.{rev_live}
use Rattle.dcel_maps.proofs.shapes.Maps.{map-sound}
use Rattle.dcel_maps.proofs.words.Turns.{length-turn}
use Rattle.dcel_plane.proofs.edits.Corners.{turned_along}
use Rattle.dcel_plane.specs.Plane.{IsLocallyDelaunay, TurnsLeft, origin_point, point_at}
use Rattle.dcel_plane.specs.covering.Delaunay.{HasCornerVertices}
use Rattle.dcel_plane.specs.covering.Places.{AreDisjoint, IsIn, Place}
use Rattle.dcel_plane.proofs.covering.Along.{long}
use Rattle.dcel_plane.proofs.covering.Inside.{on_end}
use Rattle.dcel_plane.proofs.covering.Numbered.{word_is}
use Rattle.dcel_plane.proofs.covering.Starts.{out_of}
use Rattle.dcel_delaunay.specs.Bulk.{StandAt}
use Rattle.dcel_delaunay.specs.Triangulated.{CirclesAreEmpty, FacesAreApart, GoesRoundHull, HullIsCovered, PointsAreSingle}
use Rattle.dcel_delaunay.specs.Listing.{HasNumbers, ListsFaces, NamesLeast}
use Rattle.dcel_delaunay.specs.Triangles.{AreOnLine, LiesInOneOf, IsDelaunayTriangle, IsLeastNumber, AreDelaunayTriangles, LiesAmong, point_numbered}
use Rattle.dcel_delaunay.specs.declared.triangles.triangle.Triangle.{Triangle}
use Rattle.dcel_delaunay.proofs.listing.Corners.{from_another, on_one_line}

abbrev pub Points : Type 0
Points = Mesh Point (Unit {0}) (Unit {0}) (Unit {0})

-- what is known of a whole triangulation, of the vertices of points, and of the numbers of vertices
pub record IsKnown (m : Points) (points : List Point) (vertices numbers : List ℕ) : Type 0 where
  pub mesh : IsMesh m
  pub closed : m.shape.removal ≡ Closed
  pub joined : (v : ℕ) → 1 < m.shape.vertices → ¬ IsUnconnected m.shape v
  pub delaunay : IsLocallyDelaunay (point_at m) m.shape
  pub circles : CirclesAreEmpty m
  pub apart : FacesAreApart m
  pub covers : 1 < face_count m.shape → HullIsCovered m
  pub single : PointsAreSingle m
  pub hull : GoesRoundHull m
  pub stand : StandAt m points vertices
  pub from : (v : ℕ) → v < m.shape.vertices → (i : ℕ) × (i < length points) × (point_numbered points i ≡ point_at m v)
  pub least : NamesLeast vertices 0 numbers
  pub count : length numbers ≡ m.shape.vertices

module _ (m : Points) (points : List Point) (vertices numbers : List ℕ) (known : IsKnown m points vertices numbers) where
  abbrev s : Shape
  s = m.shape

  abbrev at : ℕ → Point
  at = point_at m

  abbrev p : ℕ → Point
  p = point_numbered points

  -- where a point stands
  pub record Stands (i : ℕ) : Type 0 where
    pub vertex : ℕ
    pub is : slice_get vertices i ≡ Some vertex
    pub below : vertex < s.vertices
    pub point : p i ≡ at vertex

  stands : (i : ℕ) → i < length points → Stands i
  stands i below =
      let v = slice_index_or vertices i 0 in
      let is : slice_get vertices i ≡ Some v = slice_get-get_or vertices i 0 (let e = known.stand.length_is in omega (arith, below, e)) in
      let has = known.stand.each i (p i) v (slice_get-get_or points i origin_point below) is in
      record {
        vertex = v;
        is = is;
        below = let within = slice_get_within m.vertex_data v (p i) has in let e = known.mesh.sized.vertex_data in omega (arith, within, e);
        point = sym (get_or_from_slice_get m.vertex_data v (p i) origin_point has);
      }

  one_vertex : (i v : ℕ) (there : Stands i) → v < s.vertices → p i ≡ at v → slice_get vertices i ≡ Some v
  one_vertex i v there below same = there.is ∙ ap Some (known.single there.vertex v there.below below (sym there.point ∙ same))

  -- the number of a vertex
  pub record Named (v j : ℕ) : Type 0 where
    pub first : IsLeastNumber points j
    pub point : p j ≡ at v

  named : (v j : ℕ) → v < s.vertices → slice_get numbers v ≡ Some j → Named v j
  named v j below is =
      let e = known.count in
      let has : v < length numbers = omega (arith, below, e) in
      let (i, within, point) = known.from v below in
      let zero_i : 0 ≤ i = omega arith in
      let (k, has_k, few, stands_k) = known.least i v zero_i (one_vertex i v (stands i within) below point) has in
      let same : k ≡ j = same_Some k j (sym has_k ∙ is) in
      let in_points : j < length points = omega (arith, few, same, within) in
      let there = stands j in_points in
      let here : there.vertex ≡ v = same_Some there.vertex v (sym {b = Some there.vertex} there.is ∙ subst (λ (i : ℕ). slice_get vertices i ≡ Some v) same stands_k) in
      let own : p j ≡ at v = there.point ∙ ap at here in
      record {
        first = record {
          below = in_points;
          least = λ i same_point. elim (cases_lt i (length points)) [
            | inl below_i ↦
                let zero_i' : 0 ≤ i = omega arith in
                let (k', has_k', few', stands_k') =
                known.least i v zero_i' (one_vertex i v (stands i below_i) below (same_point ∙ own)) has in
                let same' = same_Some k' j (sym has_k' ∙ is) in
                omega (arith, few', same')
            | inr past ↦ omega (arith, past, in_points)
          ];
        };
        point = own;
      }

  -- each vertex has one
  pub record Number (v : ℕ) : Type 0 where
    pub number : ℕ
    pub named_by : Named v number

  number_of : (v : ℕ) → v < s.vertices → Number v
  number_of v below =
      let j = slice_index_or numbers v 0 in
      record { number = j; named_by = named v j below (slice_get-get_or numbers v 0 (let e = known.count in omega (arith, below, e))) }

  -- the corners of a triangle
  pub record Cornered (f : ℕ) (t : Triangle) : Type 0 where
    pub has : HasNumbers s numbers f t
    pub first : Named has.a t.first
    pub second : Named has.b t.second
    pub third : Named has.c t.third

  cornered : (f : ℕ) (t : Triangle) → HasNumbers s numbers f t → Cornered f t
  cornered f t has =
      let e = known.count in
      let below_a = slice_get_within numbers has.a t.first has.first in
      let below_b = slice_get_within numbers has.b t.second has.second in
      let below_c = slice_get_within numbers has.c t.third has.third in
      record {
        has = has;
        first = named has.a t.first (omega (arith, below_a, e)) has.first;
        second = named has.b t.second (omega (arith, below_b, e)) has.second;
        third = named has.c t.third (omega (arith, below_c, e)) has.third;
      }

  turn_left : (a b c : ℕ) → TurnsLeft (at a) (at b) (at c) → TurnsLeft (at b) (at c) (at a)
  turn_left a b c left = subst (λ z. pos 0 <ℤ z) (sym (orient2d-turned (at a) (at b) (at c))) left

  left : (f a b c : ℕ) → HasCornerVertices s f a b c → TurnsLeft (at a) (at b) (at c)
  left f a b c corners =
      let word = word_is s f a b c corners in
      turned_along (λ a b c. TurnsLeft (at a) (at b) (at c)) turn_left (origin_of s word.x) (origin_of s word.y) (origin_of s word.z) a b c word.turn
      (known.delaunay.plane.left f word.x word.y word.z corners.inner word.is)

  empty : (f : ℕ) (t : Triangle) → HasNumbers s numbers f t → IsDelaunayTriangle points t
  empty f t numbers_at =
      let corners = cornered f t numbers_at in
      let has = corners.has in
      record {
        first = corners.first.first;
        second = corners.second.first;
        third = corners.third.first;
        left = rw (corners.first.point, corners.second.point, corners.third.point) (left f has.a has.b has.c has.corners);
        empty = λ i below.
            let there = stands i below in
            rw (corners.first.point, corners.second.point, corners.third.point, there.point)
            (known.circles f has.a has.b has.c there.vertex has.corners there.below);
      }

  apart : (f g : ℕ) (t u : Triangle) → HasNumbers s numbers f t → HasNumbers s numbers g u → f ≢ g → AreDisjoint (p t.first) (p t.second) (p t.third) (p u.first) (p u.second) (p u.third)
  apart f g t u numbers_t numbers_u differ =
      let one = cornered f t numbers_t in
      let other = cornered g u numbers_u in
      let a = one.has in
      let b = other.has in
      rw (one.first.point, one.second.point, one.third.point, other.first.point, other.second.point, other.third.point)
      (known.apart f g a.a a.b a.c b.a b.b b.c a.corners b.corners differ)

  -- a place in the hull of the points lies in the hull of the mesh, and so in a triangle
  turn_in : (q : Place) (a b c : ℕ) → IsIn (at a) (at b) (at c) q → IsIn (at b) (at c) (at a) q
  turn_in q a b c lies = (lies.1, lies.2, lies.0)

  face_below : (f a b c : ℕ) → HasCornerVertices s f a b c → f < face_count s
  face_below f a b c corners = elim (cases_lt f (face_count s)) [
    | inl below ↦ below
    | inr past ↦
        absurd
        (let turn = subst (λ (w : List ℕ). TurnsTo (map (origin_of s) w) (a ∷ b ∷ c ∷ [])) (get_or_past s.words f [] past) corners.starts in
        let l = length-turn turn in omega (arith, l))
  ]

  covered : (list : List Triangle) → ListsFaces s numbers list → length list + 1 ≡ face_count s → 1 < face_count s → (q : Place) → LiesAmong points q → LiesInOneOf points list q
  covered list faces all more q lies =
      let in_mesh = known.covers more q (λ h live outer.
      let sound = map-sound known.mesh.sound in
      let o = number_of (origin_of s h) (sound.below_vertices h live) in
      let e = number_of (end_of s h) (sound.below_vertices (rev h) (rev_live (map_of s) h live)) in
      rw (← o.named_by.point, ← e.named_by.point)
      (lies o.number e.number o.named_by.first.below e.named_by.first.below
      (λ k below. let there = stands k below in rw (o.named_by.point, e.named_by.point, there.point) ((known.hull.supports h there.vertex live outer there.below).0)))) in
      in_list in_mesh.face in_mesh.a in_mesh.b in_mesh.c in_mesh.corners in_mesh.lies
    where
      in_list : (f a b c : ℕ) → HasCornerVertices s f a b c → IsIn (at a) (at b) (at c) q → LiesInOneOf points list q
      in_list zero a b c corners inside = absurd (let inner = corners.inner in omega (arith, inner))
      in_list (suc i) a b c corners inside =
          let below : i < length list = let below = face_below (suc i) a b c corners in omega (arith, below, all) in
          elim (slice_get_cases list i).1 [
            | inl (t, _, is, _) ↦ at_place i a b c corners inside t is
            | inr (past, _) ↦ absurd (omega (arith, past, below))
          ]
        where
          at_place : (i a b c : ℕ) → HasCornerVertices s (suc i) a b c → IsIn (at a) (at b) (at c) q → (t : Triangle) → slice_get list i ≡ Some t → LiesInOneOf points list q
          at_place i a b c corners inside t is =
              let turned = cornered (suc i) t (faces i t is) in
              let has = turned.has in
              record {
                place = i;
                triangle = t;
                stands = is;
                lies =
                    rw (turned.first.point, turned.second.point, turned.third.point)
                    (from_another (λ a b c. IsIn (at a) (at b) (at c) q) (turn_in q) (map (origin_of s) (word_of s.words (suc i))) a b c has.a has.b has.c corners.starts has.corners.starts inside);
              }

  -- without an inner face each half edge has all vertices on its line
  module _ (flat : face_count s ≡ 1) where
    on_line : (h v : ℕ) → IsLive s h → v < s.vertices → orient2d_of (at (origin_of s h)) (at (end_of s h)) (at v) ≡ pos 0
    on_line h v live below =
        let sound = map-sound known.mesh.sound in
        let back = rev_live (map_of s) h live in
        let here = sound.below_faces h live in
        let there = sound.below_faces (rev h) back in
        let right = (known.hull.supports h v live (omega (arith, here, flat)) below).0 in
        let left : orient2d_of (at (end_of s h)) (at (origin_of s h)) (at v) ≤ℤ pos 0 =
        subst (λ (k : ℕ). orient2d_of (at (end_of s h)) (at (origin_of s k)) (at v) ≤ℤ pos 0) (rev-rev h) (known.hull.supports (rev h) v back (omega (arith, there, flat)) below).0 in
        let swapped = orient2d-first_swapped (at (origin_of s h)) (at (end_of s h)) (at v) in
        omega (arith, ordered, right, left, swapped)

    three_on_line : (u v w : ℕ) → u < s.vertices → v < s.vertices → w < s.vertices → orient2d_of (at u) (at v) (at w) ≡ pos 0
    three_on_line u v w below_u below_v below_w = elim (cases_lt 1 s.vertices) [
      | inl more ↦
          let (h, live, _) = out_of m known.mesh known.closed u below_u (known.joined u more) in
          let sound = map-sound known.mesh.sound in
          let start = sound.below_vertices h live in
          let end = sound.below_vertices (rev h) (rev_live (map_of s) h live) in
          on_one_line (at (origin_of s h)) (at (end_of s h)) (at u) (at v) (at w)
          (long (at (end_of s h)) (at (origin_of s h)) (λ ex ey. known.mesh.sound.two_ends h live (known.single (origin_of s h) (end_of s h) start end (point_same (at (origin_of s h)) (at (end_of s h)) (sym ex) (sym ey)))))
          (on_line h u live below_u) (on_line h v live below_v) (on_line h w live below_w)
      | inr few ↦
          let same_v : v ≡ u = omega (arith, few, below_u, below_v) in
          let same_w : w ≡ u = omega (arith, few, below_u, below_w) in
          subst (λ (k : ℕ). orient2d_of (at u) (at k) (at w) ≡ pos 0) (sym same_v) (subst (λ (k : ℕ). orient2d_of (at u) (at u) (at k) ≡ pos 0) (sym same_w) (on_end (at u) (at u)))
    ]

    pub all_on_line : AreOnLine points
    all_on_line i j k below_i below_j below_k =
        let a = stands i below_i in
        let b = stands j below_j in
        let c = stands k below_k in
        rw (a.point, b.point, c.point) (three_on_line a.vertex b.vertex c.vertex a.below b.below c.below)

  pub triangulated : (list : List Triangle) → ListsFaces s numbers list → length list + 1 ≡ face_count s → AreDelaunayTriangles points list
  triangulated list faces all = record {
    each = λ i t is. empty (suc i) t (faces i t is);
    apart = λ i j t u is_t is_u differ. apart (suc i) (suc j) t u (faces i t is_t) (faces j u is_u) (λ same. differ (omega (arith, same)));
    covers = elim (cases_lt 1 (face_count s)) [
      | inl more ↦ inr (covered list faces all more)
      | inr few ↦ inl (all_on_line (omega (arith, few, all)))
    ];
  }
