-- Points on the sides of a triangle, and at its corners.
use Rattle.std.proofs.Common.{◌≡◌, ◌≢◌, ◌∙◌, ℕ, ◌<◌, Some, refl, sym, ap, subst, pos, ◌<ℤ◌, arith}
use Rattle.std.proofs.lemmas.Option.{slice_get-get_or}
use Rattle.dcel_fixed.specs.HalfEdges.{rev}
use Rattle.dcel_predicates.specs.declared.point.Point.{Point}
use Rattle.dcel_predicates.specs.declared.line.Side.{Side}
use Rattle.dcel_predicates.specs.declared.line.Side.TheVariants.{Left, On, Right}
use Rattle.dcel_predicates.specs.Determinants.{orient2d_of}
use Rattle.dcel_predicates.proofs.Points.{point_same, orient2d-last_swapped, orient2d-turned}
use Rattle.dcel_predicates.proofs.Signs.{ordered}
use Rattle.dcel_maps.specs.Conditions.{IsTriangle}
use Rattle.dcel_maps.specs.Shapes.{IsLive, IsMesh, Mesh, Shape, end_of, face_of, map_of, next_of, origin_of, prev_of}
use Rattle.dcel_maps.specs.Triangulations.{AllTriangles}
use Rattle.dcel_maps.proofs.maps.Triangles.{IsTriangleOf}
use Rattle.dcel_maps.proofs.shapes.Maps.{map-sound}
use Rattle.dcel_plane.specs.Plane.{TrianglesTurnLeft, LiesInFace, TurnsLeft, point_at, origin_point}
use Rattle.dcel_plane.proofs.edits.Corners.{left_of_triangle}
use Rattle.dcel_plane.specs.covering.Covering.{dot}
use Rattle.dcel_plane.proofs.covering.Along.{one_point}
use Rattle.dcel_plane.proofs.covering.Inside.{on_end}
use Rattle.dcel_plane.proofs.covering.Triangles.{is_triangle, round}
use Rattle.dcel_plane.specs.location.Locating.{HasBeyond, LiesOn, StandsAt}
use Rattle.dcel_plane.proofs.location.Ways.{between_of, left_of_both, lies_back}
use Rattle.dcel_maps.proofs.maps.Soundness.{rev_live}
use Rattle.dcel_planar.specs.Growing.{IsTriangleMesh}
use Rattle.dcel_planar.specs.Places.{LiesAtSides, HasLeft, HasPoint, IsAcross, IsOnLine, LiesAt}
use Rattle.dcel_planar.proofs.Sides.{lies_across, lies_inside}

-- a point on two sides of a triangle stands at their corner
pub at_corner : (a b c p : Point) → TurnsLeft a b c → orient2d_of a b p ≡ pos 0 → orient2d_of b c p ≡ pos 0 → (b.x ≡ p.x) × (b.y ≡ p.y)
at_corner a b c p turn ab bc =
    let x = orient2d-turned a b p in
    let y = orient2d-last_swapped b c p in
    one_point a b c b p turn (omega (arith, ordered, x, ab)) (on_end b p) (omega (arith, ordered, y, bc))

module _ {DE UE F : Type 0} (m : Mesh Point DE UE F) (mesh : IsMesh m) where
  pub has_point : (p : Point) (v : ℕ) → v < m.shape.vertices → StandsAt (point_at m) p v → HasPoint m p v
  has_point p v below stands =
      slice_get-get_or m.vertex_data v origin_point (subst (λ (n : ℕ). v < n) (sym mesh.sized.vertex_data) below)
      ∙ ap Some (point_same (point_at m v) p stands.0 stands.1)

  -- a mesh and a half edge under other names
  pub told : (n : Mesh Point DE UE F) (p : Point) (h k : ℕ) (side : Side) → n ≡ m → k ≡ h → LiesAt n p k side → LiesAt m p h side
  told n p h k side mesh number lies =
      subst (λ (i : ℕ). LiesAt m p i side) number (subst (λ (o : Mesh Point DE UE F). LiesAt o p k side) mesh lies)

  -- a side that has the point on its right
  pub crossing : (p : Point) (h : ℕ) (side : Side) → IsLive m.shape h → 0 < face_of m.shape h → LiesAt m p h side → side ≡ Right → HasBeyond (point_at m) m.shape p h
  crossing p h side live inner lies is = record { live = live; inner = inner; right = subst (LiesAt m p h) is lies }

  module _ (triangles : AllTriangles m.shape) (plane : TrianglesTurnLeft (point_at m) m.shape) (e : ℕ) (live : IsLive m.shape e) (inner : 0 < face_of m.shape e) where
    abbrev s : Shape
    s = m.shape

    abbrev a : Point
    a = point_at m (origin_of s e)

    abbrev b : Point
    b = point_at m (origin_of s (next_of s e))

    abbrev c : Point
    c = point_at m (origin_of s (prev_of s e))

    pub sides : IsTriangleOf (map_of s) (face_of s e) e (next_of s e) (prev_of s e)
    sides = round m mesh triangles e live inner

    pub turns : TurnsLeft a b c
    turns = left_of_triangle (point_at m) s mesh.sound plane (face_of s e) e (next_of s e) (prev_of s e) inner sides

    -- where the sides end
    own_end : end_of s e ≡ origin_of s (next_of s e)
    own_end = sym (mesh.sound.joined e live)

    after_end : end_of s (next_of s e) ≡ origin_of s (prev_of s e)
    after_end = sym (mesh.sound.joined (next_of s e) sides.live_y) ∙ ap (origin_of s) sides.next_y

    before_end : end_of s (prev_of s e) ≡ origin_of s e
    before_end = sym (mesh.sound.joined (prev_of s e) sides.live_z) ∙ ap (origin_of s) sides.next_z

    -- between the ends of one side a point lies on the left of the other two
    pub on_edge_across : (p : Point) → LiesOn (point_at m) s p e → IsAcross m p e
    on_edge_across p lies =
        let on : orient2d_of a b p ≡ pos 0 = subst (λ (v : ℕ). orient2d_of a (point_at m v) p ≡ pos 0) own_end lies.on in
        let apart : dot a b p <ℤ pos 0 = subst (λ (v : ℕ). dot a (point_at m v) p <ℤ pos 0) own_end lies.between in
        let both = left_of_both a b c p turns on apart in
        record {
          inner = inner;
          triangle = is_triangle m mesh triangles e live inner;
          across =
              lies_across m mesh e live (is_triangle m mesh triangles e live inner) p (subst (λ (v : ℕ). TurnsLeft b (point_at m v) p) (sym after_end) both.0)
              (subst (λ (v : ℕ). TurnsLeft c (point_at m v) p) (sym before_end) both.1);
        }

    -- where a point lies, by its sides
    module _ (p : Point) (own after before : Side) (given : LiesAtSides m p e own after before) where
      left : (h : ℕ) (side : Side) → LiesAt m p h side → side ≢ Right → side ≢ On → HasLeft m p h
      left h Left lies some apart = lies
      left h Right lies some apart = absurd (some refl)
      left h On lies some apart = absurd (apart refl)

      on_line : (h : ℕ) (side : Side) → LiesAt m p h side → side ≡ On → IsOnLine m p h
      on_line h side lies is = subst (LiesAt m p h) is lies

      own_left : own ≢ On → TurnsLeft a b p
      own_left not = subst (λ (v : ℕ). TurnsLeft a (point_at m v) p) own_end (left e own given.own_side given.not_own not)

      after_left : after ≢ On → TurnsLeft b c p
      after_left not = subst (λ (v : ℕ). TurnsLeft b (point_at m v) p) after_end (left (next_of s e) after given.after_side given.not_after not)

      before_left : before ≢ On → TurnsLeft c a p
      before_left not = subst (λ (v : ℕ). TurnsLeft c (point_at m v) p) before_end (left (prev_of s e) before given.before_side given.not_before not)

      own_on : own ≡ On → orient2d_of a b p ≡ pos 0
      own_on is = subst (λ (v : ℕ). orient2d_of a (point_at m v) p ≡ pos 0) own_end (on_line e own given.own_side is)

      after_on : after ≡ On → orient2d_of b c p ≡ pos 0
      after_on is = subst (λ (v : ℕ). orient2d_of b (point_at m v) p ≡ pos 0) after_end (on_line (next_of s e) after given.after_side is)

      before_on : before ≡ On → orient2d_of c a p ≡ pos 0
      before_on is = subst (λ (v : ℕ). orient2d_of c (point_at m v) p ≡ pos 0) before_end (on_line (prev_of s e) before given.before_side is)

      after_turns : TurnsLeft b c a
      after_turns = let t = turns in let x = orient2d-turned a b c in omega (arith, ordered, t, x)

      before_turns : TurnsLeft c a b
      before_turns = let t = after_turns in let x = orient2d-turned b c a in omega (arith, ordered, t, x)

      below : (h : ℕ) → IsLive s h → origin_of s h < s.vertices
      below h live_h = (map-sound mesh.sound).below_vertices h live_h

      pub at_end : own ≡ On → after ≡ On → HasPoint m p (end_of s e)
      at_end x y =
          subst (λ (v : ℕ). HasPoint m p v) (sym own_end)
          (has_point p (origin_of s (next_of s e)) (below (next_of s e) sides.live_y) (at_corner a b c p turns (own_on x) (after_on y)))

      pub at_start : own ≡ On → before ≡ On → HasPoint m p (origin_of s e)
      at_start x z = has_point p (origin_of s e) (below e live) (at_corner c a b p before_turns (before_on z) (own_on x))

      pub at_apex : after ≡ On → before ≡ On → HasPoint m p (origin_of s (prev_of s e))
      at_apex y z = has_point p (origin_of s (prev_of s e)) (below (prev_of s e) sides.live_z) (at_corner b c a p after_turns (after_on y) (before_on z))

      pub on_own : own ≡ On → after ≢ On → before ≢ On → IsLive s e × LiesOn (point_at m) s p e
      on_own x y z = (
        live,
        record {
          on = on_line e own given.own_side x;
          between = subst (λ (v : ℕ). dot a (point_at m v) p <ℤ pos 0) (sym own_end) (between_of a b c p turns (own_on x) (after_left y) (before_left z));
        },
      )

      pub on_after : after ≡ On → before ≢ On → own ≢ On → IsLive s (next_of s e) × LiesOn (point_at m) s p (next_of s e)
      on_after y z x = (
        sides.live_y,
        record {
          on = on_line (next_of s e) after given.after_side y;
          between =
              subst (λ (v : ℕ). dot b (point_at m v) p <ℤ pos 0) (sym after_end) (between_of b c a p after_turns (after_on y) (before_left z) (own_left x));
        },
      )

      pub on_before : before ≡ On → own ≢ On → after ≢ On → IsLive s (prev_of s e) × LiesOn (point_at m) s p (prev_of s e)
      on_before z x y = (
        sides.live_z,
        record {
          on = on_line (prev_of s e) before given.before_side z;
          between =
              subst (λ (v : ℕ). dot c (point_at m v) p <ℤ pos 0) (sym before_end) (between_of c a b p before_turns (before_on z) (own_left x) (after_left y));
        },
      )

      pub in_face : own ≢ On → after ≢ On → before ≢ On → (0 < face_of s e) × IsTriangle s (face_of s e) × LiesInFace (point_at m) s (face_of s e) p
      in_face x y z =
          let triangle = is_triangle m mesh triangles e live inner in (
            inner,
            triangle,
            lies_inside m mesh e live triangle p (left e own given.own_side given.not_own x) (left (next_of s e) after given.after_side given.not_after y)
                (left (prev_of s e) before given.before_side given.not_before z),
          )

-- an edge between two triangles, on both sides
pub both_across : {DE UE F : Type 0} (m : Mesh Point DE UE F) → IsMesh m → IsTriangleMesh m → (e : ℕ) (p : Point) → IsLive m.shape e × LiesOn (point_at m) m.shape p e
    → 0 < face_of m.shape e → 0 < face_of m.shape (rev e) → IsAcross m p e × IsAcross m p (rev e)
both_across m mesh is e p on near far = (
  on_edge_across m mesh is.triangles is.plane e on.0 near p on.1,
  on_edge_across m mesh is.triangles is.plane (rev e) (rev_live (map_of m.shape) e on.0) far p (lies_back (point_at m) m.shape p e on.1),
)
