-- What an edit leaves of a triangulation: triangles that go round counterclockwise, and a list of the edges to be looked at.
use Rattle.std.proofs.Common.{◌≡◌, ℕ, ◌<◌, List, ◌++◌, refl, sym, ap, subst, arith}
use Rattle.dcel_fixed.specs.HalfEdges.{rev}
use Rattle.dcel_maps.specs.Conditions.{IsTriangle}
use Rattle.dcel_maps.specs.edits.Create.{IsNew, vertex_appended}
use Rattle.dcel_maps.specs.edits.Outside.{face_closed, face_put_beside}
use Rattle.dcel_maps.specs.edits.Split.{edge_split, half_edge_split}
use Rattle.dcel_maps.specs.edits.Triangle.{vertex_inserted}
use Rattle.dcel_maps.specs.Removals.{Closed}
use Rattle.dcel_maps.specs.Shapes.{IsLive, IsMesh, Mesh, Shape, end_of, face_count, face_of, next_of, origin_of}
use Rattle.dcel_maps.proofs.Triangulations.{closed_outside, inserted, put_beside, split_both_sides, split_one_side}
use Rattle.dcel_maps.proofs.maps.Halves.{rev_half}
use Rattle.dcel_maps.proofs.shapes.Maps.{map-sound}
use Rattle.dcel_predicates.specs.declared.point.Point.{Point}
use Rattle.dcel_plane.specs.Edges.{edges_put_beside, edges_half_split, edges_inserted, edges_split}
use Rattle.dcel_plane.specs.Plane.{IsLeftOf, LiesAcross, LiesInFace, ListsCircled, TurnsLeft, point_at}
use Rattle.dcel_plane.proofs.edits.Alone.{outer_alone_delaunay}
use Rattle.dcel_plane.proofs.edits.Inserted.{inserted_plane}
use Rattle.dcel_plane.proofs.edits.Spokes.{sides_listed}
use Rattle.dcel_plane.proofs.edits.Moved.{appended_lists, appended_plane, appended_stands, others_stand}
use Rattle.dcel_plane.proofs.edits.Outside.{beside_lists, beside_plane, closed_plane}
use Rattle.dcel_plane.proofs.edits.Splits.{half_split_lists, half_split_plane, split_lists, split_plane}
use Rattle.dcel_planar.proofs.Counting.{alone_triangles, beside_joined, closed_joined, face_vertices, half_split_joined, inserted_joined, live_vertices, split_joined}
use Rattle.dcel_planar.specs.Growing.{IsJoined, IsDelaunayBut, IsTriangleMesh}

left_there : (a b c x y z : Point) → a ≡ x → b ≡ y → c ≡ z → TurnsLeft a b c → TurnsLeft x y z
left_there a b c x y z ax by cz left =
    subst (λ (p : Point). TurnsLeft x y p) cz (subst (λ (p : Point). TurnsLeft x p c) by (subst (λ (p : Point). TurnsLeft p b c) ax left))

module _ {DE UE F : Type 0} where
  -- a mesh with one face is under way, whatever is listed
  pub alone-sound : (m : Mesh Point DE UE F) (due : List ℕ) → IsMesh m → m.shape.removal ≡ Closed → face_count m.shape ≡ 1 → IsJoined m.shape → IsDelaunayBut m due
  alone-sound m due mesh closed one joined =
      let delaunay = outer_alone_delaunay (point_at m) m mesh one in
      record {
        triangulated = record { closed = closed; joined = joined; triangles = alone_triangles m.shape one; plane = delaunay.plane };
        listed = λ u inner circled. absurd (delaunay.empty u inner circled);
      }

  -- so is a new mesh
  pub new-sound : (is_face : F → Type 0) (m : Mesh Point DE UE F) (due : List ℕ) → IsMesh m → IsNew is_face m → IsDelaunayBut m due
  new-sound is_face m due mesh new =
      let shape = ap (λ (k : Mesh Point DE UE F). k.shape) new.is in
      alone-sound m due mesh (ap (λ (s : Shape). s.removal) shape) (ap face_count shape)
      (subst IsJoined (sym shape) record { euler = λ some. absurd (omega (arith, some)); empty = λ none. refl })

  -- a vertex appended with the point p
  module _ (m : Mesh Point DE UE F) (mesh : IsMesh m) (p : Point) where
    abbrev n : Mesh Point DE UE F
    n = vertex_appended m p

    abbrev v : ℕ
    v = m.shape.vertices

    live_rev : (h : ℕ) → IsLive m.shape h → IsLive m.shape (rev h)
    live_rev h live = rw (rev_half h) live

    pub left_after : (h : ℕ) → IsLive m.shape h → IsLeftOf (point_at m) m.shape p h → IsLeftOf (point_at n) n.shape (point_at n v) h
    left_after h live left =
        let below = (map-sound mesh.sound).below_vertices in
        left_there (point_at m (origin_of m.shape h)) (point_at m (end_of m.shape h)) p (point_at n (origin_of m.shape h)) (point_at n (end_of m.shape h)) (point_at n v)
        (others_stand m mesh p (origin_of m.shape h) (below h live)) (others_stand m mesh p (end_of m.shape h) (below (rev h) (live_rev h live)))
        (sym (appended_stands m mesh p)) left

    pub inside_after : (f : ℕ) → LiesInFace (point_at m) m.shape f p → LiesInFace (point_at n) n.shape f (point_at n v)
    inside_after f lies h live on = left_after h live (lies h live on)

    pub across_after : (e : ℕ) → LiesAcross (point_at m) m.shape e p → LiesAcross (point_at n) n.shape e (point_at n v)
    across_after e lies k live on apart = left_after k live (lies k live on apart)

    some_vertices : (h : ℕ) → IsLive m.shape h → 0 < m.shape.vertices
    some_vertices h live = live_vertices m mesh h live

    pub same_triangle : (f : ℕ) → IsTriangle m.shape f → IsTriangle n.shape f
    same_triangle f triangle = record { live = triangle.live; three = triangle.three }

    module _ (after : IsMesh n) (h : List DE) (e : List UE) (g : List F) where
      pub inserted-triangulated : (f : ℕ) → IsTriangleMesh m → 0 < f → IsTriangle m.shape f → LiesInFace (point_at m) m.shape f p
          → IsTriangleMesh (vertex_inserted n v f h e g)
      inserted-triangulated f way inner triangle lies = record {
        closed = way.closed;
        joined = inserted_joined m p v f h e g (face_vertices m.shape f way.joined inner triangle) way.joined;
        triangles = inserted n way.triangles v f h e g;
        plane = inserted_plane n after v f (same_triangle f triangle) h e g (point_at n) (inside_after f lies) (appended_plane m mesh p way.plane);
      }

      pub inserted-lists : (f : ℕ) (due : List ℕ) → IsTriangle m.shape f → LiesInFace (point_at m) m.shape f p → IsMesh (vertex_inserted n v f h e g)
          → ListsCircled (point_at m) m.shape due → ListsCircled (point_at n) (vertex_inserted n v f h e g).shape (due ++ edges_inserted m f)
      inserted-lists f due triangle lies done lists =
          sides_listed n after v f (same_triangle f triangle) h e g (point_at n) done (inside_after f lies) due (appended_lists m mesh p due lists)

      pub split-triangulated : (x : ℕ) → IsTriangleMesh m → IsLive m.shape x → IsTriangle m.shape (face_of m.shape x) → IsTriangle m.shape (face_of m.shape (rev x))
          → LiesAcross (point_at m) m.shape x p → LiesAcross (point_at m) m.shape (rev x) p → IsTriangleMesh (edge_split n x v h e g)
      split-triangulated x way live near far across across_rev = record {
        closed = way.closed;
        joined = split_joined m p x v h e g (some_vertices x live) way.joined;
        triangles = split_both_sides n way.triangles x v h e g;
        plane =
            split_plane n after x v live h e g (point_at n) (same_triangle (face_of m.shape x) near) (same_triangle (face_of m.shape (rev x)) far)
            (across_after x across) (across_after (rev x) across_rev) (appended_plane m mesh p way.plane);
      }

      pub split-lists : (x : ℕ) (due : List ℕ) → IsLive m.shape x → IsTriangle m.shape (face_of m.shape x) → IsTriangle m.shape (face_of m.shape (rev x))
          → IsMesh (edge_split n x v h e g) → ListsCircled (point_at m) m.shape due
          → ListsCircled (point_at n) (edge_split n x v h e g).shape (due ++ edges_split m.shape x)
      split-lists x due live near far done lists =
          split_lists n after x v live h e g (point_at n) (same_triangle (face_of m.shape x) near) (same_triangle (face_of m.shape (rev x)) far)
          due done (appended_lists m mesh p due lists)

      pub half_split-triangulated : (x : ℕ) → IsTriangleMesh m → IsLive m.shape x → IsTriangle m.shape (face_of m.shape x) → 0 < face_of m.shape x
          → face_of m.shape (rev x) ≡ 0 → LiesAcross (point_at m) m.shape x p → IsTriangleMesh (half_edge_split n x v h e g)
      half_split-triangulated x way live near inner outer across = record {
        closed = way.closed;
        joined = half_split_joined m p x v h e g (some_vertices x live) way.joined;
        triangles = split_one_side n way.triangles x v h e g outer;
        plane =
            half_split_plane n after x v live h e g (point_at n) (same_triangle (face_of m.shape x) near) inner outer
            (across_after x across) (appended_plane m mesh p way.plane);
      }

      pub half_split-lists : (x : ℕ) (due : List ℕ) → IsLive m.shape x → IsTriangle m.shape (face_of m.shape x) → 0 < face_of m.shape x → face_of m.shape (rev x) ≡ 0
          → IsMesh (half_edge_split n x v h e g) → ListsCircled (point_at m) m.shape due
          → ListsCircled (point_at n) (half_edge_split n x v h e g).shape (due ++ edges_half_split m.shape x)
      half_split-lists x due live near inner outer done lists =
          half_split_lists n after x v live h e g (point_at n) (same_triangle (face_of m.shape x) near) inner outer
          due done (appended_lists m mesh p due lists)

      pub beside-triangulated : (x : ℕ) → IsTriangleMesh m → IsLive m.shape x → face_of m.shape x ≡ 0 → IsLeftOf (point_at m) m.shape p x
          → IsTriangleMesh (face_put_beside n x v h e g)
      beside-triangulated x way live outer left = record {
        closed = way.closed;
        joined = beside_joined m p x v h e g (some_vertices x live) way.joined;
        triangles = put_beside n way.triangles x v h e g outer;
        plane = beside_plane n after x live h e g (point_at n) v outer (left_after x live left) (appended_plane m mesh p way.plane);
      }

      pub beside-lists : (x : ℕ) (due : List ℕ) → IsLive m.shape x → face_of m.shape x ≡ 0 → IsMesh (face_put_beside n x v h e g)
          → ListsCircled (point_at m) m.shape due → ListsCircled (point_at n) (face_put_beside n x v h e g).shape (due ++ edges_put_beside m.shape x)
      beside-lists x due live outer done lists =
          beside_lists n after x live h e g (point_at n) v outer due done (appended_lists m mesh p due lists)

  -- a triangle closed at the hull
  pub closed-triangulated : (m : Mesh Point DE UE F) (x : ℕ) (h : List DE) (e : List UE) (g : List F) → IsMesh m → IsTriangleMesh m → IsLive m.shape x
      → IsLeftOf (point_at m) m.shape (point_at m (end_of m.shape (next_of m.shape x))) x → IsTriangleMesh (face_closed m x h e g)
  closed-triangulated m x h e g mesh way live left = record {
    closed = way.closed;
    joined = closed_joined m x h e g (live_vertices m mesh x live) way.joined;
    triangles = closed_outside m way.triangles x h e g;
    plane = closed_plane m mesh x live h e g (point_at m) left way.plane;
  }
