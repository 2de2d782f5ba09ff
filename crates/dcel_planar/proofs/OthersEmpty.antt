-- An insertion leaves circles empty but for the new vertex, if they were empty.
use Rattle.std.proofs.Common.{◌≡◌, ◌∙◌, inl, inr, ℕ, ◌<◌, List, [], Result, Ok, Err, OnOk, length, pos, sym, ap, subst, arith}
use Rattle.std.proofs.lemmas.List.{get_or_past}
use Rattle.dcel_fixed.specs.HalfEdges.{rev}
use Rattle.dcel_maps.specs.Conditions.{IsTriangle}
use Rattle.dcel_maps.specs.edits.Create.{vertex_appended}
use Rattle.dcel_maps.specs.edits.Outside.{face_put_beside}
use Rattle.dcel_maps.specs.edits.Split.{edge_split, half_edge_split}
use Rattle.dcel_maps.specs.edits.Triangle.{vertex_inserted}
use Rattle.dcel_maps.specs.Shapes.{IsLive, IsMesh, Mesh, face_count, face_of}
use Rattle.dcel_predicates.specs.declared.point.Point.{Point}
use Rattle.dcel_predicates.specs.Determinants.{orient2d_of}
use Rattle.dcel_predicates.proofs.Signs.{ordered}
use Rattle.dcel_plane.specs.covering.Covering.{HasEmptyCircles, IsConvex}
use Rattle.dcel_plane.specs.location.Locating.{LiesOn}
use Rattle.dcel_plane.specs.Plane.{LiesAcross, LiesInFace, TrianglesTurnLeft, point_at}
use Rattle.dcel_plane.specs.star.Star.{HasEmptyCirclesBut, HasNoneOnLeft}
use Rattle.dcel_plane.proofs.edits.Moved.{appended_plane, others_stand}
use Rattle.dcel_plane.proofs.hull.PutBeside.{straight_convex}
use Rattle.dcel_plane.proofs.star.Begin.{appended_star, empty_star, moved_star}
use Rattle.dcel_plane.proofs.star.Inserted.{inserted_star}
use Rattle.dcel_plane.proofs.star.Outside.{beside_star}
use Rattle.dcel_plane.proofs.star.Split.{half_split_star, split_star}
use Rattle.dcel_planar.specs.Leaving.{IsOutlined, KeepsCirclesBut}
use Rattle.dcel_planar.proofs.Appended.{appended_convex, appended_straight}
use Rattle.dcel_planar.proofs.Elsewhere.{said_after}
use Rattle.dcel_planar.proofs.Sound.{across_after, inside_after, same_triangle}

-- what holds anyhow holds of a success
pub ok_anyhow : {A E Q : Type 0} (r : Result A E) → Q → OnOk r Q
ok_anyhow (Ok x) known = known
ok_anyhow (Err e) known = tt

module _ {DE UE F : Type 0} where
  -- a mesh without triangles has no circle
  pub alone_empty : (m : Mesh Point DE UE F) (v : ℕ) → face_count m.shape ≡ 1 → HasEmptyCirclesBut (point_at m) m.shape v
  alone_empty m v alone = record {
    empty = λ f x y z inner is.
        absurd (let none = ap length (sym (get_or_past m.shape.words f [] (omega (arith, alone, inner))) ∙ is) in omega (arith, none));
  }

  pub stays_empty : (old new : Mesh Point DE UE F) → new ≡ old → KeepsCirclesBut old new
  stays_empty old new same empty =
      subst (λ (m : Mesh Point DE UE F). HasEmptyCirclesBut (point_at m) m.shape old.shape.vertices) (sym same)
      (empty_star (point_at old) old.shape old.shape.vertices empty)

  module _ (m : Mesh Point DE UE F) (mesh : IsMesh m) (p : Point) (empty : HasEmptyCircles (point_at m) m.shape) where
    abbrev n : Mesh Point DE UE F
    n = vertex_appended m p

    abbrev v : ℕ
    v = m.shape.vertices

    -- as long as the vertex has no edge
    appended_empty : HasEmptyCirclesBut (point_at n) n.shape v
    appended_empty =
        appended_star m p (point_at n) v
        (moved_star (point_at m) (point_at n) m.shape mesh.sound (others_stand m mesh p) v (empty_star (point_at m) m.shape v empty))

    module _ (after : IsMesh n) (h : List DE) (e : List UE) (g : List F) where
      pub inserted-empty : (f : ℕ) → TrianglesTurnLeft (point_at m) m.shape → 0 < f → IsTriangle m.shape f → LiesInFace (point_at m) m.shape f p
          → HasEmptyCirclesBut (point_at n) (vertex_inserted n v f h e g).shape v
      inserted-empty f plane inner triangle lies =
          inserted_star n after (point_at n) (appended_plane m mesh p plane) v f appended_empty inner (same_triangle m mesh p f triangle)
          (inside_after m mesh p f lies) h e g

      pub split-empty : (x : ℕ) → TrianglesTurnLeft (point_at m) m.shape → IsLive m.shape x → IsTriangle m.shape (face_of m.shape x)
          → IsTriangle m.shape (face_of m.shape (rev x)) → 0 < face_of m.shape x → 0 < face_of m.shape (rev x)
          → LiesAcross (point_at m) m.shape x p → LiesAcross (point_at m) m.shape (rev x) p → LiesOn (point_at m) m.shape p x
          → HasEmptyCirclesBut (point_at n) (edge_split n x v h e g).shape v
      split-empty x plane live near far inner facing across across_rev lies =
          split_star n after (point_at n) (appended_plane m mesh p plane) v x appended_empty live (same_triangle m mesh p (face_of m.shape x) near) inner
          (across_after m mesh p x across) (said_after m mesh p (λ a b c. orient2d_of a b c ≡ pos 0) x live lies.on) h e g
          (same_triangle m mesh p (face_of m.shape (rev x)) far) facing (across_after m mesh p (rev x) across_rev)

      pub half_split-empty : (x : ℕ) → TrianglesTurnLeft (point_at m) m.shape → IsLive m.shape x → IsTriangle m.shape (face_of m.shape x)
          → 0 < face_of m.shape x → face_of m.shape (rev x) ≡ 0 → LiesAcross (point_at m) m.shape x p → LiesOn (point_at m) m.shape p x
          → HasEmptyCirclesBut (point_at n) (half_edge_split n x v h e g).shape v
      half_split-empty x plane live near inner outer across lies =
          half_split_star n after (point_at n) (appended_plane m mesh p plane) v x appended_empty live (same_triangle m mesh p (face_of m.shape x) near) inner
          (across_after m mesh p x across) (said_after m mesh p (λ a b c. orient2d_of a b c ≡ pos 0) x live lies.on) h e g outer

      -- beside a convex hull, or a line
      pub beside-empty : (x : ℕ) → IsOutlined m → IsLive m.shape x → face_of m.shape x ≡ 0 → HasEmptyCirclesBut (point_at n) (face_put_beside n x v h e g).shape v
      beside-empty x hull live outer = beside_star n after (point_at n) v x appended_empty live h e g outer (none_left (convex hull))
        where
          convex : IsOutlined m → IsConvex (point_at n) n.shape
          convex (inl flat) = straight_convex (point_at n) n.shape (appended_straight m mesh p flat.straight)
          convex (inr has) = appended_convex m mesh p has.convex

          none_left : IsConvex (point_at n) n.shape → HasNoneOnLeft (point_at n) n.shape v x
          none_left convex k live_k away left = let right = (convex.supports x k live outer live_k).0 in omega (arith, ordered, left, right)
