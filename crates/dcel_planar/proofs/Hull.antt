-- Edits that keep the hull.
use Rattle.std.proofs.Common.{◌≡◌, ◌∙◌, inl, inr, ℕ, ◌+◌, ◌<◌, List, [], ◌∷◌, sym, subst, arith, eq-zero-or-pos, pos, slice_set}
use Rattle.std.proofs.lemmas.List.{length-set}
use Rattle.dcel_fixed.specs.HalfEdges.{rev}
use Rattle.dcel_maps.specs.Conditions.{IsTriangle}
use Rattle.dcel_maps.specs.edits.Create.{vertex_appended}
use Rattle.dcel_maps.specs.edits.Flip.{edge_flipped}
use Rattle.dcel_maps.specs.edits.Split.{edge_split, half_edge_split}
use Rattle.dcel_maps.specs.edits.Triangle.{vertex_inserted}
use Rattle.dcel_maps.specs.Shapes.{IsLive, IsMesh, Mesh, face_count, face_of}
use Rattle.dcel_maps.proofs.edits.Flips.{flipped_mesh}
use Rattle.dcel_maps.proofs.removal.Inserted.{replaced-count}
use Rattle.dcel_predicates.specs.declared.point.Point.{Point}
use Rattle.dcel_predicates.specs.Determinants.{orient2d_of}
use Rattle.dcel_plane.specs.Plane.{LiesAcross, LiesInFace, point_at}
use Rattle.dcel_plane.proofs.edits.Flipped.{circled_can_flip}
use Rattle.dcel_plane.proofs.edits.Moved.{appended_plane}
use Rattle.dcel_plane.proofs.covering.Faces.{not_bare}
use Rattle.dcel_plane.proofs.covering.Starts.{inner_half}
use Rattle.dcel_plane.proofs.hull.Inserting.{inserted_convex, inserted_hull}
use Rattle.dcel_plane.proofs.hull.Keeping.{flip_keeps_convex, flip_keeps_hull}
use Rattle.dcel_plane.proofs.hull.Splitting.{split_convex, split_hull}
use Rattle.dcel_plane.proofs.hull.HullSplitting.{half_split_convex, half_split_hull}
use Rattle.dcel_plane.specs.location.Locating.{LiesOn}
use Rattle.dcel_planar.specs.Turning.{AreCircled, IsTurnedTo}
use Rattle.dcel_legalize.specs.Flipping.{edges_flipped}
use Rattle.dcel_planar.specs.Growing.{HasHull, IsTriangleMesh}
use Rattle.dcel_planar.proofs.Counting.{two_written}
use Rattle.dcel_planar.proofs.Appended.{appended_convex, appended_hull}
use Rattle.dcel_planar.proofs.Elsewhere.{said_after}
use Rattle.dcel_planar.proofs.Sound.{across_after, inside_after, same_triangle}

module _ {DE UE F : Type 0} (m : Mesh Point DE UE F) (mesh : IsMesh m) (way : IsTriangleMesh m) (has : HasHull m) where
  -- one side of each edge is inner
  one_side : (e : ℕ) → IsLive m.shape e → face_of m.shape e ≡ 0 → face_of m.shape (rev e) ≡ 0 → ⊥
  one_side e live outer outer_too =
      let (h, live_h, inner_h) = inner_half m mesh way.closed has.inner in
      not_bare m mesh way.triangles (point_at m) way.plane has.convex has.hull e h live outer outer_too live_h inner_h

  pub inner_side : (e : ℕ) → IsLive m.shape e → face_of m.shape (rev e) ≡ 0 → 0 < face_of m.shape e
  inner_side e live outer_too = elim (eq-zero-or-pos (face_of m.shape e)) [ inl outer ↦ absurd (one_side e live outer outer_too) | inr inner ↦ inner ]

  pub inner_rev : (e : ℕ) → IsLive m.shape e → face_of m.shape e ≡ 0 → 0 < face_of m.shape (rev e)
  inner_rev e live outer = elim (eq-zero-or-pos (face_of m.shape (rev e))) [ inl outer_too ↦ absurd (one_side e live outer outer_too) | inr inner ↦ inner ]

module _ {DE UE F : Type 0} where
  -- a vertex appended with the point p, and connected
  module _ (m : Mesh Point DE UE F) (mesh : IsMesh m) (p : Point) (way : IsTriangleMesh m) (has : HasHull m) where
    abbrev n : Mesh Point DE UE F
    n = vertex_appended m p

    abbrev v : ℕ
    v = m.shape.vertices

    module _ (after : IsMesh n) (h : List DE) (e : List UE) (g : List F) where
      pub inserted-hull : (f : ℕ) → 0 < f → IsTriangle m.shape f → LiesInFace (point_at m) m.shape f p → IsMesh (vertex_inserted n v f h e g)
          → HasHull (vertex_inserted n v f h e g)
      inserted-hull f inner triangle lies done =
          let faces : face_count (vertex_inserted n v f h e g).shape ≡ face_count m.shape + 2 = replaced-count m.shape.words _ _ _ in
          record {
            inner = omega (arith, faces, has.inner);
            convex =
                inserted_convex n after way.triangles (point_at n) (appended_plane m mesh p way.plane) (appended_convex m mesh p has.convex)
                (appended_hull m mesh p has.hull) v f inner (same_triangle m mesh p f triangle) (inside_after m mesh p f lies) h e g done;
            hull =
                inserted_hull n after way.triangles (point_at n) (appended_plane m mesh p way.plane) (appended_convex m mesh p has.convex)
                (appended_hull m mesh p has.hull) v f inner (same_triangle m mesh p f triangle) (inside_after m mesh p f lies) h e g done;
          }

      pub split-hull : (x : ℕ) → IsLive m.shape x → 0 < face_of m.shape x → 0 < face_of m.shape (rev x)
          → LiesAcross (point_at m) m.shape x p → LiesAcross (point_at m) m.shape (rev x) p → IsMesh (edge_split n x v h e g)
          → HasHull (edge_split n x v h e g)
      split-hull x live inner facing across across_rev done =
          let faces : face_count (edge_split n x v h e g).shape ≡ face_count m.shape + 2 = two_written m.shape.words _ _ _ _ _ in
          record {
            inner = omega (arith, faces, has.inner);
            convex =
                split_convex n after way.triangles (point_at n) (appended_plane m mesh p way.plane) (appended_convex m mesh p has.convex)
                (appended_hull m mesh p has.hull) x v live inner facing (across_after m mesh p x across) (across_after m mesh p (rev x) across_rev) h e g done;
            hull =
                split_hull n after way.triangles (point_at n) (appended_plane m mesh p way.plane) (appended_convex m mesh p has.convex)
                (appended_hull m mesh p has.hull) x v live inner facing (across_after m mesh p x across) (across_after m mesh p (rev x) across_rev) h e g done;
          }

      pub half_split-hull : (x : ℕ) → IsLive m.shape x → IsTriangle m.shape (face_of m.shape x) → 0 < face_of m.shape x → face_of m.shape (rev x) ≡ 0
          → LiesAcross (point_at m) m.shape x p → LiesOn (point_at m) m.shape p x → IsMesh (half_edge_split n x v h e g)
          → HasHull (half_edge_split n x v h e g)
      half_split-hull x live near inner outer across lies done =
          let faces : face_count (half_edge_split n x v h e g).shape ≡ face_count m.shape + 1 = two_written m.shape.words _ _ _ _ _ in
          let on = said_after m mesh p (λ a b c. orient2d_of a b c ≡ pos 0) x live lies.on in
          record {
            inner = omega (arith, faces, has.inner);
            convex =
                half_split_convex n after (point_at n) (appended_plane m mesh p way.plane) (appended_convex m mesh p has.convex)
                (appended_hull m mesh p has.hull) x v live (same_triangle m mesh p (face_of m.shape x) near) inner outer (across_after m mesh p x across) on h e g done;
            hull =
                half_split_hull n after (point_at n) (appended_plane m mesh p way.plane) (appended_convex m mesh p has.convex)
                (appended_hull m mesh p has.hull) x v live (same_triangle m mesh p (face_of m.shape x) near) inner outer (across_after m mesh p x across) on h e g done;
          }

  -- edges flipped, one after another
  turned_hull : (m : Mesh Point DE UE F) (us : List ℕ) → IsMesh m → AreCircled m us → HasHull m → HasHull (edges_flipped m us)
  turned_hull m [] mesh circled has = has
  turned_hull m (u ∷ us) mesh ((inner, circled), rest) has =
      let can = circled_can_flip m mesh u (point_at m) inner circled in
      let words = m.shape.words in
      let faces : face_count (edge_flipped m u).shape ≡ face_count m.shape = length-set (slice_set words _ _) _ _ ∙ length-set words _ _ in
      turned_hull (edge_flipped m u) us (flipped_mesh m u mesh can) rest record {
        inner = omega (arith, faces, has.inner);
        convex = flip_keeps_convex m mesh u can (point_at m) inner.inner inner.inner_facing has.convex;
        hull = flip_keeps_hull m mesh u can (point_at m) inner.inner inner.inner_facing has.hull;
      }

  pub flips_hull : (m n : Mesh Point DE UE F) → IsMesh m → IsTurnedTo m n → HasHull m → HasHull n
  flips_hull m n mesh turned has =
      subst (λ (k : Mesh Point DE UE F). HasHull k) (sym turned.is) (turned_hull m turned.turned mesh turned.circled has)
