-- What a line or a hull tells of all vertices: each stands at a point of its own, and none lies beyond the hull.
use Rattle.std.proofs.Common.{◌≡◌, ◌⊎◌, inl, inr, ℕ, ◌<◌, List, [], ◌∷◌, sym, ap, subst, arith}
use Rattle.std.proofs.lemmas.Bool.{cases_lt}
use Rattle.dcel_fixed.specs.HalfEdges.{rev}
use Rattle.dcel_maps.specs.Removals.{Closed}
use Rattle.dcel_maps.specs.Shapes.{IsLive, IsMesh, Mesh, end_of, map_of, origin_of}
use Rattle.dcel_maps.specs.Words.{count_of, word_of}
use Rattle.dcel_maps.proofs.maps.Soundness.{rev_live}
use Rattle.dcel_maps.proofs.shapes.Maps.{map-sound}
use Rattle.dcel_maps.proofs.walks.Links.{links_stand}
use Rattle.dcel_maps.proofs.words.Counts.{count-same}
use Rattle.dcel_maps.proofs.words.Reading.{face_in_word, live_in}
use Rattle.dcel_predicates.specs.declared.point.Point.{Point}
use Rattle.dcel_plane.specs.Plane.{point_at}
use Rattle.dcel_plane.specs.covering.Covering.{IsConvex, Supports}
use Rattle.dcel_plane.specs.covering.Delaunay.{HasCornerVertices}
use Rattle.dcel_plane.proofs.covering.Numbered.{word_is}
use Rattle.dcel_plane.proofs.covering.Starts.{by_starts}
use Rattle.dcel_plane.proofs.hull.PutBeside.{straight_convex}
use Rattle.dcel_planar.specs.Growing.{HasHull, IsFlat, IsJoined}
use Rattle.dcel_delaunay.specs.Triangulated.{GoesRoundHull, PointsAreSingle}
use Rattle.dcel_planar.proofs.Counting.{joined_all}

module _ {DE UE F : Type 0} (m : Mesh Point DE UE F) (mesh : IsMesh m) where
  -- where a half edge is, two vertices are
  pub two_vertices : (h : ℕ) → IsLive m.shape h → 1 < m.shape.vertices
  two_vertices h live =
      let start = (map-sound mesh.sound).below_vertices h live in
      let end = (map-sound mesh.sound).below_vertices (rev h) (rev_live (map_of m.shape) h live) in
      elim (cases_lt 1 m.shape.vertices) [
        | inl more ↦ more
        | inr few ↦ absurd (mesh.sound.two_ends h live (omega (arith, start, end, few)))
      ]

  module _ (outline : IsFlat m ⊎ HasHull m) where
    -- an inner face has a half edge, so there is a hull
    pub hull_of_face : (f a b c : ℕ) → HasCornerVertices m.shape f a b c → HasHull m
    hull_of_face f a b c corners = elim outline [
      | inr has ↦ has
      | inl flat ↦
          let word = word_is m.shape f a b c corners in
          let found : 0 < count_of word.x (word_of m.shape.words f) =
          subst (λ (w : List ℕ). 0 < count_of word.x w) (sym word.is) (omega (arith, count-same word.x (word.y ∷ word.z ∷ []))) in
          let on = face_in_word (map_of m.shape) m.shape.words (links_stand mesh.sound) word.x f found in
          let below = (map-sound mesh.sound).below_faces word.x (live_in (map_of m.shape) m.shape.words (links_stand mesh.sound) word.x f found) in
          absurd (omega (arith, below, on, corners.inner, flat.alone))
    ]

    distinct : (h k : ℕ) → IsLive m.shape h → IsLive m.shape k → (point_at m (origin_of m.shape h)).x ≡ (point_at m (origin_of m.shape k)).x
        → (point_at m (origin_of m.shape h)).y ≡ (point_at m (origin_of m.shape k)).y → origin_of m.shape h ≡ origin_of m.shape k
    distinct = elim outline [ inl flat ↦ flat.straight.distinct | inr has ↦ has.hull.distinct ]

    convex : IsConvex (point_at m) m.shape
    convex = elim outline [ inl flat ↦ straight_convex (point_at m) m.shape flat.straight | inr has ↦ has.convex ]

    module _ (closed : m.shape.removal ≡ Closed) (joined : IsJoined m.shape) where
      -- what holds of the start of each half edge holds of each vertex, once there are two
      pub each_vertex : (P : ℕ → Type 0) → 1 < m.shape.vertices → ((h : ℕ) → IsLive m.shape h → P (origin_of m.shape h)) → (v : ℕ) → v < m.shape.vertices → P v
      each_vertex P more = by_starts m mesh closed (λ v below. joined_all m mesh closed joined v more) P

      pub all_single : PointsAreSingle m
      all_single v w below_v below_w = elim (cases_lt 1 m.shape.vertices) [
        | inl more ↦
            each_vertex (λ i. point_at m i ≡ point_at m w → i ≡ w) more
            (λ h live_h. each_vertex (λ j. point_at m (origin_of m.shape h) ≡ point_at m j → origin_of m.shape h ≡ j) more
            (λ k live_k same. distinct h k live_h live_k (ap (λ (p : Point). p.x) same) (ap (λ (p : Point). p.y) same)) w below_w) v below_v
        | inr few ↦ λ same. omega (arith, below_v, below_w, few)
      ]

      pub all_inside : GoesRoundHull m
      all_inside = record {
        supports = λ h v live on below.
            each_vertex (λ w. Supports (point_at m (origin_of m.shape h)) (point_at m (end_of m.shape h)) (point_at m w)) (two_vertices h live)
            (λ k live_k. convex.supports h k live on live_k) v below;
        once = λ inner h k live_h live_k on_h on_k same. elim outline [
          | inl flat ↦ absurd (omega (arith, inner, flat.alone))
          | inr has ↦ has.hull.once h k live_h live_k on_h on_k same
        ];
      }
