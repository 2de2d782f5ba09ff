-- A vertex removed: what a vertex inside has, and what is told of it from before edges were flipped to after.
use Rattle.std.proofs.Common.{◌≡◌, ◌≢◌, ◌↔◌, Bool, inl, inr, ℕ, ◌-◌, ◌<◌, ◌==◌, cond, List, Option, Some, None, slice_get, slice_index_or, sym, ap, ◌∙◌, subst, eq-zero-or-pos, arith}
use Rattle.std.proofs.lemmas.Bool.{cases_lt}
use Rattle.dcel_fixed.specs.HalfEdges.{rev}
use Rattle.dcel_maps.specs.Conditions.{HasRoom}
use Rattle.dcel_maps.specs.Renumbering.{moved}
use Rattle.dcel_maps.specs.Shapes.{AnchorsVertex, IsMesh, Mesh, face_of, map_of, vertex_anchor}
use Rattle.dcel_maps.specs.Walking.{IsOutEdge}
use Rattle.dcel_maps.proofs.Liveness.{closed-vertex_live}
use Rattle.dcel_maps.proofs.maps.Soundness.{rev_live}
use Rattle.dcel_maps.proofs.shapes.Maps.{map-sound}
use Rattle.dcel_predicates.specs.declared.point.Point.{Point}
use Rattle.dcel_plane.specs.Plane.{origin_point, point_at}
use Rattle.dcel_plane.proofs.covering.Starts.{inner_half}
use Rattle.dcel_planar.specs.Corners.{StartsOutside}
use Rattle.dcel_planar.specs.Growing.{HasHull, IsTriangleMesh}
use Rattle.dcel_planar.specs.Leaving.{IsSame}
use Rattle.dcel_planar.specs.Outcomes.{IsWholeMesh, KeepsWhole}
use Rattle.dcel_planar.specs.declared.planar.PlanarMesh.{PlanarMesh}
use Rattle.dcel_delaunay.specs.Removing.{FailsToRemove, FailsToTakeOut, HasNoneToTurn, IsInnerVertex, IsThinnedOut, Loses}
use Rattle.dcel_delaunay.specs.Staying.{KeepsStaying, LosesNoneStaying, StaysBetween}
use Rattle.dcel_delaunay.specs.declared.errors.RemovalError.{RemovalError}
use Rattle.dcel_delaunay.specs.declared.errors.RemovalError.TheVariants.{NoVertex, OutOfMemory, TooManyPoints, Unfinished}
use Rattle.dcel_delaunay.specs.declared.removed.Removed.{Removed}
use Rattle.dcel_planar.proofs.Counting.{joined_all}

module _ {DE UE F : Type 0} where
  -- where a triangle is there are two vertices
  pub more_vertices : (m : Mesh Point DE UE F) → IsMesh m → IsTriangleMesh m → HasHull m → 1 < m.shape.vertices
  more_vertices m mesh sound has =
      let (h, live, inner) = inner_half m mesh sound.closed has.inner in
      let start = (map-sound mesh.sound).below_vertices h live in
      let end = (map-sound mesh.sound).below_vertices (rev h) (rev_live (map_of m.shape) h live) in
      elim (cases_lt 1 m.shape.vertices) [
        | inl more ↦ more
        | inr few ↦ absurd (mesh.sound.two_ends h live (omega (arith, start, end, few)))
      ]

  -- so each has an edge
  some_edge : (m : Mesh Point DE UE F) → IsMesh m → IsTriangleMesh m → HasHull m → (v : ℕ) → v < m.shape.vertices → (k : ℕ) × IsOutEdge m.shape v k
  some_edge m mesh sound has v below = by_anchor (vertex_anchor m v) (mesh.anchored.vertices v below)
    where
      by_anchor : (anchor : Option ℕ) → AnchorsVertex m.shape v anchor → (k : ℕ) × IsOutEdge m.shape v k
      by_anchor (Some h) anchored = (h, record { live = anchored.0; start = anchored.1 })
      by_anchor None bare = absurd
          (joined_all m mesh sound.closed sound.joined v (more_vertices m mesh sound has)
          (record { live = closed-vertex_live m.shape sound.closed v below; bare = bare }))

  pub thin_is : (m : Mesh Point DE UE F) → IsMesh m → IsTriangleMesh m → HasHull m → (v : ℕ) → v < m.shape.vertices → IsInnerVertex m.shape v → HasNoneToTurn m v → IsThinnedOut m v
  thin_is m mesh sound has v below inside none = record {
    below = below;
    triangles = sound.triangles;
    plane = sound.plane;
    hull = has;
    some = some_edge m mesh sound has v below;
    inside = inside;
    none = none;
  }

  pub inside_from : (m : Mesh Point DE UE F) (v : ℕ) → ((h : ℕ) → ¬ StartsOutside m v h) → IsInnerVertex m.shape v
  inside_from m v none k out = elim (eq-zero-or-pos (face_of m.shape k)) [
    | inr more ↦ more
    | inl outer ↦ absurd (none k (record { live = out.live; outer = outer; start = out.start }))
  ]

  pub outside_below : (m : Mesh Point DE UE F) → IsMesh m → (v h : ℕ) → StartsOutside m v h → v < m.shape.vertices
  outside_below m mesh v h outside =
      subst (λ (k : ℕ). k < m.shape.vertices) outside.start ((map-sound mesh.sound).below_vertices h outside.live)

  -- as many vertices and edges have as many faces
  pub room_still : (m n : Mesh Point DE UE F) → IsTriangleMesh m → IsTriangleMesh n → 0 < m.shape.vertices → n.shape.vertices ≡ m.shape.vertices
      → n.shape.edges ≡ m.shape.edges → HasRoom m.shape 0 1 2 → HasRoom n.shape 0 1 2
  room_still m n sound sound_n some vertices edges room =
      let euler = sound.joined.euler some in
      let euler_n = sound_n.joined.euler (omega (arith, some, vertices)) in
      let for_vertices = room.for_vertices in
      let for_edges = room.for_edges in
      let for_faces = room.for_faces in
      record {
        for_vertices = omega (arith, for_vertices, vertices);
        for_edges = omega (arith, for_edges, edges);
        for_faces = omega (arith, for_faces, euler, euler_n, vertices, edges);
      }

  -- what is told of a mesh is told of another with the same vertices
  pub lost_before : (m mid n : Mesh Point DE UE F) (v : ℕ) (r : Removed) → mid.vertex_data ≡ m.vertex_data → mid.shape.vertices ≡ m.shape.vertices → Loses mid n v r → Loses m n v r
  lost_before m mid n v r points vertices loses = record {
    within = (let w = loses.within in omega (arith, w, vertices));
    vertices = loses.vertices ∙ vertices;
    point = subst (λ (list : List Point). slice_get list v ≡ Some r.point) points loses.point;
    renamed = loses.renamed ∙ ap (λ k. cond (v == k - 1) None (Some (k - 1))) vertices;
    others = λ w below other.
        ap (λ k. point_at n (moved (k - 1) v w)) (sym vertices) ∙ loses.others w (omega (arith, below, vertices)) other
        ∙ ap (λ (list : List Point). slice_index_or list w origin_point) points;
  }

  -- so is what stays
  pub lost_staying : (stays : UE → Bool) (m mid n : Mesh Point DE UE F) (v : ℕ) → mid.shape.vertices ≡ m.shape.vertices → KeepsStaying stays m mid
      → LosesNoneStaying stays mid n v → LosesNoneStaying stays m n v
  lost_staying stays m mid n v vertices keeps loses =
      subst (λ (k : ℕ). (a b : ℕ) → a ≢ v → b ≢ v → StaysBetween stays m a b ↔ StaysBetween stays n (moved (k - 1) v a) (moved (k - 1) v b)) vertices
      (λ a b not_a not_b. (λ was. (loses a b not_a not_b).0 ((keeps a b).0 was), λ is. (keeps a b).1 ((loses a b not_a not_b).1 is)))

-- a vertex of a mesh that was finished first isn't taken out
module _ {UE A : Type 0} (old mid new : PlanarMesh UE A) (v : ℕ) (points : mid.dcel.vertex_data ≡ old.dcel.vertex_data) (same : IsWholeMesh old → mid.dcel ≡ old.dcel)
    (whole : IsWholeMesh mid) (below : v < mid.dcel.shape.vertices) where
  kept : IsSame mid new → KeepsWhole old new
  kept stays = record {
    points = ap (λ (m : Mesh Point (Unit {0}) UE (Unit {0})). m.vertex_data) stays.mesh ∙ points;
    same = λ is. stays.mesh ∙ same is;
  }

  -- told of the mesh that is left
  left_so : IsSame mid new → IsInnerVertex mid.dcel.shape v → ¬ HasRoom mid.dcel.shape 0 1 2
      → (v < new.dcel.shape.vertices) × IsInnerVertex new.dcel.shape v × ¬ HasRoom new.dcel.shape 0 1 2
  left_so stays inner lacks =
      subst (λ (m : Mesh Point (Unit {0}) UE (Unit {0})). (v < m.shape.vertices) × IsInnerVertex m.shape v × ¬ HasRoom m.shape 0 1 2) (sym stays.mesh) (below, inner, lacks)

  pub removal_fails : (e : RemovalError) → FailsToTakeOut mid new v e → FailsToRemove old new v e
  removal_fails NoVertex fails = absurd fails
  removal_fails TooManyPoints fails =
      let left = left_so fails.2 fails.0 fails.1 in (left.0, left.1, left.2, kept fails.2, fails.2.due ∙ whole)
  removal_fails OutOfMemory fails = fails.points ∙ points
  removal_fails (Unfinished removed) fails = absurd fails
