-- What was given up taken out, and the vertex: the mesh lies in the plane with its hull, and each other vertex stands where it stood.
use Rattle.std.proofs.Common.{◌≡◌, ◌≢◌, ◌⊎◌, ◌↔◌, inl, inr, ℕ, ◌+◌, ◌-◌, ◌<◌, ◌≤◌, ◌==◌, Bool, true, cond, List, ◌++◌, eq-eqb, length, map, Some, None, slice_get, slice_index_or, refl, sym, ap, ◌∙◌, subst, arith}
use Rattle.std.proofs.lemmas.Bool.{cases_lt, false≢true, ne_eqb}
use Rattle.std.proofs.lemmas.List.{length-reverse, map-append}
use Rattle.dcel_maps.specs.Removals.{Cleaned, gives_up_vertex}
use Rattle.dcel_maps.specs.Renumbered.{new_edge, new_half}
use Rattle.dcel_maps.specs.Renumbering.{cleaned, cleaned_up, edges_down, faces_down, moved, vertex_taken_out}
use Rattle.dcel_maps.specs.Shapes.{IsLive, IsMesh, Mesh, face_count, face_of, vertex_is_live}
use Rattle.dcel_maps.proofs.Liveness.{is_live-from, is_live-parts}
use Rattle.dcel_maps.proofs.renumbering.Moves.{moved-back}
use Rattle.dcel_maps.proofs.renumbering.Renumbered.{leaves_live, vertex_leaves_live}
use Rattle.dcel_maps.proofs.Triangulations as triangulations
use Rattle.dcel_predicates.specs.declared.point.Point.{Point}
use Rattle.dcel_plane.specs.Plane.{ListsCircled, TrianglesTurnLeft, origin_point, point_at}
use Rattle.dcel_plane.specs.covering.Covering.{IsConvex, IsHull}
use Rattle.dcel_plane.proofs.removal.Cleaned.{IsCleaned, cleaned_is}
use Rattle.dcel_plane.proofs.covering.Starts.{inner_half}
use Rattle.dcel_plane.specs.hull.Straight.{IsStraight}
use Rattle.dcel_plane.proofs.removal.Renumbering.{cleanup_keeps, cleanup_lists, cleanup_straight, cleanup_was_inner, taken_out_keeps, taken_out_lists, taken_out_straight, taken_out_was_inner}
use Rattle.dcel_planar.specs.Growing.{HasHull, IsFlat, IsJoined}
use Rattle.dcel_planar.specs.Legalization.{ListsLoose}
use Rattle.dcel_delaunay.specs.Removing.{IsEmptied, Loses, TakesOut}
use Rattle.dcel_delaunay.specs.Staying.{LeavesLegal, LosesNoneStaying, StaysBetween}
use Rattle.dcel_delaunay.specs.declared.removed.Removed.{Removed}
use Rattle.dcel_delaunay.proofs.Emptied.{at_points}
use Rattle.dcel_delaunay.proofs.Staying.{leaves_staying, left_staying, lists_live, live_staying, of_circled, renumbered_stays}

-- Euler's formula, with one vertex less
euler_after : (v f e k j vn fn en : ℕ) → v + f + k ≡ e + j + 3 → 0 < v → k ≤ e → j ≤ f → vn ≡ v - 1 → fn ≡ f - j → en ≡ e - k → vn + fn ≡ en + 2
euler_after v f e k j vn fn en euler some few_edges few_faces vertices faces edges = omega (arith, euler, some, few_edges, few_faces, vertices, faces, edges)

module _ {DE UE F : Type 0} (stays : UE → Bool) (old mid : Mesh Point DE UE F) (v : ℕ) (before due : List ℕ) (given : IsEmptied stays old mid v before due) (below : v < old.shape.vertices)
    (many : 1 < old.shape.vertices) (clean : IsMesh (cleaned_up mid)) (done : IsMesh (vertex_taken_out (cleaned_up mid) v)) where
  abbrev c : Mesh Point DE UE F
  c = cleaned_up mid

  abbrev n : Mesh Point DE UE F
  n = vertex_taken_out (cleaned_up mid) v

  pub clean_record : (cleaned_up mid).shape.removal ≡ Cleaned v
  clean_record = ap cleaned given.removal

  left : IsCleaned mid (cleaned_up mid)
  left = cleaned_is mid given.mesh

  long_edges : length (edges_down mid.shape.removal) ≡ length given.edges
  long_edges = ap (λ r. length (edges_down r)) given.removal ∙ length-reverse given.edges

  long_faces : length (faces_down mid.shape.removal) ≡ length given.faces
  long_faces = ap (λ r. length (faces_down r)) given.removal ∙ length-reverse given.faces

  vertices_are : c.shape.vertices ≡ old.shape.vertices
  vertices_are = left.vertices ∙ given.vertices

  points_are : c.vertex_data ≡ old.vertex_data
  points_are = left.points ∙ given.points

  -- each vertex that is left stands where it did
  stands : (w : ℕ) → vertex_is_live c.shape w ≡ true → point_at n (moved (c.shape.vertices - 1) v w) ≡ point_at c w
  stands w live = (vertex_leaves_live c clean v clean_record).vertex_datum w origin_point live

  -- v itself is not live
  not_gone : (w : ℕ) → vertex_is_live c.shape w ≡ true → w ≢ v
  unfolding gives_up_vertex
  not_gone w live is =
      let parts = is_live-parts (gives_up_vertex c.shape.removal) c.shape.vertices w live in
      false≢true (sym parts.1 ∙ ap (λ r. gives_up_vertex r w) clean_record ∙ eq-eqb v w (sym is))

  removed_joined : IsJoined n.shape
  removed_joined = record {
    euler = λ some.
        (let few_edges = left.few_edges in
        let few_faces = left.few_faces in
        let is_edges = long_edges in
        let is_faces = long_faces in
        let is_vertices = vertices_are in
        let edges_left = left.edges in
        let faces_left = left.faces in
        euler_after old.shape.vertices (face_count mid.shape) mid.shape.edges (length given.edges) (length given.faces) n.shape.vertices (face_count n.shape) n.shape.edges given.euler
        (omega (arith, below)) (omega (arith, few_edges, is_edges)) (omega (arith, few_faces, is_faces)) (omega (arith, is_vertices)) (omega (arith, faces_left, is_faces))
        (omega (arith, edges_left, is_edges)));
    empty = λ none. absurd (let is_vertices = vertices_are in omega (arith, none, is_vertices, many));
  }

  removed_listed : ListsLoose stays old before → ListsLoose stays (vertex_taken_out (cleaned_up mid) v) (map (new_edge mid.shape) due)
  removed_listed lists =
      let ne = new_edge mid.shape in
      let both = due ++ live_staying stays mid in
      of_circled stays n (map ne due) (map ne (live_staying stays mid)) (λ u there. renumbered_stays stays mid given.mesh clean u there)
      (subst (λ (l : List ℕ). ListsCircled (point_at n) n.shape l) (map-append ne due (live_staying stays mid))
      (taken_out_lists c clean (point_at c) (point_at n) v clean_record done stands (map ne both)
      (at_points (λ at. ListsCircled at c.shape (map ne both)) mid c left.points
      (cleanup_lists mid given.mesh (point_at mid) clean both (lists_live stays mid due (given.listed lists))))))

  -- edges that stay lead between the same vertices
  pub removed_staying : LosesNoneStaying stays old (vertex_taken_out (cleaned_up mid) v) v
  removed_staying a b not_a not_b =
      let last = c.shape.vertices - 1 in
      let vertex = moved last v in
      let known = leaves_live mid given.mesh in
      let then = vertex_leaves_live c clean v clean_record in
      let one : (w k : ℕ) → vertex_is_live c.shape w ≡ true → k ≢ v → moved last v w ≡ moved last v k → w ≡ k =
      λ w k live not same. sym (moved-back last v w (not_gone w live)) ∙ ap (moved v last) same ∙ moved-back last v k not in
      subst (λ (l : ℕ). StaysBetween stays old a b ↔ StaysBetween stays n (moved (l - 1) v a) (moved (l - 1) v b)) vertices_are (
        λ was.
            leaves_staying stays c n (λ h. h) vertex (λ f. f) then clean.sized.undirected_data done.sized.undirected_data a b clean
            (leaves_staying stays mid c (new_half mid.shape) (λ w. w) _ known given.mesh.sized.undirected_data clean.sized.undirected_data a b given.mesh
            ((given.staying a b not_a not_b).0 was)),
        λ is.
            (given.staying a b not_a not_b).1
            (left_staying stays mid c (new_half mid.shape) (λ w. w) _ known given.mesh.sized.undirected_data clean.sized.undirected_data a b given.mesh (λ w live same. same)
            (λ w live same. same)
            (left_staying stays c n (λ h. h) vertex (λ f. f) then clean.sized.undirected_data done.sized.undirected_data a b clean (λ w live same. one w a live not_a same)
            (λ w live same. one w b live not_b same) is)),
      )

  pub removed_sound : LeavesLegal stays old (vertex_taken_out (cleaned_up mid) v) before (map (new_edge mid.shape) due)
  removed_sound = record {
    triangulated = record {
      closed = refl;
      joined = removed_joined;
      triangles = triangulations.vertex_gone c (triangulations.cleaned mid given.triangles given.mesh) v (inr clean_record);
      plane = (taken_out_keeps c clean (point_at c) (point_at n) v clean_record done stands).0 (at_points (λ at. TrianglesTurnLeft at c.shape) mid c left.points
          ((cleanup_keeps mid given.mesh (point_at mid) clean).0 given.plane));
    };
    listed = removed_listed;
  }

  -- where no triangle is left, one face is
  one_face : ((h : ℕ) → IsLive mid.shape h → face_of mid.shape h ≡ 0) → face_count c.shape ≡ 1
  one_face none = elim (cases_lt 1 (face_count c.shape)) [
    | inr few ↦ (let outer = clean.sized.outer in omega (arith, few, outer))
    | inl more ↦ absurd
        (let (h, live, inner) = inner_half n done refl more in
        let (i, live_i, inner_i) = taken_out_was_inner c clean v clean_record done h live inner in
        let (j, live_j, inner_j) = cleanup_was_inner mid given.mesh clean i live_i inner_i in
        let outside = none j live_j in
        omega (arith, inner_j, outside))
  ]

  pub removed_hull : IsFlat (vertex_taken_out (cleaned_up mid) v) ⊎ HasHull (vertex_taken_out (cleaned_up mid) v)
  removed_hull = elim given.left [
    | inl outline ↦ inr (record {
      inner = outline.inner;
      convex = (taken_out_keeps c clean (point_at c) (point_at n) v clean_record done stands).1
          (at_points (λ at. IsConvex at c.shape) mid c left.points ((cleanup_keeps mid given.mesh (point_at mid) clean).1 outline.convex));
      hull = (taken_out_keeps c clean (point_at c) (point_at n) v clean_record done stands).2
          (at_points (λ at. IsHull at c.shape) mid c left.points ((cleanup_keeps mid given.mesh (point_at mid) clean).2 outline.hull));
    })
    | inr strung ↦ inl (record {
      alone = one_face strung.none;
      straight =
          taken_out_straight c clean (point_at c) (point_at n) v clean_record done stands
          (at_points (λ at. IsStraight at c.shape) mid c left.points (cleanup_straight mid given.mesh (point_at mid) clean strung.straight));
    })
  ]

  other_live : (w : ℕ) → w < old.shape.vertices → w ≢ v → vertex_is_live c.shape w ≡ true
  unfolding gives_up_vertex
  other_live w within other =
      let is_vertices = vertices_are in
      is_live-from (gives_up_vertex c.shape.removal) c.shape.vertices w (omega (arith, within, is_vertices))
      (ap (λ r. gives_up_vertex r w) clean_record ∙ ne_eqb v w (λ is. other (sym is)))

  pub removed_loses : (r : Removed) → slice_get (cleaned_up mid).vertex_data v ≡ Some r.point
      → r.moved ≡ cond (v == (cleaned_up mid).shape.vertices - 1) None (Some ((cleaned_up mid).shape.vertices - 1)) → Loses old (vertex_taken_out (cleaned_up mid) v) v r
  removed_loses r point renamed = record {
    within = below;
    vertices = (let is = vertices_are in omega (arith, is, below));
    point = subst (λ (points : List Point). slice_get points v ≡ Some r.point) points_are point;
    renamed = renamed ∙ ap (λ k. cond (v == k - 1) None (Some (k - 1))) vertices_are;
    others = λ w within other.
        ap (λ k. point_at n (moved (k - 1) v w)) (sym vertices_are) ∙ stands w (other_live w within other)
        ∙ ap (λ (points : List Point). slice_index_or points w origin_point) points_are;
  }

module _ {DE UE F : Type 0} (stays : UE → Bool) (old mid new : Mesh Point DE UE F) (v : ℕ) (before due items : List ℕ) (given : IsEmptied stays old mid v before due)
    (below : v < old.shape.vertices) (many : 1 < old.shape.vertices) (clean : IsMesh (cleaned_up mid)) (after : IsMesh new) (is : new ≡ vertex_taken_out (cleaned_up mid) v)
    (renamed : items ≡ map (new_edge mid.shape) due) where
  done : IsMesh (vertex_taken_out (cleaned_up mid) v)
  done = subst (λ (k : Mesh Point DE UE F). IsMesh k) is after

  pub taken_sound : LeavesLegal stays old new before items
  taken_sound =
      subst (λ (list : List ℕ). LeavesLegal stays old new before list) (sym renamed)
      (subst (λ (k : Mesh Point DE UE F). LeavesLegal stays old k before (map (new_edge mid.shape) due)) (sym is) (removed_sound stays old mid v before due given below many clean done))

  pub taken_staying : LosesNoneStaying stays old new v
  taken_staying = subst (λ (k : Mesh Point DE UE F). LosesNoneStaying stays old k v) (sym is) (removed_staying stays old mid v before due given below many clean done)

  pub taken_hull : IsFlat new ⊎ HasHull new
  taken_hull = subst (λ (k : Mesh Point DE UE F). IsFlat k ⊎ HasHull k) (sym is) (removed_hull stays old mid v before due given below many clean done)

  pub taken_loses : (r : Removed) → slice_get (cleaned_up mid).vertex_data v ≡ Some r.point
      → r.moved ≡ cond (v == (cleaned_up mid).shape.vertices - 1) None (Some ((cleaned_up mid).shape.vertices - 1)) → Loses old new v r
  taken_loses r point moves = subst (λ (k : Mesh Point DE UE F). Loses old k v r) (sym is) (removed_loses stays old mid v before due given below many clean done r point moves)

  -- all of it
  pub taken : (r : Removed) → slice_get old.vertex_data v ≡ Some r.point → r.moved ≡ cond (v == old.shape.vertices - 1) None (Some (old.shape.vertices - 1))
      → TakesOut stays old new v before items r
  taken r point moves = record {
    loses =
        taken_loses r (subst (λ (points : List Point). slice_get points v ≡ Some r.point) (sym (points_are stays old mid v before due given below many clean done)) point)
        (moves ∙ ap (λ k. cond (v == k - 1) None (Some (k - 1))) (sym (vertices_are stays old mid v before due given below many clean done)));
    sound = taken_sound;
    staying = taken_staying;
    hull = taken_hull;
  }
