-- A vertex inside of triangles given up, and the hole filled: what is left.
use Rattle.std.proofs.Common.{◌≡◌, inl, inr, ℕ, ◌+◌, ◌/◌, ◌<◌, ◌≤◌, Bool, false, List, ◌∷◌, ◌++◌, All, Option, length, reverse, slice_get, slice_index_or, refl, sym, ap, ◌∙◌, subst, arith}
use Rattle.std.specs.Option.{option_map}
use Rattle.std.proofs.lemmas.Bool.{cases_lt}
use Rattle.std.proofs.lemmas.List.{get_or_append_left, length-map, length-reverse}
use Rattle.dcel_maps.specs.Conditions.{IsTriangle}
use Rattle.dcel_maps.specs.edits.Fill.{edges_at, faces_at, hole_filled, loop_filled}
use Rattle.dcel_maps.specs.Removals.{Removal, ascending, gives_up_edge, opened, shown}
use Rattle.dcel_maps.specs.Shapes.{IsLive, IsMesh, Mesh, face_count, face_of}
use Rattle.dcel_maps.specs.Triangulations.{AllTriangles}
use Rattle.dcel_maps.specs.Walking.{out_edges_of}
use Rattle.dcel_maps.specs.Words.{count_of}
use Rattle.dcel_maps.proofs.removal.RingLists.{at_border}
use Rattle.dcel_maps.proofs.renumbering.Cleanup.{cleaned_up-mesh}
use Rattle.dcel_maps.proofs.shapes.Maps.{map-sound}
use Rattle.dcel_maps.proofs.Shown.{length-shown, slice_index-shown_live}
use Rattle.dcel_maps.proofs.Triangulations.{ring_filled_in}
use Rattle.dcel_maps.proofs.words.Ascending.{length-ascending}
use Rattle.dcel_maps.proofs.words.Counts.{count-append}
use Rattle.dcel_predicates.specs.declared.point.Point.{Point}
use Rattle.dcel_plane.specs.Plane.{IsCircled, TrianglesTurnLeft, origin_point, point_at}
use Rattle.dcel_plane.specs.covering.Covering.{IsConvex, IsHull}
use Rattle.dcel_plane.proofs.removal.Deleting.{by_three, four_plane, hole_convex, hole_hull, hole_lists, three_plane}
use Rattle.dcel_plane.proofs.removal.Renumbering.{cleanup_inner}
use Rattle.dcel_plane.proofs.removal.Holes.{IsHole, half_of_triangle, hole_is}
use Rattle.dcel_planar.specs.Growing.{IsTriangleMesh}
use Rattle.dcel_planar.specs.Legalization.{HasToStay, ListsLoose}
use Rattle.dcel_planar.proofs.Staying.{listed_stays, staying, to_circled}
use Rattle.dcel_delaunay.specs.Removing.{IsEmptied, IsFilled, IsThinnedOut}
use Rattle.dcel_delaunay.proofs.Staying.{LosesSpokes, loose_after, same_before, spokes_staying, stay_below}

-- the counts of Euler's formula, with k edges and k faces round the vertex
counts : (v e f vn en fn k a b : ℕ) → v + f ≡ e + 2 → vn ≡ v → en + 3 ≡ e + k → fn + 2 ≡ f + k → a ≡ b → v + fn + a ≡ en + b + 3
counts v e f vn en fn k a b euler same edges faces equal = omega (arith, euler, edges, faces, equal)

-- an edge with default data need not stay
abbrev DefaultIsLoose : {UE : Type 0} → (UE → Type 0) → (UE → Bool) → Type 0
DefaultIsLoose {UE} is_default stays = (datum : UE) → is_default datum → stays datum ≡ false

module _ {DE UE F : Type 0} where
  -- where the vertices stand as they did
  pub at_points : (P : (ℕ → Point) → Type 0) (m n : Mesh Point DE UE F) → n.vertex_data ≡ m.vertex_data → P (point_at m) → P (point_at n)
  at_points P m n same holds = subst (λ (points : List Point). P (λ v. slice_index_or points v origin_point)) (sym same) holds

  module _ (stays : UE → Bool) (m : Mesh Point DE UE F) (mesh : IsMesh m) (due : List ℕ) (sound : IsTriangleMesh m) (v : ℕ) (thin : IsThinnedOut m v) (border : List ℕ) (filled : IsFilled m v border)
      (halves : List DE) (edges : List UE) (faces : List F) (after : IsMesh (hole_filled m v border halves edges faces)) where
    abbrev n : Mesh Point DE UE F
    n = hole_filled m v border halves edges faces

    -- the data of the edges are those of before, and others
    same_data : (u : ℕ) → u < m.shape.edges → slice_get n.undirected_data u ≡ slice_get m.undirected_data u
    same_data u below =
        by_three (λ w. slice_get (loop_filled m (opened (edges_at m v) (faces_at m v) v) w halves edges faces).undirected_data u ≡ slice_get m.undirected_data u) (reverse border)
        (let k = filled.round.many in let e = length-reverse border in omega (arith, k, e))
        (λ p q r rest is. same_before m.undirected_data edges u (let k = mesh.sized.undirected_data in omega (arith, k, below)))

    hole : IsHole m n v (length border)
    hole = hole_is m mesh sound.closed border v filled.round halves edges faces (point_at m)

    triangles_after : AllTriangles n.shape
    triangles_after = ring_filled_in m sound.triangles sound.closed (opened (edges_at m v) (faces_at m v) v) (reverse border) halves edges faces

    plane_before : TrianglesTurnLeft (point_at m) n.shape
    plane_before = elim filled.triangles [
      | inl three ↦ three_plane m mesh sound.closed border v filled.round halves edges faces (point_at m) thin.triangles thin.plane thin.hull.convex thin.hull.hull three
      | inr (four, two) ↦
          four_plane m mesh sound.closed border v filled.round halves edges faces (point_at m) thin.triangles thin.plane thin.hull.convex thin.hull.hull four two
    ]

    many : 3 ≤ length border
    many = filled.round.many

    first_new : IsTriangle n.shape (face_count m.shape)
    first_new =
        let three = many in
        let live = hole.new_live (face_count m.shape) (omega arith) (let f = hole.faces in omega (arith, f, three)) in
        record { live = live; three = triangles_after (face_count m.shape) mesh.sized.outer live }

    -- edges that stay have their data
    stays_too : (u : ℕ) → HasToStay stays m u → HasToStay stays n u
    stays_too u stay = ap (λ (o : Option UE). option_map stays o) (same_data u (elim (cases_lt u m.shape.edges) [ inl below ↦ below | inr past ↦ absurd (stay_below stays m mesh u past stay) ])) ∙ stay

    -- the new faces are listed
    pub lists_after : (list : List ℕ) → ((f h : ℕ) → face_count m.shape ≤ f → f < face_count n.shape → IsLive n.shape h → face_of n.shape h ≡ f → 0 < count_of (h / 2) list)
        → ListsLoose stays m due → ListsLoose stays n (due ++ list)
    lists_after list each lists u is =
        let stay = staying stays m in
        let found : 0 < count_of u ((due ++ stay) ++ list) =
        hole_lists m mesh sound.closed border v filled.round halves edges faces (point_at m) (due ++ stay) list
        (λ h live past. each (face_of n.shape h) h past ((map-sound after.sound).below_faces h live) live refl) (to_circled stays m due lists) u is.inner
        (at_points (λ at. IsCircled at n.shape u) n m (sym hole.points) is.circled) in
        let all = count-append u (due ++ stay) list in
        let both = count-append u due stay in
        let wanted = count-append u due list in
        elim (cases_lt 0 (count_of u stay)) [
          | inl there ↦ absurd (is.loose (stays_too u (listed_stays stays m u there)))
          | inr none ↦ omega (arith, found, all, both, wanted, none)
        ]

    pub emptied : (list : List ℕ) → (ListsLoose stays m due → ListsLoose stays n list) → LosesSpokes stays m n v → IsEmptied stays m n v due list
    emptied list lists spokes =
        let some = thin.below in
        let (h, live, on) = half_of_triangle n after (face_count m.shape) first_new in
        let outer = mesh.sized.outer in
        record {
          mesh = after;
          vertices = hole.vertices;
          points = hole.points;
          edges = ascending (edges_at m v);
          faces = ascending (faces_at m v);
          removal = hole.removal;
          euler =
              counts m.shape.vertices m.shape.edges (face_count m.shape) n.shape.vertices n.shape.edges (face_count n.shape) (length border)
              (length (ascending (edges_at m v))) (length (ascending (faces_at m v))) (sound.joined.euler (omega (arith, some))) hole.vertices hole.edges hole.faces
              (length-ascending (edges_at m v) ∙ length-map (out_edges_of m v) (λ k. k / 2) ∙ sym (length-map (out_edges_of m v) (face_of m.shape))
              ∙ sym (length-ascending (faces_at m v)));
          triangles = triangles_after;
          plane = at_points (λ at. TrianglesTurnLeft at n.shape) m n hole.points plane_before;
          listed = lists;
          left = inl (record {
            inner = cleanup_inner n after (cleaned_up-mesh n after) h live (let o = on in omega (arith, o, outer));
            convex = at_points (λ at. IsConvex at n.shape) m n hole.points (hole_convex m mesh sound.closed border v filled.round halves edges faces (point_at m) thin.hull.convex);
            hull = at_points (λ at. IsHull at n.shape) m n hole.points (hole_hull m mesh sound.closed border v filled.round halves edges faces (point_at m) thin.hull.hull);
          });
          staying = spokes_staying stays m n v spokes;
        }

    abbrev given : Removal
    given = opened (edges_at m v) (faces_at m v) v

    long : 3 ≤ length (reverse border)
    long = (let k = many in let e = length-reverse border in omega (arith, k, e))

    -- only edges of v are given up
    pub given_spokes : (is_edge : UE → Type 0) → DefaultIsLoose is_edge stays → All is_edge edges → LosesSpokes stays m (hole_filled m v border halves edges faces) v
    given_spokes is_edge default all =
        by_three (λ w. LosesSpokes stays m (loop_filled m (opened (edges_at m v) (faces_at m v) v) w halves edges faces) v) (reverse border) long (λ p q r rest is. record {
          closed = sound.closed;
          given = λ u gone. ((at_border m mesh border v filled.round).edges u).0 gone;
          more = omega arith;
          starts = λ h below kept.
              get_or_append_left (shown (gives_up_edge given) m.shape.origins) _ 0 h
              (let l = length-shown (gives_up_edge given) m.shape.origins in let k = mesh.sized.origins in omega (arith, l, k, below))
              ∙ slice_index-shown_live (gives_up_edge given) m.shape.origins h kept;
          same = λ u below. same_before m.undirected_data edges u (let k = mesh.sized.undirected_data in omega (arith, k, below));
          fresh = λ u past.
              loose_after stays is_edge default (loop_filled m given (p ∷ q ∷ r ∷ rest) halves edges faces) m.undirected_data edges refl all u
              (let k = mesh.sized.undirected_data in omega (arith, k, past));
        })
