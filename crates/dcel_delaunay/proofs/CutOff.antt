-- A corner of the hull cut off: what is left.
use Rattle.std.proofs.Common.{◌≡◌, ◌⊎◌, inl, inr, ℕ, suc, ◌+◌, ◌-◌, ◌*◌, ◌/◌, ◌<◌, ◌≤◌, Bool, true, List, [], ◌∷◌, ◌++◌, length, Result, Ok, Err, IfOk, OnErr, OnOk, append_assoc, refl, sym, ap, ◌∙◌, subst, eq-zero-or-pos, arith}
use Rattle.std.proofs.lemmas.Bool.{cases_lt}
use Rattle.std.proofs.lemmas.List.{length-reverse}
use Rattle.spade_dcel.specs.declared.operations.results.IsolateVertexResult.{IsolateVertexResult}
use Rattle.spade_dcel.specs.Opened.{HasOpened}
use Rattle.dcel_maps.specs.Conditions.{CanFlip}
use Rattle.dcel_maps.specs.edits.Flip.{GoesRound, edge_flipped, flips}
use Rattle.dcel_maps.specs.edits.Strip.{strip_cut, strip_edges, strip_faces, strip_record}
use Rattle.dcel_maps.specs.Removals.{Closed, IsListed, Removal, ascending, gives_up_edge, gives_up_face}
use Rattle.dcel_maps.specs.Renumbering.{cleaned_up, faces_down}
use Rattle.dcel_maps.specs.Shapes.{IsLive, IsMesh, Mesh, Shape, end_of, face_count, face_is_live, face_of, map_of, origin_of, prev_of}
use Rattle.dcel_maps.specs.Strips.{IsEdgeStrip, IsStripAround, strip_of}
use Rattle.dcel_maps.specs.Triangulations.{AllTriangles}
use Rattle.dcel_maps.specs.Walking.{IsOutEdge, ccw_of, walk_of}
use Rattle.dcel_maps.specs.Words.{word_of}
use Rattle.dcel_maps.proofs.edits.Flips.{flipped_mesh}
use Rattle.dcel_maps.proofs.edits.FourFlips.{four_flips}
use Rattle.dcel_maps.proofs.Liveness.{is_live-from}
use Rattle.dcel_maps.proofs.maps.Soundness.{rev_live}
use Rattle.dcel_maps.proofs.removal.StripItems.{strip-is, strip_gives}
use Rattle.dcel_maps.proofs.removal.StripShapes.{GivesUpStrip}
use Rattle.dcel_maps.proofs.renumbering.Cleanup.{cleaned_up-mesh}
use Rattle.dcel_maps.proofs.shapes.Maps.{word_cases}
use Rattle.dcel_maps.proofs.Shown.{slice_index-shown_live}
use Rattle.dcel_maps.proofs.Triangulations.{flipped, strip_off}
use Rattle.dcel_maps.proofs.walks.Links.{links_stand, prev-live}
use Rattle.dcel_maps.proofs.words.Counts.{count-append}
use Rattle.dcel_maps.proofs.words.Reading.{face_in_word, live_in}
use Rattle.dcel_predicates.specs.declared.point.Point.{Point}
use Rattle.dcel_legalize.specs.Flipping.{sides_beside}
use Rattle.dcel_plane.specs.Plane.{TrianglesTurnLeft, point_at}
use Rattle.dcel_plane.specs.covering.Covering.{IsConvex, IsHull}
use Rattle.dcel_plane.proofs.covering.Starts.{inner_half}
use Rattle.dcel_plane.proofs.covering.Triangles.{ends_before}
use Rattle.dcel_plane.proofs.hull.Keeping.{flip_keeps_convex, flip_keeps_hull}
use Rattle.dcel_plane.specs.removal.Wheels.{CanFlipInPlane, IsFlattened, IsHollow, LiesOnHull, turns}
use Rattle.dcel_plane.proofs.removal.Cleaned.{cleaned_is}
use Rattle.dcel_plane.proofs.removal.Flattened as flattening
use Rattle.dcel_plane.proofs.removal.Renumbering.{cleanup_inner, cleanup_was_inner}
use Rattle.dcel_plane.proofs.removal.Stripping.{corner_hollow, corner_lies, corner_strip, strip_given_up}
use Rattle.dcel_plane.proofs.removal.Strips.{cut_lists, cut_plane, cut_plane_but, flat_corner_convex, flat_corner_hull, hollow_convex, hollow_outline, hollow_strung}
use Rattle.dcel_planar.specs.Growing.{HasHull, IsTriangleMesh}
use Rattle.dcel_planar.specs.Legalization.{HasToStay, ListsLoose}
use Rattle.dcel_planar.proofs.Staying.{listed_stays, staying, to_circled}
use Rattle.dcel_delaunay.specs.Removing.{HasOutline, IsHullCorner, CutsOff, IsGivenUp, IsStrung, LiesFlat}
use Rattle.dcel_planar.proofs.Counting.{flipped_joined, live_vertices}
use Rattle.dcel_delaunay.specs.Staying.{HasConstraintAt, KeepsStaying, LeavesLegal}
use Rattle.dcel_delaunay.proofs.Staying.{LosesSpokes, flip_listed, flip_staying, of_circled, spokes_staying, stay_below}

-- the counts of Euler's formula, with one face less than edges given up
counts : (v e f vn en fn a b : ℕ) → v + f ≡ e + 2 → vn ≡ v → en ≡ e → fn ≡ f → a ≡ b + 1 → v + fn + a ≡ en + b + 3
counts v e f vn en fn a b euler same edges faces equal = omega (arith, euler, edges, faces, equal)

abbrev Named : {A : Type 0} → Removal → IsolateVertexResult A → Type 0
Named r out = IsListed r out.edges_to_remove.items out.faces_to_remove.items

module _ {DE UE F : Type 0} where
  -- the record of a strip
  strip_is : (m : Mesh Point DE UE F) (mesh : IsMesh m) (h v : ℕ) (around : IsStripAround m.shape v h) → GivesUpStrip m.shape v (strip_record m.shape (strip_of m.shape h))
  strip_is m mesh h v around =
      subst (λ (l : List ℕ). GivesUpStrip m.shape v (strip_record m.shape l)) (sym (strip-is m.shape mesh.sound mesh.sphere v h around))
      (strip_gives m.shape mesh.sound mesh.sphere v h around)

  cut_loose : (stays : UE → Bool) (m : Mesh Point DE UE F) (mesh : IsMesh m) (closed : m.shape.removal ≡ Closed) (list : List ℕ) (strip : IsEdgeStrip m.shape list) (due : List ℕ)
      → ListsLoose stays m due → ListsLoose stays (strip_cut m list) due
  cut_loose stays m mesh closed list strip due lists =
      of_circled stays (strip_cut m list) due (staying stays m) (λ u there. listed_stays stays m u there)
      (cut_lists m mesh closed list strip (point_at m) (due ++ staying stays m) (to_circled stays m due lists))

  -- what is given up with the strip of v, of a mesh with Euler's count
  module _ (m : Mesh Point DE UE F) (mesh : IsMesh m) (closed : m.shape.removal ≡ Closed) (triangles : AllTriangles m.shape)
      (euler : m.shape.vertices + face_count m.shape ≡ m.shape.edges + 2) (v h : ℕ) (around : IsStripAround m.shape v h)
      (after : IsMesh (strip_cut m (strip_of m.shape h))) (due : List ℕ) (stays : UE → Bool) where
    abbrev n : Mesh Point DE UE F
    n = strip_cut m (strip_of m.shape h)

    abbrev strip : IsEdgeStrip m.shape (strip_of m.shape h)
    strip = record { vertex = v; half = h; around = around; is = refl }

    abbrev us : List ℕ
    us = strip_edges m.shape (strip_of m.shape h)

    abbrev fs : List ℕ
    fs = strip_faces m.shape (strip_of m.shape h)

    -- only edges of v are given up
    spokes : LosesSpokes stays m n v
    spokes =
        let cut = strip_is m mesh h v around in
        record {
          closed = closed;
          given = λ u gone. (cut.edges u).0 gone;
          more = omega arith;
          starts = λ g below kept. slice_index-shown_live (gives_up_edge n.shape.removal) m.shape.origins g kept;
          same = λ u below. refl;
          fresh = λ u past stay. stay_below stays m mesh u past stay;
        }

    given_up : {A : Type 0} (out : IsolateVertexResult A) → HasOpened us fs [] 0 out → TrianglesTurnLeft (point_at m) n.shape → (ListsLoose stays m due → ListsLoose stays n due)
        → HasOutline n ⊎ IsStrung n → IsGivenUp stays m n v due due out
    given_up out has plane lists left =
        let given = strip_given_up m mesh (strip_of m.shape h) strip in
        record {
          emptied = record {
            mesh = after;
            vertices = refl;
            points = refl;
            edges = ascending us;
            faces = ascending fs;
            removal = given.removal;
            euler =
                counts m.shape.vertices m.shape.edges (face_count m.shape) n.shape.vertices n.shape.edges (face_count n.shape) (length (ascending us)) (length (ascending fs))
                euler refl refl given.faces given.one_more;
            triangles = strip_off m triangles closed (strip_of m.shape h);
            plane = plane;
            listed = lists;
            left = left;
            staying = spokes_staying stays m n v spokes;
          };
          named = subst (λ r. Named r out) (sym given.removal) (ap ascending has.edges, ap ascending has.faces);
        }

  -- the same of a mesh that had these vertices before an edge was flipped
  of_old : {A : Type 0} (stays : UE → Bool) (old m n : Mesh Point DE UE F) (v : ℕ) (first due items : List ℕ) (out : IsolateVertexResult A) → m.shape.vertices ≡ old.shape.vertices
      → m.vertex_data ≡ old.vertex_data → KeepsStaying stays old m → (ListsLoose stays old first → ListsLoose stays m due) → IsGivenUp stays m n v due items out
      → IsGivenUp stays old n v first items out
  of_old stays old m n v first due items out vertices points keeps lists given = record {
    emptied = record {
      mesh = given.emptied.mesh;
      vertices = given.emptied.vertices ∙ vertices;
      points = given.emptied.points ∙ points;
      edges = given.emptied.edges;
      faces = given.emptied.faces;
      removal = given.emptied.removal;
      euler = (let e = given.emptied.euler in omega (arith, e, vertices));
      triangles = given.emptied.triangles;
      plane = given.emptied.plane;
      listed = λ was. given.emptied.listed (lists was);
      left = given.emptied.left;
      staying = λ a b not_a not_b. (
        λ was. (given.emptied.staying a b not_a not_b).0 ((keeps a b).0 was),
        λ is. (keeps a b).1 ((given.emptied.staying a b not_a not_b).1 is),
      );
    };
    named = given.named;
  }

  -- where no face is given up, the first inner one has a half edge
  half_where : (m : Mesh Point DE UE F) → IsMesh m → ((f : ℕ) → f < face_count m.shape → face_is_live m.shape f ≡ true) → 1 < face_count m.shape
      → (h : ℕ) × IsLive m.shape h × (0 < face_of m.shape h)
  half_where m mesh each more = elim (word_cases (word_of m.shape.words 1)) [
    | inl none ↦ absurd (mesh.sound.inner 1 (omega arith) (each 1 more) none)
    | inr some ↦
        let stands = links_stand mesh.sound in
        let on = face_in_word (map_of m.shape) m.shape.words stands some.0 1 some.1 in
        (some.0, live_in (map_of m.shape) m.shape.words stands some.0 1 some.1, omega (arith, on))
  ]

  -- an edge turned round four times: only anchors are others
  module _ (m : Mesh Point DE UE F) (new : Mesh Point DE UE F) (u : ℕ) (round : GoesRound m u) (is : new ≡ flips 4 m u) where
    but_anchors : new ≡ record m { vertex_anchors = (flips 4 m u).vertex_anchors; face_anchors = (flips 4 m u).face_anchors }
    but_anchors = is ∙ round.same

    of_old_shape : (P : Mesh Point DE UE F → Type 0) → P (record m { vertex_anchors = (flips 4 m u).vertex_anchors; face_anchors = (flips 4 m u).face_anchors }) → P new
    of_old_shape P holds = subst P (sym but_anchors) holds

    -- whatever more is listed
    pub round_sound : (stays : UE → Bool) (due items more : List ℕ) → items ≡ due ++ more → IsTriangleMesh m → LeavesLegal stays m new due items
    round_sound stays due items more listed sound =
        subst (λ (l : List ℕ). LeavesLegal stays m new due l) (sym listed)
        (of_old_shape (λ k. LeavesLegal stays m k due (due ++ more)) (record {
          triangulated = record { closed = sound.closed; joined = sound.joined; triangles = sound.triangles; plane = sound.plane };
          listed = λ lists w is.
              (let found = lists w (record { inner = is.inner; circled = is.circled; loose = is.loose }) in let c = count-append w due more in omega (arith, found, c));
        }))

    pub round_staying : (stays : UE → Bool) → KeepsStaying stays m new
    round_staying stays = of_old_shape (λ k. KeepsStaying stays m k) (λ a b. (
      λ was. (was.0, record { live = was.1.live; start = was.1.start; end = was.1.end }, was.2),
      λ is. (is.0, record { live = is.1.live; start = is.1.start; end = is.1.end }, is.2),
    ))

    pub round_hull : HasHull m → HasHull new
    round_hull has = of_old_shape (λ k. HasHull k) (record { inner = has.inner; convex = has.convex; hull = has.hull })

  module _ (stays : UE → Bool) (m : Mesh Point DE UE F) (mesh : IsMesh m) (due : List ℕ) (sound : IsTriangleMesh m) (v h : ℕ) (corner : IsHullCorner m v h) where
    abbrev s : Shape
    s = m.shape

    start : origin_of m.shape h ≡ v
    start = corner.outside.start

    none : (e : ℕ) → IsOutEdge m.shape (origin_of m.shape h) e → ¬ CanFlipInPlane (point_at m) m.shape (e / 2)
    none e out = corner.none e (record { live = out.live; start = out.start ∙ start })

    some : (g : ℕ) × IsLive m.shape g × (0 < face_of m.shape g)
    some = inner_half m mesh sound.closed corner.hull.inner

    pub corner_around : IsStripAround m.shape v h
    corner_around =
        let (g, live, inner) = some in
        subst (λ (k : ℕ). IsStripAround s k h) start
        (corner_strip m mesh sound.triangles (point_at m) sound.plane corner.hull.convex corner.hull.hull h corner.outside.live corner.outside.outer g live inner)

    module _ (turn : ¬ LiesFlat m h) (after : IsMesh (strip_cut m (strip_of m.shape h))) where
      abbrev cut : Mesh Point DE UE F
      cut = strip_cut m (strip_of m.shape h)

      hollow : IsHollow (point_at m v) (λ i. point_at m (end_of m.shape (turns (ccw_of m.shape) (suc i) h))) (length (walk_of m.shape (ccw_of m.shape) h) - 1)
      hollow =
          let (g, live, inner) = some in
          subst (λ (k : ℕ). IsHollow (point_at m k) (λ i. point_at m (end_of m.shape (turns (ccw_of m.shape) (suc i) h))) (length (walk_of m.shape (ccw_of m.shape) h) - 1)) start
          (corner_hollow m mesh sound.triangles (point_at m) sound.plane corner.hull.convex corner.hull.hull h corner.outside.live corner.outside.outer none g live inner turn)

      abbrev list : List ℕ
      list = strip_of m.shape h

      abbrev own : IsEdgeStrip m.shape (strip_of m.shape h)
      own = record { vertex = v; half = h; around = corner_around; is = refl }

      each_face : (f : ℕ) → f < face_count (cleaned_up cut).shape → face_is_live (cleaned_up cut).shape f ≡ true
      unfolding gives_up_face
      each_face f below = is_live-from (gives_up_face (cleaned_up cut).shape.removal) (face_count (cleaned_up cut).shape) f below refl

      -- a triangle is left, or none
      left : HasOutline cut ⊎ IsStrung cut
      left =
          let clean = cleaned_up-mesh cut after in
          let (g, live, inner) = some in
          elim (cases_lt 1 (face_count (cleaned_up cut).shape)) [
            | inl more ↦
                let (i, live_i, inner_i) = half_where (cleaned_up cut) clean each_face more in
                let (j, live_j, inner_j) = cleanup_was_inner cut after clean i live_i inner_i in
                inl (record {
                  inner = more;
                  convex = hollow_convex m mesh sound.closed list own (point_at m) sound.triangles sound.plane corner.hull.convex corner.hull.hull hollow;
                  hull = hollow_outline m mesh sound.closed list own (point_at m) sound.triangles sound.plane corner.hull.convex corner.hull.hull hollow j live_j inner_j;
                })
            | inr few ↦
                let bare : (x : ℕ) → IsLive cut.shape x → face_of cut.shape x ≡ 0 = λ x live_x. elim (eq-zero-or-pos (face_of cut.shape x)) [
                  | inl outside ↦ outside
                  | inr inside ↦ absurd (let more = cleanup_inner cut after clean x live_x inside in omega (arith, few, more))
                ] in
                inr (record {
                  none = bare;
                  straight =
                      hollow_strung m mesh sound.closed list own (point_at m) sound.triangles sound.plane corner.hull.convex corner.hull.hull hollow g live inner bare;
                })
          ]

      hollow_given : {A : Type 0} (out : IsolateVertexResult A) → HasOpened (strip_edges m.shape (strip_of m.shape h)) (strip_faces m.shape (strip_of m.shape h)) [] 0 out
          → IsGivenUp stays m (strip_cut m (strip_of m.shape h)) v due due out
      hollow_given out has =
          given_up m mesh sound.closed sound.triangles (sound.joined.euler (live_vertices m mesh h corner.outside.live)) v h corner_around after due stays out has
          (cut_plane m mesh sound.closed list own (point_at m) sound.plane) (cut_loose stays m mesh sound.closed list own due) left

    -- the same of the call
    pub hollow_gone : {A : Type 0} (new : Mesh Point DE UE F) (out : IsolateVertexResult A) → ¬ LiesFlat m h → CutsOff m new h out → IsGivenUp stays m new v due due out
    hollow_gone new out turn cut =
        subst (λ (k : Mesh Point DE UE F). IsGivenUp stays m k v due due out) (sym cut.is)
        (hollow_given turn (subst (λ (k : Mesh Point DE UE F). IsMesh k) cut.is cut.mesh) out cut.answer)

    -- a corner between its neighbors, by a flip
    module _ (flat : LiesFlat m h) where
      abbrev u : ℕ
      u = turns (ccw_of m.shape) 2 h / 2

      abbrev turned : Mesh Point DE UE F
      turned = edge_flipped m (turns (ccw_of m.shape) 2 h / 2)

      lies : LiesOnHull (point_at m (origin_of m.shape h)) (λ i. point_at m (end_of m.shape (turns (ccw_of m.shape) (suc i) h))) (length (walk_of m.shape (ccw_of m.shape) h) - 1)
      lies =
          let (g, live, inner) = some in
          corner_lies m mesh sound.triangles (point_at m) sound.plane corner.hull.convex corner.hull.hull h corner.outside.live corner.outside.outer none g live inner flat

      pub can_flip : CanFlip m.shape (turns (ccw_of m.shape) 2 h / 2)
      can_flip = flattening.can m mesh sound.triangles (point_at m) sound.plane corner.hull.convex corner.hull.hull h corner.outside.live corner.outside.outer lies

      inner_u : 0 < face_of m.shape (2 * (turns (ccw_of m.shape) 2 h / 2))
      inner_u = flattening.inner m mesh sound.triangles (point_at m) sound.plane corner.hull.convex corner.hull.hull h corner.outside.live corner.outside.outer lies

      facing_u : 0 < face_of m.shape (2 * (turns (ccw_of m.shape) 2 h / 2) + 1)
      facing_u = flattening.inner_facing m mesh sound.triangles (point_at m) sound.plane corner.hull.convex corner.hull.hull h corner.outside.live corner.outside.outer lies

      flattened : IsFlattened (point_at m) (edge_flipped m (turns (ccw_of m.shape) 2 h / 2)).shape v h
      flattened =
          subst (λ (k : ℕ). IsFlattened (point_at m) turned.shape k h) start
          (flattening.flattened m mesh sound.triangles (point_at m) sound.plane corner.hull.convex corner.hull.hull h corner.outside.live corner.outside.outer lies)

      pub goes_round : GoesRound m (turns (ccw_of m.shape) 2 h / 2)
      goes_round = four_flips m mesh u can_flip

      mesh_after : IsMesh (edge_flipped m (turns (ccw_of m.shape) 2 h / 2))
      mesh_after = flipped_mesh m u mesh can_flip

      triangles_after : AllTriangles (edge_flipped m (turns (ccw_of m.shape) 2 h / 2)).shape
      triangles_after = flipped m sound.triangles u

      module _ (after : IsMesh (strip_cut (edge_flipped m (turns (ccw_of m.shape) 2 h / 2)) (strip_of (edge_flipped m (turns (ccw_of m.shape) 2 h / 2)).shape h))) where
        abbrev rest : List ℕ
        rest = strip_of (edge_flipped m (turns (ccw_of m.shape) 2 h / 2)).shape h

        abbrev cut_after : Mesh Point DE UE F
        cut_after = strip_cut (edge_flipped m (turns (ccw_of m.shape) 2 h / 2)) (strip_of (edge_flipped m (turns (ccw_of m.shape) 2 h / 2)).shape h)

        abbrev own_after : IsEdgeStrip (edge_flipped m (turns (ccw_of m.shape) 2 h / 2)).shape (strip_of (edge_flipped m (turns (ccw_of m.shape) 2 h / 2)).shape h)
        own_after = record { vertex = v; half = h; around = flattened.around; is = refl }

        convex_after : IsConvex (point_at m) turned.shape
        convex_after = flip_keeps_convex m mesh u can_flip (point_at m) inner_u facing_u corner.hull.convex

        hull_after : IsHull (point_at m) turned.shape
        hull_after = flip_keeps_hull m mesh u can_flip (point_at m) inner_u facing_u corner.hull.hull

        -- two triangles were there, and one is gone
        more : 1 < face_count (cleaned_up cut_after).shape
        more =
            let given = strip_given_up turned mesh_after rest own_after in
            let clean = cleaned_is cut_after after in
            let gone = ap (λ r. length (faces_down r)) given.removal ∙ length-reverse (ascending (strip_faces turned.shape rest)) in
            let one = given.one_more in
            let edges = given.edges in
            let two = flattened.two in
            let many = flattened.many in
            let same = given.faces in
            let faces = clean.faces in
            left_of (face_count cut_after.shape) (face_count turned.shape) (length (faces_down cut_after.shape.removal)) _ _ _ (face_count (cleaned_up cut_after).shape) faces gone one edges two many same
          where
            left_of : (n f d k e w c : ℕ) → c ≡ n - d → d ≡ k → e ≡ k + 1 → e ≡ w → w ≡ 2 → 3 ≤ f → n ≡ f → 1 < c
            left_of n f d k e w c is down one edges two many same = omega (arith, is, down, one, edges, two, many, same)

        flat_given : {A : Type 0} (out : IsolateVertexResult A) → HasOpened (strip_edges turned.shape rest) (strip_faces turned.shape rest) [] 0 out
            → IsGivenUp stays turned cut_after v ((due ++ u ∷ []) ++ sides_beside m.shape u) ((due ++ u ∷ []) ++ sides_beside m.shape u) out
        flat_given out has =
            given_up turned mesh_after sound.closed triangles_after ((flipped_joined m u sound.joined).euler (live_vertices m mesh h corner.outside.live)) v h flattened.around after
            ((due ++ u ∷ []) ++ sides_beside m.shape u) stays out has
            (cut_plane_but turned mesh_after sound.closed rest own_after (point_at m) flattened.but)
            (cut_loose stays turned mesh_after sound.closed rest own_after ((due ++ u ∷ []) ++ sides_beside m.shape u))
            (inl (record {
              inner = more;
              convex = flat_corner_convex turned mesh_after sound.closed rest own_after (point_at m) triangles_after convex_after hull_after flattened.two flattened.flat;
              hull = flat_corner_hull turned mesh_after sound.closed rest own_after (point_at m) triangles_after convex_after hull_after flattened.two flattened.flat;
            }))

      -- the flipped edge is one of v
      loose_u : ¬ HasConstraintAt stays m v → ¬ HasToStay stays m (turns (ccw_of m.shape) 2 h / 2)
      loose_u loose stay =
          let live = corner.outside.live in
          let next = ccw_of m.shape h in
          let once = rev_live (map_of m.shape) (prev_of m.shape h) (prev-live mesh.sound h live) in
          let out : IsOutEdge m.shape v (turns (ccw_of m.shape) 2 h) = record {
            live = rev_live (map_of m.shape) (prev_of m.shape next) (prev-live mesh.sound next once);
            start = ends_before m mesh next once ∙ ends_before m mesh h live ∙ start;
          } in
          loose (turns (ccw_of m.shape) 2 h, out, stay)

      pub flat_gone : {A : Type 0} → ¬ HasConstraintAt stays m v → (mid new : Mesh Point DE UE F) (out : IsolateVertexResult A) (items : List ℕ) → mid ≡ edge_flipped m (turns (ccw_of m.shape) 2 h / 2)
          → items ≡ (due ++ (turns (ccw_of m.shape) 2 h / 2) ∷ []) ++ sides_beside m.shape (turns (ccw_of m.shape) 2 h / 2) → CutsOff mid new h out → IsGivenUp stays m new v due items out
      flat_gone loose mid new out items is listed cut_mid =
          let cut_turned : CutsOff turned new h out = subst (λ (k : Mesh Point DE UE F). CutsOff k new h out) is cut_mid in
          subst (λ (l : List ℕ). IsGivenUp stays m new v due l out) (sym listed)
          (of_old stays m turned new v due ((due ++ u ∷ []) ++ sides_beside m.shape u) ((due ++ u ∷ []) ++ sides_beside m.shape u) out refl refl (flip_staying stays m u (loose_u loose))
          (flip_listed stays m mesh u can_flip due)
          (subst (λ (k : Mesh Point DE UE F). IsGivenUp stays turned k v ((due ++ u ∷ []) ++ sides_beside m.shape u) ((due ++ u ∷ []) ++ sides_beside m.shape u) out) (sym cut_turned.is)
          (flat_given (subst (λ (k : Mesh Point DE UE F). IsMesh k) cut_turned.is cut_turned.mesh) out cut_turned.answer)))

      -- the flip, as the calls make it
      module _ (mid : Mesh Point DE UE F) (edge : ℕ) (is_edge : edge ≡ turns (ccw_of m.shape) 2 h / 2) (flip : mid ≡ edge_flipped m edge) where
        at_mid : mid ≡ edge_flipped m (turns (ccw_of m.shape) 2 h / 2)
        at_mid = flip ∙ ap (edge_flipped m) is_edge

        pub mid_around : IsStripAround mid.shape v h
        mid_around = subst (λ (k : Mesh Point DE UE F). IsStripAround k.shape v h) (sym at_mid) flattened.around

        pub mid_gone : {A : Type 0} → ¬ HasConstraintAt stays m v → (new : Mesh Point DE UE F) (out : IsolateVertexResult A) (items : List ℕ) → items ≡ (due ++ edge ∷ []) ++ sides_beside m.shape edge
            → CutsOff mid new h out → IsGivenUp stays m new v due items out
        mid_gone loose new out items listed =
            flat_gone loose mid new out items at_mid (listed ∙ ap (λ (k : ℕ). (due ++ k ∷ []) ++ sides_beside m.shape k) is_edge)

        -- and back
        module _ (k : Mesh Point DE UE F) (same_mid : k ≡ mid) where
          pub back_first : CanFlip k.shape edge
          back_first =
              subst (λ (j : ℕ). CanFlip k.shape j) (sym is_edge) (subst (λ (n : Mesh Point DE UE F). CanFlip n.shape u) (sym (same_mid ∙ at_mid)) goes_round.second)

          pub back_second : CanFlip (flips 1 k edge).shape edge
          back_second =
              subst (λ (j : ℕ). CanFlip (flips 1 k j).shape j) (sym is_edge)
              (subst (λ (n : Mesh Point DE UE F). CanFlip (flips 1 n u).shape u) (sym (same_mid ∙ at_mid)) goes_round.third)

          pub back_third : CanFlip (flips 2 k edge).shape edge
          back_third =
              subst (λ (j : ℕ). CanFlip (flips 2 k j).shape j) (sym is_edge)
              (subst (λ (n : Mesh Point DE UE F). CanFlip (flips 2 n u).shape u) (sym (same_mid ∙ at_mid)) goes_round.fourth)

          module _ (new : Mesh Point DE UE F) (back : new ≡ flips 3 k edge) where
            all_four : new ≡ flips 4 m (turns (ccw_of m.shape) 2 h / 2)
            all_four = back ∙ ap (λ (n : Mesh Point DE UE F). flips 3 n edge) (same_mid ∙ at_mid) ∙ ap (λ (j : ℕ). flips 3 turned j) is_edge

            pub back_sound : (items : List ℕ) → items ≡ (due ++ edge ∷ []) ++ sides_beside m.shape edge → LeavesLegal stays m new due items
            back_sound items listed =
                round_sound m new u goes_round all_four stays due items ((edge ∷ []) ++ sides_beside m.shape edge) (listed ∙ simp append_assoc) sound

            pub back_staying : KeepsStaying stays m new
            back_staying = round_staying m new u goes_round all_four stays

            pub back_hull : HasHull new
            back_hull = round_hull m new u goes_round all_four corner.hull

-- what the calls return
module _ {DE UE F A E : Type 0} where
  pub cut_from : (r : Result (IsolateVertexResult A) E) (old new : Mesh Point DE UE F) (h : ℕ) (items : List ℕ) → items ≡ strip_of old.shape h → IsMesh new
      → OnOk r (new ≡ strip_cut old items) → IfOk r (HasOpened (strip_edges old.shape items) (strip_faces old.shape items) [] 0) → IfOk r (CutsOff old new h)
  cut_from (Ok out) old new h items is mesh edit answer = record {
    mesh = mesh;
    is = edit ∙ ap (strip_cut old) is;
    answer = subst (λ (l : List ℕ). HasOpened (strip_edges old.shape l) (strip_faces old.shape l) [] 0 out) is answer;
  }
  cut_from (Err e) old new h items is mesh edit answer = tt

  module _ (stays : UE → Bool) (m : Mesh Point DE UE F) (mesh : IsMesh m) (due : List ℕ) (sound : IsTriangleMesh m) (v h : ℕ) (corner : IsHullCorner m v h) where
    pub cut_given : (r : Result (IsolateVertexResult A) E) (new : Mesh Point DE UE F) → ¬ LiesFlat m h → IfOk r (CutsOff m new h) → IfOk r (IsGivenUp stays m new v due due)
    cut_given (Ok out) new turn given = hollow_gone stays m mesh due sound v h corner new out turn given
    cut_given (Err e) new turn given = tt

  pub not_cut : (P : Mesh Point DE UE F → Type 0) (r : Result (IsolateVertexResult A) E) (m new : Mesh Point DE UE F) → OnErr r (new ≡ m) → P m → OnErr r (P new)
  not_cut P (Ok out) m new is holds = tt
  not_cut P (Err e) m new is holds = subst P (sym is) holds
