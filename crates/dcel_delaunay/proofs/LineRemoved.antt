-- A vertex of a line removed: the others stand on it still.
use Rattle.std.proofs.Common.{◌≡◌, ◌≢◌, ap, inl, inr, unwrap_or, ℕ, ◌+◌, ◌-◌, ◌/◌, ◌<◌, ◌≤◌, ◌==◌, Bool, true, cond, Option, Some, None, slice_get, eq-eqb, refl, sym, ◌∙◌, subst, arith}
use Rattle.std.proofs.lemmas.Bool.{cases_eq, false≢true, ne_eqb}
use Rattle.std.proofs.lemmas.List.{get_or-set_other, length-map, length-set}
use Rattle.dcel_fixed.specs.HalfEdges.{rev}
use Rattle.dcel_fixed.proofs.Halves.{rev-half, rev-rev}
use Rattle.dcel_maps.specs.Degenerate.{CanRemoveDegenerate, IsPath}
use Rattle.dcel_maps.specs.edits.Degenerate.{going, path_given_up, removed_degenerate}
use Rattle.dcel_maps.specs.Removals.{Closed, gives_up_edge, gives_up_vertex}
use Rattle.dcel_maps.specs.Renumbered.{new_half}
use Rattle.dcel_maps.specs.Renumbering.{moved}
use Rattle.dcel_maps.specs.Shapes.{AnchorsVertex, IsMesh, Mesh, end_of, face_count, map_of, origin_of, out_edge_of, prev_of, vertex_anchor, vertex_is_live}
use Rattle.dcel_maps.specs.Walking.{IsOutEdge, Leads}
use Rattle.dcel_maps.proofs.Liveness.{closed-live, closed-vertex_live, is_live-from, is_live-parts}
use Rattle.dcel_maps.proofs.maps.Halves.{rev_or_same}
use Rattle.dcel_maps.proofs.maps.Soundness.{rev_live}
use Rattle.dcel_maps.proofs.removal.DegenerateLeft.{path_leaves_live}
use Rattle.dcel_maps.proofs.removal.DegenerateMeshes.{path_gone}
use Rattle.dcel_maps.proofs.removal.PathCuts.{gives_one_edge, gives_one_vertex}
use Rattle.dcel_maps.proofs.renumbering.Moves.{moved-back}
use Rattle.dcel_maps.proofs.Shown.{slice_index-shown_live}
use Rattle.dcel_maps.proofs.walks.Links.{prev-live}
use Rattle.dcel_predicates.specs.declared.point.Point.{Point}
use Rattle.dcel_plane.specs.Plane.{origin_point, point_at}
use Rattle.dcel_plane.proofs.covering.Triangles.{ends_before}
use Rattle.dcel_plane.proofs.removal.LinePaths.{line_few}
use Rattle.dcel_plane.proofs.removal.PathShortened.{degenerate_straight}
use Rattle.dcel_planar.specs.Growing.{IsFlat, IsJoined, IsTriangleMesh}
use Rattle.dcel_planar.specs.Legalization.{HasToStay}
use Rattle.dcel_delaunay.specs.Removing.{Loses}
use Rattle.dcel_delaunay.specs.Staying.{HasConstraintAt, KeepsOthersStaying, LosesNoneStaying, StaysBetween}
use Rattle.dcel_delaunay.specs.declared.removed.Removed.{Removed}
use Rattle.dcel_planar.proofs.Counting.{joined_all}
use Rattle.dcel_planar.proofs.Whole.{flat_triangulated}
use Rattle.dcel_delaunay.proofs.Staying.{leaves_staying, left_staying}

-- Euler's formula, with a vertex and an edge less
one_less : (v e vn en : ℕ) → v + 1 ≡ e + 2 → 1 < v → vn ≡ v - 1 → en ≡ e - 1 → vn + 1 ≡ en + 2
one_less v e vn en euler some vertices edges = omega (arith, euler, some, vertices, edges)

module _ {DE UE F : Type 0} (m : Mesh Point DE UE F) (mesh : IsMesh m) (sound : IsTriangleMesh m) (flat : IsFlat m) (v : ℕ) (below : v < m.shape.vertices) where
  abbrev n : Mesh Point DE UE F
  n = removed_degenerate m v

  -- each vertex of two or more has an edge
  out_of : 1 < m.shape.vertices → (w : ℕ) → w < m.shape.vertices → (k : ℕ) × IsOutEdge m.shape w k
  out_of many w within = by_anchor (vertex_anchor m w) (mesh.anchored.vertices w within)
    where
      by_anchor : (anchor : Option ℕ) → AnchorsVertex m.shape w anchor → (k : ℕ) × IsOutEdge m.shape w k
      by_anchor (Some h) anchored = (h, record { live = anchored.0; start = anchored.1 })
      by_anchor None bare =
          absurd (joined_all m mesh sound.closed sound.joined w many (record { live = closed-vertex_live m.shape sound.closed w within; bare = bare }))

  pub line_can_lose : CanRemoveDegenerate m.shape v
  line_can_lose = record {
    within = below;
    closed = sound.closed;
    shape = elim (cases_eq m.shape.vertices 1) [
      | inl one ↦ inl one
      | inr some ↦ inr (record {
        one_face = flat.alone;
        few = λ w within.
            (let (k, out) = out_of (omega (arith, within, some)) w within in
            line_few m mesh (point_at m) flat.straight w k out);
      })
    ];
  }

  module _ (after : IsMesh (removed_degenerate m v)) where
    vertices_after : (removed_degenerate m v).shape.vertices ≡ m.shape.vertices - 1
    vertices_after = elim (cases_eq m.shape.vertices 1) [ inl one ↦ rw (eq-eqb m.shape.vertices 1 one) refl | inr some ↦ rw (ne_eqb m.shape.vertices 1 some) refl ]

    edges_after : m.shape.vertices ≢ 1 → (removed_degenerate m v).shape.edges ≡ m.shape.edges - 1
    edges_after some = rw (ne_eqb m.shape.vertices 1 some) refl

    closed_after : (removed_degenerate m v).shape.removal ≡ Closed
    closed_after = elim (cases_eq m.shape.vertices 1) [ inl one ↦ rw (eq-eqb m.shape.vertices 1 one) refl | inr some ↦ rw (ne_eqb m.shape.vertices 1 some) refl ]

    alone_after : face_count (removed_degenerate m v).shape ≡ 1
    alone_after = elim (cases_eq m.shape.vertices 1) [
      | inl one ↦ rw (eq-eqb m.shape.vertices 1 one) flat.alone
      | inr some ↦ rw (ne_eqb m.shape.vertices 1 some) (length-map _ _ ∙ length-set m.shape.words 0 _ ∙ flat.alone)
    ]

    joined_after : IsJoined (removed_degenerate m v).shape
    joined_after = record {
      euler = λ some.
          (let count = vertices_after in
          let faces = alone_after in
          let not_one : m.shape.vertices ≢ 1 = λ one. omega (arith, some, count, one) in
          let many : 1 < m.shape.vertices = omega (arith, below, not_one) in
          let euler = sound.joined.euler (omega (arith, below)) in
          let before = flat.alone in
          let less = one_less m.shape.vertices m.shape.edges n.shape.vertices n.shape.edges (omega (arith, euler, before)) many count (edges_after not_one) in
          omega (arith, less, faces));
      empty = λ none. alone_after;
    }

    -- each other vertex stands where it stood
    stands : (w : ℕ) → w < m.shape.vertices → w ≢ v → point_at (removed_degenerate m v) (moved (m.shape.vertices - 1) v w) ≡ point_at m w
    stands w within other =
        let some : m.shape.vertices ≢ 1 = λ one. other (let b = below in omega (arith, one, within, b)) in
        let live : vertex_is_live (path_given_up m v).shape w ≡ true =
        is_live-from (gives_up_vertex (path_given_up m v).shape.removal) m.shape.vertices w within (gives_one_vertex (going m v / 2) v w ∙ ne_eqb v w (λ is. other (sym is))) in
        (path_leaves_live m v mesh line_can_lose some).vertex_datum w origin_point live

    line_flat : IsFlat (removed_degenerate m v)
    line_flat = record {
      alone = alone_after;
      straight = degenerate_straight m mesh v line_can_lose (point_at m) (point_at n) after stands flat.straight;
    }

    line_sound : IsTriangleMesh (removed_degenerate m v)
    line_sound = flat_triangulated n closed_after line_flat joined_after

    line_loses : (r : Removed) → slice_get m.vertex_data v ≡ Some r.point → r.moved ≡ cond (v == m.shape.vertices - 1) None (Some (m.shape.vertices - 1))
        → Loses m (removed_degenerate m v) v r
    line_loses r point renamed = record {
      within = below;
      vertices = (let count = vertices_after in omega (arith, count, below));
      point = point;
      renamed = renamed;
      others = stands;
    }

    module _ (stays : UE → Bool) (loose : ¬ HasConstraintAt stays m v) where
      -- with one vertex there is no edge
      none_alone : m.shape.vertices ≡ 1 → (k : Mesh Point DE UE F) → k.shape.edges ≤ m.shape.edges → (a b : ℕ) → ¬ StaysBetween stays k a b
      none_alone one k few a b given =
          let euler = sound.joined.euler (omega (arith, below)) in
          let faces = flat.alone in
          let within = (is_live-parts (gives_up_edge k.shape.removal) k.shape.edges (given.0 / 2) given.1.live).0 in
          omega (arith, euler, faces, one, few, within)

      edges_alone : m.shape.vertices ≡ 1 → (removed_degenerate m v).shape.edges ≡ m.shape.edges
      edges_alone one = rw (eq-eqb m.shape.vertices 1 one) refl

      -- else the path loses one edge of v, and the other half of the anchor starts elsewhere
      module _ (some : m.shape.vertices ≢ 1) where
        abbrev mid : Mesh Point DE UE F
        mid = path_given_up m v

        many : 1 < m.shape.vertices
        many = (let b = below in omega (arith, b, some))

        anchor : IsOutEdge m.shape v (out_edge_of m v)
        anchor = by_anchor (vertex_anchor m v) refl (mesh.anchored.vertices v below)
          where
            by_anchor : (o : Option ℕ) → vertex_anchor m v ≡ o → AnchorsVertex m.shape v o → IsOutEdge m.shape v (out_edge_of m v)
            by_anchor (Some h) is anchored =
                subst (λ (k : ℕ). IsOutEdge m.shape v k) (sym (ap (λ (o : Option ℕ). unwrap_or o 0) is)) (record { live = anchored.0; start = anchored.1 })
            by_anchor None is bare = absurd (joined_all m mesh sound.closed sound.joined v many (record { live = closed-vertex_live m.shape sound.closed v below; bare = bare }))

        gone : IsOutEdge m.shape v (going m v)
        gone =
            let a = out_edge_of m v in
            record {
              live = rev_live (map_of m.shape) (prev_of m.shape a) (prev-live mesh.sound a anchor.live);
              start = ends_before m mesh a anchor.live ∙ anchor.start;
            }

        off : (a b h k : ℕ) → a ≢ v → b ≢ v → Leads m.shape a b h → IsOutEdge m.shape v k → h / 2 ≢ k / 2
        off a b h k not_a not_b leads out is = elim (rev_or_same h k is) [
          | inl same ↦ not_a (sym leads.start ∙ ap (origin_of m.shape) same ∙ out.start)
          | inr same ↦ not_b (sym leads.end ∙ ap (λ (i : ℕ). origin_of m.shape (rev i)) same ∙ ap (origin_of m.shape) (rev-rev k) ∙ out.start)
        ]

        start_kept : (h : ℕ) → h / 2 ≢ going m v / 2 → h / 2 ≢ out_edge_of m v / 2 → origin_of mid.shape h ≡ origin_of m.shape h
        start_kept h not_gone not_anchor =
            slice_index-shown_live (gives_up_edge mid.shape.removal) _ h (gives_one_edge (going m v / 2) v (h / 2) ∙ ne_eqb (going m v / 2) (h / 2) (λ is. not_gone (sym is)))
            ∙ get_or-set_other m.shape.origins (out_edge_of m v) h (end_of m.shape (going m v)) 0 (λ is. not_anchor (ap (λ (k : ℕ). k / 2) is))

        other_half : (h k : ℕ) → h / 2 ≢ k → rev h / 2 ≢ k
        other_half h k differs is = differs (sym (rev-half h) ∙ is)

        path_staying : KeepsOthersStaying stays m (path_given_up m v) v
        path_staying a b not_a not_b = (
          λ was.
              (let h = was.0 in
              let leads = was.1 in
              let not_gone = off a b h (going m v) not_a not_b leads gone in
              let not_anchor = off a b h (out_edge_of m v) not_a not_b leads anchor in
              let within = (is_live-parts (gives_up_edge m.shape.removal) m.shape.edges (h / 2) leads.live).0 in (
                h,
                record {
                  live =
                      is_live-from (gives_up_edge mid.shape.removal) m.shape.edges (h / 2) within
                      (gives_one_edge (going m v / 2) v (h / 2) ∙ ne_eqb (going m v / 2) (h / 2) (λ is. not_gone (sym is)));
                  start = start_kept h not_gone not_anchor ∙ leads.start;
                  end = start_kept (rev h) (other_half h _ not_gone) (other_half h _ not_anchor) ∙ leads.end;
                },
                was.2,
              )),
          λ is.
              (let h = is.0 in
              let leads = is.1 in
              let parts = is_live-parts (gives_up_edge mid.shape.removal) m.shape.edges (h / 2) leads.live in
              let live = closed-live m.shape sound.closed (h / 2) parts.0 in
              let at : (k : ℕ) → IsOutEdge m.shape v k → h / 2 ≢ k / 2 =
              λ k out same.
              (let stay = subst (λ (i : ℕ). HasToStay stays m i) same is.2 in loose (k, out, stay)) in
              let not_gone = at (going m v) gone in
              let not_anchor = at (out_edge_of m v) anchor in (
                h,
                record {
                  live = live;
                  start = sym (start_kept h not_gone not_anchor) ∙ leads.start;
                  end = sym (start_kept (rev h) (other_half h _ not_gone) (other_half h _ not_anchor)) ∙ leads.end;
                },
                is.2,
              )),
        )

        path : IsPath m.shape
        path = elim line_can_lose.shape [ inl one ↦ absurd (some one) | inr is ↦ is ]

        left : IsMesh (path_given_up m v)
        left = (path_gone m v mesh line_can_lose path some).given_up

        vertex_kept : (w : ℕ) → vertex_is_live mid.shape w ≡ true → w ≢ v
        vertex_kept w live is =
            let parts = is_live-parts (gives_up_vertex mid.shape.removal) m.shape.vertices w live in
            false≢true (sym parts.1 ∙ gives_one_vertex (going m v / 2) v w ∙ eq-eqb v w (sym is))

        more_staying : LosesNoneStaying stays m (removed_degenerate m v) v
        more_staying a b not_a not_b =
            let last = m.shape.vertices - 1 in
            let leaves = path_leaves_live m v mesh line_can_lose some in
            let one : (w k : ℕ) → vertex_is_live mid.shape w ≡ true → k ≢ v → moved last v w ≡ moved last v k → w ≡ k =
            λ w k live not same. sym (moved-back last v w (vertex_kept w live)) ∙ ap (moved v last) same ∙ moved-back last v k not in (
              λ was.
                  leaves_staying stays mid n (new_half mid.shape) (moved last v) (λ f. f) leaves mesh.sized.undirected_data after.sized.undirected_data a b left
                  ((path_staying a b not_a not_b).0 was),
              λ is.
                  (path_staying a b not_a not_b).1
                  (left_staying stays mid n (new_half mid.shape) (moved last v) (λ f. f) leaves mesh.sized.undirected_data after.sized.undirected_data a b left
                  (λ w live same. one w a live not_a same) (λ w live same. one w b live not_b same) is),
            )

      line_staying : LosesNoneStaying stays m (removed_degenerate m v) v
      line_staying = elim (cases_eq m.shape.vertices 1) [
        | inr some ↦ more_staying some
        | inl one ↦ λ a b not_a not_b. (
          λ was. absurd (none_alone one m (omega arith) a b was),
          λ is. absurd (none_alone one n (let e = edges_alone one in omega (arith, e)) _ _ is),
        )
      ]

  -- the same of the call
  module _ (new : Mesh Point DE UE F) (is : new ≡ removed_degenerate m v) (after : IsMesh new) where
    done : IsMesh (removed_degenerate m v)
    done = subst (λ (k : Mesh Point DE UE F). IsMesh k) is after

    pub lost_flat : IsFlat new
    lost_flat = subst (λ (k : Mesh Point DE UE F). IsFlat k) (sym is) (line_flat done)

    pub lost_staying : (stays : UE → Bool) → ¬ HasConstraintAt stays m v → LosesNoneStaying stays m new v
    lost_staying stays loose = subst (λ (k : Mesh Point DE UE F). LosesNoneStaying stays m k v) (sym is) (line_staying done stays loose)

    pub lost_sound : IsTriangleMesh new
    lost_sound = subst (λ (k : Mesh Point DE UE F). IsTriangleMesh k) (sym is) (line_sound done)

    pub lost_vertex : (r : Removed) → slice_get m.vertex_data v ≡ Some r.point → r.moved ≡ cond (v == m.shape.vertices - 1) None (Some (m.shape.vertices - 1)) → Loses m new v r
    lost_vertex r point renamed = subst (λ (k : Mesh Point DE UE F). Loses m k v r) (sym is) (line_loses done r point renamed)
