-- `remove_when_degenerate` leaves a mesh.
use Rattle.std.proofs.Common.{◌≡◌, ◌≢◌, inl, inr, ◌-◌, ◌/◌, ◌<◌, ℕ, true, false, eq-eqb, eqb-true, List, map, unwrap_or, Option, Some, None, sym, refl, ap, ◌∙◌, subst, arith}
use Rattle.std.proofs.lemmas.Bool.{both_ways, cases_eq, false≢true, ne_eqb}
use Rattle.std.proofs.lemmas.List.{get_or-map, get_or-set_other, length-map, length-set}
use Rattle.dcel_maps.specs.Degenerate.{CanRemoveDegenerate, IsPath}
use Rattle.dcel_maps.specs.edits.Degenerate.{anchor_instead, anchor_off, going, path_given_up}
use Rattle.dcel_maps.specs.Maps.{Map}
use Rattle.dcel_maps.specs.Removals.{gives_up_edge, gives_up_face, gives_up_vertex}
use Rattle.dcel_maps.specs.Renumbering.{edge_taken_out, half_of, moved, vertex_taken_out}
use Rattle.dcel_maps.specs.Shapes.{AnchorsVertex, AnchorsWord, IsAnchored, IsLive, IsMesh, IsSized, Mesh, Shape, edge_is_live, end_of, face_anchor, next_of, origin_of, out_edge_of, vertex_anchor}
use Rattle.dcel_maps.specs.Walking.{IsOutEdge}
use Rattle.dcel_maps.specs.Words.{count_of, word_of}
use Rattle.dcel_maps.proofs.Liveness.{gives_up_edge-closed, gives_up_face-closed, gives_up_vertex-closed}
use Rattle.dcel_maps.proofs.Shown.{length-shown}
use Rattle.dcel_maps.proofs.maps.Halves.{rev_half, rev_or_same}
use Rattle.dcel_maps.proofs.removal.Hiding.{hidden, length-hiding, not_hidden}
use Rattle.dcel_maps.proofs.removal.PathCuts.{IsLeft, after, count-without_other, edge_kept, faces_kept, gives_no_face, gives_one_edge, gives_one_vertex, left_none_at, left_sound, left_sphere, origin-after, removal, starts, word-after}
use Rattle.dcel_maps.proofs.removal.PathEdits.{IsStandIn, end_left, end_stands_in, nothing, nothing_left, nothing_stands_in}
use Rattle.dcel_maps.proofs.removal.PathMiddles.{middle_left, middle_stands_in}
use Rattle.dcel_maps.proofs.removal.Paths.{out_b}
use Rattle.dcel_maps.proofs.renumbering.Edges.{IsLastEdgeOut, edge-renamed}
use Rattle.dcel_maps.proofs.renumbering.Meshes.{edge_out-mesh, vertex_out-mesh}
use Rattle.dcel_maps.proofs.renumbering.Records.{without_edge-loses}
use Rattle.dcel_maps.proofs.renumbering.Vertices.{IsOnlyOut}
use Rattle.dcel_maps.proofs.shapes.Maps.{map-sound}

-- the anchor of a vertex where an edge starts is an out edge
anchored_out : (s : Shape) (v : ℕ) (o : Option ℕ) → AnchorsVertex s v o → (x : ℕ) → IsOutEdge s v x → IsOutEdge s v (unwrap_or o 0)
anchored_out s v None bare x out = absurd (bare x out.live out.start)
anchored_out s v (Some h) anchors x out = record { live = anchors.0; start = anchors.1 }

module _ {V DE UE F : Type 0} (m : Mesh V DE UE F) (v : ℕ) (mesh : IsMesh m) (can : CanRemoveDegenerate m.shape v) where
  abbrev s : Shape
  s = m.shape

  abbrev a : ℕ
  a = out_edge_of m v

  abbrev b : ℕ
  b = going m v

  abbrev u : ℕ
  u = going m v / 2

  -- one vertex alone
  pub alone : m.shape.vertices ≡ 1 → IsOnlyOut m.shape v
  alone one = record {
    below = can.within;
    bare = λ h live at.
        let t = map-sound mesh.sound in
        t.two_ends h live
        (omega (arith, t.below_vertices h live, t.below_vertices (next_of m.shape h) (t.live_next h live), t.origin-next h live, one));
    no_vertex = λ w given. absurd (false≢true (sym (ap (λ r. gives_up_vertex r w) can.closed ∙ gives_up_vertex-closed w) ∙ given));
    no_edge = λ w. ap (λ r. gives_up_edge r w) can.closed ∙ gives_up_edge-closed w;
    no_face = λ g. ap (λ r. gives_up_face r g) can.closed ∙ gives_up_face-closed g;
    origins = mesh.sized.origins;
  }

  module _ (path : IsPath m.shape) where
    pub path_out : IsOutEdge s v a
    path_out =
        let (h, k, pair) = path.few v can.within in
        anchored_out m.shape v (vertex_anchor m v) (mesh.anchored.vertices v can.within) h pair.first

    going_out : IsOutEdge s v b
    going_out = out_b m.shape mesh.sound mesh.sphere path v a can.within path_out

    abbrev t : Shape
    t = after m.shape v (out_edge_of m v) (going m v) can.closed path.one_face

    -- each stage of the removal of a vertex of a path is a mesh
    pub record PathGone : Type 0 where
      pub given_up : IsMesh (path_given_up m v)
      pub edge : IsLastEdgeOut (path_given_up m v).shape (going m v / 2)
      pub vertex : IsOnlyOut (edge_taken_out (path_given_up m v) (going m v / 2)).shape v
      pub gone : IsMesh (vertex_taken_out (edge_taken_out (path_given_up m v) (going m v / 2)) v)

    -- once it is known what is left, and what takes the place of an anchor
    module _ (M : Map) (r : Option ℕ) (left : IsLeft m.shape v (out_edge_of m v) (going m v) can.closed path.one_face M)
        (stand : IsStandIn t (end_of m.shape (going m v)) r) (is : anchor_instead m v ≡ r) where
      -- the anchor of another vertex
      vertex_stands : (w : ℕ) → w < s.vertices → w ≢ v → (o : Option ℕ) → AnchorsVertex s w o
          → AnchorsVertex t w (anchor_off u (anchor_instead m v) o)
      vertex_stands w below other None none =
          let (h, k, pair) = path.few w below in absurd (none h pair.first.live pair.first.start)
      vertex_stands w below other (Some x) anchors = elim (cases_eq (x / 2) u) [
        | inl same ↦ rw (eq-eqb (x / 2) u same, is) (elim (rev_or_same x b same) [
          | inl i ↦ absurd (other (sym anchors.1 ∙ ap (origin_of s) i ∙ going_out.start))
          | inr i ↦ subst (λ z. AnchorsVertex t z r) (sym (ap (origin_of s) i) ∙ anchors.1) stand.vertex
        ])
        | inr d ↦
            let live : IsLive t x = edge_kept m.shape v a b can.closed path.one_face (x / 2) d ∙ anchors.0 in
            rw (ne_eqb (x / 2) u d) (
              live,
              origin-after m.shape v a b can.closed path.one_face x live
                  ∙ get_or-set_other m.shape.origins a x (end_of m.shape b) 0 (λ i. other (sym anchors.1 ∙ ap (origin_of s) i ∙ path_out.start))
                  ∙ anchors.1,
            )
      ]

      -- the anchor of the outer face
      word_stands : (o : Option ℕ) → AnchorsWord (word_of s.words 0) o → AnchorsWord (word_of t.words 0) (anchor_off u (anchor_instead m v) o)
      word_stands None empty =
          let (h, k, pair) = path.few v can.within in
          absurd (both_ways (edge_is_live s (h / 2)) (mesh.sound.outer.0 empty (h / 2)) pair.first.live)
      word_stands (Some x) found = elim (cases_eq (x / 2) u) [
        | inl same ↦ rw (eq-eqb (x / 2) u same, is) stand.word
        | inr d ↦
            rw (ne_eqb (x / 2) u d)
            (omega (
              arith,
              found,
              ap (count_of x) (word-after m.shape v a b can.closed path.one_face),
              count-without_other m.shape b x (λ i. d (ap (λ z. z / 2) i)) (λ i. d (ap (λ z. z / 2) i ∙ rev_half b)),
            ))
      ]

      abbrev marked : List (Option ℕ)
      marked = map (anchor_off u (anchor_instead m v)) m.vertex_anchors

      is_anchored : IsAnchored (path_given_up m v)
      is_anchored = record {
        vertices = λ w below. elim (cases_eq v w) [
          | inl same ↦
              subst (AnchorsVertex t w)
              (sym (hidden (gives_up_vertex (removal m.shape v a b can.closed path.one_face)) None marked w
              (gives_one_vertex u v w ∙ eq-eqb v w same)))
              (λ h live at. left_none_at m.shape v a b can.closed path.one_face M left h live (at ∙ sym same))
          | inr other ↦
              subst (AnchorsVertex t w)
              (sym (not_hidden (gives_up_vertex (removal m.shape v a b can.closed path.one_face)) None marked w
              (gives_one_vertex u v w ∙ ne_eqb v w other)
              ∙ get_or-map (anchor_off u (anchor_instead m v)) m.vertex_anchors w None None (omega (arith, below, mesh.sized.vertex_anchors))))
              (vertex_stands w below (λ i. other (sym i)) (vertex_anchor m w) (mesh.anchored.vertices w below))
        ];
        faces = λ f below.
            let outer : 0 ≡ f = omega (arith, below, faces_kept m.shape v a b can.closed path.one_face, path.one_face) in
            subst (λ f. AnchorsWord (word_of t.words f) (face_anchor (path_given_up m v) f)) outer
            (subst (AnchorsWord (word_of t.words 0))
            (sym (get_or-map (anchor_off u (anchor_instead m v)) m.face_anchors 0 None None
            (omega (arith, mesh.sized.face_anchors, mesh.sized.outer))))
            (word_stands (face_anchor m 0) (mesh.anchored.faces 0 mesh.sized.outer)));
      }

      u_below : u < m.shape.edges
      u_below = (map-sound mesh.sound).below_edges b going_out.live

      given_edge : (w : ℕ) → gives_up_edge t.removal w ≡ true → w ≡ u
      given_edge w given = sym (eqb-true u w (sym (gives_one_edge u v w) ∙ given))

      given_vertex : (w : ℕ) → gives_up_vertex t.removal w ≡ true → w ≡ v
      given_vertex w given = sym (eqb-true v w (sym (gives_one_vertex u v w) ∙ given))

      is_sized : IsSized (path_given_up m v)
      is_sized =
          let sized = mesh.sized in
          let faces = faces_kept m.shape v a b can.closed path.one_face in
          record {
            vertex_data = sized.vertex_data;
            vertex_anchors =
                length-hiding (gives_up_vertex t.removal) None marked ∙ length-map m.vertex_anchors (anchor_off u (anchor_instead m v))
                ∙ sized.vertex_anchors;
            undirected_data = sized.undirected_data;
            directed_data = sized.directed_data;
            origins =
                length-shown (gives_up_edge t.removal) (starts m.shape v a b can.closed path.one_face)
                ∙ length-set m.shape.origins a (end_of m.shape b) ∙ sized.origins;
            face_data = sized.face_data ∙ sym faces;
            face_anchors = length-map m.face_anchors (anchor_off u (anchor_instead m v)) ∙ sized.face_anchors ∙ sym faces;
            outer = omega (arith, sized.outer, faces);
            few_vertices = sized.few_vertices;
            few_edges = sized.few_edges;
            few_faces = omega (arith, sized.few_faces, faces);
            within = record {
              vertices = λ w given. omega (arith, can.within, given_vertex w given);
              edges = λ w given. omega (arith, u_below, given_edge w given);
              faces = λ f given. absurd (false≢true (sym (gives_no_face u v f) ∙ given));
              in_order = ((λ y found. absurd (omega (arith, found)), tt), tt);
            };
          }

      given_up-mesh : IsMesh (path_given_up m v)
      given_up-mesh = record {
        sound = left_sound m.shape v a b can.closed path.one_face M left;
        sphere = left_sphere m.shape v a b can.closed path.one_face M left;
        anchored = is_anchored;
        sized = is_sized;
      }

      last_edge : IsLastEdgeOut t u
      last_edge = record {
        given = gives_one_edge u v u ∙ eq-eqb u u refl;
        largest = λ w given. omega (arith, given_edge w given);
        below = u_below;
        origins = is_sized.origins;
      }

      abbrev without : Mesh V DE UE F
      without = edge_taken_out (path_given_up m v) u

      without-mesh : IsMesh (edge_taken_out (path_given_up m v) u)
      without-mesh = edge_out-mesh (path_given_up m v) u given_up-mesh last_edge

      none_given : (w : ℕ) → gives_up_edge without.shape.removal w ≡ false
      none_given w = elim (cases_eq w u) [
        | inl same ↦ ap (gives_up_edge without.shape.removal) same ∙ (without_edge-loses t.removal u).gone
        | inr other ↦ (without_edge-loses t.removal u).rest w other ∙ gives_one_edge u v w ∙ ne_eqb u w (λ i. other (sym i))
      ]

      only_vertex : IsOnlyOut without.shape v
      only_vertex =
          let back = half_of (moved u (m.shape.edges - 1)) in
          let renamed = edge-renamed t u given_up-mesh.sound last_edge in
          record {
            below = can.within;
            bare = λ h live at.
                let was = renamed.comes h live in
                left_none_at m.shape v a b can.closed path.one_face M left (back h) was
                (sym (renamed.origin (back h) was) ∙ ap (origin_of without.shape) (renamed.back h live) ∙ at);
            no_vertex = λ w given. given_vertex w (sym ((without_edge-loses t.removal u).vertices w) ∙ given);
            no_edge = none_given;
            no_face = λ g. (without_edge-loses t.removal u).others g ∙ gives_no_face u v g;
            origins = without-mesh.sized.origins;
          }

      both_gone : PathGone
      both_gone = record { given_up = given_up-mesh; edge = last_edge; vertex = only_vertex; gone = vertex_out-mesh without v without-mesh only_vertex }

    -- a vertex of a path goes, with an edge
    pub path_gone : s.vertices ≢ 1 → PathGone
    path_gone some =
        let long = mesh.sized.origins in
        elim (cases_eq m.shape.vertices 2) [
          | inl few ↦
              both_gone (nothing m.shape mesh.sound mesh.sphere path can.closed long v a can.within path_out few) None
              (nothing_left m.shape mesh.sound mesh.sphere path can.closed long v a can.within path_out few)
              (nothing_stands_in m.shape mesh.sound mesh.sphere path can.closed long v a can.within path_out few)
              (rw (eq-eqb m.shape.vertices 2 few) refl)
          | inr more ↦
              let many : 2 < m.shape.vertices = omega (arith, can.within, some, more) in
              elim (cases_eq a b) [
                | inl one ↦
                    let (M, left) = end_left m.shape mesh.sound mesh.sphere path can.closed long v a can.within path_out many one in
                    both_gone M (Some (next_of m.shape a)) left
                    (end_stands_in m.shape mesh.sound mesh.sphere path can.closed long v a can.within path_out many one)
                    (rw (ne_eqb m.shape.vertices 2 more, eq-eqb a b one) refl)
                | inr other ↦
                    both_gone _ (Some a)
                    (middle_left m.shape mesh.sound mesh.sphere path can.closed long v a can.within path_out many other)
                    (middle_stands_in m.shape mesh.sound mesh.sphere path can.closed long v a can.within path_out many other)
                    (rw (ne_eqb m.shape.vertices 2 more, ne_eqb a b other) refl)
              ]
        ]
