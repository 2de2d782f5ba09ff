-- A vertex removed from a degenerate mesh. Whatever an edit doesn't name stays as it was.
use Rattle.std.specs.Prelude.{ℕ, ◌/◌, ◌==◌, List, [], ◌∷◌, map, cond, slice_set, Option, Some, None}
use Rattle.dcel_fixed.specs.HalfEdges.{rev}
use Rattle.dcel_maps.specs.Cyclic.{from_least}
use Rattle.dcel_maps.specs.Hiding.{kept_vertex_anchors}
use Rattle.dcel_maps.specs.Removals.{gives_up_edge, opened, shown}
use Rattle.dcel_maps.specs.Renumbering.{edge_taken_out, vertex_taken_out}
use Rattle.dcel_maps.specs.Shapes.{Mesh, Shape, end_of, next_of, out_edge_of}
use Rattle.dcel_maps.specs.Walking.{ccw_of}
use Rattle.dcel_maps.specs.Words.{become, word_of}

-- an anchor, but `other` where it is a half of the edge u
abbrev pub anchor_off : ℕ → Option ℕ → Option ℕ → Option ℕ
anchor_off u other None = None
anchor_off u other (Some h) = cond (h / 2 == u) other (Some h)

-- the outer word without the halves of the edge of b
abbrev pub word_without : Shape → ℕ → List ℕ
word_without s b = from_least (become (rev b) [] (become b [] (word_of s.words 0)))

module _ {V DE UE F : Type 0} where
  -- the out edge b of v whose edge goes: the one by `ccw` after the anchor of v, which is the anchor where there is no other
  abbrev pub going : Mesh V DE UE F → ℕ → ℕ
  going m v = ccw_of m.shape (out_edge_of m v)

  -- what a half of that edge becomes as an anchor: none with two vertices; at an end, the next half edge; else the other out edge of v
  abbrev pub anchor_instead : Mesh V DE UE F → ℕ → Option ℕ
  anchor_instead m v =
      let a = out_edge_of m v in
      cond (m.shape.vertices == 2) None (Some (cond (a == going m v) (next_of m.shape a) a))

  -- v and the edge are given up, and the anchor of v starts where b ended
  abbrev pub path_given_up : Mesh V DE UE F → ℕ → Mesh V DE UE F
  path_given_up m v =
      let s = m.shape in
      let b = going m v in
      let removal = opened (b / 2 ∷ []) [] v in
      record m {
        shape = record s {
          words = slice_set s.words 0 (word_without s b);
          origins = shown (gives_up_edge removal) (slice_set s.origins (out_edge_of m v) (end_of s b));
          removal = removal;
        };
        vertex_anchors = kept_vertex_anchors removal (map (anchor_off (b / 2) (anchor_instead m v)) m.vertex_anchors);
        face_anchors = map (anchor_off (b / 2) (anchor_instead m v)) m.face_anchors;
      }

  -- `remove_when_degenerate`: the only vertex is taken out, or an edge of a path and then v
  abbrev pub removed_degenerate : Mesh V DE UE F → ℕ → Mesh V DE UE F
  removed_degenerate m v =
      cond (m.shape.vertices == 1) (vertex_taken_out m v) (vertex_taken_out (edge_taken_out (path_given_up m v) (going m v / 2)) v)
