-- What taking an element out leaves in the stored lists, and which can be taken out. The last element of its kind gets its number.
use Rattle.std.specs.Prelude.{◌≢◌, ℕ, ◌+◌, ◌-◌, ◌*◌, ◌<◌, ◌≤◌, ◌^◌, ◌==◌, List, [], ◌∷◌, cond, fold, length, slice_index, slice_index_or, slice_set, Option, Some, None}
use Rattle.dcel_fixed.specs.HalfEdges.{rev}
use Rattle.dcel_store.specs.declared.HalfEdgeLinks.{HalfEdgeLinks}
use Rattle.dcel_store.specs.Lists.{Lists}
use Rattle.dcel_maps.specs.Removals.{is_this}
use Rattle.dcel_maps.specs.Renumbering.{half_of, last_put, moved}
use Rattle.dcel_edits.specs.Rename.{CanTurn, turn_renamed}
use Rattle.dcel_edits.specs.Rounds.{AnchorComesBack, all_set, round_from}

-- the anchor k, where it was `old`, is `new`
abbrev pub anchor_renamed : List (Option ℕ) → ℕ → ℕ → ℕ → List (Option ℕ)
anchor_renamed anchors k old new = cond (is_this old (slice_index_or anchors k None)) (slice_set anchors k (Some new)) anchors

-- steps that are done one after another, where each can be done
abbrev pub CanDoAll : {S : Type 0} → (S → ℕ → S) → (S → ℕ → Type 0) → S → List ℕ → Type 0
CanDoAll step can s [] = Unit {0}
CanDoAll step can s (d ∷ ds) = can s d × CanDoAll step can (step s d) ds

module _ {V DE UE F : Type 0} where
  -- edge d is gone, and the last edge has come to its place; what names that still names it by its old number
  abbrev pub edge_dropped : Lists V DE UE F → ℕ → Lists V DE UE F
  edge_dropped s d = record s {
    next = last_put 2 s.next (2 * d);
    prev = last_put 2 s.prev (2 * d);
    origin = last_put 2 s.origin (2 * d);
    face = last_put 2 s.face (2 * d);
    directed_data = last_put 2 s.directed_data (2 * d);
    undirected_data = last_put 1 s.undirected_data d;
    edge_room = s.edge_room + 1;
  }

  -- the links of a half edge, where edge `last` has the number d
  abbrev pub links_moved : Lists V DE UE F → ℕ → ℕ → ℕ → HalfEdgeLinks
  links_moved s last d h = record {
    next = half_of (moved last d) (slice_index s.next h);
    prev = half_of (moved last d) (slice_index s.prev h);
    face = slice_index s.face h;
    origin = slice_index s.origin h;
  }

  -- the half edge with these links has a new number: its neighbors, and the anchors that named it, name the new one
  abbrev pub half_renamed : Lists V DE UE F → HalfEdgeLinks → ℕ → ℕ → Lists V DE UE F
  half_renamed s links old new = record s {
    next = slice_set s.next links.prev new;
    prev = slice_set s.prev links.next new;
    vertex_anchors = anchor_renamed s.vertex_anchors links.origin old new;
    face_anchors = anchor_renamed s.face_anchors links.face old new;
  }

  -- the last edge moves to place d
  abbrev pub edge_moved : Lists V DE UE F → ℕ → Lists V DE UE F
  edge_moved s d =
      let last = length s.undirected_data - 1 in
      half_renamed
      (half_renamed (edge_dropped s d) (links_moved s last d (2 * last)) (2 * last) (2 * d))
      (links_moved s last d (rev (2 * last))) (rev (2 * last)) (rev (2 * d))

  abbrev pub edge_out : Lists V DE UE F → ℕ → Lists V DE UE F
  edge_out s d = cond (d == length s.undirected_data - 1) (edge_dropped s d) (edge_moved s d)

  -- face d is gone, and the last face has come to its place
  abbrev pub face_dropped : Lists V DE UE F → ℕ → Lists V DE UE F
  face_dropped s d = record s {
    face_data = last_put 1 s.face_data d;
    face_anchors = last_put 1 s.face_anchors d;
    face_room = s.face_room + 1;
  }

  -- the half edges that the stored `next` leads through from the anchor of f on lie on f
  abbrev pub word_of_anchor : Lists V DE UE F → ℕ → List ℕ
  word_of_anchor s f = round_from (λ h. slice_index s.next h) (length s.next) (slice_index_or s.face_anchors f None)

  abbrev pub word_renamed : Lists V DE UE F → ℕ → Lists V DE UE F
  word_renamed s f = record s { face = all_set s.face (word_of_anchor s f) f }

  abbrev pub face_out : Lists V DE UE F → ℕ → Lists V DE UE F
  face_out s d = cond (d == length s.face_data - 1) (face_dropped s d) (word_renamed (face_dropped s d) d)

  -- vertex d is gone, and the last vertex has come to its place
  abbrev pub vertex_dropped : Lists V DE UE F → ℕ → Lists V DE UE F
  vertex_dropped s d = record s {
    vertex_data = last_put 1 s.vertex_data d;
    vertex_anchors = last_put 1 s.vertex_anchors d;
    vertex_room = s.vertex_room + 1;
  }

  abbrev pub vertex_out : Lists V DE UE F → ℕ → Lists V DE UE F
  vertex_out s d = cond (d == length s.vertex_data - 1) (vertex_dropped s d) (turn_renamed (vertex_dropped s d) d)

  -- where what names a half edge can be written
  pub record CanRename (s : Lists V DE UE F) (links : HalfEdgeLinks) : Type 0 where
    pub next_in : links.next < length s.next
    pub prev_in : links.prev < length s.next
    pub origin_in : links.origin < length s.vertex_anchors
    pub face_in : links.face < length s.face_anchors

  -- where a face's word can be written
  pub record CanWalk (s : Lists V DE UE F) (f : ℕ) : Type 0 where
    pub anchor_in : f < length s.face_anchors
    pub walks : AnchorComesBack (λ h. slice_index s.next h) (λ h. slice_index s.prev h) (length s.next) (slice_index_or s.face_anchors f None)

  -- where an edge, a face or a vertex can be taken out
  pub record CanLoseEdge (s : Lists V DE UE F) (d : ℕ) : Type 0 where
    pub few : length s.undirected_data ≤ 2 ^ 31
    pub edge_in : d < length s.undirected_data
    pub normalized : d ≢ length s.undirected_data - 1
        → CanRename (edge_dropped s d) (links_moved s (length s.undirected_data - 1) d (2 * (length s.undirected_data - 1)))
    pub reversed : d ≢ length s.undirected_data - 1
        → CanRename (edge_dropped s d) (links_moved s (length s.undirected_data - 1) d (rev (2 * (length s.undirected_data - 1))))

  pub record CanLoseFace (s : Lists V DE UE F) (d : ℕ) : Type 0 where
    pub few : length s.face_data ≤ 2 ^ 32
    pub face_in : d < length s.face_data
    pub walks : d ≢ length s.face_data - 1 → CanWalk (face_dropped s d) d

  pub record CanLoseVertex (s : Lists V DE UE F) (d : ℕ) : Type 0 where
    pub few : length s.vertex_data ≤ 2 ^ 32
    pub vertex_in : d < length s.vertex_data
    pub turns : d ≢ length s.vertex_data - 1 → CanTurn (vertex_dropped s d) d

  -- edges, or faces, taken out one after another
  abbrev pub edges_out : Lists V DE UE F → List ℕ → Lists V DE UE F
  edges_out s ds = fold edge_out s ds

  abbrev pub faces_out : Lists V DE UE F → List ℕ → Lists V DE UE F
  faces_out s ds = fold face_out s ds

  abbrev pub CanLoseEdges : Lists V DE UE F → List ℕ → Type 0
  CanLoseEdges s ds = CanDoAll edge_out CanLoseEdge s ds

  abbrev pub CanLoseFaces : Lists V DE UE F → List ℕ → Type 0
  CanLoseFaces s ds = CanDoAll face_out CanLoseFace s ds
