-- What putting a vertex into the middle of an edge leaves in the stored lists, and where it can be put.
use Rattle.std.specs.Prelude.{ℕ, ◌+◌, ◌*◌, ◌<◌, ◌^◌, List, [], ◌∷◌, ◌++◌, ◌==◌, cond, length, slice_index, slice_set, Some}
use Rattle.dcel_fixed.specs.HalfEdges.{rev}
use Rattle.dcel_store.specs.Lists.{Lists}
use Rattle.dcel_edits.specs.Adding.{adding_edges}

-- a number, but the new one for the old one
abbrev pub substitute : ℕ → ℕ → ℕ → ℕ
substitute old new x = cond (x == old) new x

module _ {V DE UE F : Type 0} where
  -- with t the other half of e, the new edge comes after e, and before t: 2m from the vertex `middle`, and 2m + 1 back
  abbrev pub middle_stored : Lists V DE UE F → ℕ → ℕ → List DE → List UE → Lists V DE UE F
  middle_stored s e middle halves edges =
      let n = 2 * length s.undirected_data in
      let t = rev e in
      let after = slice_index s.next e in
      let before = slice_index s.prev t in
      let end = slice_index s.origin t in
      let f = slice_index s.face e in
      record (adding_edges s 1 halves edges) {
        next = slice_set (slice_set s.next before (n + 1)) e n ++ substitute t (n + 1) after ∷ t ∷ [];
        prev = slice_set (slice_set s.prev after n) t (n + 1) ++ e ∷ substitute e n before ∷ [];
        origin = slice_set s.origin t middle ++ middle ∷ end ∷ [];
        face = s.face ++ f ∷ f ∷ [];
        vertex_anchors = slice_set (slice_set s.vertex_anchors end (Some (n + 1))) middle (Some n);
      }

  -- where a vertex can be put into an edge
  pub record CanSplit (s : Lists V DE UE F) (e middle : ℕ) : Type 0 where
    pub place : 0 < s.edge_room
    pub few : length s.undirected_data < 2 ^ 31
    pub edge_in : e < length s.next
    pub twin_in : rev e < length s.next
    pub after_in : slice_index s.next e < length s.next
    pub before_in : slice_index s.prev (rev e) < length s.next
    pub end_in : slice_index s.origin (rev e) < length s.vertex_anchors
    pub middle_in : middle < length s.vertex_anchors
