-- `isolate V H..`: the vertex goes, with its edges and the triangles round it, and new triangles fill the hole inside the border.
use Rattle.std.specs.Prelude.{◌≡◌, ℕ, ◌+◌, ◌-◌, true, List, [], ◌∷◌, codes, length, ◌++◌}
use Rattle.dcel_commands.specs.declared.commands.reply.Handed.TheVariants.{Nothing}
use Rattle.dcel_commands.specs.declared.refusal.Refusal.TheVariants.{NoSuchVertex, NoSuchEdge, RemovalOpen, BadRing, NoRoom}
use Rattle.dcel_commands.specs.Conditions.{VertexInRange, HalfEdgesInRange, NoneOpen, BorderOf, RoomFor}
use Rattle.dcel_commands.specs.Grammar.{Number, numbers}
use Rattle.dcel_commands.specs.Responses.{Opened}
use Rattle.dcel_commands.specs.Rules.{CommandRule}
use Rattle.dcel_maps.specs.EditLists.{ears_cut, vertex_cut_off}
use Rattle.dcel_maps.specs.edits.DefaultData.{AddsEdgesAndFaces}
use Rattle.dcel_maps.specs.edits.Fill.{edges_at, faces_at, hole_filled}
use Rattle.dcel_maps.specs.Numbers.{numbers_between}

abbrev pub isolate : {V : Type 0} → ℕ → List ℕ → CommandRule V
isolate v hs = record {
  word = codes "isolate";
  given = Number v ∷ numbers hs;
  asks = λ limit.
      (NoSuchVertex, VertexInRange v)
      ∷ (NoSuchEdge, HalfEdgesInRange hs)
      ∷ (RemovalOpen, NoneOpen)
      ∷ (BadRing, BorderOf hs v)
      ∷ (NoRoom, RoomFor limit 0 (length hs - 3) (length hs - 2))
      ∷ [];
  takes_memory = true;
  edits = λ m reply. vertex_cut_off (length hs) ++ ears_cut (length hs);
  handed = Nothing;
  Makes = λ is_half is_edge is_face old reply new.
      let m = old.shape.edges in
      (reply ≡ Opened (edges_at old v) (faces_at old v) (numbers_between m (m + (length hs - 3))) m)
      × AddsEdgesAndFaces is_half is_edge is_face (length hs - 3) (length hs - 2) new (hole_filled old v hs);
}
