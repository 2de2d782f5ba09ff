-- `insert B F`: the vertex goes into the inner face, joined to its three corners.
use Rattle.std.specs.Prelude.{◌≡◌, ℕ, true, [], ◌∷◌, codes}
use Rattle.dcel_commands.specs.declared.commands.reply.Handed.TheVariants.{Nothing}
use Rattle.dcel_commands.specs.Responses.{Vertex}
use Rattle.dcel_commands.specs.declared.refusal.Refusal.TheVariants.{NoSuchVertex, NoSuchFace, GivenUp, VertexInUse, NotTriangle, NoRoom}
use Rattle.dcel_commands.specs.Conditions.{VertexInRange, InnerFaceInRange, VertexLive, FaceLive, Unconnected, ThreeHalves, RoomFor}
use Rattle.dcel_commands.specs.Grammar.{Number}
use Rattle.dcel_commands.specs.Rules.{CommandRule}
use Rattle.dcel_maps.specs.EditLists.EditKind.{ear_cut, spur_added}
use Rattle.dcel_maps.specs.edits.DefaultData.{AddsEdgesAndFaces}
use Rattle.dcel_maps.specs.edits.Triangle.{vertex_inserted}

abbrev pub insert : {V : Type 0} → ℕ → ℕ → CommandRule V
insert v f = record {
  word = codes "insert";
  given = Number v ∷ Number f ∷ [];
  asks = λ limit.
      (NoSuchVertex, VertexInRange v)
      ∷ (NoSuchFace, InnerFaceInRange f)
      ∷ (GivenUp, VertexLive v)
      ∷ (GivenUp, FaceLive f)
      ∷ (VertexInUse, Unconnected v)
      ∷ (NotTriangle, ThreeHalves f)
      ∷ (NoRoom, RoomFor limit 0 3 2)
      ∷ [];
  takes_memory = true;
  edits = λ m reply. spur_added ∷ ear_cut ∷ ear_cut ∷ [];
  handed = Nothing;
  Makes = λ is_half is_edge is_face old reply new. (reply ≡ Vertex v) × AddsEdgesAndFaces is_half is_edge is_face 3 2 new (vertex_inserted old v f);
}
