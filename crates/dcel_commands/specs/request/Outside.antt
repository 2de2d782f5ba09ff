-- `outside H B`: a triangle of H and vertex B, on the face of H.
use Rattle.std.specs.Prelude.{◌≡◌, ℕ, true, [], ◌∷◌, ◌++◌, codes}
use Rattle.dcel_commands.specs.declared.commands.reply.Handed.TheVariants.{Nothing}
use Rattle.dcel_commands.specs.declared.refusal.Refusal.TheVariants.{NoRoom}
use Rattle.dcel_commands.specs.Asking.{edge_and_vertex}
use Rattle.dcel_commands.specs.Conditions.{RoomFor}
use Rattle.dcel_commands.specs.Grammar.{Number}
use Rattle.dcel_commands.specs.Responses.{Vertex}
use Rattle.dcel_commands.specs.Rules.{CommandRule}
use Rattle.dcel_maps.specs.EditLists.EditKind.{ear_cut, spur_added}
use Rattle.dcel_maps.specs.edits.DefaultData.{AddsEdgesAndFaces}
use Rattle.dcel_maps.specs.edits.Outside.{face_put_beside}

abbrev pub outside : {V : Type 0} → ℕ → ℕ → CommandRule V
outside h b = record {
  word = codes "outside";
  given = Number h ∷ Number b ∷ [];
  asks = λ limit. edge_and_vertex h b ++ (NoRoom, RoomFor limit 0 2 1) ∷ [];
  takes_memory = true;
  edits = λ m reply. spur_added ∷ ear_cut ∷ [];
  handed = Nothing;
  Makes = λ is_half is_edge is_face old reply new. (reply ≡ Vertex b) × AddsEdgesAndFaces is_half is_edge is_face 2 1 new (face_put_beside old h b);
}
