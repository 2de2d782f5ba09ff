-- `triangle D D D`: a mesh of one triangle in place of the old one.
use Rattle.std.specs.Prelude.{◌≡◌, true, [], ◌∷◌, codes}
use Rattle.dcel_commands.specs.declared.commands.reply.Handed.TheVariants.{Three}
use Rattle.dcel_commands.specs.Responses.{Done}
use Rattle.dcel_commands.specs.declared.refusal.Refusal.TheVariants.{NoRoom}
use Rattle.dcel_commands.specs.Conditions.{RoomForMesh}
use Rattle.dcel_commands.specs.Grammar.{Datum}
use Rattle.dcel_commands.specs.Rules.{CommandRule}
use Rattle.dcel_maps.specs.EditLists.EditKind.{ear_cut, emptied, first_edge, spur_added}
use Rattle.dcel_maps.specs.edits.DefaultData.{AddsEdgesAndFaces}
use Rattle.dcel_maps.specs.edits.Triangle.{triangle_alone}

abbrev pub triangle : {V : Type 0} → V → V → V → CommandRule V
triangle x y z = record {
  word = codes "triangle";
  given = Datum x ∷ Datum y ∷ Datum z ∷ [];
  asks = λ limit. (NoRoom, RoomForMesh limit 3 3 2) ∷ [];
  takes_memory = true;
  edits = λ m reply. emptied ∷ first_edge ∷ spur_added ∷ ear_cut ∷ [];
  handed = Three x y z;
  Makes = λ is_half is_edge is_face old reply new. (reply ≡ Done) × AddsEdgesAndFaces is_half is_edge is_face 3 2 new (triangle_alone (x, y, z));
}
