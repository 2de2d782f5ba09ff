-- `half H B`: vertex B comes into the middle of H's edge and is joined to the corner of the triangle that H lies on.
use Rattle.std.specs.Prelude.{◌≡◌, ℕ, ◌+◌, ◌*◌, true, [], ◌∷◌, ◌++◌, codes}
use Rattle.dcel_commands.specs.declared.commands.reply.Handed.TheVariants.{Nothing}
use Rattle.dcel_commands.specs.declared.refusal.Refusal.TheVariants.{NotTriangle, NoRoom}
use Rattle.dcel_commands.specs.Asking.{edge_and_vertex}
use Rattle.dcel_commands.specs.Conditions.{OnTriangle, RoomFor}
use Rattle.dcel_commands.specs.Grammar.{Number}
use Rattle.dcel_commands.specs.Responses.{Halves}
use Rattle.dcel_commands.specs.Rules.{CommandRule}
use Rattle.dcel_maps.specs.EditLists.EditKind.{ear_cut, edge_subdivided}
use Rattle.dcel_maps.specs.edits.DefaultData.{AddsEdgesAndFaces}
use Rattle.dcel_maps.specs.edits.Split.{half_edge_split}

abbrev pub half : {V : Type 0} → ℕ → ℕ → CommandRule V
half h b = record {
  word = codes "half";
  given = Number h ∷ Number b ∷ [];
  asks = λ limit.
      edge_and_vertex h b
      ++ (NotTriangle, OnTriangle h)
      ∷ (NoRoom, RoomFor limit 0 2 1)
      ∷ [];
  takes_memory = true;
  edits = λ m reply. edge_subdivided ∷ ear_cut ∷ [];
  handed = Nothing;
  Makes = λ is_half is_edge is_face old reply new.
      (reply ≡ Halves (h ∷ (2 * old.shape.edges + 2) ∷ [])) × AddsEdgesAndFaces is_half is_edge is_face 2 1 new (half_edge_split old h b);
}
