-- `flip U`: edge U is turned between the triangles at its sides, to join their other corners.
use Rattle.std.specs.Prelude.{◌≡◌, ℕ, ◌*◌, false, [], ◌∷◌, codes}
use Rattle.dcel_commands.specs.declared.commands.reply.Handed.TheVariants.{Nothing}
use Rattle.dcel_commands.specs.Responses.{Done}
use Rattle.dcel_commands.specs.declared.refusal.Refusal.TheVariants.{NoSuchEdge, GivenUp, NotTriangle, WouldLoop}
use Rattle.dcel_commands.specs.Conditions.{EdgeInRange, EdgeLive, OnTriangle, Flips}
use Rattle.dcel_commands.specs.Grammar.{Number}
use Rattle.dcel_commands.specs.Rules.{CommandRule}
use Rattle.dcel_fixed.specs.HalfEdges.{rev}
use Rattle.dcel_maps.specs.EditLists.EditKind.{ear_cut, words_joined}
use Rattle.dcel_maps.specs.edits.Flip.{edge_flipped}

abbrev pub flip : {V : Type 0} → ℕ → CommandRule V
flip u = record {
  word = codes "flip";
  given = Number u ∷ [];
  asks = λ limit.
      (NoSuchEdge, EdgeInRange u)
      ∷ (GivenUp, EdgeLive u)
      ∷ (NotTriangle, OnTriangle (2 * u))
      ∷ (NotTriangle, OnTriangle (rev (2 * u)))
      ∷ (WouldLoop, Flips u)
      ∷ [];
  takes_memory = false;
  edits = λ m reply. words_joined ∷ ear_cut ∷ [];
  handed = Nothing;
  Makes = λ is_half is_edge is_face old reply new. (reply ≡ Done) × (new ≡ edge_flipped old u);
}
