-- `close H`: a face between H and the half edge after it on the outer face.
use Rattle.std.specs.Prelude.{◌≡◌, ℕ, ◌+◌, ◌*◌, true, [], ◌∷◌, codes}
use Rattle.dcel_commands.specs.declared.commands.reply.Handed.TheVariants.{Nothing}
use Rattle.dcel_commands.specs.Responses.{Half}
use Rattle.dcel_commands.specs.declared.refusal.Refusal.TheVariants.{NoSuchEdge, GivenUp, NotOuter, WouldLoop, NoRoom}
use Rattle.dcel_commands.specs.Conditions.{HalfEdgeInRange, HalfEdgeLive, OnOuterFace, ClosesOutside, RoomFor}
use Rattle.dcel_commands.specs.Grammar.{Number}
use Rattle.dcel_commands.specs.Rules.{CommandRule}
use Rattle.dcel_maps.specs.EditLists.EditKind.{ear_cut}
use Rattle.dcel_maps.specs.edits.DefaultData.{AddsEdgesAndFaces}
use Rattle.dcel_maps.specs.edits.Outside.{face_closed}

abbrev pub close : {V : Type 0} → ℕ → CommandRule V
close h = record {
  word = codes "close";
  given = Number h ∷ [];
  asks = λ limit.
      (NoSuchEdge, HalfEdgeInRange h)
      ∷ (GivenUp, HalfEdgeLive h)
      ∷ (NotOuter, OnOuterFace h)
      ∷ (WouldLoop, ClosesOutside h)
      ∷ (NoRoom, RoomFor limit 0 1 1)
      ∷ [];
  takes_memory = true;
  edits = λ m reply. ear_cut ∷ [];
  handed = Nothing;
  Makes = λ is_half is_edge is_face old reply new.
      (reply ≡ Half (2 * old.shape.edges + 1)) × AddsEdgesAndFaces is_half is_edge is_face 1 1 new (face_closed old h);
}
