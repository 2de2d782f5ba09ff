-- `remesh H.. / U.. / F..`: what lies inside the ring goes, which are these edges and faces, and a vertex or none, and new triangles fill
-- the hole.
use Rattle.std.specs.Prelude.{◌≡◌, ℕ, ◌+◌, ◌-◌, true, List, [], ◌∷◌, ◌++◌, codes, length}
use Rattle.dcel_commands.specs.declared.commands.reply.Handed.TheVariants.{Nothing}
use Rattle.dcel_commands.specs.declared.refusal.Refusal.TheVariants.{NoSuchEdge, RemovalOpen, BadRing, NoRoom}
use Rattle.dcel_commands.specs.Asking.{edges_and_faces}
use Rattle.dcel_commands.specs.Conditions.{HalfEdgesInRange, NoneOpen, RingOf, RoomFor}
use Rattle.dcel_commands.specs.Grammar.{Slash, numbers}
use Rattle.dcel_commands.specs.Responses.{Opened}
use Rattle.dcel_commands.specs.Rules.{CommandRule}
use Rattle.dcel_maps.specs.EditLists.{filling}
use Rattle.dcel_maps.specs.edits.DefaultData.{AddsEdgesAndFaces}
use Rattle.dcel_maps.specs.edits.Fill.{ring_remeshed}
use Rattle.dcel_maps.specs.Numbers.{numbers_between}

abbrev pub remesh : {V : Type 0} → List ℕ → List ℕ → List ℕ → CommandRule V
remesh hs us fs = record {
  word = codes "remesh";
  given = numbers hs ++ Slash ∷ (numbers us ++ Slash ∷ numbers fs);
  asks = λ limit.
      (NoSuchEdge, HalfEdgesInRange hs)
      ∷ edges_and_faces us fs
      ++ (RemovalOpen, NoneOpen)
      ∷ (BadRing, RingOf hs us fs)
      ∷ (NoRoom, RoomFor limit 0 (length hs - 3) (length hs - 2))
      ∷ [];
  takes_memory = true;
  edits = λ m reply. filling hs us fs;
  handed = Nothing;
  Makes = λ is_half is_edge is_face old reply new.
      let m = old.shape.edges in
      (reply ≡ Opened us fs (numbers_between m (m + (length hs - 3))) m)
      × AddsEdgesAndFaces is_half is_edge is_face (length hs - 3) (length hs - 2) new (ring_remeshed old hs us fs);
}
