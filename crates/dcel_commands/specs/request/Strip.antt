-- `strip H..`: the vertex whose strip this is goes, with its edges and the triangles round it.
use Rattle.std.specs.Prelude.{◌≡◌, ℕ, true, List, [], ◌∷◌, codes, length}
use Rattle.dcel_commands.specs.declared.commands.reply.Handed.TheVariants.{Nothing}
use Rattle.dcel_commands.specs.declared.refusal.Refusal.TheVariants.{NoSuchEdge, RemovalOpen, BadStrip}
use Rattle.dcel_commands.specs.Conditions.{HalfEdgesInRange, NoneOpen, StripOfVertex}
use Rattle.dcel_commands.specs.Grammar.{numbers}
use Rattle.dcel_commands.specs.Responses.{Opened}
use Rattle.dcel_commands.specs.Rules.{CommandRule}
use Rattle.dcel_maps.specs.EditLists.{vertex_cut_off}
use Rattle.dcel_maps.specs.edits.Strip.{strip_cut, strip_edges, strip_faces}

abbrev pub strip : {V : Type 0} → List ℕ → CommandRule V
strip hs = record {
  word = codes "strip";
  given = numbers hs;
  asks = λ limit.
      (NoSuchEdge, HalfEdgesInRange hs)
      ∷ (RemovalOpen, NoneOpen)
      ∷ (BadStrip, StripOfVertex hs)
      ∷ [];
  takes_memory = true;
  edits = λ m reply. vertex_cut_off (length hs);
  handed = Nothing;
  Makes = λ is_half is_edge is_face old reply new.
      (reply ≡ Opened (strip_edges old.shape hs) (strip_faces old.shape hs) [] 0) × (new ≡ strip_cut old hs);
}
