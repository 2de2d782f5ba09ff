-- What commands are answered: the numbers and data alone, in whatever memory a reply has its lists.
use Rattle.std.specs.Prelude.{ℕ, List, Option, Result, Ok, Err}
use Rattle.dcel_commands.specs.declared.commands.reply.Refused.{Refused}
use Rattle.dcel_commands.specs.declared.commands.reply.Reply.{Reply}
use Rattle.dcel_commands.specs.declared.commands.reply.Reply.TheVariants as replies
use Rattle.dcel_legalize.specs.declared.legalized.Legalized.{Legalized}

-- what a reply says. Of a removal that was opened, the edges and the faces that are given up, the new edges and the least number that
-- one can have; of a vertex that was taken out, its datum and the old number of the vertex that moved in; of edges that were flipped,
-- how many they were and how that ended
pub data Response (V : Type 0) : Type 0 where
  Done : Response V
  Vertex : ℕ → Response V
  Half : ℕ → Response V
  Halves : List ℕ → Response V
  Opened : List ℕ → List ℕ → List ℕ → ℕ → Response V
  Removed : V → Option ℕ → Response V
  Flips : Legalized → Response V

abbrev pub response : {V A : Type 0} → Reply V A → Response V
response replies.Ok = Done
response (replies.Vertex v) = Vertex v
response (replies.Half h) = Half h
response (replies.Halves hs) = Halves hs
response (replies.Opened opened) = Opened opened.edges_to_remove.items opened.faces_to_remove.items opened.new_edges.items opened.smallest_new_edge
response (replies.Removed removed) = Removed removed.removed_vertex removed.swapped_in_vertex
response (replies.Flips legalized) = Flips legalized

-- what the outcome of a command says
abbrev pub answered : {V A : Type 0} → Result (Reply V A) (Refused V) → Result (Response V) (Refused V)
answered (Ok reply) = Ok (response reply)
answered (Err refused) = Err refused
