-- How commands are answered.
use Rattle.std.specs.Prelude.{ℕ, ℤ, List, [], ◌++◌, codes, Option, Some, None, Result, Ok, Err}
use Rattle.std.specs.Fmt.{signed_decimal}
use Rattle.dcel_commands.specs.declared.commands.reply.Handed.TheVariants.{Nothing}
use Rattle.dcel_commands.specs.declared.commands.reply.Refused.{Refused}
use Rattle.dcel_commands.specs.declared.refusal.Refusal.{Refusal}
use Rattle.dcel_commands.specs.Refusal.{refusal_text}
use Rattle.dcel_commands.specs.Responses.{Response, Done, Vertex, Half, Halves, Opened, Removed, Flips}
use Rattle.dcel_legalize.specs.Outcome.{flips_told}
use Rattle.dcel_legalize.specs.declared.legalized.Legalized.{Legalized}
use Rattle.dcel_legalize.specs.declared.legalized.Legalized.TheVariants as runs
use Rattle.dcel_text.specs.Texts.{ended, listed, numbered}

-- a refusal that hands nothing back
abbrev pub bare : {V : Type 0} → Refusal → Refused V
bare why = record { why = why; back = Nothing }

-- `vertex V`
abbrev pub vertex_text : ℕ → List ℕ
vertex_text v = ended (numbered (codes "vertex ") v)

-- `half H`
abbrev pub half_edge_text : ℕ → List ℕ
half_edge_text h = ended (numbered (codes "half ") h)

-- ` moved N` where the vertex N moved in
abbrev pub moved_text : Option ℕ → List ℕ
moved_text (Some n) = numbered (codes " moved ") n
moved_text None = []

-- what a removal has given up, and the edges that it has put in
abbrev pub opened_text : List ℕ → List ℕ → List ℕ → List ℕ
opened_text edges faces new_edges = ended (codes "opened edges" ++ listed edges ++ codes " faces" ++ listed faces ++ codes " new" ++ listed new_edges)

-- the datum of a vertex that was taken out, and the vertex that moved in
abbrev pub removed_text : ℤ → Option ℕ → List ℕ
removed_text datum moved = ended (codes "removed " ++ signed_decimal datum ++ moved_text moved)

-- how edges were flipped to the end, or to the limit, or as far as there was memory
abbrev pub ending_of : Legalized → List ℕ
ending_of (runs.Done n) = codes " done"
ending_of (runs.Stopped n) = codes " stopped"
ending_of (runs.OutOfMemory n) = codes " memory"

-- how many were, and that
abbrev pub flips_text : Legalized → List ℕ
flips_text legalized = ended (numbered (codes "flips ") (flips_told legalized) ++ ending_of legalized)

-- how a reply is written
abbrev pub reply_text : Response ℤ → List ℕ
reply_text Done = ended (codes "ok")
reply_text (Vertex v) = vertex_text v
reply_text (Half h) = half_edge_text h
reply_text (Halves hs) = ended (codes "halves" ++ listed hs)
reply_text (Opened edges faces new_edges smallest) = opened_text edges faces new_edges
reply_text (Removed datum moved) = removed_text datum moved
reply_text (Flips legalized) = flips_text legalized

-- how the outcome of a command is written
abbrev pub outcome_text : Result (Response ℤ) (Refused ℤ) → List ℕ
outcome_text (Ok reply) = reply_text reply
outcome_text (Err refused) = refusal_text refused.why
