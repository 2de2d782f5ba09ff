-- What is told of removals.
use Rattle.dcel_commands.specs.Responses.{Response, Opened, Removed}
use Rattle.dcel_record.specs.Record.{state_of}
use Rattle.dcel_record.specs.declared.RemovalState.{RemovalState}
use Rattle.dcel_record.specs.declared.RemovalState.TheVariants.{Closed, Isolated, Cleaned}
use Rattle.dcel_exports.specs.Answers.{filled}
use Rattle.dcel_c.specs.Calls.{nowhere}
use Rattle.dcel_c.specs.Held.{Kept}
use Rattle.dcel_c.specs.declared.removals.DcelOpened.{DcelOpened}
use Rattle.dcel_c.specs.declared.removals.DcelRemoved.{DcelRemoved}
use Rattle.std.specs.Prelude.{ℕ, List, [], Some, None, length, unwrap_or}

-- of a vertex that was taken out
abbrev pub removed_told : Response ℕ → DcelRemoved
removed_told (Removed datum moved) = record { datum = datum; moved = unwrap_or moved nowhere }
removed_told _ = record { datum = 0; moved = nowhere }

-- of a removal that was opened: the edges and the faces that are given up, and how many there are
abbrev pub edges_told : Response ℕ → List ℕ
edges_told (Opened es fs ns n) = es
edges_told _ = []

abbrev pub faces_told : Response ℕ → List ℕ
faces_told (Opened es fs ns n) = fs
faces_told _ = []

abbrev pub opened_told : Response ℕ → DcelOpened
opened_told (Opened es fs ns n) = record { edges = length es; faces = length fs; new_edges = length ns; smallest_new_edge = n }
opened_told _ = record { edges = 0; faces = 0; new_edges = 0; smallest_new_edge = 0 }

-- the same, with the lists in buffers, as much as fits
abbrev pub opened_with_lists : List ℕ → List ℕ → Response ℕ → DcelOpened × List ℕ × List ℕ
opened_with_lists edges faces reply = (opened_told reply, filled (edges_told reply) edges, filled (faces_told reply) faces)

-- how far a removal has come
abbrev pub stage_number : RemovalState → ℕ
stage_number Closed = 0
stage_number Isolated = 1
stage_number Cleaned = 2

abbrev pub state_in : Kept → ℕ
state_in None = 0
state_in (Some mesh) = stage_number (state_of mesh.shape.removal)
