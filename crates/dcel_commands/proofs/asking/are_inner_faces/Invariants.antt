use Rattle.std.proofs.Common.{ℕ, ◌<◌, get_or}
use Rattle.dcel_commands.proofs.asking.are_inner_faces.Given as goal

abbrev pub invariant-loop-face : goal.invariant-loop-face
invariant-loop-face l = (k d : ℕ) → k < l.face-index → (0 < get_or l.faces k d) × (get_or l.faces k d < l.count)
