use Rattle.std.proofs.Common.{suc, ◌≡◌, ℕ, ◌<◌, ◌==◌, drop, false, slice_index}
use Rattle.std.specs.List.{list_any}
use Rattle.dcel_record.proofs.given_up.names_none_twice.Given as goal

abbrev pub invariant-loop-index : goal.invariant-loop-index
invariant-loop-index g l = (i : ℕ) → i < l.index → list_any (λ other. other == slice_index l.fn.list i) (drop (suc i) l.fn.list) ≡ false
