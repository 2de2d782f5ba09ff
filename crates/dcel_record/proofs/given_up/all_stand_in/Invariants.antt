use Rattle.std.proofs.Common.{◌≡◌, ℕ, ◌<◌, ◌==◌, slice_index, true}
use Rattle.std.specs.List.{list_any}
use Rattle.dcel_record.proofs.given_up.all_stand_in.Given as goal

abbrev pub invariant-loop-index : goal.invariant-loop-index
invariant-loop-index g l = (i : ℕ) → i < l.index → list_any (λ given_up. given_up == slice_index l.fn.list i) l.fn.ascending ≡ true
