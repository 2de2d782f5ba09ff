use Rattle.std.proofs.Common.{◌-◌}
use Rattle.dcel_maps.specs.Conditions.{HasRoom, IsLineEnd}
use Rattle.dcel_speed.proofs.workloads.extend_all.Given as goal

abbrev pub invariant-loop-index : goal.invariant-loop-index
invariant-loop-index g l =
    let left = l.size - l.index in
    record {
      line_end : IsLineEnd l.dcel.shape l.end;
      room : HasRoom l.dcel.shape left left 0;
    }
