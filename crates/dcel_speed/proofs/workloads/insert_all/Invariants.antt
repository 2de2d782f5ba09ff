use Rattle.std.proofs.Common.{◌-◌, ◌*◌}
use Rattle.dcel_maps.specs.Conditions.{HasRoom}
use Rattle.dcel_speed.specs.Growth.{IsTriangulated}
use Rattle.dcel_speed.proofs.workloads.insert_all.Given as goal

abbrev pub invariant-loop-index : goal.invariant-loop-index
invariant-loop-index g l =
    let left = l.size - l.index in
    record {
      triangulated : IsTriangulated l.dcel.shape;
      room : HasRoom l.dcel.shape left (3 * left) (2 * left);
    }
