use Rattle.std.proofs.Common.{◌+◌, ◌≤◌, length, map, vec_capacity, vec_len}
use Rattle.std.specs.Vec.Iter.{into_iter_items}
use Rattle.dcel_commands.specs.Instructions.{instruction}
use Rattle.dcel_commands.specs.Responses.{response}
use Rattle.dcel_maps.specs.Shapes.{IsMesh}
use Rattle.dcel_commands.proofs.Runs.{IsUnderWay}
use Rattle.dcel_commands.proofs.commands.lists.apply_all.Given as goal

-- there is a place for each reply to come
abbrev pub invariant-loop-command : goal.invariant-loop-command
invariant-loop-command g l =
    let left = into_iter_items l.command-iterator in
    record {
      room : vec_len l.done + length left ≤ vec_capacity l.done;
      under_way : IsUnderWay g.DE.Default.is_default g.UE.Default.is_default g.F.Default.is_default l.limit l.fn.dcel (map instruction l.fn.commands.items) (map response l.done.items) (map instruction left) l.dcel;
      mesh : IsMesh l.dcel;
    }
