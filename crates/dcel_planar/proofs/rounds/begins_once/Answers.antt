use Rattle.std.proofs.Common.{arith}
use Rattle.dcel_plane.specs.covering.Round.{Begins}
use Rattle.dcel_maps.proofs.Liveness.{closed-half_live}
use Rattle.dcel_plane.specs.Plane.{point_at}
use Rattle.dcel_planar.specs.Ways.{leads_to}
use Rattle.dcel_planar.proofs.Begun.{seen_none}
use Rattle.dcel_planar.proofs.rounds.begins_once.Goals as goal

pub loop-number-init : goal.loop-number-init
loop-number-init g c = record { seen = seen_none (Begins (leads_to c.args.way (point_at c.args.dcel.now) c.args.dcel.now.shape) c.args.dcel.now.shape) }

pub begins-requires : goal.begins-requires
begins-requires g c =
    let many = c.num_directed_edges-number-end.ensures.count in
    let more = c.loop-number-test.true in
    rw c.new.ensures (closed-half_live c.args.dcel.now.shape c.requires c.loop-number.number (omega arith))
