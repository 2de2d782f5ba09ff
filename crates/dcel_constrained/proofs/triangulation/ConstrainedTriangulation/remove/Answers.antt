use Rattle.std.proofs.Common.{arith}
use Rattle.dcel_planar.proofs.Recovered.{settled_outlined}
use Rattle.dcel_delaunay.proofs.Lost.{lost_before}
use Rattle.dcel_constrained.specs.Splitting.{StaysMarked}
use Rattle.dcel_constrained.proofs.Others.{freed_then, loses_still, lost_then, none_freed, vertices_same}
use Rattle.dcel_constrained.proofs.Taken.{settled_left, settled_loses, unsettled, unsettled_left}
use Rattle.dcel_constrained.proofs.triangulation.ConstrainedTriangulation.remove.Goals as goal

pub returns-in_default-clause-left : goal.returns-in_default-clause-left
returns-in_default-clause-left g c =
    let old = c.args.self.now.planar in
    let mid = c.finish.new.self.planar in
    none_freed old.dcel mid.dcel (record { keeps = c.finish.ensures.keeps; only = c.finish.ensures.only; points = c.finish.ensures.points }) c.every_mesh.ensures
    c.every_mesh-in_default.ensures old.triangulated.closed mid.triangulated.closed c.args.vertex

pub returns-then-index-num_vertices-clause-left : goal.returns-then-index-num_vertices-clause-left
returns-then-index-num_vertices-clause-left g c = record { keeps = c.finish.ensures.keeps; only = c.finish.ensures.only; points = c.finish.ensures.points }

pub returns-then-lacks_room-clause-left : goal.returns-then-lacks_room-clause-left
returns-then-lacks_room-clause-left g c = record { keeps = c.finish.ensures.keeps; only = c.finish.ensures.only; points = c.finish.ensures.points }

pub returns-then-lacks_room-clause-refuses : goal.returns-then-lacks_room-clause-refuses
returns-then-lacks_room-clause-refuses g c =
    let lacks = c.lacks_room.ensures.0 c.if-lacks_room.true in (
      omega (arith, c.index.ensures.value, c.num_vertices.ensures.count, c.if-index-num_vertices.false),
      lacks.0,
      lacks.1,
      record { points = c.finish.ensures.points; same = c.finish.ensures.same },
      c.in-Ok.ensures.whole,
    )

pub take_out-requires-clause-hull : goal.take_out-requires-clause-hull
take_out-requires-clause-hull g c =
    let mid = c.finish.new.self.planar in settled_outlined mid.dcel mid.due.items mid.outlined c.in-Ok.ensures.whole

pub take_out-requires-clause-room : goal.take_out-requires-clause-room
take_out-requires-clause-room g c lacks = (let does = c.lacks_room.ensures.1 lacks in let not = c.if-lacks_room.false in cc)

pub returns-in_default-take_out-clause-left : goal.returns-in_default-take_out-clause-left
returns-in_default-take_out-clause-left g c =
    let old = c.args.self.now.planar in
    let mid = c.finish.new.self.planar in
    freed_then old.dcel mid.dcel (record { keeps = c.finish.ensures.keeps; only = c.finish.ensures.only; points = c.finish.ensures.points }) c.every_mesh.ensures
    c.every_mesh-2.ensures old.triangulated.closed mid.triangulated.closed c.args.vertex c.take_out.new.mesh.dcel c.in_default-take_out.ensures.others

pub returns-clause-removes : goal.returns-clause-removes
returns-clause-removes g c =
    let old = c.args.self.now.planar in
    let mid = c.finish.new.self.planar in
    let stays : StaysMarked old.dcel mid.dcel = record { keeps = c.finish.ensures.keeps; only = c.finish.ensures.only; points = c.finish.ensures.points } in
    let removed = c.in-Ok-take_out.removed in
    settled_loses old c.settle.new.self.planar c.args.vertex removed c.settle.result c.settle.ensures.same
    (loses_still old.dcel c.take_out.new.mesh.dcel c.settle.new.self.planar.dcel c.args.vertex removed
    (lost_before old.dcel mid.dcel c.take_out.new.mesh.dcel c.args.vertex removed c.finish.ensures.points (vertices_same old.dcel mid.dcel stays c.every_mesh.ensures c.every_mesh-2.ensures)
    c.in-Ok-take_out.ensures.loses)
    c.settle.ensures.keeps)

pub returns-clause-constraints : goal.returns-clause-constraints
returns-clause-constraints g c =
    let old = c.args.self.now.planar in
    let mid = c.finish.new.self.planar in
    let stays : StaysMarked old.dcel mid.dcel = record { keeps = c.finish.ensures.keeps; only = c.finish.ensures.only; points = c.finish.ensures.points } in
    settled_left old c.settle.new.self.planar c.args.vertex c.in-Ok-take_out.removed c.settle.result
    (lost_then old.dcel mid.dcel stays c.every_mesh.ensures c.every_mesh-2.ensures old.triangulated.closed mid.triangulated.closed c.args.vertex c.take_out.new.mesh.dcel
    c.settle.new.self.planar.dcel c.in-Ok-take_out.ensures.constraints c.settle.ensures.stays c.take_out.ensures.mesh c.settle.ensures.mesh c.take_out.new.mesh.triangulated.closed
    c.settle.ensures.keeps.closed)

pub returns-clause-refuses : goal.returns-clause-refuses
returns-clause-refuses g c =
    let old = c.args.self.now.planar in
    let mid = c.finish.new.self.planar in
    let stays : StaysMarked old.dcel mid.dcel = record { keeps = c.finish.ensures.keeps; only = c.finish.ensures.only; points = c.finish.ensures.points } in
    let removed = c.in-Ok-take_out.removed in
    unsettled old c.settle.new.self.planar c.args.vertex removed c.settle.result c.settle.ensures.unfinished
    (loses_still old.dcel c.take_out.new.mesh.dcel c.settle.new.self.planar.dcel c.args.vertex removed
    (lost_before old.dcel mid.dcel c.take_out.new.mesh.dcel c.args.vertex removed c.finish.ensures.points (vertices_same old.dcel mid.dcel stays c.every_mesh.ensures c.every_mesh-2.ensures)
    c.in-Ok-take_out.ensures.loses)
    c.settle.ensures.keeps)

pub returns-clause-left : goal.returns-clause-left
returns-clause-left g c =
    let old = c.args.self.now.planar in
    let mid = c.finish.new.self.planar in
    let stays : StaysMarked old.dcel mid.dcel = record { keeps = c.finish.ensures.keeps; only = c.finish.ensures.only; points = c.finish.ensures.points } in
    unsettled_left old c.settle.new.self.planar c.args.vertex c.in-Ok-take_out.removed c.settle.result c.settle.ensures.unfinished
    (lost_then old.dcel mid.dcel stays c.every_mesh.ensures c.every_mesh-2.ensures old.triangulated.closed mid.triangulated.closed c.args.vertex c.take_out.new.mesh.dcel
    c.settle.new.self.planar.dcel c.in-Ok-take_out.ensures.constraints c.settle.ensures.stays c.take_out.ensures.mesh c.settle.ensures.mesh c.take_out.new.mesh.triangulated.closed
    c.settle.ensures.keeps.closed)
