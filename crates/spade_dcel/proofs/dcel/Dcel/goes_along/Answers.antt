use Rattle.dcel_maps.proofs.removal.StripSectors.{along_begins, along_goes_on}
use Rattle.spade_dcel.proofs.dcel.Dcel.goes_along.Goals as goal

pub loop-edge-init : goal.loop-edge-init
loop-edge-init g c =
    rw (c.rev-out_edge.ensures, c.prev_edge.ensures.value)
    (along_begins c.args.self.now.shape c.every_mesh.ensures.sound c.args.first_out c.args.list.now c.requires)

pub loop-edge-preserved : goal.loop-edge-preserved
loop-edge-preserved g c =
    let sector = c.is_sector.ensures.0 c.if-not-is_sector.false in
    rw (c.rev-out_edge-in-Some.ensures, c.prev_edge-in-Some.ensures.value)
    (along_goes_on c.args.self.now.shape c.args.first_out c.args.list.now c.loop-edge.out_edge c.in-Some.field-0-0.now c.loop-edge.left.now
    c.in-Some.after.now c.loop-edge.invariant c.in-Some.ensures.cases.0 c.every_mesh.ensures.sound sector)
