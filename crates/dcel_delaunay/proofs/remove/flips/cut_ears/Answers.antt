use Rattle.std.proofs.Common.{arith}
use Rattle.dcel_delaunay.proofs.Thinned.{one_less, thinning_begins, thins}
use Rattle.dcel_delaunay.proofs.remove.flips.cut_ears.Goals as goal

pub loop-step-init : goal.loop-step-init
loop-step-init g c = (
  thinning_begins _ c.args.dcel.now c.args.vertex c.args.due.now.items c.every_mesh.ensures c.requires.sound c.requires.hull c.requires.vertex c.requires.loose c.requires.around,
  c.requires.places,
)

pub turnable-requires : goal.turnable-requires
turnable-requires g c = c.loop-step.invariant.0.thinned.sound.triangulated

pub flip_cw-requires : goal.flip_cw-requires
flip_cw-requires g c = c.in-Some-turnable.ensures.can.can

pub push_reserved-requires : goal.push_reserved-requires
push_reserved-requires g c =
    let less = one_less _ c.args.dcel.now c.loop-step.dcel c.args.vertex _ _ c.loop-step.invariant.0 c.in-Some-turnable.edge c.in-Some-turnable.ensures c.flip_cw.new.dcel c.flip_cw.ensures.edit in
    let places = c.loop-step.invariant.1 in
    omega (arith, less, places)

pub loop-step-preserved : goal.loop-step-preserved
loop-step-preserved g c =
    let less = one_less _ c.args.dcel.now c.loop-step.dcel c.args.vertex _ _ c.loop-step.invariant.0 c.in-Some-turnable.edge c.in-Some-turnable.ensures c.flip_cw.new.dcel c.flip_cw.ensures.edit in
    let places = c.loop-step.invariant.1 in
    let len = c.push_reserved.ensures.len in
    let capacity = c.push_reserved.ensures.capacity in (
      thins _ c.args.dcel.now c.loop-step.dcel c.args.vertex _ _ c.loop-step.invariant.0 c.in-Some-turnable.edge c.in-Some-turnable.ensures c.flip_cw.new.dcel c.push_reserved.new.self.items
          c.flip_cw.ensures.edit c.push_reserved.ensures.items,
      omega (arith, less, places, len, capacity),
    )
