use Rattle.std.proofs.Common.{arith}
use Rattle.dcel_delaunay.proofs.Thinned.{one_less, thinning_begins, thins}
use Rattle.dcel_delaunay.proofs.remove.flips.cut_others.Goals as goal

pub loop-edge-init : goal.loop-edge-init
loop-edge-init g c = (
  thinning_begins _ c.args.dcel.now c.args.vertex c.args.due.now.items c.every_mesh.ensures c.requires.sound c.requires.hull c.requires.vertex c.requires.loose c.requires.around,
  c.requires.places,
)

pub edge_to_turn-requires-clause-sound : goal.edge_to_turn-requires-clause-sound
edge_to_turn-requires-clause-sound g c = c.loop-edge.invariant.0.thinned.sound.triangulated

pub edge_to_turn-requires-clause-vertex : goal.edge_to_turn-requires-clause-vertex
edge_to_turn-requires-clause-vertex g c = c.loop-edge.invariant.0.thinned.below

pub flip_cw-requires : goal.flip_cw-requires
flip_cw-requires g c = c.in-Some.ensures.some.can.can

pub push_reserved-requires : goal.push_reserved-requires
push_reserved-requires g c =
    let less = one_less _ c.args.dcel.now c.loop-edge.dcel c.args.vertex _ _ c.loop-edge.invariant.0 c.in-Some.edge c.in-Some.ensures.some c.flip_cw.new.dcel c.flip_cw.ensures.edit in
    let places = c.loop-edge.invariant.1 in
    omega (arith, less, places)

pub loop-edge-smaller : goal.loop-edge-smaller
loop-edge-smaller g c =
    one_less _ c.args.dcel.now c.loop-edge.dcel c.args.vertex _ _ c.loop-edge.invariant.0 c.in-Some.edge c.in-Some.ensures.some c.flip_cw.new.dcel c.flip_cw.ensures.edit

pub loop-edge-preserved : goal.loop-edge-preserved
loop-edge-preserved g c =
    let less = one_less _ c.args.dcel.now c.loop-edge.dcel c.args.vertex _ _ c.loop-edge.invariant.0 c.in-Some.edge c.in-Some.ensures.some c.flip_cw.new.dcel c.flip_cw.ensures.edit in
    let places = c.loop-edge.invariant.1 in
    let len = c.push_reserved.ensures.len in
    let capacity = c.push_reserved.ensures.capacity in (
      thins _ c.args.dcel.now c.loop-edge.dcel c.args.vertex _ _ c.loop-edge.invariant.0 c.in-Some.edge c.in-Some.ensures.some c.flip_cw.new.dcel c.push_reserved.new.self.items
          c.flip_cw.ensures.edit c.push_reserved.ensures.items,
      omega (arith, less, places, len, capacity),
    )
