use Rattle.std.proofs.Common.{refl}
use Rattle.dcel_convenience.proofs.Gathered.{gathers-none}
use Rattle.dcel_convenience.proofs.bordering.border.Goals as goal
use Rattle.spade_dcel.specs.Faces.{face_edges_of}

pub loop-edge-init : goal.loop-edge-init
loop-edge-init g c =
    let m = c.args.dcel.now in
    gathers-none (λ n h. h) m (face_edges_of m 0) c.new-border.result.items c.into_iter-edge-iterator.result.items c.new-border.ensures.items
    (rw (c.into_iter-edge-iterator.ensures.into_iter_gives, c.directed_edges-edge-items.ensures.items, c.outer_face.ensures.mesh, c.outer_face.ensures.number) refl)
