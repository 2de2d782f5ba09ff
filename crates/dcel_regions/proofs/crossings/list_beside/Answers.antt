use Rattle.std.proofs.Common.{◌≡◌, ap, ◌++◌}
use Rattle.dcel_maps.specs.Walking.{in_mesh}
use Rattle.dcel_regions.specs.declared.mark.Mark.TheVariants.{Constraint, Free}
use Rattle.dcel_regions.specs.Numbering.{faces_over}
use Rattle.spade_dcel.specs.Faces.{face_edges_of}
use Rattle.dcel_regions.proofs.crossings.list_beside.Goals as goal

pub loop-edge-init : goal.loop-edge-init
loop-edge-init g c =
    let all : c.into_iter-edge-iterator.result.items ≡ in_mesh c.args.face.dcel.now (face_edges_of c.args.face.dcel.now c.args.face.number) =
    rw c.into_iter-edge-iterator.ensures.into_iter_gives c.directed_edges-edge-items.ensures.items in
    record {
      due = ap (λ items. c.args.due.now.items ++ faces_over Free items) all;
      beyond = ap (λ items. c.args.beyond.now.items ++ faces_over Constraint items) all;
    }
