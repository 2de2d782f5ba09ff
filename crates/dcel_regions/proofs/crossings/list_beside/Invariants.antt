use Rattle.std.proofs.Common.{◌≡◌, ◌++◌}
use Rattle.dcel_maps.specs.Walking.{in_mesh}
use Rattle.dcel_regions.specs.declared.mark.Mark.TheVariants.{Constraint, Free}
use Rattle.dcel_regions.specs.Numbering.{faces_over}
use Rattle.spade_dcel.specs.Faces.{face_edges_of}
use Rattle.dcel_regions.proofs.crossings.list_beside.Given as goal

-- with the faces over the half edges to come, each list is whole
abbrev pub invariant-loop-edge : goal.invariant-loop-edge
invariant-loop-edge g l = record {
  due : l.due.items ++ faces_over Free l.edge-iterator.items ≡ l.fn.due.items ++ faces_over Free (in_mesh l.fn.face.dcel.now (face_edges_of l.fn.face.dcel.now l.fn.face.number));
  beyond : l.beyond.items ++ faces_over Constraint l.edge-iterator.items
      ≡ l.fn.beyond.items ++ faces_over Constraint (in_mesh l.fn.face.dcel.now (face_edges_of l.fn.face.dcel.now l.fn.face.number));
}
