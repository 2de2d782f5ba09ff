use Rattle.dcel_speed.proofs.Growing.{appended_bare, insertion_triangulated}
use Rattle.dcel_speed.proofs.workloads.insert_next.Goals as goal

pub insert_into_triangle-requires-clause-unconnected : goal.insert_into_triangle-requires-clause-unconnected
insert_into_triangle-requires-clause-unconnected g c = appended_bare _ _ _ _ c.every_mesh.ensures c.in_ok-vertex.ensures.edit c.in_ok-vertex.ensures.answer

pub returns-clause-triangulated : goal.returns-clause-triangulated
returns-clause-triangulated g c =
    insertion_triangulated c.args.dcel.now c.append_unconnected_vertex.new.dcel c.insert_into_triangle.new.dcel _ _ _ c.requires.triangulated
    c.in_ok-vertex.ensures.edit c.in_ok-insert_into_triangle.ensures.edit
