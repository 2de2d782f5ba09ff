use Rattle.dcel_speed.proofs.Growing.{appended_bare, split_facing, split_live, split_triangle, splitting_triangulated}
use Rattle.dcel_speed.proofs.split.split_next.Goals as goal

pub split_edge-requires-clause-live : goal.split_edge-requires-clause-live
split_edge-requires-clause-live g c = split_live c.args.dcel.now _ _ _ c.requires.triangulated c.in_ok-middle.ensures.edit c.requires.inside

pub split_edge-requires-clause-triangle : goal.split_edge-requires-clause-triangle
split_edge-requires-clause-triangle g c =
    split_triangle c.args.dcel.now _ _ _ c.requires.triangulated c.in_ok-middle.ensures.edit c.append_unconnected_vertex.ensures.mesh c.requires.inside

pub split_edge-requires-clause-facing : goal.split_edge-requires-clause-facing
split_edge-requires-clause-facing g c =
    split_facing c.args.dcel.now _ _ _ c.requires.triangulated c.in_ok-middle.ensures.edit c.append_unconnected_vertex.ensures.mesh c.requires.inside

pub split_edge-requires-clause-unconnected : goal.split_edge-requires-clause-unconnected
split_edge-requires-clause-unconnected g c = appended_bare _ _ _ _ c.every_mesh.ensures c.in_ok-middle.ensures.edit c.in_ok-middle.ensures.answer

pub returns-clause-triangulated : goal.returns-clause-triangulated
returns-clause-triangulated g c =
    splitting_triangulated c.args.dcel.now _ _ _ c.requires.triangulated c.in_ok-middle.ensures.edit c.split_edge.new.dcel _
    c.in_ok-second_half.ensures.edit
