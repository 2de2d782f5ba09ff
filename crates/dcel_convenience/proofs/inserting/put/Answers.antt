use Rattle.dcel_convenience.proofs.TakenBack.{can_take_back, taken_back}
use Rattle.dcel_convenience.proofs.inserting.put.Goals as goal

pub swap_remove_vertex-taken-requires : goal.swap_remove_vertex-taken-requires
swap_remove_vertex-taken-requires g c =
    can_take_back c.args.dcel.now c.append_unconnected_vertex.new.dcel c.insert_into_triangle.new.dcel c.args.datum c.in-Ok.vertex c.every_mesh.ensures c.requires.closed
    c.in-Ok.ensures.edit c.in-Ok.ensures.answer c.in_default.ensures.refused

pub returns-in_default-clause-refused : goal.returns-in_default-clause-refused
returns-in_default-clause-refused g c =
    taken_back c.args.dcel.now c.append_unconnected_vertex.new.dcel c.insert_into_triangle.new.dcel c.swap_remove_vertex-taken.new.dcel c.args.datum c.in-Ok.vertex
    c.every_mesh.ensures c.requires.closed c.in-Ok.ensures.edit c.in-Ok.ensures.answer c.in_default.ensures.refused c.swap_remove_vertex-taken.ensures.edit
