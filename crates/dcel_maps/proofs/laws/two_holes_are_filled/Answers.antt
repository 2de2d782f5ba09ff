use Rattle.std.proofs.Common.{refl}
use Rattle.dcel_fixed.specs.HalfEdges.{rev}
use Rattle.dcel_maps.specs.Cyclic.{from_least}
use Rattle.dcel_maps.specs.Removals.{gives_up_edge, gives_up_face, gives_up_vertex}
use Rattle.dcel_maps.specs.Walks.{least_of, up_to}
use Rattle.dcel_maps.specs.Words.{face_in, next_in, prev_in}
use Rattle.dcel_maps.proofs.laws.two_holes_are_filled.Goals as goal

pub returns-clause-triangle : goal.returns-clause-triangle
unfolding rev from_least gives_up_vertex gives_up_edge gives_up_face least_of up_to face_in next_in prev_in
returns-clause-triangle c = (refl, (refl, refl))

pub returns-clause-square : goal.returns-clause-square
unfolding rev from_least gives_up_vertex gives_up_edge gives_up_face least_of up_to face_in next_in prev_in
returns-clause-square c = (refl, (refl, refl, refl))
