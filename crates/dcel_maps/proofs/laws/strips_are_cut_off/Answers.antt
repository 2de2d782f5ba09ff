use Rattle.std.proofs.Common.{refl}
use Rattle.dcel_fixed.specs.HalfEdges.{rev}
use Rattle.dcel_maps.specs.Cyclic.{from_least}
use Rattle.dcel_maps.specs.Removals.{gives_up_edge, gives_up_face, gives_up_vertex}
use Rattle.dcel_maps.specs.Renumbering.{half_of, last_put, moved}
use Rattle.dcel_maps.specs.Walks.{least_of, up_to}
use Rattle.dcel_maps.specs.Words.{face_in, next_in, prev_in}
use Rattle.dcel_maps.proofs.laws.strips_are_cut_off.Goals as goal

pub returns-clause-corner_of_three : goal.returns-clause-corner_of_three
unfolding least_of up_to from_least next_in prev_in face_in gives_up_edge gives_up_face gives_up_vertex half_of last_put moved rev
returns-clause-corner_of_three c = (refl, refl, refl, refl, refl, refl, refl)

pub returns-clause-corner : goal.returns-clause-corner
unfolding least_of up_to from_least next_in prev_in face_in gives_up_edge gives_up_face gives_up_vertex half_of last_put moved rev
returns-clause-corner c = (refl, refl, refl, refl, refl, refl, refl, refl)

pub returns-clause-end : goal.returns-clause-end
unfolding least_of up_to from_least next_in prev_in face_in gives_up_edge gives_up_face gives_up_vertex half_of last_put moved rev
returns-clause-end c = (refl, refl, refl, refl, refl, refl, refl)
