use Rattle.std.proofs.Common.{refl}
use Rattle.dcel_fixed.specs.HalfEdges.{rev}
use Rattle.dcel_maps.specs.Cyclic.{from_least}
use Rattle.dcel_maps.specs.Removals.{gives_up_edge}
use Rattle.dcel_maps.specs.Walks.{least_of}
use Rattle.dcel_maps.specs.Words.{face_in, next_in, prev_in}
use Rattle.dcel_maps.proofs.laws.edits_make_these_meshes.Goals as goal

pub returns-clause-first_edge : goal.returns-clause-first_edge
unfolding from_least least_of rev face_in prev_in next_in gives_up_edge
returns-clause-first_edge c = (refl, refl, refl, refl)

pub returns-clause-line_split : goal.returns-clause-line_split
unfolding from_least least_of rev face_in prev_in next_in gives_up_edge
returns-clause-line_split c = (refl, refl, refl, refl, refl)

pub returns-clause-edge_split : goal.returns-clause-edge_split
unfolding from_least least_of rev face_in prev_in next_in gives_up_edge
returns-clause-edge_split c = (refl, refl, refl)

pub returns-clause-half_split : goal.returns-clause-half_split
unfolding from_least least_of rev face_in prev_in next_in gives_up_edge
returns-clause-half_split c = (refl, refl, refl)

pub returns-clause-vertex_inserted : goal.returns-clause-vertex_inserted
unfolding from_least least_of rev face_in prev_in next_in gives_up_edge
returns-clause-vertex_inserted c = (refl, refl)

pub returns-clause-vertices_swapped : goal.returns-clause-vertices_swapped
unfolding from_least least_of rev face_in prev_in next_in gives_up_edge
returns-clause-vertices_swapped c = (refl, refl, refl, refl, refl)

pub returns-clause-data : goal.returns-clause-data
unfolding from_least least_of rev face_in prev_in next_in gives_up_edge
returns-clause-data c = (refl, refl)
