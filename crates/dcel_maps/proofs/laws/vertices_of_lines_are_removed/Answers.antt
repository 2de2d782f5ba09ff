use Rattle.std.proofs.Common.{refl}
use Rattle.dcel_fixed.specs.HalfEdges.{rev}
use Rattle.dcel_maps.specs.Cyclic.{from_least}
use Rattle.dcel_maps.specs.Removals.{gives_up_edge, gives_up_vertex}
use Rattle.dcel_maps.specs.Renumbering.{half_of, last_put, moved}
use Rattle.dcel_maps.specs.Walks.{least_of}
use Rattle.dcel_maps.specs.Words.{next_in, prev_in}
use Rattle.dcel_maps.proofs.laws.vertices_of_lines_are_removed.Goals as goal

pub returns-clause-end : goal.returns-clause-end
unfolding least_of from_least half_of last_put moved next_in prev_in gives_up_edge gives_up_vertex rev
returns-clause-end c = refl

pub returns-clause-both : goal.returns-clause-both
unfolding least_of from_least half_of last_put moved next_in prev_in gives_up_edge gives_up_vertex rev
returns-clause-both c = (refl, refl)

pub returns-clause-middle : goal.returns-clause-middle
unfolding least_of from_least half_of last_put moved next_in prev_in gives_up_edge gives_up_vertex rev
returns-clause-middle c = refl
