use Rattle.std.proofs.Common.{refl}
use Rattle.dcel_maps.specs.Maps.{starts_edge}
use Rattle.dcel_maps.specs.Removals.{gives_up_edge}
use Rattle.dcel_maps.specs.Words.{next_in, prev_in}
use Rattle.dcel_maps.proofs.laws.a_triangle_is_counted.Goals as goal

pub returns-clause-edges : goal.returns-clause-edges
unfolding gives_up_edge
returns-clause-edges c = refl

pub returns-clause-vertices : goal.returns-clause-vertices
unfolding gives_up_edge starts_edge next_in prev_in
returns-clause-vertices c = refl

pub returns-clause-count : goal.returns-clause-count
unfolding gives_up_edge starts_edge next_in prev_in
returns-clause-count c = refl
