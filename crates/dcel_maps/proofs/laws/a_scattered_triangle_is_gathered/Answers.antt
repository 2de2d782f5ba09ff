use Rattle.std.proofs.Common.{refl}
use Rattle.dcel_maps.specs.Cyclic.{from_least}
use Rattle.dcel_maps.specs.Renumbering.{half_of, last_put, moved}
use Rattle.dcel_maps.specs.Walks.{least_of}
use Rattle.dcel_maps.proofs.laws.a_scattered_triangle_is_gathered.Goals as goal

pub returns : goal.returns
unfolding least_of from_least half_of last_put moved
returns c = refl
