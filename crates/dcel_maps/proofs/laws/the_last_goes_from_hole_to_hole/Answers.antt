use Rattle.std.proofs.Common.{refl}
use Rattle.dcel_maps.specs.Numbers.{numbers_between}
use Rattle.dcel_maps.specs.Renumbering.{last_put}
use Rattle.dcel_maps.proofs.laws.the_last_goes_from_hole_to_hole.Goals as goal

pub returns : goal.returns
unfolding last_put numbers_between
returns c = (refl, refl)
