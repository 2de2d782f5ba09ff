use Rattle.dcel_maps.proofs.Counted.{counted}
use Rattle.dcel_maps.proofs.laws.triangles_are_counted.Goals as goal

pub returns : goal.returns
returns g c = counted
