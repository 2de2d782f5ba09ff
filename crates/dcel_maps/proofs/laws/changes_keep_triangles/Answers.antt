use Rattle.dcel_maps.proofs.Triangulations.{flipped}
use Rattle.dcel_maps.proofs.laws.changes_keep_triangles.Goals as goal

pub returns-clause-flip : goal.returns-clause-flip
returns-clause-flip g c = λ m u all. flipped m all u
