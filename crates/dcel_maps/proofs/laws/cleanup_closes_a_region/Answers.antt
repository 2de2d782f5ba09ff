use Rattle.dcel_maps.proofs.removal.Insides.{region-closes, region-no_vertex}
use Rattle.dcel_maps.proofs.laws.cleanup_closes_a_region.Goals as goal

pub returns-clause-no_vertex : goal.returns-clause-no_vertex
returns-clause-no_vertex g c = λ m border edges faces halves more new ring. region-no_vertex m border edges faces ring halves more new

pub returns-clause-closes : goal.returns-clause-closes
returns-clause-closes g c = λ m border edges faces halves more new ring. region-closes m border edges faces ring halves more new
