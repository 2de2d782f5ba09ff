use Rattle.dcel_maps.proofs.edits.Swaps.{swapped-same}
use Rattle.dcel_maps.proofs.laws.a_swap_of_one_vertex_changes_nothing.Goals as goal

pub returns : goal.returns
returns g c = λ m v mesh live. swapped-same m mesh v live
