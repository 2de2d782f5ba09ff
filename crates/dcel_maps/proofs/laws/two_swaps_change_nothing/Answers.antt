use Rattle.dcel_maps.proofs.edits.Swaps.{swapped-swapped}
use Rattle.dcel_maps.proofs.laws.two_swaps_change_nothing.Goals as goal

pub returns : goal.returns
returns g c = λ m a b mesh a_live b_live. swapped-swapped m mesh a b a_live b_live
