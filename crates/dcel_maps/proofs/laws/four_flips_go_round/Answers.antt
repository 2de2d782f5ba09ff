use Rattle.dcel_maps.proofs.edits.FourFlips.{four_flips}
use Rattle.dcel_maps.proofs.laws.four_flips_go_round.Goals as goal

pub returns : goal.returns
returns g c = λ m u mesh can. four_flips m mesh u can
