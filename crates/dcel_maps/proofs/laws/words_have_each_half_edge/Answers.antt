use Rattle.dcel_maps.proofs.Counted.{words-length}
use Rattle.dcel_maps.proofs.laws.words_have_each_half_edge.Goals as goal

pub returns : goal.returns
returns c = words-length
