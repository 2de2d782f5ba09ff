use Rattle.dcel_plane.proofs.star.Spokes.{in_link, no_spoke}
use Rattle.dcel_plane.proofs.laws.star.only_edges_of_the_link_are_circled.Goals as goal

pub returns-clause-spokes : goal.returns-clause-spokes
returns-clause-spokes g c = λ at m u v mesh inner plane star spoke circled. no_spoke m mesh u v at inner plane star circled spoke

pub returns-clause-link : goal.returns-clause-link
returns-clause-link g c = λ at m u v mesh inner plane star circled. in_link m mesh u v at inner plane star circled
