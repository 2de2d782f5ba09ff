use Rattle.dcel_plane.proofs.star.Due.{lists_from_far, lists_from_near}
use Rattle.dcel_plane.proofs.star.Flip.{star_flipped}
use Rattle.dcel_plane.proofs.laws.star.flips_keep_other_circles_empty.Goals as goal

pub returns-clause-kept : goal.returns-clause-kept
returns-clause-kept g c = λ at m u v mesh inner circled plane star. star_flipped m mesh u v at inner plane star circled

pub returns-clause-near : goal.returns-clause-near
returns-clause-near g c = λ at m u v due mesh inner circled plane star is lists. lists_from_near m mesh u v at inner plane star circled due lists is

pub returns-clause-far : goal.returns-clause-far
returns-clause-far g c = λ at m u v due mesh inner circled plane star is lists. lists_from_far m mesh u v at inner plane star circled due lists is
