use Rattle.dcel_plane.proofs.laws.edits.flips_keep_the_plane.Goals as goal
use Rattle.dcel_plane.proofs.edits.Flipped.{circled_can_flip, flip_lists, flip_plane}

pub returns-clause-can : goal.returns-clause-can
returns-clause-can g c = λ at m u mesh inner circled. circled_can_flip m mesh u at inner circled

pub returns-clause-plane : goal.returns-clause-plane
returns-clause-plane g c =
    λ at m u mesh inner circled plane.
    flip_plane m mesh u (circled_can_flip m mesh u at inner circled) at inner.inner inner.inner_facing circled plane

pub returns-clause-due : goal.returns-clause-due
returns-clause-due g c = λ at m u due mesh can lists. flip_lists m mesh u can at due lists
