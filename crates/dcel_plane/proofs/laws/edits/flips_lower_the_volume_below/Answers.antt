use Rattle.dcel_plane.proofs.laws.edits.flips_lower_the_volume_below.Goals as goal
use Rattle.dcel_plane.proofs.edits.Flipped.{circled_can_flip}
use Rattle.dcel_plane.proofs.edits.Volumes.{volume_falls}

pub returns : goal.returns
returns g c =
    λ at m u mesh inner circled plane.
    volume_falls m mesh u (circled_can_flip m mesh u at inner circled) at inner.inner inner.inner_facing circled plane
