use Rattle.dcel_plane.proofs.star.Split.{half_split_star, split_star}
use Rattle.dcel_plane.proofs.laws.star.splits_keep_other_circles_empty.Goals as goal

pub returns-clause-whole : goal.returns-clause-whole
returns-clause-whole g c =
    λ at m v e halves edges faces mesh live triangle facing inner inner_facing plane on across across_t star.
    split_star m mesh at plane v e star live triangle inner across on halves edges faces facing inner_facing across_t

pub returns-clause-half : goal.returns-clause-half
returns-clause-half g c =
    λ at m v e halves edges faces mesh live triangle inner outer plane on across star.
    half_split_star m mesh at plane v e star live triangle inner across on halves edges faces outer
