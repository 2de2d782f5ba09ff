use Rattle.dcel_plane.proofs.laws.edits.half_splits_keep_the_plane.Goals as goal
use Rattle.dcel_plane.proofs.edits.Splits.{half_split_lists, half_split_plane}

pub returns-clause-plane : goal.returns-clause-plane
returns-clause-plane g c =
    λ at m e v halves edges faces mesh live triangle inner outer across plane.
    half_split_plane m mesh e v live halves edges faces at triangle inner outer across plane

pub returns-clause-due : goal.returns-clause-due
returns-clause-due g c =
    λ at m e v halves edges faces due mesh live triangle inner outer after lists.
    half_split_lists m mesh e v live halves edges faces at triangle inner outer due after lists
