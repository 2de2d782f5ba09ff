use Rattle.dcel_plane.proofs.laws.edits.splits_keep_the_plane.Goals as goal
use Rattle.dcel_plane.proofs.edits.Splits.{split_lists, split_plane}

pub returns-clause-plane : goal.returns-clause-plane
returns-clause-plane g c =
    λ at m e v halves edges faces mesh live triangle facing across across_t plane.
    split_plane m mesh e v live halves edges faces at triangle facing across across_t plane

pub returns-clause-due : goal.returns-clause-due
returns-clause-due g c =
    λ at m e v halves edges faces due mesh live triangle facing after lists.
    split_lists m mesh e v live halves edges faces at triangle facing due after lists
