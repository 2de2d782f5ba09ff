use Rattle.dcel_plane.proofs.laws.location.places_on_a_line_are_exact.Goals as goal
use Rattle.dcel_plane.proofs.location.OnLine.{has_place, none_across, none_at, none_between, places}
use Rattle.dcel_plane.proofs.location.OnceOnLine.{one_edge, one_end}

pub returns-clause-some : goal.returns-clause-some
returns-clause-some g c = λ at m p h mesh straight live on. has_place m mesh at straight h live p on

pub returns-clause-near : goal.returns-clause-near
returns-clause-near g c = λ at m p h mesh straight live on. places m mesh at straight h live p on

pub returns-clause-edge : goal.returns-clause-edge
returns-clause-edge g c = λ at m p h k mesh straight live lies live_k. none_between m mesh at straight h k live p lies live_k

pub returns-clause-end : goal.returns-clause-end
returns-clause-end g c = λ at m p h k mesh straight live is_end lies live_k.
    (none_at m mesh at straight h k live is_end p lies live_k, none_across m mesh at straight h k live is_end p lies live_k)

pub returns-clause-one_edge : goal.returns-clause-one_edge
returns-clause-one_edge g c = λ at m p h k mesh straight live lies live_k lies_k. one_edge m mesh at straight h k live live_k p lies lies_k

pub returns-clause-one_end : goal.returns-clause-one_end
returns-clause-one_end g c = λ at m p h k mesh straight live is_end lies live_k is_end_k lies_k. one_end m mesh at straight h k live is_end live_k is_end_k p lies lies_k
