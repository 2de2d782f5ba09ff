use Rattle.dcel_maps.proofs.removal.DegenerateLeft.{left_placed, lone_leaves_live, path_leaves_live, path_numbered}
use Rattle.dcel_maps.proofs.renumbering.Renumbered.{leaves_live, numbered, others_leave_live, vertex_placed}
use Rattle.dcel_maps.proofs.laws.removals_leave_what_is_live.Goals as goal

pub returns-clause-cleanup : goal.returns-clause-cleanup
returns-clause-cleanup g c = λ m mesh. leaves_live m mesh

pub returns-clause-places : goal.returns-clause-places
returns-clause-places g c = λ m mesh. numbered m mesh

pub returns-clause-vertex : goal.returns-clause-vertex
returns-clause-vertex g c = λ m v mesh can. others_leave_live m mesh v can

pub returns-clause-vertex_places : goal.returns-clause-vertex_places
returns-clause-vertex_places g c = λ m v w mesh can below other. vertex_placed m mesh v w can below other

pub returns-clause-degenerate : goal.returns-clause-degenerate
returns-clause-degenerate g c = λ m v mesh can some. path_leaves_live m v mesh can some

pub returns-clause-degenerate_places : goal.returns-clause-degenerate_places
returns-clause-degenerate_places g c = λ m v mesh can some. path_numbered m v mesh can some

pub returns-clause-degenerate_alone : goal.returns-clause-degenerate_alone
returns-clause-degenerate_alone g c = λ m v mesh can one. lone_leaves_live m v mesh can one

pub returns-clause-degenerate_vertex_places : goal.returns-clause-degenerate_vertex_places
returns-clause-degenerate_vertex_places g c = λ m v w mesh can below other. left_placed m v mesh can w below other
