use Rattle.std.proofs.Common.{reverse}
use Rattle.dcel_maps.specs.Regions.{inside}
use Rattle.dcel_maps.specs.Removals.{opened, opened_with}
use Rattle.dcel_maps.specs.edits.Fill.{edges_at, faces_at}
use Rattle.dcel_maps.proofs.Triangulations.{cleaned, degenerate_gone, ring_filled_in, strip_off, vertex_gone}
use Rattle.dcel_maps.proofs.laws.removals_keep_triangles.Goals as goal

pub returns-clause-isolate : goal.returns-clause-isolate
returns-clause-isolate g c = λ m v border halves edges faces closed all.
    ring_filled_in m all closed (opened (edges_at m v) (faces_at m v) v) (reverse border) halves edges faces

pub returns-clause-remesh : goal.returns-clause-remesh
returns-clause-remesh g c = λ m border gone_edges gone_faces halves edges faces closed all.
    ring_filled_in m all closed (opened_with gone_edges gone_faces (inside m.shape border gone_edges gone_faces)) (reverse border) halves edges faces

pub returns-clause-strip : goal.returns-clause-strip
returns-clause-strip g c = λ m list closed all. strip_off m all closed list

pub returns-clause-cleanup : goal.returns-clause-cleanup
returns-clause-cleanup g c = λ m mesh all. cleaned m all mesh

pub returns-clause-remove : goal.returns-clause-remove
returns-clause-remove g c = λ m v can all. vertex_gone m all v can

pub returns-clause-degenerate : goal.returns-clause-degenerate
returns-clause-degenerate g c = λ m v can all. degenerate_gone m all can.closed v
