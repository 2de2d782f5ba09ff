use Rattle.std.proofs.Common.{sym}
use Rattle.std.proofs.lemmas.Option.{get_or_from_slice_get}
use Rattle.dcel_plane.specs.Plane.{origin_point}
use Rattle.spade_dcel.specs.Handles.{mesh_behind, number_of}
use Rattle.dcel_planar.proofs.mesh.point_of.Goals as goal

pub returns : goal.returns
returns g c = sym (get_or_from_slice_get (mesh_behind c.args.vertex).vertex_data (number_of c.args.vertex) c.data.result.now origin_point c.data.ensures)
