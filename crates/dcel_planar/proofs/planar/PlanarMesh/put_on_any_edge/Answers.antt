use Rattle.std.proofs.Common.{◌≡◌, rules}
use Rattle.dcel_maps.specs.Shapes.{face_of}
use Rattle.dcel_maps.proofs.maps.Halves.{rev_half, rev-rev}
use Rattle.dcel_plane.specs.Plane.{point_at}
use Rattle.dcel_planar.proofs.Ends.{split_back_ok}
use Rattle.dcel_plane.proofs.location.Ways.{lies_back}
use Rattle.dcel_planar.proofs.OthersEmpty.{alone_empty, ok_anyhow}
use Rattle.dcel_planar.proofs.planar.PlanarMesh.put_on_any_edge.Goals as goal

pub put_on_hull-requires-clause-outer : goal.put_on_hull-requires-clause-outer
put_on_hull-requires-clause-outer g c =
    let outer : face_of c.args.self.now.dcel.shape c.args.edge ≡ 0 = search rules in
    rw (c.rev.ensures, rev-rev c.args.edge) outer

pub put_on_hull-requires-clause-place : goal.put_on_hull-requires-clause-place
put_on_hull-requires-clause-place g c = (
  rw (c.rev.ensures, rev_half c.args.edge) c.requires.place.0,
  rw (c.rev.ensures) (lies_back (point_at c.args.self.now.dcel) c.args.self.now.dcel.shape c.args.point c.args.edge c.requires.place.1),
)

pub returns-then-is_outer_edge-clause-split : goal.returns-then-is_outer_edge-clause-split
returns-then-is_outer_edge-clause-split g c =
    let put = c.put_on_hull in
    split_back_ok put.result c.args.self.now.dcel put.new.self.dcel c.args.edge _ c.rev.ensures put.ensures.split

pub returns-then-num_faces-eq1-clause-circles : goal.returns-then-num_faces-eq1-clause-circles
returns-then-num_faces-eq1-clause-circles g c = let put = c.put_on_line in ok_anyhow put.result (λ empty. alone_empty put.new.self.dcel c.args.self.now.dcel.shape.vertices put.ensures.flat.alone)
