use Rattle.std.proofs.Common.{◌∙◌, map}
use Rattle.dcel_delaunay.specs.Lists.{corners_of, inner_faces}
use Rattle.dcel_delaunay.proofs.Gathered.{gathers_all, gathers_none}
use Rattle.dcel_delaunay.proofs.listing.Elements.{live_faces}
use Rattle.dcel_delaunay.proofs.listing.Faces.{corners_listed}
use Rattle.dcel_delaunay.proofs.lists.triangles.Goals as goal

pub loop-face-init : goal.loop-face-init
loop-face-init g c =
    let m = c.args.mesh.now in
    gathers_none (λ n f. corners_of n f) m (inner_faces m.shape) c.in_ok-list.list.items c.into_iter-face-iterator.result c.in_ok-list.ensures.items
    (c.into_iter-face-iterator.ensures.into_iter_gives ∙ c.live_inner_faces-face-items.ensures.items ∙ live_faces m c.every_mesh.ensures c.requires)

pub returns-clause-corners : goal.returns-clause-corners
returns-clause-corners g c = λ triangles.
    let m = c.args.mesh.now in
    corners_listed m c.every_mesh.ensures c.requires triangles c.loop-face.list.items
    (gathers_all (λ n f. corners_of n f) (map (corners_of m) (inner_faces m.shape)) c.loop-face.list.items c.loop-face.face-iterator c.loop-face.invariant c.in-None.ensures.steps.0.0)
