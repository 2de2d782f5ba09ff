use Rattle.std.proofs.Common.{◌≡◌, subst}
use Rattle.dcel_maps.specs.Shapes.{IsMesh}
use Rattle.dcel_delaunay.proofs.listing.Known.{Points}
use Rattle.dcel_output.proofs.Near.{nearest_named}
use Rattle.dcel_output.proofs.laws.nearest_numbers_are_nearest.Goals as goal

pub returns : goal.returns
returns g c = λ points numbers whole numbered place n near.
    let m : Points = c.args.triangulation.now.planar.dcel in
    let seen : Points = c.dcel-mesh.result.now in
    let same : seen ≡ m = c.dcel-mesh.ensures.mesh in
    let mesh : IsMesh m = subst (λ (k : Points). IsMesh k) same c.every_mesh.ensures in
    nearest_named m mesh (c.dcel-mesh.ensures.single whole) points numbers numbered place n near
