use Rattle.std.proofs.Common.{◌≡◌, refl, sym, subst}
use Rattle.dcel_maps.specs.Shapes.{end_of}
use Rattle.dcel_maps.specs.Walking.{ccw_of}
use Rattle.dcel_predicates.specs.declared.point.Point.{Point}
use Rattle.dcel_plane.specs.Plane.{point_at}
use Rattle.dcel_planar.specs.Places.{IsOnLine}
use Rattle.dcel_delaunay.proofs.remove.corner.lies_flat.Goals as goal

pub returns : goal.returns
returns g c =
    let m = c.args.outside.dcel.now in
    let h = c.args.outside.number in
    let p : c.point_of.result ≡ point_at m (end_of m.shape (ccw_of m.shape h)) =
    rw (c.point_of.ensures, c.to.ensures.mesh, c.to.ensures.number, c.ccw.ensures.mesh, c.ccw.ensures.number) refl in (
      λ yes. subst (λ (q : Point). IsOnLine m q h) p (c.side.ensures.on.0 (c.is_on_line.ensures.0 yes)),
      λ flat. c.is_on_line.ensures.1 (c.side.ensures.on.1 (subst (λ (q : Point). IsOnLine m q h) (sym p) flat)),
    )
