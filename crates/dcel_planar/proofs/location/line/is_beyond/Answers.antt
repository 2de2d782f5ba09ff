use Rattle.std.proofs.Common.{◌≡◌, rules, subst}
use Rattle.dcel_predicates.specs.declared.point.Point.{Point}
use Rattle.dcel_maps.specs.Shapes.{end_of, origin_of}
use Rattle.dcel_plane.specs.Plane.{point_at}
use Rattle.dcel_plane.specs.location.Locating.{IsBefore}
use Rattle.spade_dcel.specs.Handles.{number_of}
use Rattle.dcel_planar.proofs.Along.{beyond_down, beyond_up, down}
use Rattle.dcel_planar.proofs.location.line.is_beyond.Goals as goal

pub returns-then-is_before : goal.returns-then-is_before
returns-then-is_before g c =
    let m = c.args.dcel.now in
    let h = number_of c.args.edge in
    let from : c.point_of-from.result ≡ point_at m (origin_of m.shape h) = search rules in
    let to : c.point_of-to.result ≡ point_at m (end_of m.shape h) = search rules in
    let up : IsBefore (point_at m (origin_of m.shape h)) (point_at m (end_of m.shape h)) =
    subst (λ (a : Point). IsBefore a (point_at m (end_of m.shape h))) from (subst (IsBefore c.point_of-from.result) to (c.is_before.ensures.0 c.if-is_before.true)) in
    beyond_up m h c.args.point c.requires.on up c.point_of-to.result to c.is_before-then-is_before.result c.is_before-then-is_before.ensures

pub returns-else-is_before : goal.returns-else-is_before
returns-else-is_before g c =
    let m = c.args.dcel.now in
    let h = number_of c.args.edge in
    let from : c.point_of-from.result ≡ point_at m (origin_of m.shape h) = search rules in
    let to : c.point_of-to.result ≡ point_at m (end_of m.shape h) = search rules in
    let not : ¬ IsBefore c.point_of-from.result c.point_of-to.result = search rules in
    let not_up : ¬ IsBefore (point_at m (origin_of m.shape h)) (point_at m (end_of m.shape h)) =
    subst (λ (a : Point). ¬ IsBefore a (point_at m (end_of m.shape h))) from (subst (λ (b : Point). ¬ IsBefore c.point_of-from.result b) to not) in
    beyond_down m h c.args.point c.requires.on (down m c.every_mesh.ensures c.requires.flat.straight h c.requires.live not_up) c.point_of-to.result to
    c.is_before-else-is_before.result c.is_before-else-is_before.ensures
