use Rattle.std.proofs.Common.{rules, subst, sym, ℕ}
use Rattle.dcel_maps.specs.Shapes.{IsLive, end_of, origin_of}
use Rattle.dcel_plane.specs.Plane.{point_at}
use Rattle.dcel_plane.specs.location.Locating.{LiesOn}
use Rattle.spade_dcel.specs.Handles.{number_of}
use Rattle.dcel_planar.specs.Places.{HasPoint}
use Rattle.dcel_planar.proofs.Along.{between}
use Rattle.dcel_planar.proofs.location.line.between.Goals as goal

pub returns : goal.returns
returns g c =
    let m = c.args.dcel.now in
    let h = number_of c.args.edge in
    let p = c.args.point in
    let start : ¬ HasPoint m p (origin_of m.shape h) = search rules in
    let end : ¬ HasPoint m p (end_of m.shape h) = search rules in
    subst (λ (i : ℕ). IsLive m.shape i × LiesOn (point_at m) m.shape p i) (sym c.fix-2.ensures.value)
    (c.requires.live, between m c.every_mesh.ensures c.requires.flat.straight p h c.requires.live c.requires.on c.requires.not_beyond c.requires.not_behind start end)
