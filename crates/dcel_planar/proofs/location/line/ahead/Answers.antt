use Rattle.std.proofs.Common.{ℕ, subst, sym}
use Rattle.dcel_fixed.specs.HalfEdges.{rev}
use Rattle.dcel_fixed.proofs.Halves.{rev-rev}
use Rattle.dcel_plane.specs.Plane.{point_at}
use Rattle.dcel_plane.specs.location.Locating.{LiesBeyond}
use Rattle.spade_dcel.specs.Handles.{number_of}
use Rattle.dcel_planar.specs.Places.{IsOnLine}
use Rattle.dcel_planar.proofs.Along.{not_behind, on_rev}
use Rattle.dcel_planar.proofs.location.line.ahead.Goals as goal

pub is_beyond-requires-clause-on : goal.is_beyond-requires-clause-on
is_beyond-requires-clause-on g c =
    let m = c.args.dcel.now in
    subst (IsOnLine m c.args.point) (sym c.rev-other.ensures.number) (on_rev m c.every_mesh.ensures c.args.point (number_of c.args.edge) c.requires.on)

pub returns-then-is_beyond-clause-not_behind : goal.returns-then-is_beyond-clause-not_behind
returns-then-is_beyond-clause-not_behind g c =
    let m = c.args.dcel.now in
    let h = number_of c.args.edge in
    let p = c.args.point in
    let back : LiesBeyond (point_at m) m.shape p (rev h) =
    subst (LiesBeyond (point_at m) m.shape p) c.rev-other.ensures.number (c.is_beyond.ensures.0 c.if-is_beyond.true) in
    subst (λ (i : ℕ). ¬ LiesBeyond (point_at m) m.shape p (rev i)) (sym c.rev-other.ensures.number)
    (subst (λ (i : ℕ). ¬ LiesBeyond (point_at m) m.shape p i) (sym (rev-rev h)) (not_behind m c.every_mesh.ensures p h back))
