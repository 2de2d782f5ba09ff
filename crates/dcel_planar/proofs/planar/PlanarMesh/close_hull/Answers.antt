use Rattle.std.proofs.Common.{◌≡◌, ℕ, arith, subst}
use mathlib.Core.Logic.{∥∥₁_map}
use Rattle.dcel_maps.specs.Shapes.{origin_of}
use Rattle.dcel_planar.specs.Growing.{IsOpen}
use Rattle.dcel_planar.proofs.Closed.{closes-refl}
use Rattle.dcel_planar.proofs.Ending.{closed_way, on_ok, still_way}
use Rattle.dcel_planar.proofs.GoingOn.{goes_on-refl}
use Rattle.dcel_planar.proofs.Recovered.{either_again}
use Rattle.dcel_planar.proofs.planar.PlanarMesh.close_hull.Goals as goal

pub close_sides-requires : goal.close_sides-requires
close_sides-requires g c = record { outer = (c.in-Some.ensures.some.2.live, c.in-Some.ensures.some.2.outer) }

pub returns-in-Some-clause-hull : goal.returns-in-Some-clause-hull
returns-in-Some-clause-hull g c =
    let old = c.args.self.now in
    let new = c.close_sides.new.self in
    let e = c.in-Some.edge in
    on_ok c.close_sides.result
    (λ closes.
    either_again new.dcel
    (∥∥₁_map old.outlined
    (λ way.
    closed_way old.dcel new.dcel old.due.items new.due.items way c.close_sides.ensures.closes.goes_on
    (λ t is.
    let there : t ≡ origin_of old.dcel.shape e = omega (arith, is.last, c.in-Some.ensures.some.1, c.in-Some.ensures.some.2.start) in
    closes (subst (λ (v : ℕ). IsOpen old.dcel v) there is)))))
    c.close_sides.ensures.hull

pub returns-in-None-clause-closes : goal.returns-in-None-clause-closes
returns-in-None-clause-closes g c = closes-refl _ c.args.self.now

pub returns-in-None-clause-hull : goal.returns-in-None-clause-hull
returns-in-None-clause-hull g c =
    let old = c.args.self.now in
    either_again old.dcel
    (∥∥₁_map old.outlined
    (λ way.
    closed_way old.dcel old.dcel old.due.items old.due.items way (goes_on-refl old.dcel)
    (λ t is.
    let stands = is.closing.stands in
    absurd (c.in-None.ensures.none t stands.0 is.last record { live = stands.1; outer = stands.2; start = stands.3 }))))

pub returns-in-Some-clause-outside : goal.returns-in-Some-clause-outside
returns-in-Some-clause-outside g c = λ way.
    still_way c.args.self.now.dcel c.close_sides.new.self.dcel c.args.self.now.due.items c.close_sides.new.self.due.items way c.close_sides.ensures.closes.goes_on
    c.close_sides.ensures.closes.listed
