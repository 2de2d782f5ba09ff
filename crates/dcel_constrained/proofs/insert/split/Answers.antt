use Rattle.std.proofs.Common.{◌≡◌, ◌/◌, ℕ, rules, subst}
use mathlib.Core.Logic.{∥∥₁_map}
use Rattle.dcel_maps.specs.Shapes.{IsMesh, end_of, origin_of}
use Rattle.dcel_maps.specs.Walking.{Leads}
use Rattle.dcel_regions.specs.Marked.{IsMarked}
use Rattle.dcel_constrained.proofs.Marked.{either_twice, gains_twice, lists_twice, outside_twice, splits_free, splits_twice, triangulated_twice}
use Rattle.dcel_planar.proofs.Refused.{fails_mesh}
use Rattle.dcel_constrained.proofs.Settled.{points_kept, splits_beside}
use Rattle.dcel_constrained.proofs.Told.{gains_in}
use Rattle.dcel_constrained.proofs.insert.split.Goals as goal

pub returns-in-Err-clause-splits : goal.returns-in-Err-clause-splits
returns-in-Err-clause-splits g c =
    let old = c.args.planar.now in
    let new = c.put_at.new.self in
    let mesh : IsMesh old.dcel = c.every_mesh.ensures in
    let after : IsMesh new.dcel = c.every_mesh-in-Err.ensures in
    splits_beside old.dcel new.dcel _ (λ x is. is) c.put_at.ensures.edge_data mesh after new.triangulated.closed c.in-Err.ensures.starts
    (points_kept old.dcel new.dcel c.args.point _ mesh (fails_mesh old new c.args.point c.in-Err.error c.in-Err.ensures.refuses))

pub returns-then-not-is_constraint-clause-splits : goal.returns-then-not-is_constraint-clause-splits
returns-then-not-is_constraint-clause-splits g c =
    let old = c.args.planar.now in
    let new = c.put_at.new.self in
    let mesh : IsMesh old.dcel = c.every_mesh.ensures in
    let after : IsMesh new.dcel = c.every_mesh-in-Ok.ensures in
    splits_free old.dcel new.dcel _ (λ x is. is) c.put_at.ensures.edge_data mesh after c.args.edge c.in-Ok.vertex c.in-Ok.ensures.ends c.args.point
    (gains_in old new c.args.edge c.args.point c.in-Ok.vertex c.in-Ok.ensures.put)
    (λ marked. (let so = c.is_marked-is_constraint.ensures.1 (rw c.as_undirected.ensures marked) in let no = c.if-not-is_constraint.true in cc))

pub returns-else-not-is_constraint-clause-gains : goal.returns-else-not-is_constraint-clause-gains
returns-else-not-is_constraint-clause-gains g c =
    let old = c.args.planar.now in
    let new = c.put_at.new.self in
    gains_twice new.dcel c.mark_between.new.dcel c.mark_between-in-Ok.new.dcel (c.mark_between.ensures.marked.0 / 2) (c.mark_between-in-Ok.ensures.marked.0 / 2)
    c.mark_between.ensures.marked.2 c.mark_between-in-Ok.ensures.marked.2 old.dcel c.args.point c.in-Ok.vertex
    (gains_in old new c.args.edge c.args.point c.in-Ok.vertex c.in-Ok.ensures.put)

pub returns-else-not-is_constraint-clause-lists : goal.returns-else-not-is_constraint-clause-lists
returns-else-not-is_constraint-clause-lists g c =
    let old = c.args.planar.now in
    let new = c.put_at.new.self in
    lists_twice new.dcel c.mark_between.new.dcel c.mark_between-in-Ok.new.dcel (c.mark_between.ensures.marked.0 / 2) (c.mark_between-in-Ok.ensures.marked.0 / 2)
    c.mark_between.ensures.marked.2 c.mark_between-in-Ok.ensures.marked.2 old.dcel old.due.items new.due.items c.put_at.ensures.lists

pub returns-else-not-is_constraint-clause-hull : goal.returns-else-not-is_constraint-clause-hull
returns-else-not-is_constraint-clause-hull g c =
    either_twice c.put_at.new.self.dcel c.mark_between.new.dcel c.mark_between-in-Ok.new.dcel (c.mark_between.ensures.marked.0 / 2)
    (c.mark_between-in-Ok.ensures.marked.0 / 2) c.mark_between.ensures.marked.2 c.mark_between-in-Ok.ensures.marked.2 c.in-Ok.ensures.hull

pub returns-else-not-is_constraint-clause-splits : goal.returns-else-not-is_constraint-clause-splits
returns-else-not-is_constraint-clause-splits g c =
    let old = c.args.planar.now in
    let new = c.put_at.new.self in
    let t = c.in-Ok.vertex in
    let mesh : IsMesh old.dcel = c.every_mesh.ensures in
    let after : IsMesh new.dcel = c.every_mesh-in-Ok.ensures in
    let from : c.fix-from.result ≡ origin_of old.dcel.shape c.args.edge = search rules in
    let to : c.fix-to.result ≡ end_of old.dcel.shape c.args.edge = search rules in
    let was : IsMarked old.dcel (c.args.edge / 2) = subst (IsMarked old.dcel) c.as_undirected.ensures (c.is_marked-is_constraint.ensures.0 (search rules)) in
    splits_twice old.dcel new.dcel c.mark_between.new.dcel c.mark_between-in-Ok.new.dcel _ (λ x is. is) c.put_at.ensures.edge_data mesh after c.args.edge t
    c.in-Ok.ensures.ends c.args.point (gains_in old new c.args.edge c.args.point t c.in-Ok.ensures.put)
    c.requires.place.0 c.requires.place.1 was c.mark_between.ensures.marked.0 c.mark_between-in-Ok.ensures.marked.0
    (subst (λ (v : ℕ). Leads new.dcel.shape t v c.mark_between.ensures.marked.0) from c.mark_between.ensures.marked.1) c.mark_between.ensures.marked.2 c.mark_between.ensures.mesh
    (subst (λ (v : ℕ). Leads c.mark_between.new.dcel.shape t v c.mark_between-in-Ok.ensures.marked.0) to c.mark_between-in-Ok.ensures.marked.1)
    c.mark_between-in-Ok.ensures.marked.2

pub invariant_of-planar : goal.invariant_of-planar
invariant_of-planar g c =
    let new = c.put_at.new.self in
    let a = c.mark_between.ensures.marked.0 / 2 in
    let b = c.mark_between-in-Ok.ensures.marked.0 / 2 in
    record {
      triangulated =
          triangulated_twice new.dcel c.mark_between.new.dcel c.mark_between-in-Ok.new.dcel a b c.mark_between.ensures.marked.2 c.mark_between-in-Ok.ensures.marked.2
          new.triangulated;
      outlined =
          ∥∥₁_map new.outlined
          (λ way. outside_twice new.dcel c.mark_between.new.dcel c.mark_between-in-Ok.new.dcel a b c.mark_between.ensures.marked.2 c.mark_between-in-Ok.ensures.marked.2
          new.due.items way);
    }
