use Rattle.std.proofs.Common.{◌∙◌, ℕ, ◌-◌, ap, arith}
use Rattle.dcel_maps.specs.Renumbering.{moved}
use Rattle.dcel_constrained.proofs.Rejoined.{can_named, end_below, fails_named, loses_then, rejoined, unjoined}
use Rattle.dcel_constrained.proofs.Settled.{outlined_of, sound_of}
use Rattle.dcel_constrained.proofs.triangulation.ConstrainedTriangulation.remove_between.Goals as goal

pub number_after-from-requires : goal.number_after-from-requires
number_after-from-requires g c =
    let below = end_below c.args.self.now.planar.dcel c.every_mesh.ensures c.args.vertex c.args.from c.requires.straight.first in
    omega (arith, below, c.num_vertices-vertices.ensures.count)

pub number_after-to-requires : goal.number_after-to-requires
number_after-to-requires g c =
    let below = end_below c.args.self.now.planar.dcel c.every_mesh.ensures c.args.vertex c.args.to c.requires.straight.second in
    omega (arith, below, c.num_vertices-vertices.ensures.count)

pub add_constraint-added-requires : goal.add_constraint-added-requires
add_constraint-added-requires g c =
    let old = c.args.self.now in
    let m = old.planar.dcel in
    record {
      can =
          can_named m c.every_mesh.ensures old.planar.due.items (sound_of old) (outlined_of old c.requires.whole) c.args.vertex c.args.from c.args.to c.requires.straight
          c.remove-removed.new.self.planar.dcel c.every_mesh-2.ensures c.in-Ok.removed c.in-Ok.ensures.removes c.in-Ok.ensures.constraints c.number_after-from.result c.number_after-to.result
          (c.number_after-from.ensures ∙ ap (λ (n : ℕ). moved (n - 1) c.args.vertex c.args.from) c.num_vertices-vertices.ensures.count)
          (c.number_after-to.ensures ∙ ap (λ (n : ℕ). moved (n - 1) c.args.vertex c.args.to) c.num_vertices-vertices.ensures.count);
    }

pub returns-in-Ok-added-clause-removes : goal.returns-in-Ok-added-clause-removes
returns-in-Ok-added-clause-removes g c =
    let new = c.remove-removed.new.self.planar.dcel in
    let then = c.add_constraint-added.new.self.planar.dcel in
    loses_then new then c.add_constraint-added.ensures.keeps c.every_mesh-2.ensures c.every_mesh-in-Ok.ensures c.remove-removed.new.self.planar.triangulated.closed
    c.add_constraint-added.new.self.planar.triangulated.closed c.args.self.now.planar.dcel c.args.vertex c.in-Ok.removed c.add_constraint-added.ensures.points c.in-Ok.ensures.removes

pub returns-in-Ok-added-clause-constraints : goal.returns-in-Ok-added-clause-constraints
returns-in-Ok-added-clause-constraints g c =
    let new = c.remove-removed.new.self.planar.dcel in
    let then = c.add_constraint-added.new.self.planar.dcel in
    rejoined new then c.add_constraint-added.ensures.keeps c.every_mesh-2.ensures c.every_mesh-in-Ok.ensures c.remove-removed.new.self.planar.triangulated.closed
    c.add_constraint-added.new.self.planar.triangulated.closed c.args.self.now.planar.dcel c.args.vertex c.args.from c.args.to c.number_after-from.result c.number_after-to.result
    (c.number_after-from.ensures ∙ ap (λ (n : ℕ). moved (n - 1) c.args.vertex c.args.from) c.num_vertices-vertices.ensures.count)
    (c.number_after-to.ensures ∙ ap (λ (n : ℕ). moved (n - 1) c.args.vertex c.args.to) c.num_vertices-vertices.ensures.count) c.requires.straight
    c.add_constraint-added.ensures.only c.in-Ok.ensures.constraints c.in-Ok-added.ensures.constrained

pub returns-in-Err-added-clause-fails : goal.returns-in-Err-added-clause-fails
returns-in-Err-added-clause-fails g c =
    let new = c.remove-removed.new.self.planar.dcel in
    let then = c.add_constraint-added.new.self.planar.dcel in (
      loses_then new then c.add_constraint-added.ensures.keeps c.every_mesh-2.ensures c.every_mesh-in-Ok.ensures c.remove-removed.new.self.planar.triangulated.closed
          c.add_constraint-added.new.self.planar.triangulated.closed c.args.self.now.planar.dcel c.args.vertex c.in-Ok.removed c.add_constraint-added.ensures.points c.in-Ok.ensures.removes,
      unjoined new then c.add_constraint-added.ensures.keeps c.every_mesh-2.ensures c.every_mesh-in-Ok.ensures c.remove-removed.new.self.planar.triangulated.closed
          c.add_constraint-added.new.self.planar.triangulated.closed c.args.self.now.planar.dcel c.args.vertex c.args.from c.args.to c.number_after-from.result c.number_after-to.result
          (c.number_after-from.ensures ∙ ap (λ (n : ℕ). moved (n - 1) c.args.vertex c.args.from) c.num_vertices-vertices.ensures.count)
          (c.number_after-to.ensures ∙ ap (λ (n : ℕ). moved (n - 1) c.args.vertex c.args.to) c.num_vertices-vertices.ensures.count) c.requires.straight
          c.add_constraint-added.ensures.only c.in-Ok.ensures.constraints c.add_constraint-added.ensures.again,
    )

pub returns-in-Err-clause-fails : goal.returns-in-Err-clause-fails
returns-in-Err-clause-fails g c =
    let old = c.args.self.now in
    let x = c.number_after-from.result in
    let y = c.number_after-to.result in
    let is_x = c.number_after-from.ensures ∙ ap (λ (n : ℕ). moved (n - 1) c.args.vertex c.args.from) c.num_vertices-vertices.ensures.count in
    let is_y = c.number_after-to.ensures ∙ ap (λ (n : ℕ). moved (n - 1) c.args.vertex c.args.to) c.num_vertices-vertices.ensures.count in
    fails_named old.planar c.remove-removed.new.self.planar c.args.vertex c.args.from c.args.to x y is_x is_y c.requires.straight
    (λ r loses lost.
    can_named old.planar.dcel c.every_mesh.ensures old.planar.due.items (sound_of old) (outlined_of old c.requires.whole) c.args.vertex c.args.from c.args.to c.requires.straight
    c.remove-removed.new.self.planar.dcel c.every_mesh-2.ensures r loses lost x y is_x is_y)
    c.in-Err.error c.error_after.result c.error_after.ensures c.in-Err.ensures.refuses c.in-Err.ensures.left
