use Rattle.std.proofs.Common.{◌∙◌, refl, sym}
use Rattle.dcel_constrained.specs.Constraints.{HasConstraint, MarksOnly}
use Rattle.dcel_constrained.specs.Constrained.{marked_mesh}
use Rattle.dcel_constrained.proofs.Loads.{at_ends, ends_found, laid_more, laid_past, no_end, no_start, parts_more, parts_past, unlaid}
use Rattle.dcel_constrained.proofs.triangulation.ConstrainedTriangulation.lay_numbered.Goals as goal

pub returns-in_default-clause-laid : goal.returns-in_default-clause-laid
returns-in_default-clause-laid g c =
    laid_past (marked_mesh c.args.self.now) c.args.vertices.now c.args.segments.now c.args.number (sym c.item_of.ensures ∙ c.in_default.is)

pub returns-in_default-clause-parts : goal.returns-in_default-clause-parts
returns-in_default-clause-parts g c = parts_past (marked_mesh c.args.self.now) c.args.vertices.now c.args.segments.now c.args.number

pub returns-in_default-item_of-clause-fails : goal.returns-in_default-item_of-clause-fails
returns-in_default-item_of-clause-fails g c =
    let s = c.in-Some.segment in
    (refl, (s, sym c.item_of.ensures ∙ c.in-Some.is, no_start c.args.vertices.now s (sym c.item_of-2.ensures ∙ c.in_default-item_of.is)))

pub returns-in_default-item_of-2-clause-fails : goal.returns-in_default-item_of-2-clause-fails
returns-in_default-item_of-2-clause-fails g c =
    let s = c.in-Some.segment in
    (refl, (s, sym c.item_of.ensures ∙ c.in-Some.is, no_end c.args.vertices.now s (sym c.item_of-3.ensures ∙ c.in_default-item_of-2.is)))

pub returns-in-Ok-clause-laid : goal.returns-in-Ok-clause-laid
returns-in-Ok-clause-laid g c =
    let s = c.in-Some.segment in
    let vertices = c.args.vertices.now in
    let new = marked_mesh c.try_add_constraint-added.new.self in
    let from = sym c.item_of-2.ensures ∙ c.in-Some-item_of.is in
    let to = sym c.item_of-3.ensures ∙ c.in-Some-item_of-2.is in
    laid_more (marked_mesh c.args.self.now) new vertices c.args.segments.now c.args.number c.every_mesh.ensures c.every_mesh-2.ensures
    c.try_add_constraint-added.new.self.planar.triangulated.closed c.try_add_constraint-added.ensures.keeps c.try_add_constraint-added.ensures.points s
    (sym c.item_of.ensures ∙ c.in-Some.is) (ends_found vertices s _ _ from to)
    (at_ends (λ x y. HasConstraint new x y) vertices s _ _ from to c.in-Ok.ensures.constrained)

pub returns-in-Ok-clause-parts : goal.returns-in-Ok-clause-parts
returns-in-Ok-clause-parts g c =
    let s = c.in-Some.segment in
    let vertices = c.args.vertices.now in
    let old = marked_mesh c.args.self.now in
    let new = marked_mesh c.try_add_constraint-added.new.self in
    let from = sym c.item_of-2.ensures ∙ c.in-Some-item_of.is in
    let to = sym c.item_of-3.ensures ∙ c.in-Some-item_of-2.is in
    parts_more old new vertices c.args.segments.now c.args.number c.try_add_constraint-added.ensures.keeps c.try_add_constraint-added.ensures.points s
    (sym c.item_of.ensures ∙ c.in-Some.is) (at_ends (λ x y. MarksOnly old new x y) vertices s _ _ from to c.try_add_constraint-added.ensures.only)

pub returns-in-Err-clause-fails : goal.returns-in-Err-clause-fails
returns-in-Err-clause-fails g c =
    let s = c.in-Some.segment in
    let vertices = c.args.vertices.now in
    let from = sym c.item_of-2.ensures ∙ c.in-Some-item_of.is in
    let to = sym c.item_of-3.ensures ∙ c.in-Some-item_of-2.is in
    unlaid c.args.self.now.planar c.try_add_constraint-added.new.self.planar vertices c.args.segments.now c.args.number s _ _ (sym c.item_of.ensures ∙ c.in-Some.is) from to
    c.requires.whole c.every_mesh-2.ensures (c.requires.vertices s.from _ from) (c.requires.vertices s.to _ to) c.in-Err.error c.not_added.result c.in-Err.ensures.refuses
    c.not_added.ensures
