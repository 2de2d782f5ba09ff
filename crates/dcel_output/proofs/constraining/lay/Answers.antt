use Rattle.std.proofs.Common.{◌∙◌, subst, sym}
use Rattle.dcel_maps.specs.Shapes.{IsMesh}
use Rattle.dcel_constrained.specs.Constrained.{marked_mesh}
use Rattle.dcel_output.specs.Constraining.{HasEnds}
use Rattle.dcel_output.proofs.Chained.{not_laid, on_of}
use Rattle.dcel_output.proofs.constraining.lay.Goals as goal

pub returns-in-Ok-clause-only : goal.returns-in-Ok-clause-only
returns-in-Ok-clause-only g c =
    let v = c.in-Some.from in
    let w = c.in-Some-vertex_at.to in
    let ends : HasEnds c.args.vertices.now c.args.segment v w = record { from = sym c.vertex_at.ensures ∙ c.in-Some.is; to = sym c.vertex_at-2.ensures ∙ c.in-Some-vertex_at.is } in
    on_of (marked_mesh c.args.triangulation.now) (marked_mesh c.try_add_constraint-added.new.self) c.args.vertices.now c.args.segment v w ends c.try_add_constraint-added.ensures.only

pub returns-in-Err-clause-fails : goal.returns-in-Err-clause-fails
returns-in-Err-clause-fails g c =
    let v = c.in-Some.from in
    let w = c.in-Some-vertex_at.to in
    let ends : HasEnds c.args.vertices.now c.args.segment v w = record { from = sym c.vertex_at.ensures ∙ c.in-Some.is; to = sym c.vertex_at-2.ensures ∙ c.in-Some-vertex_at.is } in
    let mesh : IsMesh (marked_mesh c.args.triangulation.now) = subst (λ (m : _). IsMesh m) c.dcel.ensures.mesh c.every_mesh.ensures in
    let mesh_new : IsMesh (marked_mesh c.try_add_constraint-added.new.self) = subst (λ (m : _). IsMesh m) c.dcel-2.ensures.mesh c.every_mesh-2.ensures in
    not_laid c.args.triangulation.now.planar c.try_add_constraint-added.new.self.planar c.args.vertices.now c.args.segment c.args.number v w ends c.requires mesh mesh_new
    c.in-Err.error c.not_laid.result c.in-Err.ensures.refuses c.not_laid.ensures
