use Rattle.std.proofs.Common.{subst}
use Rattle.dcel_maps.specs.Shapes.{IsMesh}
use Rattle.dcel_constrained.specs.Constrained.{marked_mesh}
use Rattle.dcel_constrained.proofs.Settled.{splits_alone}
use Rattle.dcel_refinement.proofs.Growth.{adds_none, splits_more}
use Rattle.dcel_refinement.proofs.refining.add_vertices.Goals as goal

pub returns-in_default-clause-splits : goal.returns-in_default-clause-splits
returns-in_default-clause-splits g c =
    splits_alone (marked_mesh c.args.triangulation.now) (marked_mesh c.finish.new.self)
    (record { keeps = c.finish.ensures.keeps; only = c.finish.ensures.only; points = c.finish.ensures.points })
    (subst IsMesh c.dcel.ensures.mesh c.every_mesh.ensures) (subst IsMesh c.dcel-in_default.ensures.mesh c.every_mesh-in_default.ensures) c.dcel-in_default.ensures.closed

pub returns-in_err-due-clause-splits : goal.returns-in_err-due-clause-splits
returns-in_err-due-clause-splits g c =
    splits_alone (marked_mesh c.args.triangulation.now) (marked_mesh c.finish.new.self)
    (record { keeps = c.finish.ensures.keeps; only = c.finish.ensures.only; points = c.finish.ensures.points })
    (subst IsMesh c.dcel.ensures.mesh c.every_mesh.ensures) (subst IsMesh c.dcel-2.ensures.mesh c.every_mesh-2.ensures) c.dcel-2.ensures.closed

pub returns-clause-splits : goal.returns-clause-splits
returns-clause-splits g c =
    let old = marked_mesh c.args.triangulation.now in
    let mid = marked_mesh c.finish.new.self in
    let mesh = subst IsMesh c.dcel.ensures.mesh c.every_mesh.ensures in
    let mesh_mid = subst IsMesh c.dcel-2.ensures.mesh c.every_mesh-2.ensures in
    splits_more old mid (marked_mesh c.add_all.new.triangulation) 0 c.args.parameters.now.max_additional_vertices mesh c.dcel.ensures.closed mesh_mid
    c.dcel-2.ensures.closed (adds_none old mid 0 c.finish.ensures.points) c.add_all.ensures.adds
    (splits_alone old mid (record { keeps = c.finish.ensures.keeps; only = c.finish.ensures.only; points = c.finish.ensures.points }) mesh mesh_mid c.dcel-2.ensures.closed)
    c.add_all.ensures.splits
