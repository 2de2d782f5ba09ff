use Rattle.std.proofs.Common.{arith}
use Rattle.dcel_planar.proofs.Refused.{insert_fails, put_mesh}
use Rattle.dcel_constrained.proofs.Inserts.{grows_result, same_result, takes_result}
use Rattle.dcel_constrained.proofs.Settled.{splits_alone, stays_splits}
use Rattle.dcel_constrained.proofs.triangulation.ConstrainedTriangulation.insert.Goals as goal

pub returns-in-Err-clause-splits : goal.returns-in-Err-clause-splits
returns-in-Err-clause-splits g c =
    let t = c.finish.new.self in
    splits_alone c.args.self.now.planar.dcel t.planar.dcel (record { keeps = c.finish.ensures.keeps; only = c.finish.ensures.only; points = c.finish.ensures.points })
    c.every_mesh.ensures c.every_mesh-in-Err.ensures t.planar.triangulated.closed

pub returns-in-Err-clause-refuses : goal.returns-in-Err-clause-refuses
returns-in-Err-clause-refuses g c = (
  record { points = c.finish.ensures.points; same = c.finish.ensures.same },
  λ whole. absurd (let no = c.in-Err.ensures.ready whole in cc),
)

pub returns-in-Ok-clause-inserts : goal.returns-in-Ok-clause-inserts
returns-in-Ok-clause-inserts g c =
    takes_result c.args.self.now.planar _ c.finish.new.self.planar.dcel c.args.point c.finish.ensures.points c.insert_in.result c.every_mesh-in-Ok.ensures c.insert_in.ensures.inserts

pub returns-in-Ok-clause-splits : goal.returns-in-Ok-clause-splits
returns-in-Ok-clause-splits g c =
    let t = c.finish.new.self in
    stays_splits c.args.self.now.planar.dcel t.planar.dcel c.insert_in.new.self.planar.dcel (record { keeps = c.finish.ensures.keeps; only = c.finish.ensures.only; points = c.finish.ensures.points })
    c.every_mesh.ensures c.every_mesh-in-Ok.ensures t.planar.triangulated.closed c.insert_in.ensures.splits

pub returns-in-Ok-clause-edges : goal.returns-in-Ok-clause-edges
returns-in-Ok-clause-edges g c =
    let grows = grows_result c.finish.new.self.planar.dcel c.insert_in.new.self.planar.dcel c.args.point c.insert_in.result c.insert_in.ensures.inserts (put_mesh c.finish.new.self.planar c.insert_in.new.self.planar c.args.point c.insert_in.result c.insert_in.ensures.refuses) in
    omega (arith, c.finish.ensures.edges, grows)

pub returns-in-Ok-clause-refuses : goal.returns-in-Ok-clause-refuses
returns-in-Ok-clause-refuses g c =
    insert_fails c.args.self.now.planar c.finish.new.self.planar c.insert_in.new.self.planar c.args.point c.finish.ensures.points c.finish.ensures.same c.in-Ok.ensures.whole
    c.insert_in.result c.insert_in.ensures.refuses

pub returns-in-Ok-clause-same : goal.returns-in-Ok-clause-same
returns-in-Ok-clause-same g c = λ whole stays.
    same_result c.args.self.now.planar.dcel c.finish.new.self.planar.dcel c.insert_in.new.self.planar.dcel c.args.point (c.finish.ensures.same whole) stays c.insert_in.result c.insert_in.ensures.inserts
    (put_mesh c.finish.new.self.planar c.insert_in.new.self.planar c.args.point c.insert_in.result c.insert_in.ensures.refuses)
