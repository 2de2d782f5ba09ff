use Rattle.dcel_constrained.specs.Splitting.{StaysMarked}
use Rattle.dcel_constrained.proofs.Others.{none_freed}
use Rattle.dcel_constrained.proofs.Rejoined.{err_fails, ok_loses, ok_rejoins}
use Rattle.dcel_constrained.proofs.triangulation.ConstrainedTriangulation.remove_and_join.Goals as goal

pub returns-in_default-clause-fails : goal.returns-in_default-clause-fails
returns-in_default-clause-fails g c =
    let old = c.args.self.now.planar in
    let mid = c.finish.new.self.planar in (
      c.finish.ensures.points,
      none_freed old.dcel mid.dcel (record { keeps = c.finish.ensures.keeps; only = c.finish.ensures.only; points = c.finish.ensures.points }) c.every_mesh.ensures
          c.every_mesh-in_default.ensures old.triangulated.closed mid.triangulated.closed c.args.vertex,
      tt,
    )

pub returns-in_default-straight_at-clause-removes : goal.returns-in_default-straight_at-clause-removes
returns-in_default-straight_at-clause-removes g c =
    let old = c.args.self.now.planar in
    let mid = c.finish.new.self.planar in
    let stays : StaysMarked old.dcel mid.dcel = record { keeps = c.finish.ensures.keeps; only = c.finish.ensures.only; points = c.finish.ensures.points } in
    ok_loses old.dcel mid.dcel stays c.every_mesh.ensures c.every_mesh-2.ensures old.triangulated.closed mid.triangulated.closed c.args.vertex c.remove_alone.new.self.planar.dcel c.remove_alone.result
    c.remove_alone.ensures.removes

pub returns-in_default-straight_at-clause-constraints : goal.returns-in_default-straight_at-clause-constraints
returns-in_default-straight_at-clause-constraints g c =
    let old = c.args.self.now.planar in
    let mid = c.finish.new.self.planar in
    let stays : StaysMarked old.dcel mid.dcel = record { keeps = c.finish.ensures.keeps; only = c.finish.ensures.only; points = c.finish.ensures.points } in
    ok_rejoins old.dcel mid.dcel stays c.every_mesh.ensures c.every_mesh-2.ensures old.triangulated.closed mid.triangulated.closed c.args.vertex c.remove_alone.new.self.planar.dcel c.remove_alone.result
    c.remove_alone.ensures.constraints

pub returns-in_default-straight_at-clause-fails : goal.returns-in_default-straight_at-clause-fails
returns-in_default-straight_at-clause-fails g c =
    let old = c.args.self.now.planar in
    let mid = c.finish.new.self.planar in
    let stays : StaysMarked old.dcel mid.dcel = record { keeps = c.finish.ensures.keeps; only = c.finish.ensures.only; points = c.finish.ensures.points } in
    err_fails old mid c.remove_alone.new.self.planar stays c.every_mesh.ensures c.every_mesh-2.ensures old.triangulated.closed mid.triangulated.closed c.args.vertex c.finish.ensures.same
    c.in-Ok.ensures.whole c.remove_alone.result c.remove_alone.ensures.fails

pub returns-clause-removes : goal.returns-clause-removes
returns-clause-removes g c =
    let old = c.args.self.now.planar in
    let mid = c.finish.new.self.planar in
    let stays : StaysMarked old.dcel mid.dcel = record { keeps = c.finish.ensures.keeps; only = c.finish.ensures.only; points = c.finish.ensures.points } in
    ok_loses old.dcel mid.dcel stays c.every_mesh.ensures c.every_mesh-2.ensures old.triangulated.closed mid.triangulated.closed c.args.vertex c.remove_between.new.self.planar.dcel c.remove_between.result
    c.remove_between.ensures.removes

pub returns-clause-constraints : goal.returns-clause-constraints
returns-clause-constraints g c =
    let old = c.args.self.now.planar in
    let mid = c.finish.new.self.planar in
    let stays : StaysMarked old.dcel mid.dcel = record { keeps = c.finish.ensures.keeps; only = c.finish.ensures.only; points = c.finish.ensures.points } in
    ok_rejoins old.dcel mid.dcel stays c.every_mesh.ensures c.every_mesh-2.ensures old.triangulated.closed mid.triangulated.closed c.args.vertex c.remove_between.new.self.planar.dcel c.remove_between.result
    c.remove_between.ensures.constraints

pub returns-clause-fails : goal.returns-clause-fails
returns-clause-fails g c =
    let old = c.args.self.now.planar in
    let mid = c.finish.new.self.planar in
    let stays : StaysMarked old.dcel mid.dcel = record { keeps = c.finish.ensures.keeps; only = c.finish.ensures.only; points = c.finish.ensures.points } in
    err_fails old mid c.remove_between.new.self.planar stays c.every_mesh.ensures c.every_mesh-2.ensures old.triangulated.closed mid.triangulated.closed c.args.vertex c.finish.ensures.same
    c.in-Ok.ensures.whole c.remove_between.result c.remove_between.ensures.fails
