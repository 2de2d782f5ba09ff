use Rattle.std.proofs.Common.{refl, subst, arith}
use Rattle.dcel_maps.specs.Shapes.{IsMesh}
use Rattle.dcel_constrained.specs.Constrained.{marked_mesh}
use Rattle.dcel_constrained.proofs.Many.{splits_same}
use Rattle.dcel_refinement.proofs.Growth.{adds_both, adds_none, splits_more}
use Rattle.dcel_refinement.proofs.refining.add_all.Goals as goal

pub loop-vertex-init : goal.loop-vertex-init
loop-vertex-init g c =
    let old = marked_mesh c.args.triangulation.now in
    let mesh = subst IsMesh c.dcel.ensures.mesh c.every_mesh.ensures in
    record {
      whole = c.requires.whole;
      mesh = mesh;
      adds = adds_none old old 0 refl;
      splits = splits_same old mesh c.dcel.ensures.closed;
      within = omega arith;
    }

pub loop-vertex-preserved : goal.loop-vertex-preserved
loop-vertex-preserved g c =
    let old = marked_mesh c.args.triangulation.now in
    let mid = marked_mesh c.loop-vertex.triangulation in
    let new = marked_mesh c.add_one.new.triangulation in
    let before = c.loop-vertex.invariant in
    let one = c.add_one.ensures in
    record {
      whole = c.in_ok-goes_on.ensures.whole;
      mesh = one.mesh;
      adds = adds_both old mid new c.loop-vertex._vertex 1 before.adds one.adds;
      splits =
          splits_more old mid new c.loop-vertex._vertex 1 (subst IsMesh c.dcel.ensures.mesh c.every_mesh.ensures) c.dcel.ensures.closed before.mesh
          c.loop-vertex.triangulation.planar.triangulated.closed before.adds one.adds before.splits one.splits;
      within = omega (arith, c.loop-vertex-test.true);
    }

pub returns-in_err-goes_on-clause-splits : goal.returns-in_err-goes_on-clause-splits
returns-in_err-goes_on-clause-splits g c =
    let before = c.loop-vertex.invariant in
    let one = c.add_one.ensures in
    splits_more (marked_mesh c.args.triangulation.now) (marked_mesh c.loop-vertex.triangulation) (marked_mesh c.add_one.new.triangulation) c.loop-vertex._vertex 1
    (subst IsMesh c.dcel.ensures.mesh c.every_mesh.ensures) c.dcel.ensures.closed before.mesh c.loop-vertex.triangulation.planar.triangulated.closed before.adds one.adds
    before.splits one.splits

pub returns-then-not-goes_on-clause-splits : goal.returns-then-not-goes_on-clause-splits
returns-then-not-goes_on-clause-splits g c =
    let before = c.loop-vertex.invariant in
    let one = c.add_one.ensures in
    splits_more (marked_mesh c.args.triangulation.now) (marked_mesh c.loop-vertex.triangulation) (marked_mesh c.add_one.new.triangulation) c.loop-vertex._vertex 1
    (subst IsMesh c.dcel.ensures.mesh c.every_mesh.ensures) c.dcel.ensures.closed before.mesh c.loop-vertex.triangulation.planar.triangulated.closed before.adds one.adds
    before.splits one.splits
