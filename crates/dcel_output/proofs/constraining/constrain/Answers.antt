use Rattle.std.proofs.Common.{◌≡◌, ◌∙◌, ◌<◌, length, arith, subst}
use Rattle.std.proofs.lemmas.Option.{slice_get-get_or}
use Rattle.std.proofs.lemmas.Result.{err_from_is_err_and}
use Rattle.dcel_maps.specs.Shapes.{IsMesh}
use Rattle.dcel_constrained.specs.Constrained.{marked_mesh}
use Rattle.dcel_delaunay.specs.Triangulated.{mesh_in}
use Rattle.dcel_output.specs.Constraining.{AreChains, LieOnSegments}
use Rattle.dcel_output.proofs.Chained.{chains_more, fails_then, numbers_kept, on_more, stand_still}
use Rattle.dcel_output.proofs.constraining.constrain.Goals as goal

pub loop-number-init : goal.loop-number-init
loop-number-init g c = record {
  whole = c.in-Ok.ensures.whole;
  mesh = subst (λ (k : _). IsMesh k) c.dcel-2.ensures.mesh c.every_mesh-2.ensures;
  points = c.in-Ok.ensures.points;
  chains = λ i s below. absurd (omega (arith, below));
  only = λ u marked. absurd (c.in-Ok.ensures.free u marked);
  within = omega arith;
}

pub loop-number-preserved : goal.loop-number-preserved
loop-number-preserved g c =
    let old = marked_mesh c.loop-number.constrained in
    let new = marked_mesh c.lay.new.triangulation in
    let vertices = c.args.vertices.now in
    let segments = c.args.segments.now in
    let n = c.loop-number.number in
    let known = c.loop-number.invariant in
    let made = c.lay.ensures in
    let laid = c.in_ok-lay.ensures in
    let below : n < length segments = omega (arith, c.loop-number-test.true) in
    record {
      whole = laid.whole;
      mesh = made.mesh;
      points = made.points ∙ known.points;
      chains =
          chains_more old new vertices segments n known.mesh made.mesh c.lay.new.triangulation.planar.triangulated.closed made.keeps made.points _
          (slice_get-get_or segments n _ below) laid.chain known.chains;
      only = on_more old new vertices segments n made.keeps made.points _ (slice_get-get_or segments n _ below) laid.only known.only;
      within = omega (arith, c.loop-number-test.true);
    }

pub returns-in_err-lay-clause-fails : goal.returns-in_err-lay-clause-fails
returns-in_err-lay-clause-fails g c =
    let first = mesh_in c.args.triangulation in
    let m = marked_mesh c.loop-number.constrained in
    let segments = c.args.segments.now in
    let n = c.loop-number.number in
    let known = c.loop-number.invariant in
    let mesh_first : IsMesh first = subst (λ (k : _). IsMesh k) c.dcel.ensures.mesh c.every_mesh.ensures in
    let below : n < length segments = omega (arith, c.loop-number-test.true) in
    let given = err_from_is_err_and c.from_residual.result c.from_residual.ensures.1 in
    rw (given.1, given.2)
    (fails_then first m mesh_first known.mesh known.points c.args.vertices.now segments n known.only _ (slice_get-get_or segments n _ below) _ c.in_err-lay.ensures.fails)

pub returns-clause-chains : goal.returns-clause-chains
returns-clause-chains g c =
    let segments = c.args.segments.now in
    let all : c.loop-number.number ≡ length segments = omega (arith, c.loop-number-test.false, c.loop-number.invariant.within) in
    subst (AreChains (marked_mesh c.loop-number.constrained) c.args.vertices.now segments) all c.loop-number.invariant.chains

pub returns-clause-only : goal.returns-clause-only
returns-clause-only g c =
    let segments = c.args.segments.now in
    let all : c.loop-number.number ≡ length segments = omega (arith, c.loop-number-test.false, c.loop-number.invariant.within) in
    subst (LieOnSegments (marked_mesh c.loop-number.constrained) c.args.vertices.now segments) all c.loop-number.invariant.only

pub returns-clause-triangles : goal.returns-clause-triangles
returns-clause-triangles g c = λ points numbers numbered stand.
    let first = mesh_in c.args.triangulation in
    let m = marked_mesh c.loop-number.constrained in
    let segments = c.args.segments.now in
    let vertices = c.args.vertices.now in
    let known = c.loop-number.invariant in
    let mesh_first : IsMesh first = subst (λ (k : _). IsMesh k) c.dcel.ensures.mesh c.every_mesh.ensures in
    let all : c.loop-number.number ≡ length segments = omega (arith, c.loop-number-test.false, known.within) in
    let facts = c.dcel-3.ensures in
    record {
      numbered = numbers_kept first m mesh_first known.mesh known.points points numbers numbered;
      stand = stand_still first m known.points points vertices stand;
      chains = subst (AreChains m vertices segments) all known.chains;
      only = subst (LieOnSegments m vertices segments) all known.only;
      mesh = known.mesh;
      closed = facts.closed;
      triangles = facts.triangles;
      joined = facts.joined;
      plane = facts.plane;
      apart = facts.apart known.whole;
      covers = facts.covers known.whole;
      single = facts.single known.whole;
      hull = facts.hull known.whole;
      constrained = facts.constrained known.whole;
      visible = facts.visible known.whole;
    }
