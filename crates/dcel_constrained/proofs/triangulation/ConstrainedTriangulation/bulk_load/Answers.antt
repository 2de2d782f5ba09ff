use Rattle.std.proofs.Common.{◌≡◌, ◌+◌, ◌<◌, ℕ, All, Contains, List, Some, slice_get, length, arith, subst, sym}
use Rattle.std.proofs.lemmas.Result.{err_from_is_err_and}
use Rattle.dcel_constrained.specs.Constrained.{marked_mesh}
use Rattle.dcel_constrained.specs.Loading.{AreLaid, ArePartsOf}
use Rattle.dcel_constrained.proofs.Loads.{all_given, fails_since, is_full, laid_first, not_all_inserted, parts_first, stand_still, stands_within}
use Rattle.dcel_constrained.proofs.triangulation.ConstrainedTriangulation.bulk_load.Goals as goal

pub loop-number-init : goal.loop-number-init
loop-number-init g c = record {
  whole = c.in-Ok.ensures.whole;
  stand = c.in-Ok.ensures.stand;
  points =
      all_given (marked_mesh c.in_ok-triangulation.triangulation) (marked_mesh c.insert_all.new.self) c.args.points.now (length c.args.points.now) c.in_ok-triangulation.ensures.empty
      c.insert_all.ensures.adds;
  laid = laid_first (marked_mesh c.insert_all.new.self) c.in-Ok.vertices.items c.args.segments.now;
  parts =
      parts_first (marked_mesh c.in_ok-triangulation.triangulation) (marked_mesh c.insert_all.new.self) c.in-Ok.vertices.items c.args.segments.now
      c.in_ok-triangulation.ensures.free c.insert_all.ensures.splits;
  within = omega arith;
}

pub lay_numbered-requires-clause-vertices : goal.lay_numbered-requires-clause-vertices
lay_numbered-requires-clause-vertices g c =
    subst (λ (l : List ℕ). (i v : ℕ) → slice_get l i ≡ Some v → v < length (marked_mesh c.loop-number.triangulation).vertex_data) (sym c.deref.ensures.value)
    (stands_within (marked_mesh c.loop-number.triangulation) c.args.points.now c.in-Ok.vertices.items c.loop-number.invariant.stand)

pub loop-number-preserved : goal.loop-number-preserved
loop-number-preserved g c =
    let old = marked_mesh c.loop-number.triangulation in
    let new = marked_mesh c.lay_numbered.new.self in
    let vertices = c.in-Ok.vertices.items in
    let segments = c.args.segments.now in
    let n = c.loop-number.number in
    record {
      whole = c.in_ok-lay_numbered.ensures.whole;
      stand = stand_still old new c.args.points.now vertices c.lay_numbered.ensures.points c.loop-number.invariant.stand;
      points = subst (All (Contains c.args.points.now)) (sym c.lay_numbered.ensures.points) c.loop-number.invariant.points;
      laid =
          subst (λ (l : List ℕ). AreLaid old l segments n → AreLaid new l segments (n + 1)) c.deref.ensures.value c.in_ok-lay_numbered.ensures.laid c.loop-number.invariant.laid;
      parts =
          subst (λ (l : List ℕ). ArePartsOf old l segments n → ArePartsOf new l segments (n + 1)) c.deref.ensures.value c.in_ok-lay_numbered.ensures.parts
          c.loop-number.invariant.parts;
      within = omega (arith, c.loop-number-test.true);
    }

pub returns-clause-laid : goal.returns-clause-laid
returns-clause-laid g c =
    let segments = c.args.segments.now in
    let all : c.loop-number.number ≡ length segments = omega (arith, c.loop-number-test.false, c.loop-number.invariant.within) in
    subst (AreLaid (marked_mesh c.loop-number.triangulation) c.in-Ok.vertices.items segments) all c.loop-number.invariant.laid

pub returns-clause-only : goal.returns-clause-only
returns-clause-only g c =
    let segments = c.args.segments.now in
    let all : c.loop-number.number ≡ length segments = omega (arith, c.loop-number-test.false, c.loop-number.invariant.within) in
    subst (ArePartsOf (marked_mesh c.loop-number.triangulation) c.in-Ok.vertices.items segments) all c.loop-number.invariant.parts

pub returns-in-Err-clause-fails : goal.returns-in-Err-clause-fails
returns-in-Err-clause-fails g c =
    let t = c.insert_all.new.self in
    let given = all_given (marked_mesh c.in_ok-triangulation.triangulation) (marked_mesh t) c.args.points.now (length c.args.points.now) c.in_ok-triangulation.ensures.empty
    c.insert_all.ensures.adds in
    not_all_inserted c.in_ok-triangulation.triangulation.planar t.planar c.args.points.now c.args.segments.now c.in-Err.error c.not_inserted.result c.in-Err.ensures.fails
    c.not_inserted.ensures (is_full t c.args.points.now c.every_mesh.ensures given)

pub returns-in_err-lay_numbered-clause-fails : goal.returns-in_err-lay_numbered-clause-fails
returns-in_err-lay_numbered-clause-fails g c =
    let given = err_from_is_err_and c.from_residual-in_err-lay_numbered.result c.from_residual-in_err-lay_numbered.ensures.1 in
    rw (given.1, given.2)
    (fails_since (marked_mesh c.loop-number.triangulation) c.args.points.now c.in-Ok.vertices.items c.loop-number.invariant.stand c.args.segments.now c.loop-number.number
    c.loop-number.invariant.laid c.loop-number.invariant.parts c.deref.result.now c.deref.ensures.value _ c.in_err-lay_numbered.ensures.fails)
