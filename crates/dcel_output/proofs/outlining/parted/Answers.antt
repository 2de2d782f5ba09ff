use Rattle.std.proofs.Common.{◌<◌, ◌+◌, ◌∷◌, ◌++◌, [], List, length, take, arith, subst, sym}
use Rattle.std.specs.List.{AllZip}
use Rattle.std.proofs.lemmas.List.{take_more}
use Rattle.std.proofs.lemmas.Option.{slice_get-get_or}
use Rattle.dcel_maps.specs.Words.{count_of}
use Rattle.dcel_constrained.specs.declared.load.Segment.{Segment}
use Rattle.dcel_output.specs.Constraining.{IsChain}
use Rattle.dcel_output.specs.Outlining.{passes}
use Rattle.dcel_output.proofs.Parted.{halved, odd_as, odd_none, passes_more, zip_more}
use Rattle.dcel_output.proofs.outlining.parted.Goals as goal

pub loop-number-init : goal.loop-number-init
loop-number-init g c = record { shape = c.in-Ok.ensures.shape; chains = []; are = tt; marks = odd_none c.in-Ok.parted c.in-Ok.ensures.free; within = omega arith }

pub returns-then-not-turn_side-clause-fails : goal.returns-then-not-turn_side-clause-fails
returns-then-not-turn_side-clause-fails g c =
    let below : c.loop-number.number < length c.args.sides.now = omega (arith, c.loop-number-test.true) in
    (_, slice_get-get_or c.args.sides.now c.loop-number.number _ below, c.turn_side.ensures.broken c.if-not-turn_side.true)

pub loop-number-preserved : goal.loop-number-preserved
loop-number-preserved g c =
    let m = c.args.mesh.now in
    let sides = c.args.sides.now in
    let vertices = c.args.vertices.now in
    let n = c.loop-number.number in
    let known = c.loop-number.invariant in
    let below : n < length sides = omega (arith, c.loop-number-test.true) in
    let found = c.turn_side.ensures.turned c.if-not-turn_side.false in
    let chains = known.chains ++ found.0 ∷ [] in
    record {
      shape = c.turn_side.ensures.shape;
      chains = chains;
      are =
          subst (λ (l : List Segment). AllZip (IsChain m vertices) l chains) (sym (take_more sides n _ below))
          (zip_more (IsChain m vertices) (take n sides) known.chains _ found.0 known.are found.1);
      marks =
          odd_as c.turn_side.new.parted (λ u. passes known.chains u + count_of u (halved found.0)) (passes chains) (passes_more known.chains found.0)
          (found.2 (passes known.chains) known.marks);
      within = omega (arith, c.loop-number-test.true);
    }
