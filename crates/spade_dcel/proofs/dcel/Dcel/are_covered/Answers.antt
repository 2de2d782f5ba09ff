use Rattle.std.proofs.Common.{◌<◌, sym, subst, arith}
use Rattle.dcel_maps.specs.theory.RingTests.{EachOf, IsCovered}
use Rattle.dcel_maps.specs.Words.{count_of, word_of}
use Rattle.dcel_maps.proofs.removal.RingLoops.{each_goes_on}
use Rattle.dcel_maps.proofs.words.Counts.{count-later, count-same}
use Rattle.spade_dcel.proofs.dcel.Dcel.are_covered.Goals as goal

pub is_covered-requires : goal.is_covered-requires
is_covered-requires g c =
    c.loop-face.invariant.1 c.in-Some.field-0-0.now
    (subst (λ w. 0 < count_of c.in-Some.field-0-0.now w) (sym c.in-Some.ensures.cases.0) (omega (arith, count-same c.in-Some.field-0-0.now c.in-Some.after.now)))

pub loop-face-preserved : goal.loop-face-preserved
loop-face-preserved g c = (
  each_goes_on (λ f. EachOf (IsCovered c.args.edges.now c.args.list.now) (word_of c.args.self.now.shape.words f)) c.args.faces.now c.loop-face.left.now
      c.loop-face.invariant.0 c.in-Some.field-0-0.now c.in-Some.after.now c.in-Some.ensures.cases.0 (c.is_covered.ensures.0 c.if-not-is_covered.false),
  λ k found. c.loop-face.invariant.1 k
      (subst (λ w. 0 < count_of k w) (sym c.in-Some.ensures.cases.0) (count-later k c.in-Some.field-0-0.now c.in-Some.after.now found)),
)
