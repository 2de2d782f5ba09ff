use Rattle.std.proofs.Common.{ℕ, ◌+◌, sym, subst, ◌∙◌, true≢false}
use Rattle.dcel_refinement.proofs.Exceptions.{CountedTo, counted_none, counted_not, counted_one}
use Rattle.dcel_refinement.proofs.judging.count_exceptions.Goals as goal
use Rattle.dcel_refinement.proofs.judging.count_exceptions.Goals.{then-is_excepted, else-is_excepted}

pub loop-place-init : goal.loop-place-init
loop-place-init g c = counted_none c.args.mesh.now c.args.parameters.now

pub loop-place-preserved : goal.loop-place-preserved
loop-place-preserved g c =
    let so_far = c.loop-place.invariant in
    let told = rw c.new.ensures at c.is_excepted.ensures in
    elim c.if-is_excepted.branch [
      | then-is_excepted w ↦
          subst (λ (n : ℕ). CountedTo c.args.mesh.now c.args.parameters.now (c.loop-place.place + 1) n) (sym w.count-is)
          (counted_one c.args.mesh.now c.args.parameters.now c.loop-place.place c.loop-place.count so_far (told.0 w.if-is_excepted.true))
      | else-is_excepted w ↦
          subst (λ (n : ℕ). CountedTo c.args.mesh.now c.args.parameters.now (c.loop-place.place + 1) n) (sym w.count-is)
          (counted_not c.args.mesh.now c.args.parameters.now c.loop-place.place c.loop-place.count so_far
          (λ excepted. true≢false (sym (told.1 excepted) ∙ w.if-is_excepted.false)))
    ]
