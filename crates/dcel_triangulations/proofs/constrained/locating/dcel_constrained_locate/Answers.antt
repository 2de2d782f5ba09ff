use Rattle.std.proofs.Common.{subst}
use Rattle.dcel_triangulations.specs.Calls.{IsSo}
use Rattle.dcel_triangulations.specs.constrained.Held.{Kept}
use Rattle.dcel_triangulations.specs.constrained.Places.{IsPlaceOf}
use Rattle.dcel_triangulations.proofs.constrained.locating.dcel_constrained_locate.Goals as goal

pub returns-clause-done : goal.returns-clause-done
returns-clause-done c = λ _.
    subst (λ (kept : Kept). IsSo (IsPlaceOf c.args.point c.tell_position.result) kept) c.as_mut-points.ensures.value
    (record {
      point = c.in-Some.point;
      is = c.in-Some.ensures.at;
      position = c.locate.result;
      place = c.locate.ensures;
      tells = c.tell_position.ensures;
    })
