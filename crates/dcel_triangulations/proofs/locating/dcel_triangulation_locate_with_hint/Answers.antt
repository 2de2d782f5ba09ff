use Rattle.std.proofs.Common.{subst}
use Rattle.dcel_triangulations.specs.Calls.{IsSo}
use Rattle.dcel_triangulations.specs.Held.{Kept}
use Rattle.dcel_triangulations.specs.Positions.{IsPlaceOf}
use Rattle.dcel_triangulations.proofs.locating.dcel_triangulation_locate_with_hint.Goals as goal

pub returns-clause-done : goal.returns-clause-done
returns-clause-done c = λ _.
    subst (λ (kept : Kept). IsSo (IsPlaceOf c.args.point c.tell_position.result) kept) c.as_mut-points.ensures.value
    (record {
      point = c.in-Some.point;
      is = c.in-Some.ensures.at;
      position = c.locate_with_hint.result;
      place = c.locate_with_hint.ensures;
      tells = c.tell_position.ensures;
    })
