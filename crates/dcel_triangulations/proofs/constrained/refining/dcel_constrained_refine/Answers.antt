use Rattle.std.proofs.Common.{◌≡◌, Some, false, subst, sym, true≢false}
use Rattle.dcel_triangulations.specs.Calls.{AreSo}
use Rattle.dcel_triangulations.specs.constrained.Held.{Kept}
use Rattle.dcel_triangulations.specs.constrained.Refining.{RefinesTriangulation, parameters_given}
use Rattle.dcel_triangulations.proofs.constrained.refining.dcel_constrained_refine.Goals as goal

pub returns-in-Ok-Stopped-clause-done : goal.returns-in-Ok-Stopped-clause-done
returns-in-Ok-Stopped-clause-done c =
    let given = c.args.parameters.now in
    let wanted : c.parameters_of-wanted.result ≡ parameters_given given = c.parameters_of-wanted.ensures in
    let known = c.in-Ok-Stopped.ensures in
    let reports = rw (c.in-Ok-Stopped.field-0-is, wanted) at known.reports in
    λ _.
    subst (λ (kept : Kept). AreSo (RefinesTriangulation given c.in-Ok-Stopped.vertices c.in-Ok-Stopped.corners false) kept (Some c.refine.new.triangulation)) c.as_mut.ensures.value
    (record {
      adds = rw wanted at known.adds;
      splits = known.splits;
      whole = known.whole;
      counted = reports.1;
      excepts = reports.2;
      told = (λ is. absurd (true≢false (sym is)), λ good. absurd (reports.0 good));
    })
