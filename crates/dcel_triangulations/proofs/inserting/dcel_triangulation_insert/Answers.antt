use Rattle.std.proofs.Common.{Some, subst}
use Rattle.dcel_triangulations.specs.Calls.{AreSo}
use Rattle.dcel_triangulations.specs.Held.{Kept}
use Rattle.dcel_triangulations.specs.Inserting.{FailsToInsertPoint, InsertsPoint}
use Rattle.dcel_triangulations.proofs.inserting.dcel_triangulation_insert.Goals as goal

pub returns-in-Ok-clause-done : goal.returns-in-Ok-clause-done
returns-in-Ok-clause-done c = λ _.
    subst (λ (kept : Kept). AreSo (InsertsPoint c.args.point c.index.result) kept (Some c.insert.new.self)) c.as_mut.ensures.value
    (record {
      point = c.in-Some.point;
      is = c.in-Some.ensures.at;
      inserted = rw c.index.ensures.value c.in-Ok.ensures.inserts;
      whole = c.in-Ok.ensures.whole;
      same = c.in-Ok.ensures.same;
    })

pub returns-in-Err-clause-fails : goal.returns-in-Err-clause-fails
returns-in-Err-clause-fails c = λ _ _ _.
    subst (λ (kept : Kept). AreSo (FailsToInsertPoint c.args.point c.status_of_insertion.result) kept (Some c.insert.new.self)) c.as_mut.ensures.value
    (record {
      point = c.in-Some.point;
      is = c.in-Some.ensures.at;
      error = c.in-Err.error;
      why = c.status_of_insertion.ensures;
      fails = c.in-Err.ensures.refuses;
    })
