use Rattle.mesh_page.proofs.constrained.changing.insert.Goals as goal

pub returns-in-Ok-clause-done : goal.returns-in-Ok-clause-done
returns-in-Ok-clause-done c = λ _. (
  record {
    point = c.in-Some.point;
    is = record { x = c.in-Some.ensures.x; y = c.in-Some.ensures.y };
    inserted = rw c.index.ensures.value c.in-Ok.ensures.inserts;
    whole = c.in-Ok.ensures.whole;
    same = c.insert.ensures.same;
  },
  c.insert.ensures.splits,
)

pub returns-in-Err-clause-fails : goal.returns-in-Err-clause-fails
returns-in-Err-clause-fails c = λ _ _. (
  record {
    point = c.in-Some.point;
    is = record { x = c.in-Some.ensures.x; y = c.in-Some.ensures.y };
    error = c.in-Err.error;
    why = c.status_of_insertion.ensures;
    fails = c.in-Err.ensures.refuses;
  },
  c.insert.ensures.splits,
)
