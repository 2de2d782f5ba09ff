use Rattle.std.proofs.Common.{inl, inr, IsOk, sym, subst, true≢false}
use Rattle.mesh_page.proofs.constrained.segments.free.Goals as goal

pub returns-in-Ok-clause-done : goal.returns-in-Ok-clause-done
returns-in-Ok-clause-done c = λ _. record {
  edge = c.in-Some.edge;
  between = c.in-Some.ensures.some;
  freed = c.in-Ok.ensures.freed;
  others = c.remove_constraint_edge.ensures.others;
  points = c.remove_constraint_edge.ensures.points;
  whole = c.in-Ok.ensures.whole;
}

pub returns-in-Err-clause-no_memory : goal.returns-in-Err-clause-no_memory
returns-in-Err-clause-no_memory c = λ _. inl (record {
  edge = c.in-Some.edge;
  between = c.in-Some.ensures.some;
  others = c.remove_constraint_edge.ensures.others;
  points = c.remove_constraint_edge.ensures.points;
  same = c.in-Err.ensures.refused;
})

pub returns-in-Ok-finish-clause-done : goal.returns-in-Ok-finish-clause-done
returns-in-Ok-finish-clause-done c = λ _. (
  c.in-None.ensures.none,
  record {
    points = c.finish.ensures.points;
    whole = c.in-Ok-finish.ensures.whole;
    same = c.finish.ensures.same;
  },
  record {
    keeps = c.finish.ensures.keeps;
    only = c.finish.ensures.only;
    points = c.finish.ensures.points;
  },
)

pub returns-in-Err-finish-clause-no_memory : goal.returns-in-Err-finish-clause-no_memory
returns-in-Err-finish-clause-no_memory c = λ _. inr (
  c.in-None.ensures.none,
  record {
    points = c.finish.ensures.points;
    before = λ whole. true≢false (sym (subst (λ r. IsOk r) c.in-Err-finish.is (c.finish.ensures.ready whole)));
    after = c.in-Err-finish.ensures.unfinished;
  },
  record {
    keeps = c.finish.ensures.keeps;
    only = c.finish.ensures.only;
    points = c.finish.ensures.points;
  },
)
