use Rattle.dcel_constrained.proofs.Copied.{none_marked}
use Rattle.dcel_output.proofs.outlining.freed.Goals as goal

pub returns-in-Ok-clause-free : goal.returns-in-Ok-clause-free
returns-in-Ok-clause-free g c u marked = none_marked _ (λ x k is. is) c.in_ok-copy.copy.undirected_data c.in-Ok.freed.undirected_data c.in-Ok.ensures.answered u marked
