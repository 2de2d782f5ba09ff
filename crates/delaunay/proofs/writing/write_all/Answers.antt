use Rattle.std.proofs.lemmas.Result.{on_ok_weaker}
use Rattle.delaunay.proofs.writing.write_all.Goals as goal

pub returns-in-Some : goal.returns-in-Some
returns-in-Some g c = rw c.in-Some.is c.write_both.ensures

pub returns-in-None : goal.returns-in-None
returns-in-None g c = rw c.in-None.is (on_ok_weaker c.write_nearest.result (λ text stated. text) c.write_nearest.ensures)
