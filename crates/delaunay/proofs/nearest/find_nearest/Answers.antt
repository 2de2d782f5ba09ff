use Rattle.std.proofs.Common.{sym, ◌∙◌}
use Rattle.std.proofs.lemmas.Option.{none-some}
use Rattle.std.proofs.lemmas.Result.{IfOk-weaker}
use Rattle.delaunay.proofs.Written.{any_ok}
use Rattle.delaunay.proofs.nearest.find_nearest.Goals as goal

pub returns-in-None-clause-none : goal.returns-in-None-clause-none
returns-in-None-clause-none g c = λ none. c.new.ensures.items

pub returns-in-None-clause-each : goal.returns-in-None-clause-each
returns-in-None-clause-each g c = λ some. absurd (some c.in-None.is)

pub returns-in-Some-clause-none : goal.returns-in-Some-clause-none
returns-in-Some-clause-none g c = any_ok c.find_each.result _ (λ list none. absurd (none-some _ (sym none ∙ c.in-Some.is)))

pub returns-in-Some-clause-each : goal.returns-in-Some-clause-each
returns-in-Some-clause-each g c = IfOk-weaker c.find_each.result _ _ (λ list each some. each) c.find_each.ensures
