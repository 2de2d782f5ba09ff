use Rattle.dcel_commands.specs.Queries.{query_asks}
use Rattle.dcel_commands.specs.Steps.{asks}
use Rattle.dcel_commands.proofs.Columns.{FirstUnmet-not_met, FirstUnmet-least}
use Rattle.dcel_commands.proofs.laws.refusals_are_least.Goals as goal

pub returns-clause-illegal : goal.returns-clause-illegal
returns-clause-illegal g c = λ s limit command why. FirstUnmet-not_met s (asks limit command) why

pub returns-clause-least : goal.returns-clause-least
returns-clause-least g c = λ s limit command why. FirstUnmet-least s (asks limit command) why (c.columns_ascend.ensures.commands limit command)

pub returns-clause-unanswered : goal.returns-clause-unanswered
returns-clause-unanswered g c = λ s query why. FirstUnmet-not_met s (query_asks query) why

pub returns-clause-least_of_query : goal.returns-clause-least_of_query
returns-clause-least_of_query g c = λ s query why. FirstUnmet-least s (query_asks query) why (c.columns_ascend.ensures.queries query)
