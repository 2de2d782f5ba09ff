use Rattle.dcel_predicates.proofs.step.are_short.Goals as goal
use Rattle.dcel_predicates.proofs.Reaches.{all_below, first_below, second_below, third_below}

pub returns-clause-first : goal.returns-clause-first
returns-clause-first c = λ below. c.reach.ensures.short (first_below c.reach.result c.reach-2.result c.reach-3.result below)

pub returns-clause-second : goal.returns-clause-second
returns-clause-second c = λ below. c.reach-2.ensures.short (second_below c.reach.result c.reach-2.result c.reach-3.result below)

pub returns-clause-third : goal.returns-clause-third
returns-clause-third c = λ below. c.reach-3.ensures.short (third_below c.reach.result c.reach-2.result c.reach-3.result below)

pub returns-clause-long : goal.returns-clause-long
returns-clause-long c =
    λ first second third.
    all_below c.reach.result c.reach-2.result c.reach-3.result (c.reach.ensures.long first) (c.reach-2.ensures.long second) (c.reach-3.ensures.long third)
