use Rattle.std.proofs.Common.{◌++◌, ◌∷◌, sym}
use Rattle.dcel_commands.specs.Grammar.{Slash, numbers}
use Rattle.dcel_commands.proofs.Lists.{list_before, no_later, no_slash}
use Rattle.dcel_commands.proofs.given.three_lists.Goals as goal

pub returns-in_err-others : goal.returns-in_err-others
returns-in_err-others g c =
    let first = c.count_numbers-count.ensures in
    rw c.from_residual.ensures (λ ls ms ns. no_slash _ _ first.0 first.1 c.in_err-others.ensures ls (numbers ms ++ Slash ∷ numbers ns))

pub returns-in_err-made : goal.returns-in_err-made
returns-in_err-made g c =
    let first = c.count_numbers-count.ensures in
    rw c.from_residual-in_err-made.ensures
    (λ ls ms ns. no_later _ _ _ first.0 first.1 c.in_ok-others.ensures ls (numbers ms ++ Slash ∷ numbers ns) (c.in_err-made.ensures ms ns))

pub returns : goal.returns
returns g c =
    let first = c.count_numbers-count.ensures in
    let later = c.in_ok-made.ensures in (
      first.0,
      later.0,
      later.1,
      list_before _ _ _ first.0 (numbers later.0 ++ Slash ∷ numbers later.1) first.1 c.in_ok-others.ensures later.2,
      c.and_two.ensures first.0 later.0 later.1 _ first.1 (sym first.2) later.3,
    )
