use Rattle.std.proofs.Common.{sym}
use Rattle.dcel_commands.specs.Grammar.{numbers}
use Rattle.dcel_commands.proofs.Lists.{list_before, list_read, no_later, no_list, no_slash}
use Rattle.dcel_commands.proofs.given.two_lists.Goals as goal

pub returns-in_err-second : goal.returns-in_err-second
returns-in_err-second g c =
    let first = c.count_numbers-first_count.ensures in
    rw c.from_residual.ensures (λ ms ns. no_slash _ _ first.0 first.1 c.in_err-second.ensures ms (numbers ns))

pub returns-in_err-nothing : goal.returns-in_err-nothing
returns-in_err-nothing g c =
    let first = c.count_numbers-first_count.ensures in
    let second = c.count_numbers-second_count.ensures in
    rw c.from_residual-in_err-nothing.ensures
    (λ ms ns. no_later _ _ _ first.0 first.1 c.in_ok-second.ensures ms (numbers ns) (no_list _ _ second.0 second.1 c.in_err-nothing.ensures ns))

pub returns : goal.returns
returns g c =
    let first = c.count_numbers-first_count.ensures in
    let second = c.count_numbers-second_count.ensures in (
      first.0,
      second.0,
      list_before _ _ _ first.0 (numbers second.0) first.1 c.in_ok-second.ensures (list_read _ _ second.0 second.1 c.in_ok-nothing.ensures),
      c.both.ensures first.0 second.0 _ _ first.1 second.1 (sym first.2) (sym second.2),
    )
