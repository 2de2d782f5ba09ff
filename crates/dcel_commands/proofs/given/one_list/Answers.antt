use Rattle.std.proofs.Common.{sym}
use Rattle.dcel_commands.proofs.Lists.{list_read, no_list}
use Rattle.dcel_commands.proofs.given.one_list.Goals as goal

pub returns-in_err-nothing : goal.returns-in_err-nothing
returns-in_err-nothing g c =
    let counted = c.count_numbers-count.ensures in
    rw c.from_residual.ensures (no_list _ _ counted.0 counted.1 c.in_err-nothing.ensures)

pub returns : goal.returns
returns g c =
    let counted = c.count_numbers-count.ensures in
    (counted.0, list_read _ _ counted.0 counted.1 c.in_ok-nothing.ensures, c.numbers.ensures counted.0 _ counted.1 (sym counted.2))
