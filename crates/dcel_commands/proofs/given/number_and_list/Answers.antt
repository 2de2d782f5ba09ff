use Rattle.std.proofs.Common.{◌≡◌, ◌∷◌, ◌∙◌, List, ℕ, ap, refl}
use Rattle.std.specs.Fmt.{decimal}
use Rattle.dcel_commands.proofs.Lists.{no_list_after}
use Rattle.dcel_commands.proofs.given.number_and_list.Goals as goal

pub returns-in_err-list : goal.returns-in_err-list
returns-in_err-list g c = rw c.from_residual-in_err-list.ensures (no_list_after _ _ _ c.in_ok-number.ensures.read c.in_err-list.ensures)

pub returns-in-Ok : goal.returns-in-Ok
returns-in-Ok g c =
    let read = c.in_ok-list.ensures in
    let is : c.in-Ok.list.items ≡ read.0 = rw c.in-Ok.is at read.2 in (
      c.in_ok-number.number,
      read.0,
      (
        (c.in_ok-number.ensures.in_range, read.1.0),
        c.in_ok-number.ensures.read ∙ ap (λ (x : List (List ℕ)). decimal c.in_ok-number.number ∷ x) read.1.1,
      ),
      (refl, is),
    )

pub returns-in-Err : goal.returns-in-Err
returns-in-Err g c =
    let read = c.in_ok-list.ensures in (
      c.in_ok-number.number,
      read.0,
      (
        (c.in_ok-number.ensures.in_range, read.1.0),
        c.in_ok-number.ensures.read ∙ ap (λ (x : List (List ℕ)). decimal c.in_ok-number.number ∷ x) read.1.1,
      ),
      rw c.in-Err.is at read.2,
    )
