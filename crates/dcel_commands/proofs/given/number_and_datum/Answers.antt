use Rattle.std.proofs.Common.{◌≡◌, ◌≢◌, ℕ, ℤ, List, [], ◌∷◌}
use Rattle.std.specs.Fmt.{decimal, signed_decimal}
use Rattle.dcel_text.specs.Numbers.{IsDatum}
use Rattle.dcel_commands.specs.Grammar.{Datum, Number}
use Rattle.dcel_commands.specs.Written.{IsWritten}
use Rattle.dcel_commands.proofs.given.number_and_datum.Goals as goal

-- after the number there is no datum
datum_missing : (items others : List (List ℕ)) (item : List ℕ) → items ≡ item ∷ others → ((d : ℤ) (more : List (List ℕ)) → IsDatum d → others ≢ signed_decimal d ∷ more)
    → (n : ℕ) (d : ℤ) → ¬ IsWritten (Number n ∷ Datum d ∷ []) items
datum_missing items others item e none n d written =
    let same : items ≡ decimal n ∷ signed_decimal d ∷ [] = written.1 in
    none d [] written.0.1.0 (cc)

pub returns-in_err-d : goal.returns-in_err-d
returns-in_err-d g c = rw c.from_residual-in_err-d.ensures (datum_missing _ _ _ c.in_ok-n.ensures.read c.in_err-d.ensures)
