use Rattle.std.proofs.Common.{◌≡◌, ◌≢◌, ℕ, ℤ, List, [], ◌∷◌}
use Rattle.std.specs.Fmt.{signed_decimal}
use Rattle.dcel_text.specs.Numbers.{IsDatum}
use Rattle.dcel_commands.specs.Grammar.{Datum}
use Rattle.dcel_commands.specs.Written.{IsWritten}
use Rattle.dcel_commands.proofs.given.three_data.Goals as goal

-- after the first item there is no datum
second_missing : (items others : List (List ℕ)) (item : List ℕ) → items ≡ item ∷ others → ((d : ℤ) (more : List (List ℕ)) → IsDatum d → others ≢ signed_decimal d ∷ more)
    → (x y z : ℤ) → ¬ IsWritten (Datum x ∷ Datum y ∷ Datum z ∷ []) items
second_missing items others item e none x y z written =
    let same : items ≡ signed_decimal x ∷ signed_decimal y ∷ signed_decimal z ∷ [] = written.1 in
    none y (signed_decimal z ∷ []) written.0.1.0 (cc)

-- after the second there is none
third_missing : (items second others : List (List ℕ)) (item next : List ℕ) → items ≡ item ∷ second → second ≡ next ∷ others
    → ((d : ℤ) (more : List (List ℕ)) → IsDatum d → others ≢ signed_decimal d ∷ more)
    → (x y z : ℤ) → ¬ IsWritten (Datum x ∷ Datum y ∷ Datum z ∷ []) items
third_missing items second others item next e f none x y z written =
    let same : items ≡ signed_decimal x ∷ signed_decimal y ∷ signed_decimal z ∷ [] = written.1 in
    none z [] written.0.1.1.0 (cc)

pub returns-in_err-y : goal.returns-in_err-y
returns-in_err-y c = rw c.from_residual-in_err-y.ensures (second_missing _ _ _ c.in_ok-x.ensures c.in_err-y.ensures)

pub returns-in_err-z : goal.returns-in_err-z
returns-in_err-z c = rw c.from_residual-in_err-z.ensures (third_missing _ _ _ _ _ c.in_ok-x.ensures c.in_ok-y.ensures c.in_err-z.ensures)
