use Rattle.std.proofs.Common.{◌≡◌, ◌≢◌, ℕ, List, [], ◌∷◌}
use Rattle.std.specs.Fmt.{decimal}
use Rattle.dcel_text.specs.Numbers.{IsNumber}
use Rattle.dcel_commands.specs.Grammar.{Number}
use Rattle.dcel_commands.specs.Written.{IsWritten}
use Rattle.dcel_commands.proofs.given.two_numbers.Goals as goal

-- after the first item there is no number
second_missing : (items others : List (List ℕ)) (item : List ℕ) → items ≡ item ∷ others → ((n : ℕ) (more : List (List ℕ)) → IsNumber n → others ≢ decimal n ∷ more)
    → (m n : ℕ) → ¬ IsWritten (Number m ∷ Number n ∷ []) items
second_missing items others item e none m n written =
    let same : items ≡ decimal m ∷ decimal n ∷ [] = written.1 in
    none n [] written.0.1.0 (cc)

pub returns-in_err-n : goal.returns-in_err-n
returns-in_err-n g c = rw c.from_residual-in_err-n.ensures (second_missing _ _ _ c.in_ok-m.ensures.read c.in_err-n.ensures.read)
