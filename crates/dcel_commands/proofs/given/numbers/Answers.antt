use Rattle.std.proofs.Common.{◌≡◌, ◌∷◌, arith, rules}
use Rattle.std.specs.Fmt.{decimal}
use Rattle.std.specs.Prelude.{Result, Ok, Err, MatchResult, IsErr}
use Rattle.std.proofs.lemmas.Bool.{false≢true}
use Rattle.dcel_text.specs.Items.{left}
use Rattle.dcel_text.proofs.Runs.{begins_one, runs_out, runs_within}
use Rattle.dcel_commands.proofs.given.numbers.Goals as goal

err_gives : {T E : Type 0} (result : Result T E) (P : T → Type 0) (Q : Type 0) → IsErr result → Q → MatchResult result P (λ _. Q)
err_gives (Ok x) P Q is q = absurd (false≢true is)
err_gives (Err e) P Q is q = q

pub returns-in_err-push : goal.returns-in_err-push
returns-in_err-push g c = λ numbers others begins counted.
    let so_far = c.loop-number.invariant in
    let next : left c.loop-number.others ≡ decimal c.in-Some.number ∷ left c.in-Some.more = search rules in
    let within = runs_within _ c.loop-number.list.items numbers _ _ others c.in-Some.number so_far.runs next (search rules) begins in
    err_gives _ _ _ c.from_residual-in_err-push.ensures.0 (omega (arith, within))

pub returns : goal.returns
returns g c = λ numbers others begins counted.
    (begins_one _ _ numbers _ others (runs_out _ _ _ c.loop-number.invariant.runs c.in_default.ensures.read) begins).0
