-- A text that a writer wrote and sent.
use Rattle.std.proofs.Common.{◌≡◌, ◌∙◌, ℕ, List, [], ◌++◌, Option, Bool, false, sym, ap, subst, append-nil}
use Rattle.std.specs.Io.KnownBytes.{Appends}
use Rattle.dcel_commands.specs.Answering.{WritesSome}
use Rattle.dcel_text.proofs.Writing.{writes_and, writes_text}
use Rattle.dcel_text.specs.Output.{Writing, Writes}
use Rattle.dcel_text.specs.declared.output.Writer.{Writer}
use Rattle.dcel_commands.specs.Rules.{State}
use Rattle.dcel_replay.specs.Answering.{IsText, WritesText}
use Rattle.dcel_replay.specs.declared.answer.Answer.{Answer}

module _ {K : Type 0} {has_failed : K → Bool} {contents : K → Option (List ℕ)} where
  -- the sink has all of it: nothing was held before it, nothing is held behind it, and the sink hasn't failed
  appended : {s t : K} {old new : Writer K} {text : List ℕ} → Writes has_failed contents old new text → old.sink.now ≡ s → old.held ≡ [] → new.sink.now ≡ t → new.held ≡ [] → has_failed new.sink.now ≡ false
      → Appends (contents s) (contents t) text
  appended {s} {t} {old} {new} {text} w first none last empty calm =
      let from : Writing has_failed contents s [] new.sink.now new.held text =
      subst (λ (x : K). Writing has_failed contents x [] new.sink.now new.held text) first (subst (λ (x : List ℕ). Writing has_failed contents old.sink.now x new.sink.now new.held text) none w.writing) in
      let out = from.calm calm in
      subst (λ (x : K). Appends (contents s) (contents x) text) last
      (subst (Appends (contents s) (contents new.sink.now)) (sym (from.whole ∙ ap (λ (x : List ℕ). from.sent ++ x) (sym out.1 ∙ empty) ∙ append-nil from.sent)) out.0)

  pub sent : {A : Type 0} {m : State} {answer : Answer A} {s t : K} {old mid new : Writer K} → WritesSome has_failed contents old mid (IsText m answer) → Writes has_failed contents mid new []
      → old.sink.now ≡ s → old.held ≡ [] → new.sink.now ≡ t → new.held ≡ [] → has_failed new.sink.now ≡ false → WritesText m answer (contents s) (contents t)
  sent some flushed first none last empty calm =
      record { text = some.text; is = some.fits; written = appended (writes_text (append-nil some.text) (writes_and some.writes flushed)) first none last empty calm }
