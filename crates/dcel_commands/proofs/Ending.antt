-- What a conversation comes to.
use Rattle.std.proofs.Common.{◌≡◌, ℕ, List, [], ◌++◌, ◌<◌, length, take, refl, sym, ap, subst, ◌∙◌, append-nil, Bool, true, false, Option}
use Rattle.std.specs.Io.KnownBytes.{Consumes, Appends, IsAtEnd}
use Rattle.std.proofs.KnownBytes.{Consumes-trans}
use Rattle.std.proofs.lemmas.Bool.{false≢true}
use Rattle.dcel_text.specs.Transfer.{KeepsOrHides, AppendsBeginning}
use Rattle.dcel_text.specs.Lines.{lines, joined}
use Rattle.dcel_text.specs.declared.output.Writer.{Writer}
use Rattle.dcel_text.specs.Output.{Writing, Writes}
use Rattle.dcel_commands.specs.Talk.{Talk, start}
use Rattle.dcel_commands.specs.Stage.{Stage, Goes, Leads, Serves, Ends}
use Rattle.dcel_commands.specs.Run.{AnswersAll, AnswersWholeLines, AnswersInPart}
use Rattle.dcel_text.proofs.LineEnds.{lines-nil, joined-whole}
use Rattle.dcel_text.proofs.Writing.{writes_and}

-- nothing was read
abbrev pub origin : Stage
origin = record { mesh = start; begun = [] }

-- a call that gave nothing, though there was room: all was read
pub read_out : (a b c : Option (List ℕ)) (bytes buf : List ℕ) (n : ℕ) → Consumes a b bytes → Consumes b c (take n buf) × (n ≡ 0 → 0 < length buf → IsAtEnd c) → n ≡ 0 → 0 < length buf → Consumes a c bytes × IsAtEnd c
read_out a b c bytes buf n before given none room =
    (subst (Consumes a c) (append-nil bytes) (Consumes-trans a b c bytes [] before (subst (λ (k : ℕ). Consumes b c (take k buf)) none given.0)), given.1 none room)

-- ---- what the lines are answered

talk_to : (limit : ℕ) (u : Bool) (q : Stage) (bytes text more : List ℕ) → Leads limit origin q bytes text → Goes limit u q [] more → Talk limit start (lines u bytes) (text ++ more)
talk_to limit u q bytes text more f g = subst (λ (x : List ℕ). Talk limit start (lines u x) (text ++ more)) (append-nil bytes) (f u [] more g)

-- the lines that were read whole
talk_whole : (limit : ℕ) (q : Stage) (bytes text : List ℕ) → Leads limit origin q bytes text → Talk limit start (lines false bytes) text
talk_whole limit q bytes text f =
    subst (Talk limit start (lines false bytes)) (append-nil text)
    (talk_to limit false q bytes text [] f (subst (λ (x : List (List ℕ)). Talk limit q.mesh x []) (sym (ap (joined false q.begun) (lines-nil false) ∙ joined-whole q.begun)) refl))

module _ {K : Type 0} {has_failed : K → Bool} {contents : K → Option (List ℕ)} where
  -- ---- what was written, from a sink s to a sink t

  written : {s t : K} {old new : Writer K} {text : List ℕ} → Writes has_failed contents old new text → old.sink.now ≡ s → old.held ≡ [] → new.sink.now ≡ t → Writing has_failed contents s [] t new.held text
  written {s} {old = old} {new = new} {text = text} w first none last =
      let from = subst (λ (x : K). Writing has_failed contents x [] new.sink.now new.held text) first (subst (λ (x : List ℕ). Writing has_failed contents old.sink.now x new.sink.now new.held text) none w.writing) in
      subst (λ (x : K). Writing has_failed contents s [] x new.held text) last from

  all_written : {s t : K} {held text : List ℕ} → Writing has_failed contents s [] t held text → held ≡ [] → has_failed t ≡ false → Appends (contents s) (contents t) text
  all_written {s} {t} {held} {text} w e calm =
      let out = w.calm calm in
      subst (Appends (contents s) (contents t)) (sym (w.whole ∙ ap (λ (x : List ℕ). w.sent ++ x) (sym out.1 ∙ e) ∙ append-nil w.sent)) out.0

  part_written : {s t : K} {held text : List ℕ} → Writing has_failed contents s [] t held text → AppendsBeginning (contents s) (contents t) text
  part_written w = record { taken = w.sent; rest = w.rest; whole = w.whole; grows = w.begins }

  -- ---- the four ends

  pub read_failed : {limit : ℕ} {q : Stage} {bytes : List ℕ} {old new : Writer K} {s t : K} {a c : Option (List ℕ)} (b : Option (List ℕ)) → Consumes a b bytes → KeepsOrHides b c → Serves has_failed contents limit origin q bytes old new
      → old.sink.now ≡ s → old.held ≡ [] → new.sink.now ≡ t → new.held ≡ [] → has_failed new.sink.now ≡ false → AnswersWholeLines limit a c (contents s) (contents t)
  read_failed {limit} {q} {bytes} b r k f first none last empty calm =
      record { bytes = bytes; text = f.text; left = b; read = r; broke = k; answered = talk_whole limit q bytes f.text f.leads; written = all_written (written f.writes first none last) empty (ap has_failed (sym last) ∙ calm) }

  pub write_failed : {limit : ℕ} {q : Stage} {bytes : List ℕ} {old new : Writer K} {s t : K} {a b : Option (List ℕ)} → Consumes a b bytes → Serves has_failed contents limit origin q bytes old new
      → old.sink.now ≡ s → old.held ≡ [] → new.sink.now ≡ t → AnswersInPart limit a b (contents s) (contents t)
  write_failed {limit} {q} {bytes} r f first none last =
      record { bytes = bytes; text = f.text; unended = false; read = r; ended = λ wrong. absurd (false≢true wrong); answered = talk_whole limit q bytes f.text f.leads; written = part_written (written f.writes first none last) }

  pub last_write_failed : {limit : ℕ} {q : Stage} {bytes : List ℕ} {old out new : Writer K} {s t : K} {a b : Option (List ℕ)} → Consumes a b bytes × IsAtEnd b → Serves has_failed contents limit origin q bytes old out → Ends has_failed contents limit q out new
      → old.sink.now ≡ s → old.held ≡ [] → new.sink.now ≡ t → AnswersInPart limit a b (contents s) (contents t)
  last_write_failed {limit} {q} {bytes} over f e first none last =
      record { bytes = bytes; text = f.text ++ e.text; unended = true; read = over.0; ended = λ _. over.1; answered = talk_to limit true q bytes f.text e.text f.leads e.goes; written = part_written (written (writes_and f.writes e.writes) first none last) }

  pub answered_all : {limit : ℕ} {q : Stage} {bytes : List ℕ} {old out new : Writer K} {s t : K} {a b : Option (List ℕ)} → Consumes a b bytes × IsAtEnd b → Serves has_failed contents limit origin q bytes old out → Ends has_failed contents limit q out new
      → old.sink.now ≡ s → old.held ≡ [] → new.sink.now ≡ t → new.held ≡ [] → has_failed new.sink.now ≡ false → AnswersAll limit a b (contents s) (contents t)
  answered_all {limit} {q} {bytes} over f e first none last empty calm =
      record { bytes = bytes; text = f.text ++ e.text; read = over.0; ended = over.1; answered = talk_to limit true q bytes f.text e.text f.leads e.goes; written = all_written (written (writes_and f.writes e.writes) first none last) empty (ap has_failed (sym last) ∙ calm) }
