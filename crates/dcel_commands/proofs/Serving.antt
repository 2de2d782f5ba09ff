-- How a conversation goes on.
use Rattle.std.proofs.Common.{◌≡◌, ◌≢◌, ℕ, ◌<◌, List, [], ◌∷◌, ◌++◌, length, take, refl, sym, ap, subst, ◌∙◌, arith, append_assoc, append-nil, inl, inr, Bool, true, false, Option}
use Rattle.std.specs.Prelude.{◌⊎◌}
use Rattle.std.proofs.lemmas.Bool.{cases_lt}
use Rattle.std.proofs.lemmas.List.{length-append, length-take-le, take_all}
use Rattle.dcel_text.specs.Lines.{line_feed, lines, joined, HasNoFeed}
use Rattle.dcel_text.specs.declared.output.Writer.{Writer}
use Rattle.dcel_text.specs.Output.{Writes}
use Rattle.dcel_commands.specs.Answering.{WritesSome}
use Rattle.dcel_commands.specs.Rules.{State}
use Rattle.dcel_commands.specs.Talk.{Answers, Talk, bad_line, good_line, no_list}
use Rattle.dcel_commands.specs.Stage.{Stage, Goes, Leads, Serves, Ends, closing}
use Rattle.dcel_text.proofs.LineEnds.{lines-nil, lines-feed, joined-append, joined-cons, joined-whole, joined-unended, lines-begun, lines-line}
use Rattle.dcel_text.proofs.Writing.{writes_nothing, writes_and, writes_text}

length-nonempty : (l : List ℕ) → l ≢ [] → 0 < length l
length-nonempty [] some = absurd (some refl)
length-nonempty (b ∷ l) some = omega arith

-- ---- lines that are too long are all one

answers_long : (limit : ℕ) (m : State) (k l text : List ℕ) (t : State) → 4096 < length k → 4096 < length l → Answers limit m k text t → Answers limit m l text t
answers_long limit m k l text t hk hl (bad_line bad e same) = bad_line (λ request h. absurd (omega (arith, h.short))) e same
answers_long limit m k l text t hk hl (good_line request h does) = absurd (omega (arith, h.short))
answers_long limit m k l text t hk hl (no_list request h has e same) = absurd (omega (arith, h.short))

short_or_long : (l : List ℕ) → (take 4097 l ≡ l) ⊎ ((4096 < length (take 4097 l)) × (4096 < length l))
short_or_long l =
    elim (cases_lt 4097 (length l)) [
      | inl lt ↦ inr (omega (arith, length-take-le 4097 l (omega arith)), omega arith)
      | inr le ↦ inl (take_all 4097 l le)
    ]

-- a line that was cut to the bytes that are kept of it is answered as the whole line is
answers_cut : (limit : ℕ) (m : State) (l text : List ℕ) (t : State) → Answers limit m (take 4097 l) text t → Answers limit m l text t
answers_cut limit m l text t h =
    elim (short_or_long l) [
      | inl e ↦ subst (λ (x : List ℕ). Answers limit m x text t) e h
      | inr long ↦ answers_long limit m (take 4097 l) l text t long.0 long.1 h
    ]

talk_long : (limit : ℕ) (m : State) (k l : List ℕ) (ls : List (List ℕ)) (text : List ℕ) → 4096 < length k → 4096 < length l → Talk limit m (k ∷ ls) text → Talk limit m (l ∷ ls) text
talk_long limit m k l ls text hk hl h = (h.0, h.1, h.2, answers_long limit m k l h.0 h.1 hk hl h.3, h.4, h.5)

joined_long : (limit : ℕ) (u : Bool) (m : State) (k l : List ℕ) (ls : List (List ℕ)) (text : List ℕ) → 4096 < length k → 4096 < length l → Talk limit m (joined u k ls) text → Talk limit m (joined u l ls) text
joined_long limit u m k l (line ∷ ls) text hk hl h =
    subst (λ (x : List (List ℕ)). Talk limit m x text) (sym (joined-cons u l line ls))
    (talk_long limit m (k ++ line) (l ++ line) ls text (omega (arith, length-append k line)) (omega (arith, length-append l line))
    (subst (λ (x : List (List ℕ)). Talk limit m x text) (joined-cons u k line ls) h))
joined_long limit true m k l [] text hk hl h =
    subst (λ (x : List (List ℕ)). Talk limit m x text) (sym (joined-unended l (omega arith)))
    (talk_long limit m k l [] text hk hl (subst (λ (x : List (List ℕ)). Talk limit m x text) (joined-unended k (omega arith)) h))
joined_long limit false m k l [] text hk hl h = subst (λ (x : List (List ℕ)). Talk limit m x text) (joined-whole k ∙ sym (joined-whole l)) h

joined_cut : (limit : ℕ) (u : Bool) (m : State) (l : List ℕ) (ls : List (List ℕ)) (text : List ℕ) → Talk limit m (joined u (take 4097 l) ls) text → Talk limit m (joined u l ls) text
joined_cut limit u m l ls text h =
    elim (short_or_long l) [
      | inl e ↦ subst (λ (x : List ℕ). Talk limit m (joined u x ls) text) e h
      | inr long ↦ joined_long limit u m (take 4097 l) l ls text long.0 long.1 h
    ]

-- ---- from one stage to another

leads_nothing : (limit : ℕ) (p : Stage) → Leads limit p p [] []
leads_nothing limit p u rest more g = g

pub leads_then : (limit : ℕ) (p q r : Stage) (xs ys text more : List ℕ) → Leads limit p q xs text → Leads limit q r ys more → Leads limit p r (xs ++ ys) (text ++ more)
leads_then limit p q r xs ys text more f g u rest end h =
    subst (λ (x : List ℕ). Goes limit u p x ((text ++ more) ++ end)) (sym (append_assoc xs ys rest))
    (subst (Goes limit u p (xs ++ (ys ++ rest))) (sym (append_assoc text more end)) (f u (ys ++ rest) (more ++ end) (g u rest end h)))

-- the bytes go on with the line that has begun
leads_begun : (limit : ℕ) (m : State) (begun xs : List ℕ) → HasNoFeed xs → Leads limit (record { mesh = m; begun = begun }) (record { mesh = m; begun = take 4097 (begun ++ xs) }) xs []
leads_begun limit m begun xs h u rest more g =
    let same : joined u begun (lines u (xs ++ rest)) ≡ joined u (begun ++ xs) (lines u rest) = ap (joined u begun) (lines-begun u xs rest h) ∙ sym (joined-append u begun xs (lines u rest)) in
    subst (λ (x : List (List ℕ)). Talk limit m x more) (sym same) (joined_cut limit u m (begun ++ xs) (lines u rest) more g)

-- the bytes end the line that has begun
leads_line : (limit : ℕ) (m t : State) (begun xs text : List ℕ) → HasNoFeed xs → Answers limit m (begun ++ xs) text t
    → Leads limit (record { mesh = m; begun = begun }) (record { mesh = t; begun = [] }) (xs ++ line_feed ∷ []) text
leads_line limit m t begun xs text h a u rest more g =
    subst (λ (x : List (List ℕ)). Talk limit m x (text ++ more)) (sym (lines-line u begun xs rest h)) (text, t, more, a, g, refl)

-- where no line has begun, the end asks for no text
goes_nowhere : (limit : ℕ) (p : Stage) → p.begun ≡ [] → Goes limit true p [] []
goes_nowhere limit p e = subst (λ (x : List (List ℕ)). Talk limit p.mesh x []) (sym (ap (λ (x : List ℕ). joined true x (lines true [])) e ∙ lines-nil true)) refl

closing-begun : (begun : List ℕ) → begun ≢ [] → closing begun ≡ line_feed ∷ []
closing-begun [] some = absurd (some refl)
closing-begun (b ∷ begun) some = refl

-- ---- the same with what was written

module _ {K : Type 0} {has_failed : K → Bool} {contents : K → Option (List ℕ)} where
  pub serves_nothing : {limit : ℕ} {p : Stage} {out : Writer K} → Serves has_failed contents limit p p [] out out
  serves_nothing {limit} {p} = record { text = []; writes = writes_nothing; leads = leads_nothing limit p }

  pub serves_then : {limit : ℕ} {p q r : Stage} {xs ys : List ℕ} {o out new : Writer K} → Serves has_failed contents limit p q xs o out → Serves has_failed contents limit q r ys out new → Serves has_failed contents limit p r (xs ++ ys) o new
  serves_then {limit} {p} {q} {r} {xs} {ys} f g = record { text = f.text ++ g.text; writes = writes_and f.writes g.writes; leads = leads_then limit p q r xs ys f.text g.text f.leads g.leads }

  -- what was held goes out
  pub serves_flushed : {limit : ℕ} {p q : Stage} {xs : List ℕ} {o out new : Writer K} → Serves has_failed contents limit p q xs o out → Writes has_failed contents out new [] → Serves has_failed contents limit p q xs o new
  serves_flushed f w = record { text = f.text; writes = writes_text (append-nil f.text) (writes_and f.writes w); leads = f.leads }

  -- the line that has begun is answered with these last bytes of it, and no other has begun
  serves_end : {limit : ℕ} {p : Stage} {t : State} {begun : List ℕ} (xs : List ℕ) {out new : Writer K} (w : WritesSome has_failed contents out new (λ text. Answers limit p.mesh (p.begun ++ xs) text t)) → HasNoFeed xs → begun ≡ []
      → Serves has_failed contents limit p (record { mesh = t; begun = begun }) (xs ++ line_feed ∷ []) out new
  serves_end {limit} {p} {t} {begun} xs {out} {new} w h b =
      subst (λ (x : List ℕ). Serves has_failed contents limit p (record { mesh = t; begun = x }) (xs ++ line_feed ∷ []) out new) (sym b)
      (record { text = w.text; writes = w.writes; leads = leads_line limit p.mesh t p.begun xs w.text h w.fits })

  -- so it is where what was answered are the bytes that were kept of it
  pub serves_kept : {limit : ℕ} {p : Stage} {t : State} {kept begun : List ℕ} (xs : List ℕ) {out new : Writer K} → HasNoFeed xs → kept ≡ take 4097 (p.begun ++ xs) → begun ≡ []
      → WritesSome has_failed contents out new (λ text. Answers limit p.mesh kept text t) → Serves has_failed contents limit p (record { mesh = t; begun = begun }) (xs ++ line_feed ∷ []) out new
  serves_kept {limit} {p} {t} {kept} {begun} xs {out} {new} h e b w =
      serves_end {begun = begun} xs (record { text = w.text; writes = w.writes; fits = answers_cut limit p.mesh (p.begun ++ xs) w.text t (subst (λ (x : List ℕ). Answers limit p.mesh x w.text t) e w.fits) }) h b

  -- and where nothing of it came before
  pub serves_whole : {limit : ℕ} {p : Stage} {t : State} {begun : List ℕ} (xs : List ℕ) {out new : Writer K} → HasNoFeed xs → p.begun ≡ [] → begun ≡ []
      → WritesSome has_failed contents out new (λ text. Answers limit p.mesh xs text t) → Serves has_failed contents limit p (record { mesh = t; begun = begun }) (xs ++ line_feed ∷ []) out new
  serves_whole {limit} {p} {t} {begun} xs {out} {new} h e b w =
      serves_end {begun = begun} xs (record { text = w.text; writes = w.writes; fits = subst (λ (x : List ℕ). Answers limit p.mesh (x ++ xs) w.text t) (sym e) w.fits }) h b

  -- the rest of a piece is kept
  pub serves_rest : {limit : ℕ} {p : Stage} {begun xs : List ℕ} {out : Writer K} → HasNoFeed xs → begun ≡ take 4097 (p.begun ++ xs) → Serves has_failed contents limit p (record { mesh = p.mesh; begun = begun }) xs out out
  serves_rest {limit} {p} {begun} {xs} {out} h e =
      subst (λ (x : List ℕ). Serves has_failed contents limit p (record { mesh = p.mesh; begun = x }) xs out out) (sym e)
      (record { text = []; writes = writes_nothing; leads = leads_begun limit p.mesh p.begun xs h })

  pub serves_bytes : {limit : ℕ} {p q : Stage} {xs ys : List ℕ} {out new : Writer K} → xs ≡ ys → Serves has_failed contents limit p q xs out new → Serves has_failed contents limit p q ys out new
  serves_bytes {limit} {p} {q} {xs} {ys} {out} {new} e f = subst (λ (x : List ℕ). Serves has_failed contents limit p q x out new) e f

  -- ---- the end

  pub serves_unbegun : {limit : ℕ} {p : Stage} {out : Writer K} → p.begun ≡ [] → Serves has_failed contents limit p p (closing p.begun) out out
  serves_unbegun {limit} {p} {out} e = subst (λ (x : List ℕ). Serves has_failed contents limit p p (closing x) out out) (sym e) serves_nothing

  pub serves_begun : {limit : ℕ} {p q : Stage} {out new : Writer K} → p.begun ≢ [] → Serves has_failed contents limit p q ([] ++ line_feed ∷ []) out new → Serves has_failed contents limit p q (closing p.begun) out new
  serves_begun {p} some f = serves_bytes (sym (closing-begun p.begun some)) f

  pub ends_nothing : {limit : ℕ} {p : Stage} {out : Writer K} → p.begun ≡ [] → Ends has_failed contents limit p out out
  ends_nothing {limit} {p} e = record { text = []; writes = writes_nothing; goes = goes_nowhere limit p e }

  -- a last line is answered as one with a line feed is
  pub ends_line : {limit : ℕ} {p q : Stage} {out new : Writer K} → p.begun ≢ [] → q.begun ≡ [] → Serves has_failed contents limit p q ([] ++ line_feed ∷ []) out new → Ends has_failed contents limit p out new
  ends_line {limit} {p} {q} some e f =
      let same : joined true p.begun (lines true (line_feed ∷ [])) ≡ joined true p.begun (lines true []) =
      ap (joined true p.begun) (lines-feed true [] ∙ ap (λ (x : List (List ℕ)). [] ∷ x) (lines-nil true)) ∙ joined-cons true p.begun [] [] ∙ ap (λ (x : List ℕ). x ∷ []) (append-nil p.begun)
      ∙ sym (ap (joined true p.begun) (lines-nil true) ∙ joined-unended p.begun (length-nonempty p.begun some)) in
      record {
        text = f.text ++ [];
        writes = writes_text (sym (append-nil f.text)) f.writes;
        goes = subst (λ (x : List (List ℕ)). Talk limit p.mesh x (f.text ++ [])) same (f.leads true [] [] (goes_nowhere limit q e));
      }

  -- what was held goes out
  pub ends_flushed : {limit : ℕ} {p : Stage} {o out new : Writer K} → Ends has_failed contents limit p o out → Writes has_failed contents out new [] → Ends has_failed contents limit p o new
  ends_flushed e w = record { text = e.text; writes = writes_text (append-nil e.text) (writes_and e.writes w); goes = e.goes }
