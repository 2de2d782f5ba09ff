-- What a sink has and what is held for it, after one write and another.
use Rattle.std.proofs.Common.{◌≡◌, ℕ, ◌+◌, List, [], ◌++◌, take, drop, Option, Some, None, Bool, true, false, refl, sym, ap, subst, ◌∙◌, arith, append_assoc, append-nil, take-append-drop}
use Rattle.std.specs.Io.KnownBytes.{Appends}
use Rattle.std.proofs.KnownBytes.{Appends-trans, Appends-nil}
use Rattle.std.proofs.lemmas.Bool.{false≢true}
use Rattle.std.proofs.lemmas.List.{drop-take, take-take}
use Rattle.dcel_text.specs.Transfer.{KeepsOrHides, AppendsOrHides, AppendsBeginning}
use Rattle.dcel_text.specs.declared.output.Writer.{Writer}
use Rattle.dcel_text.specs.Output.{Writing, Writes}

-- ---- what a sink tells

appends_or_hides : (a b : Option (List ℕ)) (xs : List ℕ) → Appends a b xs → AppendsOrHides a b xs
appends_or_hides None b xs p = tt
appends_or_hides (Some a) None xs p = tt
appends_or_hides (Some a) (Some b) xs p = p

appends_then_hides : (a b c : Option (List ℕ)) (xs ys : List ℕ) → Appends a b xs → AppendsOrHides b c ys → AppendsOrHides a c (xs ++ ys)
appends_then_hides None b c xs ys p q = tt
appends_then_hides (Some a) None c xs ys p q = absurd p
appends_then_hides (Some a) (Some b) None xs ys p q = tt
appends_then_hides (Some a) (Some b) (Some c) xs ys p q = q ∙ ap (λ (x : List ℕ). x ++ ys) p ∙ append_assoc a xs ys

appends_then_fails : (a b c : Option (List ℕ)) (xs : List ℕ) → Appends a b xs → KeepsOrHides b c → AppendsOrHides a c xs
appends_then_fails None b c xs p q = tt
appends_then_fails (Some a) None c xs p q = absurd p
appends_then_fails (Some a) (Some b) None xs p q = tt
appends_then_fails (Some a) (Some b) (Some c) xs p q = q ∙ p

take_both : (i n : ℕ) (xs : List ℕ) → take (i + n) xs ≡ take i xs ++ take n (drop i xs)
take_both i n xs =
    sym (take-append-drop i (take (i + n) xs))
    ∙ ap (λ (x : List ℕ). x ++ drop i (take (i + n) xs)) (take-take i (i + n) xs (omega arith))
    ∙ ap (λ (x : List ℕ). take i xs ++ x) (drop-take i n xs)

-- n more bytes were taken
pub taken_more : (a b c : Option (List ℕ)) (i n : ℕ) (xs : List ℕ) → Appends a b (take i xs) → Appends b c (take n (drop i xs)) → Appends a c (take (i + n) xs)
taken_more a b c i n xs p q = subst (Appends a c) (sym (take_both i n xs)) (Appends-trans a b c (take i xs) (take n (drop i xs)) p q)

-- the sink failed after i bytes
pub taken_some : (a b c : Option (List ℕ)) (i : ℕ) (xs : List ℕ) → Appends a b (take i xs) → KeepsOrHides b c → AppendsBeginning a c xs
taken_some a b c i xs p q = record { taken = take i xs; rest = drop i xs; whole = sym (take-append-drop i xs); grows = appends_then_fails a b c (take i xs) p q }

joined : (before sent rest held more sent2 rest2 text : List ℕ) → before ++ text ≡ sent ++ rest → held ≡ rest → held ++ more ≡ sent2 ++ rest2 → before ++ (text ++ more) ≡ (sent ++ sent2) ++ rest2
joined before sent rest held more sent2 rest2 text p e q =
    sym (append_assoc before text more)
    ∙ ap (λ (x : List ℕ). x ++ more) p
    ∙ append_assoc sent rest more
    ∙ ap (λ (x : List ℕ). sent ++ x) (ap (λ (x : List ℕ). x ++ more) (sym e) ∙ q)
    ∙ sym (append_assoc sent sent2 rest2)

-- ---- what was written

module _ {K : Type 0} {has_failed : K → Bool} {contents : K → Option (List ℕ)} where
  pub writing_nothing : {s : K} {a : List ℕ} → Writing has_failed contents s a s a []
  writing_nothing {s} {a} = record {
    sent = [];
    rest = a;
    whole = append-nil a;
    begins = appends_or_hides (contents s) (contents s) [] (Appends-nil (contents s));
    calm = λ _. (Appends-nil (contents s), refl);
    sticky = λ f. (f, refl);
  }

  pub writing_text : {s t : K} {a b xs ys : List ℕ} → xs ≡ ys → Writing has_failed contents s a t b xs → Writing has_failed contents s a t b ys
  writing_text {s} {t} {a} {b} e w = subst (λ (x : List ℕ). Writing has_failed contents s a t b x) e w

  -- all of it went out
  pub writing_all : {s t : K} {text : List ℕ} → has_failed s ≡ false → Appends (contents s) (contents t) text → Writing has_failed contents s [] t [] text
  writing_all {s} {t} {text} calm p = record {
    sent = text;
    rest = [];
    whole = sym (append-nil text);
    begins = appends_or_hides (contents s) (contents t) text p;
    calm = λ _. (p, refl);
    sticky = λ f. absurd (false≢true (sym calm ∙ f));
  }

  -- the sink failed, and a beginning of it went out
  pub writing_some : {s t : K} {text : List ℕ} → has_failed s ≡ false → has_failed t ≡ true → AppendsBeginning (contents s) (contents t) text → Writing has_failed contents s [] t [] text
  writing_some calm failed p = record {
    sent = p.taken;
    rest = p.rest;
    whole = p.whole;
    begins = p.grows;
    calm = λ f. absurd (false≢true (sym f ∙ failed));
    sticky = λ f. absurd (false≢true (sym calm ∙ f));
  }

  -- the sink had failed, and nothing went out
  pub writing_none : {s : K} {a b text : List ℕ} → has_failed s ≡ true → Writing has_failed contents s a s b text
  writing_none {s} {a} {b} {text} failed = record {
    sent = [];
    rest = a ++ text;
    whole = refl;
    begins = appends_or_hides (contents s) (contents s) [] (Appends-nil (contents s));
    calm = λ f. absurd (false≢true (sym f ∙ failed));
    sticky = λ f. (f, refl);
  }

  -- all of it is held
  pub writing_held : {s : K} {a b text : List ℕ} → b ≡ a ++ text → Writing has_failed contents s a s b text
  writing_held {s} {a} {b} {text} e = record {
    sent = [];
    rest = b;
    whole = sym e;
    begins = appends_or_hides (contents s) (contents s) [] (Appends-nil (contents s));
    calm = λ _. (Appends-nil (contents s), refl);
    sticky = λ f. (f, refl);
  }

  -- what was held went out
  pub writing_held_out : {s t : K} {a : List ℕ} → Writing has_failed contents s [] t [] a → Writing has_failed contents s a t [] []
  writing_held_out {s} {t} {a} p = record { sent = p.sent; rest = p.rest; whole = append-nil a ∙ p.whole; begins = p.begins; calm = p.calm; sticky = p.sticky }

  -- one text and then another
  pub writing_then : {s t u : K} {a b c xs ys : List ℕ} → Writing has_failed contents s a t b xs → Writing has_failed contents t b u c ys → Writing has_failed contents s a u c (xs ++ ys)
  writing_then {s} {t} {u} {a} {b} {c} {xs} {ys} p q = go (has_failed t) refl
    where
      go : (f : Bool) → has_failed t ≡ f → Writing has_failed contents s a u c (xs ++ ys)
      go false e =
          let first = p.calm e in
          record {
            sent = p.sent ++ q.sent;
            rest = q.rest;
            whole = joined a p.sent p.rest b ys q.sent q.rest xs p.whole first.1 q.whole;
            begins = appends_then_hides (contents s) (contents t) (contents u) p.sent q.sent first.0 q.begins;
            calm = λ f. let second = q.calm f in (Appends-trans (contents s) (contents t) (contents u) p.sent q.sent first.0 second.0, second.1);
            sticky = λ f. absurd (false≢true (sym e ∙ (p.sticky f).0));
          }
      go true e =
          let kept = q.sticky e in
          record {
            sent = p.sent;
            rest = p.rest ++ ys;
            whole = sym (append_assoc a xs ys) ∙ ap (λ (x : List ℕ). x ++ ys) p.whole ∙ append_assoc p.sent p.rest ys;
            begins = subst (λ (k : Option (List ℕ)). AppendsOrHides (contents s) k p.sent) (sym kept.1) p.begins;
            calm = λ f. absurd (false≢true (sym f ∙ kept.0));
            sticky = λ f. let before = p.sticky f in (kept.0, kept.1 ∙ before.1);
          }

  -- ---- the same of a writer

  pub writes_text : {p q : Writer K} {xs ys : List ℕ} → xs ≡ ys → Writes has_failed contents p q xs → Writes has_failed contents p q ys
  writes_text {p} {q} e w = subst (λ (x : List ℕ). Writes has_failed contents p q x) e w

  pub writes_nothing : {p : Writer K} → Writes has_failed contents p p []
  writes_nothing = record { same = refl; writing = writing_nothing }

  pub writes_and : {p q r : Writer K} {xs ys : List ℕ} → Writes has_failed contents p q xs → Writes has_failed contents q r ys → Writes has_failed contents p r (xs ++ ys)
  writes_and w v = record { same = v.same ∙ w.same; writing = writing_then w.writing v.writing }
