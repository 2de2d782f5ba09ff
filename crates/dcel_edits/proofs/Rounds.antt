-- Going round by a step from both ends, while the items on the way of a list are made v.
use Rattle.std.proofs.Common.{◌≡◌, ◌≢◌, ℕ, ◌<◌, ◌≤◌, List, [], ◌∷◌, ◌++◌, length, slice_set, Option, Some, refl, sym, ap, ◌∙◌, subst, arith, length-append}
use Rattle.dcel_maps.specs.Maps.{By}
use Rattle.dcel_maps.specs.theory.Cycles.{Path}
use Rattle.dcel_maps.specs.Walks.{up_to, walk}
use Rattle.dcel_maps.specs.Words.{count_of, last_of}
use Rattle.dcel_maps.proofs.words.Counts.{absent_head, count-same}
use Rattle.dcel_maps.proofs.words.Paths.{Path-changed, last_of-leads, path_next, path_up_to_last}
use Rattle.dcel_maps.proofs.words.Walking.{length-up_to, up_to-is}
use Rattle.dcel_edits.specs.Rounds.{AnchorComesBack, ComesBack, all_set}
use Rattle.dcel_edits.proofs.Setting.{all_set-last}

module _ (step step_back : ℕ → ℕ) (halves : ℕ) where
  -- one step from a stored half edge, and back
  pub record StepsOn (h k : ℕ) : Type 0 where
    pub stored : h < halves
    pub forth : step h ≡ k
    pub back : step_back k ≡ h

  -- the step leads from the first half edge along those that are left, each of them once, to the last, and from there to `end`
  pub record LeadsTo (first : ℕ) (left : List ℕ) (last end : ℕ) : Type 0 where
    pub path : Path StepsOn first left end
    pub ends : last ≡ last_of first left
    pub once : (k : ℕ) → count_of k (first ∷ left) ≤ 1
    pub apart : count_of end left ≡ 0
    pub few : length left < halves

  first_stands : (first : ℕ) (left : List ℕ) (last end : ℕ) → LeadsTo first left last end → first < halves
  first_stands first left last end leads =
      (path_next StepsOn first left end leads.path first (omega (arith, count-same first left))).1.stored

  last_step : (first : ℕ) (left : List ℕ) (last end : ℕ) → LeadsTo first left last end → StepsOn last end
  last_step first left last end leads =
      subst (λ k. StepsOn k end) (sym leads.ends) (last_of-leads StepsOn first left end leads.path)

  -- what is left without the last, where that isn't the first too
  record WithoutLast (first : ℕ) (left : List ℕ) (last : ℕ) : Type 0 where
    others : List ℕ
    parted : left ≡ others ++ last ∷ []
    leads : LeadsTo first others (step_back last) last

  without_last : (first : ℕ) (left : List ℕ) (last end : ℕ) → LeadsTo first left last end → first ≢ last → WithoutLast first left last
  without_last first [] last end leads differs = absurd (differs (sym leads.ends))
  without_last first (y ∷ r) last end leads differs =
      let less = rw (← leads.ends) at (path_up_to_last StepsOn first y r end leads.path leads.once) in
      record {
        others = less.others;
        parted = less.parted;
        leads = record {
          path = less.path;
          ends = (last_of-leads StepsOn first less.others last less.path).back;
          once = less.once;
          apart = less.apart;
          few = omega (arith, leads.few, less.longer);
        };
      }

  -- and without the first
  without_first : (first y : ℕ) (r : List ℕ) (last end : ℕ) → LeadsTo first (y ∷ r) last end → LeadsTo y r last end
  without_first first y r last end leads = record {
    path = leads.path.1;
    ends = leads.ends;
    once = λ k. omega (arith, leads.once k);
    apart = omega (arith, leads.apart);
    few = omega (arith, leads.few);
  }

  -- where one half edge is both, it is the only one
  ends_alone : (first : ℕ) (left : List ℕ) (last end : ℕ) → LeadsTo first left last end → first ≡ last → left ≡ []
  ends_alone first [] last end leads same = refl
  ends_alone first (y ∷ r) last end leads same =
      absurd ((path_up_to_last StepsOn first y r end leads.path leads.once).differs (same ∙ leads.ends))

  -- how many half edges are left
  abbrev pub steps_left : ℕ → ℕ → ℕ
  steps_left first last = length (up_to step halves first (step last))

  are_left : (first : ℕ) (left : List ℕ) (last end : ℕ) → LeadsTo first left last end → steps_left first last ≡ length (first ∷ left)
  are_left first left last end leads =
      let steps : Path (By step) first left end =
      Path-changed StepsOn (By step) first left end end (λ p q from to along. along.forth) (λ p from along. along.forth) leads.path in
      rw (last_step first left last end leads).forth (ap length (up_to-is step halves first end left steps leads.apart leads.few))

  module _ (l : List ℕ) (anchor v : ℕ) where
    -- the list where all items of the round are v
    abbrev pub all_round : List ℕ
    all_round = all_set l (walk step halves anchor) v

    -- the ends of the round have come to these half edges, and left the list w: once those from one to the other are v, all are
    pub record IsRounding (w : List ℕ) (first last : ℕ) : Type 0 where
      pub left : List ℕ
      pub end : ℕ
      pub leads : LeadsTo first left last end
      pub completes : all_set w (first ∷ left) v ≡ all_round

    pub round_begins : (stored : Option ℕ) (last : ℕ) → AnchorComesBack step step_back halves stored → stored ≡ Some anchor
        → last ≡ step_back anchor → IsRounding l anchor last
    round_begins stored last can some before =
        let comes : ComesBack step step_back halves anchor = subst (AnchorComesBack step step_back halves) some can in
        let trip = comes.trip in
        let on : (k : ℕ) → 0 < count_of k (anchor ∷ trip.rest) → (next : ℕ) → step k ≡ next → StepsOn k next =
        λ k found next stepped. record {
          stored = comes.stored k (rw trip.from found);
          forth = stepped;
          back = ap step_back (sym stepped) ∙ comes.undone k (rw trip.from found);
        } in
        let path : Path StepsOn anchor trip.rest anchor =
        Path-changed (By step) StepsOn anchor trip.rest anchor anchor
        (λ p q p_in q_in stepped. on p p_in q stepped) (λ p p_in stepped. on p p_in anchor stepped) trip.round in
        let single : (k : ℕ) → count_of k (anchor ∷ trip.rest) ≤ 1 = λ k. rw trip.from at (trip.once k) in
        record {
          left = trip.rest;
          end = anchor;
          leads = record {
            path = path;
            ends = before ∙ (last_of-leads StepsOn anchor trip.rest anchor path).back;
            once = single;
            apart = omega (arith, single anchor, count-same anchor trip.rest);
            few = omega (arith, length-up_to step halves anchor anchor, ap length trip.from);
          };
          completes = rw trip.from refl;
        }

    -- both ends are stored
    pub round_first : {w : List ℕ} {first last : ℕ} → IsRounding w first last → first < halves
    round_first {first = first} {last = last} rounding = first_stands first rounding.left last rounding.end rounding.leads

    pub round_last : {w : List ℕ} {first last : ℕ} → IsRounding w first last → last < halves
    round_last {first = first} {last = last} rounding = (last_step first rounding.left last rounding.end rounding.leads).stored

    -- where they are one half edge, it is the only one that is left
    pub round_meets : {w : List ℕ} {first last : ℕ} → IsRounding w first last → first ≡ last → slice_set w first v ≡ all_round
    round_meets {w = w} {first = first} {last = last} rounding same =
        let none = ends_alone first rounding.left last rounding.end rounding.leads same in
        ap (λ u. all_set (slice_set w first v) u v) (sym none) ∙ rounding.completes

    -- the round goes on with fewer half edges left, or its ends have met and all items are v
    pub record GoesOn (w : List ℕ) (first last most : ℕ) : Type 0 where
      pub rounding : IsRounding w first last
      pub fewer : steps_left first last < most

    pub record NextRound (w : List ℕ) (after last most : ℕ) : Type 0 where
      pub goes_on : after ≢ last → (before : ℕ) → before ≡ step_back last → GoesOn w after before most
      pub meets : after ≡ last → w ≡ all_round

    next_of_others : (w : List ℕ) (first after last most : ℕ) (others : List ℕ) → LeadsTo first others (step_back last) last
        → all_set w others v ≡ all_round → length others < most → after ≡ step first → NextRound w after last most
    next_of_others w first after last most [] leads completes few stepped = record {
      goes_on = λ differs. absurd (differs (stepped ∙ leads.path.forth));
      meets = λ same. completes;
    }
    next_of_others w first after last most (y ∷ r) leads completes few stepped =
        let rest : LeadsTo y r (step_back last) last = without_first first y r (step_back last) last leads in
        let on : GoesOn w y (step_back last) most = record {
          rounding = record { left = r; end = last; leads = rest; completes = completes };
          fewer = omega (arith, are_left y r (step_back last) last rest);
        } in
        record {
          goes_on = λ differs before stepped_back.
              subst (λ k. GoesOn w k before most) (sym (stepped ∙ leads.path.0.forth))
              (subst (λ k. GoesOn w y k most) (sym stepped_back) on);
          meets = λ same. absurd (absent_head last y r leads.apart (sym same ∙ stepped ∙ leads.path.0.forth));
        }

    -- both ends are v, and the step leads on from the first
    pub next_round : {w : List ℕ} {first last after : ℕ} → IsRounding w first last → first ≢ last → after ≡ step first
        → NextRound (slice_set (slice_set w first v) last v) after last (steps_left first last)
    next_round {w = w} {first = first} {last = last} {after = after} rounding differs stepped =
        let one = slice_set w first v in
        let less = without_last first rounding.left last rounding.end rounding.leads differs in
        let completes : all_set (slice_set one last v) less.others v ≡ all_round =
        sym (all_set-last one less.others last v) ∙ ap (λ u. all_set one u v) (sym less.parted) ∙ rounding.completes in
        let few : length less.others < steps_left first last =
        omega (arith, are_left first rounding.left last rounding.end rounding.leads, ap length less.parted, length-append less.others (last ∷ [])) in
        next_of_others (slice_set one last v) first after last (steps_left first last) less.others less.leads completes few stepped

-- what has the list as a part: how an item of it is made v, the steps, which that leaves, and how many half edges are stored
pub record Part (L : Type 0) (v : ℕ) : Type 0 where
  pub put : List ℕ → L
  pub write : L → ℕ → L
  pub step : L → ℕ → ℕ
  pub step_back : L → ℕ → ℕ
  pub halves : L → ℕ
  pub writes : (w : List ℕ) (h : ℕ) → write (put w) h ≡ put (slice_set w h v)
  pub steps : (w l : List ℕ) (h : ℕ) → step (put w) h ≡ step (put l) h
  pub steps_back : (w l : List ℕ) (h : ℕ) → step_back (put w) h ≡ step_back (put l) h

module _ {L : Type 0} {v : ℕ} (p : Part L v) (l : List ℕ) (anchor : ℕ) where
  abbrev pub step : ℕ → ℕ
  step = p.step (p.put l)

  abbrev pub step_back : ℕ → ℕ
  step_back = p.step_back (p.put l)

  abbrev pub halves : ℕ
  halves = p.halves (p.put l)

  -- the ends have come to these half edges, and left the list w in t
  pub record IsWriting (t : L) (first last : ℕ) : Type 0 where
    pub list : List ℕ
    pub is : t ≡ p.put list
    pub rounding : IsRounding step step_back halves l anchor v list first last

  abbrev pub writes_left : ℕ → ℕ → ℕ
  writes_left first last = steps_left step step_back halves first last

  abbrev pub all_written : L
  all_written = p.put (all_round step step_back halves l anchor v)

  pub writing_begins : (stored : Option ℕ) (last : ℕ) → AnchorComesBack step step_back halves stored → stored ≡ Some anchor
      → last ≡ step_back anchor → IsWriting (p.put l) anchor last
  writing_begins stored last can some before =
      record { list = l; is = refl; rounding = round_begins step step_back halves l anchor v stored last can some before }

  -- both ends are stored
  pub writing_stands : {t : L} {first last : ℕ} → IsWriting t first last → (first < halves) × (last < halves)
  writing_stands writing =
      (round_first step step_back halves l anchor v writing.rounding, round_last step step_back halves l anchor v writing.rounding)

  pub anchor_stands : (stored : Option ℕ) → AnchorComesBack step step_back halves stored → stored ≡ Some anchor → anchor < halves
  anchor_stands stored can some = (writing_stands (writing_begins stored (step_back anchor) can some refl)).0

  write : (t u : L) (w : List ℕ) (h : ℕ) → t ≡ p.put w → u ≡ p.write t h → u ≡ p.put (slice_set w h v)
  write t u w h is written = written ∙ ap (λ t. p.write t h) is ∙ p.writes w h

  -- where they have met, one write more is the last one
  pub write_meets : {t u : L} {first last : ℕ} → IsWriting t first last → u ≡ p.write t first → first ≡ last → u ≡ all_written
  write_meets {t = t} {u = u} {first = first} writing written same =
      write t u writing.list first writing.is written ∙ ap p.put (round_meets step step_back halves l anchor v writing.rounding same)

  pub record NextWrite (u : L) (after last most : ℕ) : Type 0 where
    pub goes_on : after ≢ last → (before : ℕ) → before ≡ p.step_back u last → IsWriting u after before × (writes_left after before < most)
    pub meets : after ≡ last → u ≡ all_written

  -- both ends are written, and the step leads on from the first
  pub next_write : {t one u : L} {first last after : ℕ} → IsWriting t first last → one ≡ p.write t first → u ≡ p.write one last
      → first ≢ last → after ≡ p.step u first → NextWrite u after last (writes_left first last)
  next_write {t = t} {one = one} {u = u} {first = first} {last = last} {after = after} writing once twice differs stepped =
      let w = slice_set (slice_set writing.list first v) last v in
      let is : u ≡ p.put w = write one u (slice_set writing.list first v) last (write t one writing.list first writing.is once) twice in
      let steps : after ≡ step first = stepped ∙ ap (λ t. p.step t first) is ∙ p.steps w l first in
      let next = next_round step step_back halves l anchor v writing.rounding differs steps in
      record {
        goes_on = λ other before stepped_back.
            let on = next.goes_on other before (stepped_back ∙ ap (λ t. p.step_back t last) is ∙ p.steps_back w l last) in
            (record { list = w; is = is; rounding = on.rounding }, on.fewer);
        meets = λ same. is ∙ ap p.put (next.meets same);
      }
