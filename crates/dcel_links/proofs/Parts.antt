-- Rounds marked one after another: which labels they have.
use Rattle.std.proofs.Common.{◌≡◌, inl, inr, ℕ, ◌+◌, ◌<◌, Bool, true, false, List, length, get_or, set, sym, refl, ap, ◌∙◌, subst, arith}
use Rattle.std.proofs.lemmas.Bool.{cases_eq, false≢true}
use Rattle.dcel_maps.specs.Maps.{By, Reaches}
use Rattle.dcel_maps.specs.Maps.Reaches.{go, here}
use Rattle.dcel_maps.proofs.maps.Reaching.{reaches_stays, then}
use Rattle.dcel_links.specs.Checks.{AreBelow, IsWhole}
use Rattle.dcel_links.specs.Faults.{InParts}
use Rattle.dcel_links.specs.Marks.{IsClosed, Marked, MarksLabels, MarksRound, step_of}
use Rattle.dcel_links.proofs.Marking.{marked_below, marked_cases, marked_kept, marked_new}

-- the label of a number
abbrev pub label_of : List ℕ → ℕ → ℕ
label_of labels x = get_or labels x 0

-- all numbers below i are marked, by whole rounds, whose labels are used and differ
pub record Rounds (steps labels : List ℕ) (i : ℕ) (seen used : List Bool) : Type 0 where
  pub closed : IsClosed steps seen
  pub done : (x : ℕ) → x < i → Marked seen x
  pub labelled : (x : ℕ) → Marked seen x → Marked used (label_of labels x)
  pub shown : (v : ℕ) → Marked used v → (x : ℕ) × Marked seen x × (label_of labels x ≡ v)
  pub joined : (x y : ℕ) → Marked seen x → Marked seen y → label_of labels x ≡ label_of labels y → Reaches (By (step_of steps)) x y

-- steps keep labels
pub record Labels (steps labels : List ℕ) : Type 0 where
  pub below : AreBelow (length steps) steps
  pub along : (x : ℕ) → x < length steps → label_of labels (step_of steps x) ≡ label_of labels x

module _ (steps labels : List ℕ) (keeps : Labels steps labels) where
  label_reached : {x y : ℕ} → x < length steps → Reaches (By (step_of steps)) x y → label_of labels x ≡ label_of labels y
  label_reached b here = refl
  label_reached {x = x} b (go s w) =
      let c = subst (λ z. z < length steps) s (keeps.below x b) in
      sym (keeps.along x b) ∙ ap (label_of labels) s ∙ label_reached c w

  module _ (i : ℕ) (seen used : List Bool) (rounds : Rounds steps labels i seen used) where
    below_more : (seen' : List Bool) → ((x : ℕ) → Marked seen x → Marked seen' x) → Marked seen' i → (x : ℕ) → x < i + 1 → Marked seen' x
    below_more seen' kept m x l = elim (cases_eq x i) [
      | inl e ↦ subst (Marked seen') (sym e) m
      | inr d ↦ kept x (rounds.done x (omega arith))
    ]

    -- a number that is marked is done
    pub rounds_skip : Marked seen i → Rounds steps labels (i + 1) seen used
    rounds_skip m = record {
      closed = rounds.closed;
      done = below_more seen (λ x n. n) m;
      labelled = rounds.labelled;
      shown = rounds.shown;
      joined = rounds.joined;
    }

    -- one that is not, and whose label is used, shows that the label's numbers are no round
    pub rounds_fault : i < length steps → length seen ≡ length steps → get_or seen i false ≡ false → Marked used (label_of labels i)
        → InParts (length steps) (step_of steps) (label_of labels) (label_of labels i)
    rounds_fault i_in len unmarked m =
        let (x, mx, e) = rounds.shown (label_of labels i) m in
        let b = marked_below seen x mx in
        record {
          one = x;
          other = i;
          one_in = omega arith;
          other_in = i_in;
          one_label = e;
          other_label = refl;
          apart = λ w. false≢true (sym unmarked ∙ reaches_stays (By (step_of steps)) (Marked seen) (λ a c p s. subst (Marked seen) s (rounds.closed.stays a p)) mx w);
        }

    -- its round is marked, where its label is not used
    pub rounds_goes : (seen' : List Bool) → i < length steps → length seen ≡ length steps → label_of labels i < length used
        → get_or used (label_of labels i) false ≡ false
        → MarksRound steps i seen seen' → Rounds steps labels (i + 1) seen' (set used (label_of labels i) true)
    rounds_goes seen' i_in len label_in unused round =
        let v = label_of labels i in
        let used' = set used v true in
        let new_label : (x : ℕ) → Reaches (By (step_of steps)) i x → label_of labels x ≡ v = λ x w. sym (label_reached i_in w) in
        let not_old : (x : ℕ) → Marked seen x → label_of labels x ≡ v → ⊥ =
        λ x m e. false≢true (sym unused ∙ subst (Marked used) e (rounds.labelled x m)) in
        record {
          closed = round.closed;
          done = below_more seen' round.kept round.first;
          labelled = λ x m. elim (round.new x m) [
            | inl old ↦ marked_kept used v (label_of labels x) (rounds.labelled x old)
            | inr p ↦ subst (Marked used') (sym (new_label x p.0)) (marked_new used v label_in)
          ];
          shown = λ w m. elim (marked_cases used v w m) [
            | inl e ↦ (i, round.first, sym e)
            | inr old ↦ let (x, mx, e) = rounds.shown w old in (x, round.kept x mx, e)
          ];
          joined = λ x y m n e. elim (round.new x m) [
            | inl old ↦ elim (round.new y n) [
              | inl old' ↦ rounds.joined x y old old' e
              | inr q ↦ absurd (not_old x old (e ∙ new_label y q.0))
            ]
            | inr p ↦ elim (round.new y n) [
              | inl old' ↦ absurd (not_old y old' (sym e ∙ new_label x p.0))
              | inr q ↦ then p.1 q.0
            ]
          ];
        }

  -- at the end each label has one round, and the used labels are those that stand
  pub rounds_whole : (seen used : List Bool) → Rounds steps labels (length steps) seen used
      → IsWhole (length steps) (step_of steps) (label_of labels)
  rounds_whole seen used rounds x y b c e = rounds.joined x y (rounds.done x b) (rounds.done y c) e

  pub rounds_used : (seen used : List Bool) → length seen ≡ length steps → length labels ≡ length steps
      → Rounds steps labels (length steps) seen used → MarksLabels labels used
  rounds_used seen used len labels_len rounds v = (
    λ m. let (x, mx, e) = rounds.shown v m in let b = marked_below seen x mx in (x, omega arith, e),
    λ p. let (x, b, e) = p in subst (Marked used) e (rounds.labelled x (rounds.done x (omega arith))),
  )
